-- Hand-overs in lent words.
use Rattle.std.specs.Prelude.{ℕ, Result, Ok, Err, ◌*◌, ◌≡◌, cond, List, take, leb}
use Rattle.base.specs.Loop.{After}
use Rattle.refusal.specs.declared.Refusal.{Refusal}
use Rattle.refusal.specs.declared.Refusal.TheVariants.{NoDirectedLink, NothingToHandOver}
use Rattle.plan.specs.Links.{Plan, links_of}
use Rattle.field.specs.State.{State}
use Rattle.field.specs.Step.{in_air, absent, place}
use Rattle.field_words.specs.Laid.{Laid}

-- What a hand-over on directed link d comes to before a word moves: refused, or the place of the word that it takes.
unfoldable pub handable : Plan → ℕ → List ℕ → Result ℕ Refusal
handable p d words =
    cond (leb (2 * links_of p) d) (Err NoDirectedLink)
    (cond (absent (in_air d) words) (Err NothingToHandOver)
    (Ok (place (in_air d) words)))

-- the state that is lent: n words wait
abbrev pub lent_state : List ℕ → List ℕ → List ℕ → ℕ → ℕ → State
lent_state cells marks lent n sent = record { cells = cells; marks = marks; words = take n lent; sent = sent }

-- What g answers and leaves, whatever else is in the field: it changes the words alone, and their number stays.
pub record Hands (g : State → After State) (n : ℕ) (lent : List ℕ) (refusal : ℕ) (lent' : List ℕ) : Type 0 where
  pub is : (cells marks : List ℕ) (sent : ℕ)
      → record { refusal = refusal; state = lent_state cells marks lent' n sent } ≡ g (lent_state cells marks lent n sent)
  pub laid : Laid lent' n
