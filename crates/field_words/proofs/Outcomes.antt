-- A hand-over: what it comes to, by its three outcomes (`handable-42`, `handable-44`, `handable-taken`); where it takes a word there is one (`handable-there`); that it is just what it comes to, carried out (`hand-is`), in lent words too
-- (`not-handed`, `handed`).
use Prim.Native.Nat.{ℕ, ◌*◌, ◌≤◌, ◌<◌}
use native.Mathlib.Omega.{arith}
use mathlib.Core.Path.{◌≡◌, refl, sym, ◌∙◌}
use mathlib.Core.List.{List, [], ◌∷◌, ◌++◌}
use lib.ListN.{length, get_or, take, length-append}
use lib.Seq.{length-take-le, get_or-take}
use lib.Dec.{leb}
use Rattle.std.specs.Prelude.{Result, Ok, Err}
use Rattle.std.proofs.lemmas.Bool.Decides.{nat_tests}
use Rattle.refusal.specs.declared.Refusal.{Refusal}
use Rattle.refusal.specs.declared.Refusal.TheVariants.{NoDirectedLink, NothingToHandOver}
use Rattle.refusal.specs.Number.{numbered}
use borrow.Author.Tests.{le-leb, lt-leb}
use Rattle.base.specs.Loop.{After, taken_to, refused_by}
use Rattle.base.proofs.laws.Cond.{bool_cases}
use Rattle.field.specs.State.{State}
use Rattle.format_word.specs.Word.{hand_over}
use Rattle.plan.specs.Links.{Plan, links_of}
use Rattle.field.specs.Step.{in_air, absent, place, without, moved, hand}
use Rattle.field.specs.Held.{layout}
use Rattle.field_words.specs.Laid.{Laid}
use Rattle.field_words.specs.Hands.{handable, lent_state, Hands}
use Rattle.field_words.proofs.Laid.{waits, laid, without-length}

-- its three outcomes
module _ (p : Plan) (d : ℕ) (words : List ℕ) where
  pub handable-42 : 2 * links_of p ≤ d → Err NoDirectedLink ≡ handable p d words
  unfolding handable
  handable-42 h = simp (le-leb _ _ h)

  module _ (l : d < 2 * links_of p) where
    pub handable-44 : length words ≤ place (in_air d) words → Err NothingToHandOver ≡ handable p d words
    unfolding handable
    handable-44 h = simp (lt-leb _ _ l, le-leb _ _ h)

    pub handable-taken : place (in_air d) words < length words → Ok (place (in_air d) words) ≡ handable p d words
    unfolding handable
    handable-taken h = simp (lt-leb _ _ l, lt-leb _ _ h)

-- where it is not refused there is a word
pub handable-there : (p : Plan) (d : ℕ) (words : List ℕ) (a : ℕ) → Ok a ≡ handable p d words → a < length words
unfolding handable
handable-there p d words a e = grind (arith, nat_tests)

-- what it comes to, carried out
abbrev pub handed_by : Result ℕ Refusal → State → After State
handed_by (Ok a) s = taken_to (moved a s)
handed_by (Err r) s = refused_by (numbered r) s

-- a hand-over is refused or moves a word, just as it comes to
pub hand-is : (p : Plan) (d : ℕ) (s : State) → hand p d s ≡ handed_by (handable p d s.words) s
unfolding hand handable
hand-is p d s = bool_cases (leb (2 * links_of p) d) (λ b. rw b refl)
    (λ b. rw b (bool_cases (absent (in_air d) s.words) (λ c. rw c refl) (λ c. rw c refl)))

-- the same of lent words, n of which wait
module _ (p : Plan) (lent : List ℕ) (n d : ℕ) (h : Laid lent n) where
  pub not-handed : {r : Refusal} → Err r ≡ handable p d (take n lent) → Hands (hand p d) n lent (numbered r) lent
  not-handed e = record { is = λ cells marks sent. sym (hand-is p d (lent_state cells marks lent n sent) ∙ rw (← e) refl); laid = h }

  module _ {a : ℕ} (e : Ok a ≡ handable p d (take n lent)) where
    pub in-air : a < n
    in-air = omega (arith, handable-there p d (take n lent) a e, length-take-le n lent h.within)

    module _ (last : List ℕ) (q : last ≡ layout (length lent) (without a (take n lent) ++ (hand_over (get_or lent a 0) ∷ []))) where
      -- as many words wait as before
      many : length (without a (take n lent) ++ (hand_over (get_or lent a 0) ∷ [])) ≡ n
      many =
          omega (arith, length-append (without a (take n lent)) (hand_over (get_or lent a 0) ∷ []), without-length a (take n lent) (omega (arith, in-air, length-take-le n lent h.within)), length-take-le n lent h.within)

      pub handed : Hands (hand p d) n lent 0 last
      handed = record {
        is = λ cells marks sent. sym (hand-is p d (lent_state cells marks lent n sent)
            ∙ rw (← e, waits last (length lent) (without a (take n lent) ++ (hand_over (get_or lent a 0) ∷ [])) n q many, get_or-take n lent a 0 in-air));
        laid = laid last (length lent) (without a (take n lent) ++ (hand_over (get_or lent a 0) ∷ [])) n q many h.within;
      }
