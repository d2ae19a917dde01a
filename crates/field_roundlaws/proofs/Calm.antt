-- What the protocol has to say for rounds to come to rest (`Calm`); and what a state that stands still keeps (`still-same`, `still-progress`, `still-blocked`).
use Rattle.std.specs.Prelude.{ℕ, ◌+◌, ◌-◌, ◌≡◌, refl, ◌≢◌, Bool, cond, List, [], ◌∷◌, length}
use Rattle.std.proofs.Common.{arith, ap, ap₂, subst, ◌∙◌}
use Rattle.base.specs.Cond.{bit}
use Rattle.base.specs.Sum.{sum}
use Rattle.base.proofs.laws.Loop.{by-test}
use Rattle.base.specs.Pool.{All}
use Rattle.base.specs.Keep.{keep}
use Rattle.format_word.specs.Word.{link_in}
use Rattle.plan.specs.Links.{Plan, modules_of}
use Rattle.node.specs.Work.{ASLEEP, BACK}
use Rattle.field.specs.Edges.{dest}
use Rattle.field.specs.State.{State, node_at}
use Rattle.field.specs.Step.{serve_work, serve, step}
use Rattle.base.specs.Keep.{many}
use Rattle.field_laws.proofs.Keeps.{Sound}
use Rattle.field_roundlaws.proofs.Progress.{progress, up, BlockedWord, Still}

-- THE PREMISES: an invariant of the steps, under which no service is refused by 32 or 33, and nothing waits where every waiting message is blocked
pub record Calm (p : Plan) (Good : State → Type 0) : Type 0 where
  pub keeps : (kind number : ℕ) (s : State) → Sound p s → Good s → Good (step p kind number s).state
  pub unrefused : (v : ℕ) (s : State) → Sound p s → Good s → ((serve p v s).refusal ≢ 32) × ((serve p v s).refusal ≢ 33)
  pub stuck : (s : State) → Sound p s → Good s → All (BlockedWord p s) s.words → s.words ≡ []

pub many-keep : (q : ℕ → Bool) (l : List ℕ) → many q l ≡ length (keep q l)
unfolding many keep
many-keep q [] = refl
many-keep q (x ∷ l) = by-test (q x) (λ b. bit b + many q l ≡ length (cond b (x ∷ keep q l) (keep q l))) (omega (arith, many-keep q l)) (omega (arith, many-keep q l))

-- ---- standing still

pub still-same : (s : State) → Still s s
still-same s = record { cells = refl; marks = refl; sent = refl }

pub still-on : {x y z : State} → Still x y → Still y z → Still x z
still-on a b = record { cells = b.cells ∙ a.cells; marks = b.marks ∙ a.marks; sent = b.sent ∙ a.sent }

pub still-progress : (p : Plan) (x y : State) → Still x y → length y.words ≡ length x.words → progress p y ≡ progress p x
unfolding progress
still-progress p x y h e =
    ap₂ (λ a b. a - b + sum (modules_of p) (up y)) h.sent e
    ∙ ap (λ c. x.sent - length x.words + sum (modules_of p) (up (record { cells = c; marks = x.marks; words = x.words; sent = x.sent }))) h.cells

pub still-blocked : (p : Plan) (x y : State) → Still x y → (w : ℕ) → BlockedWord p y w → BlockedWord p x w
still-blocked p x y h w b = record {
  back = subst (λ m. (serve_work p v w (record { cells = x.cells; marks = m; words = x.words; sent = x.sent })).answer ≡ BACK) h.marks
      (subst (λ c. (serve_work p v w (record { cells = c; marks = y.marks; words = x.words; sent = x.sent })).answer ≡ BACK) h.cells b.back);
  awake = subst (λ c. (node_at (record { cells = c; marks = x.marks; words = x.words; sent = x.sent }) v).status ≢ ASLEEP) h.cells b.awake;
}
  where
    v : ℕ
    v = dest p (link_in w)
