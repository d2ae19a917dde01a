-- Not refused means that no test applies (`or_else-zero`, `first_refusal-zero`); what a call that answers leaves, refused or taken (`answers-`).
use Rattle.std.specs.Prelude.{ℕ, suc, ◌≡◌, refl, Bool, true, false, cond, ◌||◌, ◌≢◌}
use Rattle.std.proofs.Common.{arith, true≢false}
use Rattle.base.proofs.laws.Cond.{eqb-cases, eqb-diff}
use Rattle.base.specs.Loop.{taken_to, refused_by, answering}
use Rattle.base.specs.Refuse.{or_else, first_refusal}

-- no refusal: the test says no, and nor does what follows
pub or_else-zero : (b : Bool) (n : ℕ) {r : ℕ} → or_else b (suc n) r ≡ 0 → (b ≡ false) × (r ≡ 0)
or_else-zero true n e = absurd (omega arith)
or_else-zero false n e = (refl, e)

pub first_refusal-zero : (r : ℕ) {s : ℕ} → first_refusal r s ≡ 0 → (r ≡ 0) × (s ≡ 0)
first_refusal-zero r {s} = eqb-cases r 0 (λ b. cond b s r ≡ 0 → (r ≡ 0) × (s ≡ 0)) (λ e h. (e, h)) (λ d h. absurd (d h))

pub zero-first_refusal : {r s : ℕ} → r ≡ 0 → s ≡ 0 → first_refusal r s ≡ 0
zero-first_refusal {r} {s} e f = rw e f

-- neither of two tests
pub or-false : (a b : Bool) → (a || b) ≡ false → (a ≡ false) × (b ≡ false)
or-false true b e = absurd (true≢false e)
or-false false b e = (refl, e)

-- what a call leaves that answers: refused, what it was given
module _ {S : Type 0} (r : ℕ) (x left : S) where
  pub answers-refused : r ≢ 0 → refused_by r x ≡ answering r x left
  answers-refused d = rw (eqb-diff r 0 d)

  pub answers-taken : r ≡ 0 → taken_to left ≡ answering r x left
  answers-taken z = rw z
