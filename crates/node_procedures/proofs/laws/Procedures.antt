-- Facts that the proofs of procedures and responses share: the search's result as the code has it is the rules' (`test-same`, `wake-same`).
use Rattle.std.specs.Prelude.{ℕ, ◌≡◌, ◌⊎◌}
use Rattle.std.proofs.Common.{ap, inl, inr}
use Rattle.node.specs.Work.{Work}
use Rattle.node.specs.Rules.{test_on, wake_on}

-- the other case
pub other-case {ℓ κ} : {A : Type ℓ} {B : Type κ} → A ⊎ B → ¬ A → B
other-case (inl a) n = absurd (n a)
other-case (inr b) n = b

-- a procedure on the edge that was found
pub test-same : {k l : ℕ} (w : Work) → k ≡ l → test_on k w ≡ test_on l w
test-same w e = ap (λ x. test_on x w) e

pub wake-same : {k l : ℕ} (j : ℕ) (w : Work) → k ≡ l → wake_on j k w ≡ wake_on j l w
wake-same j w e = ap (λ x. wake_on j x w) e
