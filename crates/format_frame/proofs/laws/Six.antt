-- A list of six numbers, shown number by number (`six`).
use Rattle.std.specs.Prelude.{ℕ, suc, ◌≡◌, List, [], ◌∷◌, length}
use Rattle.std.proofs.Common.{arith}

one : (P : List ℕ → Type 0) (n : ℕ) → ((a : ℕ) (t : List ℕ) → length t ≡ n → P (a ∷ t)) → (s : List ℕ) → length s ≡ suc n → P s
one P n k [] p = absurd (omega arith)
one P n k (a ∷ t) p = k a t (omega arith)

nil : (P : List ℕ → Type 0) → P [] → (s : List ℕ) → length s ≡ 0 → P s
nil P k [] p = k
nil P k (a ∷ t) p = absurd (omega arith)

pub six : (P : List ℕ → Type 0) → ((a b c d e f : ℕ) → P (a ∷ b ∷ c ∷ d ∷ e ∷ f ∷ [])) → (s : List ℕ) → length s ≡ 6 → P s
six P k =
    one P 5 (λ a. one (λ s. P (a ∷ s)) 4 (λ b. one (λ s. P (a ∷ b ∷ s)) 3 (λ c. one (λ s. P (a ∷ b ∷ c ∷ s)) 2
    (λ d. one (λ s. P (a ∷ b ∷ c ∷ d ∷ s)) 1 (λ e. one (λ s. P (a ∷ b ∷ c ∷ d ∷ e ∷ s)) 0 (λ f. nil (λ s. P (a ∷ b ∷ c ∷ d ∷ e ∷ f ∷ s)) (k a b c d e f)))))))
