-- Words stored at the front of zeros: they are laid out (`zeros-set`), and are the front (`set_front`).
use Rattle.std.specs.Prelude.{ℕ, ◌+◌, ◌-◌, ◌≤◌, ◌≡◌, List, ◌++◌, length, take, drop, replicate}
use Rattle.std.proofs.Common.{arith, sym, ap, ◌∙◌, drop_at}
use Rattle.std.proofs.lemmas.List.{length-replicate, replicate-append-replicate}
use Rattle.std.proofs.lemmas.List.Edits.{sets, sets-eq}
use Rattle.std.proofs.Math.Seq.{take-append_seam}
use Rattle.field.specs.Held.{layout}

zeros-left : (a b : ℕ) → drop a (replicate {A = ℕ} (a + b) 0) ≡ replicate b 0
zeros-left a b = ap (drop a) (sym (replicate-append-replicate {A = ℕ} a b 0)) ∙ drop_at (replicate a 0) (replicate b 0) a (length-replicate a 0)

pub zeros-set : (k : ℕ) (ws : List ℕ) → length ws ≤ k → sets (replicate k 0) 0 ws ≡ layout k ws
zeros-set k ws l =
    let n = length ws in
    let front : 0 + n ≤ length (replicate {A = ℕ} k 0) = omega (arith, length-replicate {A = ℕ} k 0) in
    let start : 0 + n ≡ n = omega arith in
    let rest : k ≡ n + (k - n) = omega arith in
    sets-eq ws (replicate k 0) 0 front ∙ ap (λ x. ws ++ drop x (replicate k 0)) start
    ∙ ap (λ z. ws ++ z) (ap (λ x. drop n (replicate {A = ℕ} x 0)) rest ∙ zeros-left n (k - n))

pub set_front : (k : ℕ) (ws : List ℕ) → length ws ≤ k → take (length ws) (sets (replicate k 0) 0 ws) ≡ ws
set_front k ws l = ap (take (length ws)) (zeros-set k ws l) ∙ take-append_seam ws (replicate (k - length ws) 0)
