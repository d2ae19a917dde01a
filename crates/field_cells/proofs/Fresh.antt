-- The cells of fresh modules, laid one after the other (`laid_more`, `laid-all`).
use Prim.Native.Nat.{ℕ, zero, suc, ◌+◌, ◌-◌, ◌*◌, ◌≤◌}
use native.Mathlib.Omega.{arith}
use native.Mathlib.Numerals.{add-one}
use mathlib.Core.Path.{◌≡◌, refl, ap, ◌∙◌}
use mathlib.Core.List.{List, ◌++◌, append-nil}
use lib.ListN.{length, drop, replicate, length-append, length-replicate}
use lib.Seq.{sets-eq, take_at, drop-append-add}
use Rattle.node.specs.Work.{setup}
use Rattle.field.specs.State.{WIDTH, values, put_node}
use Rattle.field.specs.Held.{fresh_cells}
use Rattle.field.proofs.laws.Held.{fresh-length}
use Rattle.field_words.proofs.Laid.{drop-zeros}

behind : (n : ℕ) → fresh_cells n ++ values setup ≡ fresh_cells (suc n)
unfolding fresh_cells
behind zero = refl
behind (suc n) = ap (λ (l : List ℕ). values setup ++ l) (behind n)

fresh-behind : (n : ℕ) → fresh_cells n ++ values setup ≡ fresh_cells (n + 1)
fresh-behind n = rw (add-one n) (behind n)

-- v modules laid, in m cells
abbrev pub laid_cells : ℕ → ℕ → List ℕ
laid_cells m v = fresh_cells v ++ replicate (m - v * WIDTH) 0

pub laid_none : (m : ℕ) → replicate m 0 ≡ laid_cells m 0
unfolding fresh_cells
laid_none m = let e : m ≡ m - 0 * WIDTH = omega arith in ap (λ (j : ℕ). replicate j 0) e

pub laid_more : (m v : ℕ) → v * WIDTH + WIDTH ≤ m → put_node (laid_cells m v) v setup ≡ laid_cells m (v + 1)
laid_more m v h =
    let l = fresh-length v in
    let r : List ℕ = replicate (m - v * WIDTH) 0 in
    let k : v * WIDTH + WIDTH ≡ length (fresh_cells v) + WIDTH = omega arith in
    let z : m - v * WIDTH - WIDTH ≡ m - (v + 1) * WIDTH = omega arith in
    sets-eq (values setup) (laid_cells m v) (v * WIDTH) (omega (arith, length-append (fresh_cells v) r, length-replicate {A = ℕ} (m - v * WIDTH) 0))
    ∙ rw (take_at (fresh_cells v) r (v * WIDTH) l, ap (λ (j : ℕ). drop j (laid_cells m v)) k ∙ drop-append-add (fresh_cells v) r WIDTH ∙ drop-zeros WIDTH (m - v * WIDTH) ∙ ap (λ (j : ℕ). replicate j 0) z)
    (ap (λ (x : List ℕ). x ++ replicate (m - (v + 1) * WIDTH) 0) (fresh-behind v))

pub laid-all : (m v : ℕ) → m ≤ v * WIDTH → laid_cells m v ≡ fresh_cells v
laid-all m v h = let e : m - v * WIDTH ≡ 0 = omega arith in rw e (append-nil (fresh_cells v))
