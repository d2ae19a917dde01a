-- Lists in which no number comes twice: one number (`NoTwice-one`), another one put behind (`NoTwice-behind`), turned round (`NoTwice-reverse`), and how long
-- they are at most (`NoTwice-most`); one taken out (`out_once`).
use Rattle.std.specs.Prelude.{ℕ, ◌≤◌, ◌<◌, ◌≡◌, refl, ◌≢◌, length, eqb}
use Rattle.std.proofs.Common.{arith, sym, ap, subst}
use mathlib.Core.List.{List, [], ◌∷◌, ◌++◌, reverse, reverse-cons}
use Rattle.base.specs.Cond.{bit}
use Rattle.base.specs.Keep.{many}
use Rattle.base.specs.Sum.{sum}
use Rattle.base.proofs.laws.Cond.{bit_le, by-eq, eqb_same, eqb-diff}
use Rattle.base.proofs.laws.Sum.{le-sum, sum-le, sum-add, sum-const}
use Rattle.base.specs.Pool.{All, nil, con, Out, here, there}
use Rattle.base.specs.Twice.{NoTwice, nobody, another}
use Rattle.base.proofs.laws.Pool.{All-app, All-one, All-reverse, All-here}

pub NoTwice-one : (x : ℕ) → NoTwice (x ∷ [])
NoTwice-one x = another nil nobody

pub NoTwice-behind : {x : ℕ} {l : List ℕ} → NoTwice l → All (λ y. x ≢ y) l → NoTwice (l ++ (x ∷ []))
NoTwice-behind {x} nobody nil = NoTwice-one x
NoTwice-behind (another h t) (con n k) = another (All-app h (All-one (λ e. n (sym e)))) (NoTwice-behind t k)

pub NoTwice-reverse : {l : List ℕ} → NoTwice l → NoTwice (reverse l)
NoTwice-reverse nobody = nobody
NoTwice-reverse (another {x} {l} h t) = subst NoTwice (sym (reverse-cons x l)) (NoTwice-behind (NoTwice-reverse t) (All-reverse h))

-- what is left does without the one that is taken out
pub out_once : {l r : List ℕ} {m : ℕ} → NoTwice l → Out l m r → All (λ y. m ≢ y) r
out_once nobody q = elim q [ ]
out_once (another h t) here = h
out_once (another h t) (there q) = con (λ e. All-here q h (sym e)) (out_once t q)

-- ---- how long they are: each number is there once at most

many-none : (v : ℕ) {l : List ℕ} → All (λ y. v ≢ y) l → many (eqb v) l ≡ 0
unfolding many
many-none v nil = refl
many-none v (con {x} n t) = omega (arith, ap bit (eqb-diff v x n), many-none v t)

many-once : (v : ℕ) {l : List ℕ} → NoTwice l → many (eqb v) l ≤ 1
unfolding many
many-once v nobody = omega arith
many-once v (another {x} {l} h t) = by-eq v x
    (λ e. omega (arith, many-none v (subst (λ z. All (λ y. z ≢ y) l) (sym e) h), bit_le (eqb v x)))
    (λ n. omega (arith, ap bit (eqb-diff v x n), many-once v t))

-- each of l is counted, among the numbers below n
length-counts : (n : ℕ) {l : List ℕ} → All (λ x. x < n) l → length l ≤ sum n (λ v. many (eqb v) l)
unfolding many
length-counts n nil = omega arith
length-counts n (con {x} {xs} b t) =
    omega (arith, length-counts n t, sum-add n (λ v. bit (eqb v x)) (λ v. many (eqb v) xs), le-sum n x (λ v. bit (eqb v x)) b, ap bit (eqb_same x))

pub NoTwice-most : (n : ℕ) {l : List ℕ} → NoTwice l → All (λ x. x < n) l → length l ≤ n
NoTwice-most n {l} h b = omega (arith, length-counts n b, sum-le n (λ v. many (eqb v) l) (λ v. 1) (λ v i. many-once v h), sum-const n 1)
