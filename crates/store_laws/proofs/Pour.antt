-- Numbers put at places one after the other: in two runs (`poured-append`), where no place is (`poured-keeps`), at a place (`poured-at`), and all of them
-- read back (`poured-back`).
use Prim.Native.Nat.{ℕ, zero, suc, ◌+◌, ◌<◌}
use native.Mathlib.Omega.{arith}
use Rattle.std.proofs.Common.{add-zero, sym, ◌∙◌}
use Rattle.std.specs.Prelude.{◌≡◌, ◌≢◌}
use Rattle.std.proofs.Math.Path.{refl, ap, ap₂, subst}
use mathlib.Core.List.{List, [], ◌∷◌, ◌++◌, map}
use Rattle.std.proofs.Math.ListN.{length, get_or, set, length-set}
use Rattle.std.proofs.Math.Seq.{get_or-set_same, get_or-set_other}
use Rattle.base.proofs.laws.Cond.{by-eq}
use Rattle.base.specs.Pool.{All, nil, con}
use Rattle.base.specs.Table.{tabulate}
use Rattle.base.proofs.laws.Table.{tabulate-ext}
use Rattle.base.specs.Twice.{NoTwice, nobody, another}
use Rattle.store.specs.Reading.{poured}

-- i is one of them
pub data Among (i : ℕ) : List ℕ → Type 0 where
  foremost : {l : List ℕ} → Among i (i ∷ l)
  further : {x : ℕ} {l : List ℕ} → Among i l → Among i (x ∷ l)

pub among-left : {i : ℕ} {a : List ℕ} (b : List ℕ) → Among i a → Among i (a ++ b)
among-left b foremost = foremost
among-left b (further m) = further (among-left b m)

pub among-right : {i : ℕ} (a : List ℕ) {b : List ℕ} → Among i b → Among i (a ++ b)
among-right [] m = m
among-right (x ∷ a) m = further (among-right a m)

pub among-tabulate : (n : ℕ) (f : ℕ → ℕ) (j : ℕ) → j < n → Among (f j) (tabulate n f)
unfolding tabulate
among-tabulate zero f j l = absurd (omega arith)
among-tabulate (suc n) f zero l = foremost
among-tabulate (suc n) f (suc j) l = further (among-tabulate n (λ k. f (suc k)) j (omega arith))

module _ (f : ℕ → ℕ) where
  pub poured-append : (q : ℕ) (a b e : List ℕ) → poured f q (a ++ b) e ≡ poured f (q + length a) b (poured f q a e)
  unfolding poured
  poured-append q [] b e = ap (λ n. poured f n b e) (sym (add-zero q))
  poured-append q (i ∷ a) b e =
      let n : suc q + length a ≡ q + suc (length a) = omega arith in
      poured-append (suc q) a b (set e i (f q)) ∙ ap (λ k. poured f k b (poured f (suc q) a (set e i (f q)))) n

  pub poured-length : (q : ℕ) (is e : List ℕ) → length (poured f q is e) ≡ length e
  unfolding poured
  poured-length q [] e = refl
  poured-length q (i ∷ is) e = poured-length (suc q) is (set e i (f q)) ∙ length-set e i (f q)

  -- an entry at no place keeps
  pub poured-keeps : (i q : ℕ) {is : List ℕ} → All (λ j. i ≢ j) is → (e : List ℕ) → get_or (poured f q is e) i 0 ≡ get_or e i 0
  unfolding poured
  poured-keeps i q nil e = refl
  poured-keeps i q (con {x} n t) e = poured-keeps i (suc q) t (set e x (f q)) ∙ get_or-set_other e x i (f q) 0 n

  -- no place twice: each place has its number
  pub poured-back : (q : ℕ) {is : List ℕ} → NoTwice is → (e : List ℕ) → All (λ i. i < length e) is
      → map (λ i. get_or (poured f q is e) i 0) is ≡ tabulate (length is) (λ j. f (q + j))
  unfolding poured tabulate
  poured-back q nobody e nil = refl
  poured-back q (another {x} {l} n t) e (con b c) =
      let e' = set e x (f q) in
      ap₂ (λ (y : ℕ) (ys : List ℕ). y ∷ ys)
      (poured-keeps x (suc q) n e' ∙ get_or-set_same e x (f q) 0 b ∙ ap f (sym (add-zero q)))
      (poured-back (suc q) t e' (subst (λ k. All (λ i. i < k) l) (sym (length-set e x (f q))) c)
      ∙ tabulate-ext (length l) (λ j. f (suc q + j)) (λ j. f (q + suc j)) (λ j h. ap f (let w : suc q + j ≡ q + suc j = omega arith in w)))

  -- the numbers are the values g of their places: an entry with that value keeps it, and at each place it stands
  module _ (g : ℕ → ℕ) (i : ℕ) where
    abbrev Valued : ℕ → List ℕ → Type 0
    Valued q is = (j : ℕ) → j < length is → f (q + j) ≡ g (get_or is j 0)

    valued-on : (q x : ℕ) (is : List ℕ) → Valued q (x ∷ is) → Valued (suc q) is
    valued-on q x is h j l = ap f (let w : suc q + j ≡ q + suc j = omega arith in w) ∙ h (suc j) (omega arith)

    valued-now : (q x : ℕ) (is : List ℕ) → Valued q (x ∷ is) → f q ≡ g x
    valued-now q x is h = ap f (sym (add-zero q)) ∙ h zero (omega arith)

    poured-stays : (q : ℕ) (is e : List ℕ) → Valued q is → i < length e → get_or e i 0 ≡ g i → get_or (poured f q is e) i 0 ≡ g i
    unfolding poured
    poured-stays q [] e h b z = z
    poured-stays q (x ∷ is) e h b z = poured-stays (suc q) is (set e x (f q)) (valued-on q x is h) (omega (arith, length-set e x (f q)))
        (by-eq i x
        (λ w. subst (λ k. get_or (set e k (f q)) i 0 ≡ g i) w (get_or-set_same e i (f q) 0 b ∙ valued-now q x is h ∙ ap g (sym w)))
        (λ n. get_or-set_other e x i (f q) 0 n ∙ z))

    pub poured-at : (q : ℕ) {is : List ℕ} → Among i is → (e : List ℕ) → Valued q is → i < length e → get_or (poured f q is e) i 0 ≡ g i
    unfolding poured
    poured-at q (foremost {l}) e h b =
        poured-stays (suc q) l (set e i (f q)) (valued-on q i l h) (omega (arith, length-set e i (f q))) (get_or-set_same e i (f q) 0 b ∙ valued-now q i l h)
    poured-at q (further {x} {l} m) e h b = poured-at (suc q) m (set e x (f q)) (valued-on q x l h) (omega (arith, length-set e x (f q)))
