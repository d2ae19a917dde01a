-- A list with the entries of a rule is the rule's list (`tabulated`); an array that a loop fills is one at each turn (`fill-`).
-- One entry more at the end (`tabulate-next`).
use Rattle.std.specs.Prelude.{ℕ, zero, suc, ◌≤◌, ◌<◌, ◌≡◌, refl, List, [], ◌∷◌, ◌++◌, length, get_or, set}
use Rattle.std.proofs.Common.{arith, not-suc-le-zero, sym, ap, subst, ◌∙◌, length-set, ext_get_or, get_or-set_same, get_or-set_other, lt-ltb, le-ltb}
use Rattle.base.proofs.laws.Cond.{by-eq, ltb-cases}
use Rattle.base.specs.Table.{tabulate, upto}

pub length-tabulate : (n : ℕ) (f : ℕ → ℕ) → length (tabulate n f) ≡ n
unfolding tabulate
length-tabulate zero f = refl
length-tabulate (suc n) f = ap suc (length-tabulate n (λ k. f (suc k)))

pub get_d_tabulate : (n : ℕ) (f : ℕ → ℕ) (k : ℕ) → k < n → get_or (tabulate n f) k 0 ≡ f k
unfolding tabulate
get_d_tabulate zero f k l = absurd (not-suc-le-zero l)
get_d_tabulate (suc n) f zero l = refl
get_d_tabulate (suc n) f (suc k) l = get_d_tabulate n (λ j. f (suc j)) k (omega arith)

-- a list with these entries
pub tabulated : (n : ℕ) (f : ℕ → ℕ) (s : List ℕ) → length s ≡ n → ((k : ℕ) → k < n → get_or s k 0 ≡ f k) → s ≡ tabulate n f
tabulated n f s e h = ext_get_or 0 s (tabulate n f) (e ∙ sym (length-tabulate n f)) (λ k l. h k (omega arith) ∙ sym (get_d_tabulate n f k (omega arith)))

-- one entry more, at the end
pub tabulate-next : (n : ℕ) (f : ℕ → ℕ) → tabulate (suc n) f ≡ tabulate n f ++ (f n ∷ [])
unfolding tabulate
tabulate-next zero f = refl
tabulate-next (suc n) f = ap (λ xs. f zero ∷ xs) (tabulate-next n (λ i. f (suc i)))

pub tabulate-ext : (n : ℕ) (f g : ℕ → ℕ) → ((k : ℕ) → k < n → f k ≡ g k) → tabulate n f ≡ tabulate n g
tabulate-ext n f g h = tabulated n g (tabulate n f) (length-tabulate n f) (λ k l. get_d_tabulate n f k l ∙ h k l)

pub upto-in : (k : ℕ) (f g : ℕ → ℕ) (j : ℕ) → j < k → upto k f g j ≡ f j
unfolding upto
upto-in k f g j l = rw (lt-ltb j k l)

pub upto-out : (k : ℕ) (f g : ℕ → ℕ) (j : ℕ) → k ≤ j → upto k f g j ≡ g j
unfolding upto
upto-out k f g j l = rw (le-ltb j k l)

-- A LOOP THAT FILLS: its start, a turn, its end
module _ (n : ℕ) (f g : ℕ → ℕ) where
  pub fill_start : (s : List ℕ) → length s ≡ n → ((k : ℕ) → k < n → get_or s k 0 ≡ g k) → s ≡ tabulate n (upto 0 f g)
  fill_start s e h = tabulated n (upto 0 f g) s e (λ k l. h k l ∙ sym (upto-out 0 f g k (omega arith)))

  pub fill-turn : (k x : ℕ) → k < n → x ≡ f k → set (tabulate n (upto k f g)) k x ≡ tabulate n (upto (suc k) f g)
  fill-turn k x l e = tabulated n (upto (suc k) f g) (set old k x) (length-set old k x ∙ length-tabulate n (upto k f g)) entry
    where
      old : List ℕ
      old = tabulate n (upto k f g)

      entry : (j : ℕ) → j < n → get_or (set old k x) j 0 ≡ upto (suc k) f g j
      entry j m = by-eq j k
          (λ q. subst (λ i. get_or (set old k x) i 0 ≡ upto (suc k) f g i) (sym q)
          (get_or-set_same old k x 0 (rw (length-tabulate n (upto k f g)) l) ∙ e ∙ sym (upto-in (suc k) f g k (omega arith))))
          (λ d. get_or-set_other old k j x 0 d ∙ get_d_tabulate n (upto k f g) j m ∙ side j d)
        where
          side : (j : ℕ) → (j ≡ k → ⊥) → upto k f g j ≡ upto (suc k) f g j
          side j d = ltb-cases j k (λ b. upto k f g j ≡ upto (suc k) f g j)
              (λ h. upto-in k f g j h ∙ sym (upto-in (suc k) f g j (omega arith)))
              (λ h. upto-out k f g j h ∙ sym (upto-out (suc k) f g j (omega arith)))

  -- what stands at the place that is next
  pub fill-next : (k : ℕ) → k < n → get_or (tabulate n (upto k f g)) k 0 ≡ g k
  fill-next k l = get_d_tabulate n (upto k f g) k l ∙ upto-out k f g k (omega arith)

  pub fill_end : (k : ℕ) → n ≤ k → tabulate n (upto k f g) ≡ tabulate n f
  fill_end k l = tabulate-ext n (upto k f g) f (λ j m. upto-in k f g j (omega arith))
