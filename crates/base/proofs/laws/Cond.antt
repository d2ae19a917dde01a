-- Case analysis on a test (`bool_cases`, `eqb-cases`, `ltb-cases`), and what a changed table has at a place (`upd_same`, `upd_other`).
use Rattle.std.specs.Prelude.{ℕ, ◌≤◌, ◌<◌, ◌≡◌, refl, ◌≢◌, ◌⊎◌, Bool, true, false, cond, T, eqb, ltb}
use Rattle.std.proofs.Common.{zero-le, arith, sym, subst, inl, inr, eqb→eq, ltb→lt, nltb→le}
use Rattle.std.proofs.Math.Dec.{eqb_refl, not_T}
use Rattle.base.specs.Cond.{bit, upd, upd2}

-- a test whose answer is kept as an equation
pub bool_cases {κ} : (b : Bool) {C : Type κ} → (b ≡ true → C) → (b ≡ false → C) → C
bool_cases true y n = y refl
bool_cases false y n = n refl

-- what both have, the chosen one has
pub cond_has : {A : Type 0} (P : A → Type 0) (b : Bool) (x y : A) → P x → P y → P (cond b x y)
cond_has P true x y h i = h
cond_has P false x y h i = i

pub bit_le : (t : Bool) → bit t ≤ 1
bit_le true = omega arith
bit_le false = omega arith

pub bit-mono : (s t : Bool) → (s ≡ true → t ≡ true) → bit s ≤ bit t
bit-mono true t h = rw (h refl) (omega arith)
bit-mono false t h = zero-le

-- `eqb v w`, in a goal P: both cases, with what they say
unfoldable pub eqb-cases {κ} : (v w : ℕ) (P : Bool → Type κ) → (v ≡ w → P true) → (v ≢ w → P false) → P (eqb v w)
eqb-cases v w P y n = go (eqb v w) (λ t. eqb→eq v w t) (λ e. subst (λ x. T (eqb v x)) e (eqb_refl v))
  where
    go : (b : Bool) → (T b → v ≡ w) → (v ≡ w → T b) → P b
    go true f g = y (f tt)
    go false f g = n g

unfoldable pub ltb-cases {κ} : (v w : ℕ) (P : Bool → Type κ) → (v < w → P true) → (w ≤ v → P false) → P (ltb v w)
ltb-cases v w P y n = go (ltb v w) (λ t. ltb→lt v w t) (λ f. nltb→le v w (not_T (ltb v w) f))
  where
    go : (b : Bool) → (T b → v < w) → ((T b → ⊥) → w ≤ v) → P b
    go true f g = y (f tt)
    go false f g = n (g (λ t. t))

-- two numbers are equal or not, for a goal that shows no test
pub by-eq {κ} : {C : Type κ} (v w : ℕ) → (v ≡ w → C) → (v ≢ w → C) → C
by-eq {C} v w y n = eqb-cases v w (λ b. C) y n

pub eqb_same : (v : ℕ) → eqb v v ≡ true
eqb_same v = eqb-cases v v (λ b. b ≡ true) (λ e. refl) (λ n. absurd (n refl))

pub eqb-diff : (v w : ℕ) → v ≢ w → eqb v w ≡ false
eqb-diff v w n = eqb-cases v w (λ b. b ≡ false) (λ e. absurd (n e)) (λ m. refl)

module _ {ℓ} {A : Type ℓ} where
  -- THE way to reason on it: a goal on `upd f v a w` is the goal on a where v is w, and on f w elsewhere
  pub upd-elim {κ} : (P : A → Type κ) (f : ℕ → A) (v : ℕ) (a : A) (w : ℕ) → (v ≡ w → P a) → (v ≢ w → P (f w)) → P (upd f v a w)
  unfolding upd
  upd-elim P f v a w y n = eqb-cases v w (λ b. P (cond b a (f w))) y n

  pub upd_same : (f : ℕ → A) (v : ℕ) (a : A) → upd f v a v ≡ a
  upd_same f v a = upd-elim (λ x. x ≡ a) f v a v (λ e. refl) (λ n. absurd (n refl))

  pub upd_other : (f : ℕ → A) (v : ℕ) (a : A) (w : ℕ) → v ≢ w → upd f v a w ≡ f w
  upd_other f v a w n = upd-elim (λ x. x ≡ f w) f v a w (λ e. absurd (n e)) (λ m. refl)

pub upd2-elim {ℓ κ} : {A : Type ℓ} (P : A → Type κ) (f : ℕ → ℕ → A) (v e : ℕ) (a : A) (w d : ℕ)
    → (v ≡ w → e ≡ d → P a) → ((v ≢ w) ⊎ (e ≢ d) → P (f w d)) → P (upd2 f v e a w d)
unfolding upd2
upd2-elim P f v e a w d y n = upd-elim (λ r. P (r d)) f v (upd (f v) e a) w
    (λ q. upd-elim P (f v) e a d (λ r. y q r) (λ r. subst (λ x. P (f x d)) (sym q) (n (inr r))))
    (λ q. n (inl q))
