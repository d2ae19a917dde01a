-- Laws of `loop` and `runs`, for any state and any turns: one more turn, refused or not (`loop-suc`, `runs-suc`), what all turns keep (`loop-keeps`,
-- `runs-keep`) and tell (`loop-tells`, `runs-tell`), how a run ends (`runs-rest`, `runs_taken`, `runs-refused`, `runs_done`).
use Prim.Native.Nat.{ℕ, zero, suc, ◌+◌, ◌≤◌, ◌<◌}
use Rattle.std.proofs.Common.{not-suc-le-zero, add-one, arith, sym, ap, ◌∙◌}
use Rattle.std.specs.Prelude.{◌≡◌, ◌≢◌, Bool, true, false, ◌&&◌, eqb}
use Rattle.std.proofs.Math.Path.{refl}
use Rattle.std.proofs.Math.Bool.{cond, not}
use mathlib.Core.List.{List, [], ◌++◌}
use Rattle.base.proofs.laws.Cond.{eqb-cases, eqb-diff, by-eq}
use Rattle.base.proofs.laws.Search.{lt-suc-cases}
use Rattle.base.specs.Loop.{After, Ran, taken_to, then, loop, counted_turn, runs, loop_trace, runs_trace}

-- both answers of a test, in a goal P
pub by-test {κ} : (b : Bool) (P : Bool → Type κ) → P true → P false → P b
by-test true P y n = y
by-test false P y n = n

-- taken, and P holds of what is left
pub record Ok {S : Type 0} (P : S → Type 0) (a : After S) : Type 0 where
  pub fine : a.refusal ≡ 0
  pub holds : P a.state

module _ {S : Type 0} where
  pub then-on : (a : After S) (g : S → After S) → a.refusal ≡ 0 → then a g ≡ g a.state
  unfolding then
  then-on a g e = rw e

  pub then-off : (a : After S) (g : S → After S) → a.refusal ≢ 0 → then a g ≡ a
  unfolding then
  then-off a g n = rw (eqb-diff a.refusal 0 n)

  -- THE way to reason on it
  pub then-elim {κ} : (P : After S → Type κ) (a : After S) (g : S → After S) → (a.refusal ≡ 0 → P (g a.state)) → (a.refusal ≢ 0 → P a) → P (then a g)
  unfolding then
  then-elim P a g y n = eqb-cases a.refusal 0 (λ b. P (cond b (g a.state) a)) y n

  pub loop-suc : (n : ℕ) (g : ℕ → S → After S) (x : S) → loop (suc n) g x ≡ then (loop n g x) (g n)
  unfolding loop
  loop-suc n g x = refl

  pub loop-zero : (g : ℕ → S → After S) (x : S) → loop 0 g x ≡ taken_to x
  unfolding loop
  loop-zero g x = refl

  -- For code: k turns are done and left y; z is the turn at k.
  module _ (g : ℕ → S → After S) (k : ℕ) (x y : S) (z : After S) (d : loop k g x ≡ taken_to y) (e : z ≡ g k y) where
    next : then (loop k g x) (g k) ≡ z
    next = ap (λ a. then a (g k)) d ∙ then-on (taken_to y) (g k) refl ∙ sym e

    -- it is taken
    pub loop-taken : z.refusal ≡ 0 → loop (k + 1) g x ≡ taken_to z.state
    loop-taken h = ap (λ n. loop n g x) (add-one k) ∙ loop-suc k g x ∙ next ∙ is z h
      where
        is : (a : After S) → a.refusal ≡ 0 → a ≡ taken_to a.state
        is a q = ap (λ r. record { refusal = r; state = a.state }) q

    -- it is refused
    pub loop-refused : (n : ℕ) → k < n → z.refusal ≢ 0 → loop n g x ≡ z
    loop-refused zero l h = absurd (not-suc-le-zero l)
    loop-refused (suc n) l h = loop-suc n g x ∙ lt-suc-cases k n l
        (λ q. ap (λ i. then (loop i g x) (g i)) (sym q) ∙ next)
        (λ lt. ap (λ a. then a (g n)) (loop-refused n lt h) ∙ then-off z (g n) h)

  -- what every turn keeps, refused or not
  pub loop-keeps : (P : S → Type 0) (n : ℕ) (g : ℕ → S → After S) (x : S) → P x → ((k : ℕ) (y : S) → k < n → P y → P (g k y).state) → P (loop n g x).state
  unfolding loop
  loop-keeps P zero g x h s = h
  loop-keeps P (suc n) g x h s =
      let i = loop-keeps P n g x h (λ k y l. s k y (omega arith)) in
      then-elim (λ a. P a.state) (loop n g x) (g n) (λ e. s n (loop n g x).state (omega arith) i) (λ e. i)

  -- no turn is refused
  pub loop-ok : (P : ℕ → S → Type 0) (n : ℕ) (g : ℕ → S → After S) (x : S) → P 0 x → ((k : ℕ) (y : S) → k < n → P k y → Ok (P (suc k)) (g k y)) → Ok (P n) (loop n g x)
  unfolding loop
  loop-ok P zero g x h s = record { fine = refl; holds = h }
  loop-ok P (suc n) g x h s =
      let i = loop-ok P n g x h (λ k y l. s k y (omega arith)) in
      rw (then-on (loop n g x) (g n) i.fine) (s n (loop n g x).state (omega arith) i.holds)

  -- R x l y: from x the turns told l and left y. What holds of each turn holds over all.
  module _ {E : Type 0} (R : S → List E → S → Type 0) (none : (x : S) → R x [] x)
      (more : (x y z : S) (l m : List E) → R x l y → R y m z → R x (l ++ m) z)
      (g : ℕ → S → After S) (t : ℕ → S → List E) where
    pub loop-tells : (n : ℕ) (x : S) → ((k : ℕ) (y : S) → k < n → R y (t k y) (g k y).state) → R x (loop_trace n g t x) (loop n g x).state
    unfolding loop loop_trace then
    loop-tells zero x turn = none x
    loop-tells (suc n) x turn =
        let y = (loop n g x).state in
        let i = loop-tells n x (λ k z l. turn k z (omega arith)) in
        by-test (eqb (loop n g x).refusal 0) (λ b. R x (loop_trace n g t x ++ cond b (t n y) []) (cond b (g n y) (loop n g x)).state)
        (more x y (g n y).state (loop_trace n g t x) (t n y) i (turn n y (omega arith)))
        (more x y y (loop_trace n g t x) [] i (none y))

    pub runs-tell : (rest : S → Bool) (n : ℕ) (x : S) → ((k : ℕ) (y : S) → k < n → R y (t k y) (g k y).state) → R x (runs_trace rest n g t x) (runs rest n g x).state
    unfolding runs runs_trace
    runs-tell rest zero x turn = none x
    runs-tell rest (suc n) x turn =
        let r = runs rest n g x in
        let y = r.state in
        let i = runs-tell rest n x (λ k z l. turn k z (omega arith)) in
        by-test (eqb r.refusal 0 && not (rest y)) (λ b. R x (runs_trace rest n g t x ++ cond b (t n y) []) (cond b (counted_turn r.done (g n y)) r).state)
        (more x y (g n y).state (runs_trace rest n g t x) (t n y) i (turn n y (omega arith)))
        (more x y y (runs_trace rest n g t x) [] i (none y))

  -- what every turn keeps, refused or not
  pub runs-keep : (P : S → Type 0) (rest : S → Bool) (n : ℕ) (g : ℕ → S → After S) (x : S) → P x → ((k : ℕ) (y : S) → k < n → P y → P (g k y).state)
      → P (runs rest n g x).state
  unfolding runs
  runs-keep P rest zero g x h s = h
  runs-keep P rest (suc n) g x h s =
      let r = runs rest n g x in
      let i = runs-keep P rest n g x h (λ k y l. s k y (omega arith)) in
      by-test (eqb r.refusal 0 && not (rest r.state)) (λ b. P (cond b (counted_turn r.done (g n r.state)) r).state)
      (s n r.state (omega arith) i) i

  -- an answer that no turn gives is not given by the run: A holds of 0 and of what the turns answer
  pub runs-refusal : (P : S → Type 0) (A : ℕ → Type 0) (rest : S → Bool) (n : ℕ) (g : ℕ → S → After S) (x : S) → P x → A 0
      → ((k : ℕ) (y : S) → k < n → P y → P (g k y).state × A (g k y).refusal) → A (runs rest n g x).refusal
  unfolding runs
  runs-refusal P A rest zero g x h z s = z
  runs-refusal P A rest (suc n) g x h z s =
      let r = runs rest n g x in
      let p = runs-keep P rest n g x h (λ k y l i. (s k y (omega arith) i).0) in
      by-test (eqb r.refusal 0 && not (rest r.state)) (λ b. A (cond b (counted_turn r.done (g n r.state)) r).refusal)
      (s n r.state (omega arith) p).1
      (runs-refusal P A rest n g x h z (λ k y l. s k y (omega arith)))

-- k turns done, none refused
abbrev pub went : {S : Type 0} → ℕ → S → Ran S
went k y = record { done = k; refusal = 0; state = y }

module _ {S : Type 0} (rest : S → Bool) (g : ℕ → S → After S) where
  pub runs-suc : (n : ℕ) (x : S) → runs rest (suc n) g x
      ≡ cond (eqb (runs rest n g x).refusal 0 && not (rest (runs rest n g x).state)) (counted_turn (runs rest n g x).done (g n (runs rest n g x).state)) (runs rest n g x)
  unfolding runs
  runs-suc n x = refl

  -- For code: k turns are done and left y.
  module _ (k : ℕ) (x y : S) (d : runs rest k g x ≡ went k y) where
    -- it rests there
    pub runs-rest : (n : ℕ) → k ≤ n → rest y ≡ true → runs rest n g x ≡ went k y
    runs-rest zero l h = ap (λ i. runs rest i g x) (omega arith) ∙ d
    runs-rest (suc n) l h = by-eq k (suc n) (λ e. ap (λ i. runs rest i g x) (sym e) ∙ d)
        (λ f. let i = runs-rest n (omega arith) h in runs-suc n x ∙ rw (i, h) refl)

    module _ (z : After S) (e : z ≡ g k y) (more : rest y ≡ false) where
      turned : runs rest (suc k) g x ≡ counted_turn k z
      turned = runs-suc k x ∙ rw (d, more) (ap (counted_turn k) (sym e))

      -- turn z is taken
      pub runs_taken : z.refusal ≡ 0 → runs rest (k + 1) g x ≡ went (k + 1) z.state
      runs_taken h = ap (λ i. runs rest i g x) (add-one k) ∙ turned ∙ rw (h, add-one k) refl

      -- turn z is refused
      pub runs-refused : (n : ℕ) → k < n → z.refusal ≢ 0 → runs rest n g x ≡ record { done = k; refusal = z.refusal; state = z.state }
      runs-refused zero l h = absurd (not-suc-le-zero l)
      runs-refused (suc n) l h = lt-suc-cases k n l
          (λ q. ap (λ i. runs rest (suc i) g x) (sym q) ∙ turned ∙ rw (eqb-diff z.refusal 0 h) refl)
          (λ lt. let i = runs-refused n lt h in runs-suc n x ∙ rw (i, eqb-diff z.refusal 0 h) refl)

  -- no turn is left
  pub runs_done : (n k : ℕ) (x y : S) → runs rest k g x ≡ went k y → n ≤ k → k ≤ n → runs rest n g x ≡ went k y
  runs_done n k x y d l r = ap (λ i. runs rest i g x) (omega arith) ∙ d
