-- A trimmed plan means the plan (`trimmed-same`), is accepted with it (`trimmed-taken`) and is trimmed (`trimmed-again`). A loop that fills a plan of zeros
-- leaves a padded one (`none_read`, `one-read`, `all_read`), as does one of which the rest became zero (`zeroed`).
use Rattle.std.specs.Prelude.{ℕ, suc, ◌+◌, ◌*◌, ◌-◌, ◌≤◌, ◌<◌, ◌≡◌, ◌++◌, set}
use Rattle.std.proofs.Common.{arith, ap, ◌∙◌, length-append, get_or-append-add}
use Rattle.std.proofs.Math.Path.{sym}
use Rattle.std.proofs.Math.ListN.{length, get_or, replicate, get_or-append}
use Rattle.std.proofs.lemmas.List.{length-replicate, get_or-replicate}
use Rattle.std.proofs.Math.ListN.{take, drop, length-drop, drop_of_length-le}
use Rattle.std.proofs.Math.Seq.{length-take-le, get_or-take}
use borrow.Rule.Slice.PartMut.{put_mid}
use mathlib.Core.List.{[], append-nil}
use Rattle.base.proofs.laws.Cond.{ltb-cases}
use Rattle.base.specs.Table.{tabulate, upto}
use Rattle.base.proofs.laws.Table.{tabulated, tabulate-ext, length-tabulate, get_d_tabulate, upto-in, upto-out, fill_start, fill-turn}
use Rattle.plan.specs.Links.{Plan, links_of, plan_numbers, plan_size, blank}
use Rattle.plan.specs.Refusal.{plan_refusal}
use Rattle.plan.specs.Same.{Same}
use Rattle.plan.specs.Trimmed.{padded, trimmed}
use Rattle.plan.proofs.laws.Same.{same_taken}

-- number i of a plan value that is padded
pub padded-at : (n : ℕ) (f : ℕ → ℕ) (i : ℕ) → i < n → get_or (padded n f) i 0 ≡ f i
unfolding padded
padded-at n f i l = get_or-append (tabulate n f) (replicate (plan_size - n) 0) 0 i (omega (arith, length-tabulate n f)) ∙ get_d_tabulate n f i l

-- THE LOOP THAT FILLS: i numbers are read; its start, a turn, its end
module _ (f : ℕ → ℕ) where
  abbrev pub read_to : ℕ → Plan
  read_to i = tabulate plan_size (upto i f (λ j. 0))

  pub none_read : (p : Plan) → p ≡ blank → p ≡ read_to 0
  none_read p e = e ∙ fill_start plan_size f (λ i. 0) blank (length-replicate {A = ℕ} plan_size 0) (λ i l. get_or-replicate {A = ℕ} plan_size i 0 0 l)

  pub one-read : (p : Plan) (i x : ℕ) → i < plan_size → p ≡ read_to i → x ≡ f i → set p i x ≡ read_to (suc i)
  one-read p i x l e q = rw e (fill-turn plan_size f (λ i. 0) i x l q)

  pub all_read : (n : ℕ) → n ≤ plan_size → read_to n ≡ padded n f
  unfolding padded
  all_read n m = sym (tabulated plan_size (upto n f (λ j. 0)) (padded n f) size entry)
    where
      size : length (padded n f) ≡ plan_size
      size = simp (length-append, length-tabulate, length-replicate) (omega arith)

      past : (j : ℕ) → n + j < plan_size → get_or (padded n f) (n + j) 0 ≡ 0
      past j l = ap (λ k. get_or (padded n f) (k + j) 0) (sym (length-tabulate n f)) ∙ get_or-append-add (tabulate n f) (replicate (plan_size - n) 0) j 0
          ∙ get_or-replicate {A = ℕ} (plan_size - n) j 0 0 (omega arith)

      entry : (k : ℕ) → k < plan_size → get_or (padded n f) k 0 ≡ upto n f (λ j. 0) k
      entry k l = ltb-cases k n (λ b. get_or (padded n f) k 0 ≡ upto n f (λ j. 0) k)
          (λ h. padded-at n f k h ∙ sym (upto-in n f (λ j. 0) k h))
          (λ h. ap (λ i. get_or (padded n f) i 0) (let e : k ≡ n + (k - n) = omega arith in e) ∙ past (k - n) (omega arith) ∙ sym (upto-out n f (λ j. 0) k h))

-- a plan of which all past the first n numbers became zero
pub zeroed : (p : Plan) (n : ℕ) → length p ≡ plan_size → n ≤ plan_size
    → put_mid n (plan_size - n) p (replicate (length (take (plan_size - n) (drop n p))) 0) ≡ padded n (λ i. get_or p i 0)
unfolding padded
zeroed p n h m =
    let front : take n p ≡ tabulate n (λ i. get_or p i 0) = tabulated n (λ i. get_or p i 0) (take n p) (length-take-le n p (omega arith)) (λ k l. get_or-take n p k 0 l) in
    let rest : length (take (plan_size - n) (drop n p)) ≡ plan_size - n = length-take-le (plan_size - n) (drop n p) (omega (arith, length-drop n p)) in
    let none : drop (plan_size - n) (drop n p) ≡ [] = drop_of_length-le (drop n p) (omega (arith, length-drop n p)) in
    simp (front, rest, none, append-nil)

module _ (p : Plan) where
  entry-same : (i : ℕ) → i < plan_numbers (links_of p) → get_or p i 0 ≡ get_or (trimmed p) i 0
  unfolding trimmed
  entry-same i l = sym (padded-at (plan_numbers (links_of p)) (λ j. get_or p j 0) i l)

  -- its numbers up to its links are the plan's
  pub trimmed-same : Same p (trimmed p)
  trimmed-same = record {
    modules = entry-same 0 (omega arith);
    links = entry-same 1 (omega arith);
    lows = λ k l. entry-same (2 + 4 * k) (omega arith);
    highs = λ k l. entry-same (3 + 4 * k) (omega arith);
    nears = λ k l. entry-same (4 + 4 * k) (omega arith);
    fars = λ k l. entry-same (5 + 4 * k) (omega arith);
  }

  pub trimmed-taken : plan_refusal p ≡ 0 → plan_refusal (trimmed p) ≡ 0
  trimmed-taken = same_taken trimmed-same

  pub trimmed-again : trimmed (trimmed p) ≡ trimmed p
  unfolding trimmed padded
  trimmed-again = rw (← trimmed-same.links)
      (ap (λ xs. xs ++ replicate (plan_size - plan_numbers (links_of p)) 0) (tabulate-ext (plan_numbers (links_of p)) (λ i. get_or (trimmed p) i 0) (λ i. get_or p i 0) (λ i l. sym (entry-same i l))))
