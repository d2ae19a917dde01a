-- How many own edges pass a test, as a chain over the edges counts them (`number-filter`, `number-within`).
use Rattle.std.specs.Prelude.{List, ℕ, zero, suc, ◌+◌, ◌≤◌, ◌≡◌, Bool, ◌&&◌, cond, [], ◌∷◌, ◌++◌, filter, length}
use Rattle.std.proofs.Common.{refl, arith, ap, ◌∙◌}
use Rattle.std.proofs.lemmas.Grind.{common_steps}
use Rattle.std.specs.List.{range_with_len}
use Rattle.std.proofs.lemmas.List.{map-id}
use Rattle.std.proofs.lemmas.List.FromFn.{filter_of_map_range_with_len_more}
use Rattle.base.specs.Cond.{bit}
use Rattle.base.proofs.laws.Cond.{bit_le}
use Rattle.node.specs.Work.{Own, number}

count-more : (b : Bool) (xs : List ℕ) (n : ℕ) → length (xs ++ cond b (n ∷ []) []) ≡ length xs + bit b
count-more b xs n = grind (arith, common_steps)

-- one edge more, for m edges
one-more : (p : ℕ → Bool) (m n : ℕ) → m ≡ n + 1 → length (filter p (range_with_len 0 m)) ≡ length (filter p (range_with_len 0 n)) + bit (p n)
one-more p m n e = rw e (ap length (simp map-id at (filter_of_map_range_with_len_more p (λ (k : ℕ). k) 0 n n (omega arith))) ∙ count-more (p n) (filter p (range_with_len 0 n)) n)

pub number-filter : (o : Own) (f p : ℕ → Bool) → ((k : ℕ) → p k ≡ (o.own k && f k)) → (n : ℕ) → length (filter p (range_with_len 0 n)) ≡ number o f n
unfolding number
number-filter o f p e zero = refl
number-filter o f p e (suc n) = one-more p (suc n) n (omega arith) ∙ rw (e n, number-filter o f p e n)

-- no more than there are edges
pub number-within : (o : Own) (f : ℕ → Bool) (n : ℕ) → number o f n ≤ n
unfolding number
number-within o f zero = omega arith
number-within o f (suc n) = omega (arith, number-within o f n, bit_le (o.own n && f n))
