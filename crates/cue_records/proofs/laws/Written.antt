-- A turn of the loop writes one more (`written_next`); the list keeps its length (`length-written`). What `fill` has written at its end (`written-fill`),
-- and `load`, of all records that a row has room for (`written-within`).
use Rattle.std.specs.Prelude.{◌≡◌, ℕ, suc, ◌+◌, ◌≤◌, ◌<◌, min, List, ◌++◌, length, get_or, set, take, drop, replicate}
use Rattle.std.proofs.Common.{sym, ap, ◌∙◌, drop_of_length-le, length-take-le, take_all, take-suc, arith}
use Rattle.std.proofs.lemmas.List.{length-replicate}
use Rattle.std.proofs.Math.Seq.{length_front, take-length}
use Rattle.std.proofs.Math.Decide.{dec_le}
use Rattle.std.proofs.Math.Logic.{by_cases}
use Rattle.base.proofs.laws.Sets.{front-set}
use Rattle.cue_records.specs.Written.{written}

module _ {A : Type 0} where
  one_more : (new old : List A) (i : ℕ) (z : A) → i < length new → i < length old → set (written new i old) i (get_or new i z) ≡ written new (suc i) old
  one_more new old i z p q =
      front-set (take i new) old i (get_or new i z) z (length-take-le i new (omega (arith, p))) q
      ∙ ap (λ (l : List A). l ++ drop (suc i) old) (sym (take-suc new i z p))

  pub written_next : (new old : List A) (i : ℕ) (z : A) → i < length new → i < length old → set (written new i old) i (get_or new i z) ≡ written new (i + 1) old
  written_next new old i z p q = let e : suc i ≡ i + 1 = omega arith in one_more new old i z p q ∙ ap (λ (n : ℕ). written new n old) e

  pub length-written : (new old : List A) (i : ℕ) → i ≤ length new → i ≤ length old → length (written new i old) ≡ length old
  length-written new old i p q = length_front old (take i new) i (length-take-le i new p ∙ sym (length-take-le i old q))

  pub written-fill : (n : ℕ) (c : A) (old : List A) → written (replicate n c) n old ≡ replicate n c ++ drop n old
  written-fill n c old = let p : length (replicate n c) ≤ n = omega (arith, length-replicate n c) in ap (λ (l : List A). l ++ drop n old) (take_all n (replicate n c) p)

  pub written-within : (m : ℕ) (z : A) (l : List A) → written l (min (length l) m) (replicate m z) ≡ take m l ++ drop (length l) (replicate m z)
  written-within m z l =
      by_cases (dec_le (length l) m)
      (λ h.
      let e : min (length l) m ≡ length l = omega arith in
      ap (λ (k : ℕ). written l k (replicate m z)) e ∙ ap (λ (t : List A). t ++ drop (length l) (replicate m z)) (take-length l ∙ sym (take_all m l h)))
      (λ f.
      let e : min (length l) m ≡ m = omega arith in
      let p : length (replicate m z) ≤ m = omega (arith, length-replicate m z) in
      let q : length (replicate m z) ≤ length l = omega (arith, length-replicate m z) in
      ap (λ (k : ℕ). written l k (replicate m z)) e ∙ ap (λ (t : List A). take m l ++ t) (drop_of_length-le (replicate m z) p ∙ sym (drop_of_length-le (replicate m z) q)))
