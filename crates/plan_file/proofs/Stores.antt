-- What the stores of the writer leave (`write-turn`, `write-end`, `written-front`), and its outcomes: a plan refused (`w-refused`), 22 (`w-short`),
-- written (`w-written`).
use Prim.Native.Nat.{ℕ, ◌+◌, ◌*◌, ◌≤◌}
use native.Mathlib.Omega.{arith}
use native.Mathlib.Numerals.{add-one}
use mathlib.Core.Path.{◌≡◌, refl, ap, ◌∙◌}
use mathlib.Core.List.{List, [], ◌∷◌, ◌++◌}
use lib.ListN.{length, get_or, set, drop}
use lib.Seq.{sets, sets-eq}
use Rattle.base.specs.Limits.{max_links}
use Rattle.base.specs.Table.{tabulate}
use Rattle.base.proofs.laws.Table.{length-tabulate, tabulate-next}
use Rattle.base.proofs.laws.Sets.{sets-append}
use Rattle.format_int16.specs.Int16.{put16}
use Rattle.plan.proofs.laws.Accepted.{accepted}
use Rattle.plan.specs.Links.{Plan, links_of}
use Rattle.plan.specs.Refusal.{plan_refusal}
use Rattle.plan_file.specs.Layout.{plan_numbers, bytes_of, encode}
use Rattle.plan_file.specs.Writing.{size}
use Rattle.plan_file.proofs.laws.Lengths.{bytes_of-append, length-bytes_of, length-encode}
use Prim.Native.Nat.{◌<◌}
use mathlib.Core.Path.{sym}
use mathlib.Core.Logic.{◌≢◌}
use borrow.Author.Tests.{lt-ltb, le-ltb, ne_eqb}
use Rattle.base.specs.Loop.{After, taken_to, answering}
use Rattle.base.proofs.laws.Refuse.{answers-refused}
use Rattle.plan_file.specs.Writing.{write_refusal, write_plan}

-- no number yet, one more, all of them
module _ (f : ℕ → ℕ) (s : List ℕ) where
  pub put-start : s ≡ sets s 3 (bytes_of (tabulate 0 f))
  unfolding tabulate bytes_of
  put-start = refl

  pub write-turn : (t : List ℕ) (i : ℕ) → t ≡ sets s 3 (bytes_of (tabulate i f)) → put16 t (3 + 2 * i) (f i) ≡ sets s 3 (bytes_of (tabulate (i + 1) f))
  unfolding bytes_of
  write-turn t i e = let xs = bytes_of (tabulate i f) in rw (add-one (3 + 2 * i), add-one i, tabulate-next i f, bytes_of-append (tabulate i f) (f i ∷ []), e)
      (ap (λ n. sets (sets s 3 xs) n (bytes_of (f i ∷ []))) (let l : 3 + 2 * i ≡ 3 + length xs = omega (arith, length-bytes_of (tabulate i f), length-tabulate i f) in l)
      ∙ sets-append s 3 xs (bytes_of (f i ∷ [])))

pub write-end : (p : Plan) (s : List ℕ) (l : ℕ) {t u : List ℕ} → l ≡ links_of p → t ≡ put16 (set s 0 1) 1 (4 + 8 * l)
    → u ≡ sets t 3 (bytes_of (tabulate (plan_numbers (links_of p)) (λ i. get_or p i 0))) → u ≡ sets s 0 (encode p)
unfolding encode bytes_of
write-end p s l q e f = f ∙ rw (e, q)

-- THE WHOLE

pub taken-links : (p : Plan) → plan_refusal p ≡ 0 → links_of p ≤ max_links
taken-links p z = (accepted p z).links_ok

pub written-front : (p : Plan) (s : List ℕ) → size p ≤ length s → sets s 0 (encode p) ≡ encode p ++ drop (size p) s
written-front p s h =
    sets-eq (encode p) s 0 (omega (arith, length-encode p)) ∙ ap (λ n. encode p ++ drop n s) (let l : 0 + length (encode p) ≡ size p = omega (arith, length-encode p) in l)

-- THE OUTCOMES

pub w-links : (p : Plan) (r : ℕ) → r ≡ plan_refusal p → r ≡ 0 → links_of p ≤ max_links
w-links p r e z = (accepted p (sym e ∙ z)).links_ok

module _ (p : Plan) (s : List ℕ) (r : ℕ) (e : r ≡ plan_refusal p) where
  -- the writer's answer, for each outcome of its tests
  writes : (n : ℕ) → write_refusal p s ≡ n → answering n s (encode p ++ drop (size p) s) ≡ write_plan p s
  unfolding write_plan
  writes n q = ap (λ m. answering m s (encode p ++ drop (size p) s)) (sym q)

  pub w-refused : r ≢ 0 → ◌≡◌ {A = After (List ℕ)} (record { refusal = r; state = s }) (write_plan p s)
  unfolding write_refusal
  w-refused d = answers-refused r s (encode p ++ drop (size p) s) d ∙ writes r (rw (← e, ne_eqb r 0 d))

  module _ (z : r ≡ 0) where
    pub w-short : length s < size p → ◌≡◌ {A = After (List ℕ)} (record { refusal = 22; state = s }) (write_plan p s)
    unfolding write_refusal
    w-short h = writes 22 (rw (← e, z, lt-ltb (length s) (size p) h))

    pub w-written : size p ≤ length s → (t : List ℕ) → t ≡ sets s 0 (encode p) → ◌≡◌ {A = After (List ℕ)} (record { refusal = 0; state = t }) (write_plan p s)
    unfolding write_refusal
    w-written h t q = ap taken_to (q ∙ all) ∙ writes 0 (rw (← e, z, le-ltb (length s) (size p) h))
      where
        all : sets s 0 (encode p) ≡ encode p ++ drop (size p) s
        all = sets-eq (encode p) s 0 (omega (arith, length-encode p)) ∙ ap (λ n. encode p ++ drop n s) (let l : 0 + length (encode p) ≡ size p = omega (arith, length-encode p) in l)
