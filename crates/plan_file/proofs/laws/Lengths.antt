-- How long the bytes of a plan are (`length-encode`, `length-bytes_of`).
use Rattle.std.specs.Prelude.{ℕ, ◌+◌, ◌*◌, ◌≡◌, refl, List, [], ◌∷◌, ◌++◌, length, get_or}
use Rattle.std.proofs.Common.{arith}
use Rattle.base.proofs.laws.Table.{length-tabulate}
use Rattle.plan.specs.Links.{Plan, links_of}
use Rattle.plan_file.specs.Layout.{plan_numbers, bytes_of, encode}

pub bytes_of-append : (xs ys : List ℕ) → bytes_of (xs ++ ys) ≡ bytes_of xs ++ bytes_of ys
unfolding bytes_of
bytes_of-append [] ys = refl
bytes_of-append (x ∷ xs) ys = rw (bytes_of-append xs ys)

pub length-bytes_of : (xs : List ℕ) → length (bytes_of xs) ≡ 2 * length xs
unfolding bytes_of
length-bytes_of [] = refl
length-bytes_of (x ∷ xs) = rw (length-bytes_of xs) (omega arith)

pub length-encode : (p : Plan) → length (encode p) ≡ 7 + 8 * links_of p
unfolding encode
length-encode p = simp length-bytes_of (omega (arith, length-tabulate (plan_numbers (links_of p)) (λ i. get_or p i 0)))
