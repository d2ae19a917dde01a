-- The ends of a module's links, which are the places of its marks among all marks, and how many; the numbers of values and marks; an entry of a list.
use Rattle.std.specs.Prelude.{ℕ, zero, suc, ◌+◌, ◌*◌, ◌/◌, ◌%◌, cond, List, [], ◌∷◌, ◌++◌, length, get_or, eqb}
use Rattle.base.specs.Cond.{bit}
use Rattle.base.specs.Limits.{max_modules}
use Rattle.base.specs.Table.{tabulate, upto}
use Rattle.plan.specs.Links.{Plan, links_of}
use Rattle.field.specs.Edges.{is_own, end_of, from}
use Rattle.field.specs.State.{WIDTH}
use Rattle.store.specs.Layout.{places_below}

-- the end of link k, if it is a link of module v
abbrev pub own_end : Plan → ℕ → ℕ → List ℕ
own_end p v k = cond (is_own p v k) (end_of p v k ∷ []) []

-- those of its links below k
unfoldable pub own_ends : Plan → ℕ → ℕ → List ℕ
own_ends p v zero = []
own_ends p v (suc k) = own_ends p v k ++ own_end p v k

-- entry i of a list, 0 past its end
abbrev pub entry : List ℕ → ℕ → ℕ
entry l i = get_or l i 0

-- how many directed links below d run from module v
unfoldable pub ends_below : Plan → ℕ → ℕ → ℕ
ends_below p v zero = 0
ends_below p v (suc d) = ends_below p v d + bit (eqb (from p d) v)

-- the number where module v's values begin, behind the count; that of cell i; that of the mark of directed link d
abbrev pub values_from : Plan → ℕ → ℕ
values_from p v = 1 + length (places_below p v)

abbrev pub cell_number : Plan → ℕ → ℕ
cell_number p i = values_from p (i / WIDTH) + i % WIDTH

abbrev pub mark_number : Plan → ℕ → ℕ
mark_number p d = values_from p (from p d) + ends_below p (from p d) d + WIDTH

-- by module: where the values begin of those below n, and how many ends the others have
abbrev pub laid_starts : Plan → ℕ → List ℕ
laid_starts p n = tabulate max_modules (upto n (values_from p) (λ v. ends_below p v (2 * links_of p)))
