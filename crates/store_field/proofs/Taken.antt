-- What is read by number is the field of the numbers poured at their places: its cells (`cells-taken`), its marks (`marks-taken`).
use Prim.Native.Nat.{ℕ, ◌+◌, ◌*◌, ◌/◌, ◌%◌, ◌≤◌, ◌<◌}
use native.Mathlib.Omega.{arith}
use mathlib.Core.Path.{◌≡◌, refl, sym, ap, ◌∙◌}
use mathlib.Core.Logic.{⊎_elim}
use mathlib.Core.List.{List, map}
use lib.ListN.{length, take, drop, replicate, length-append, length-replicate, length-map, length-drop, get_or-replicate, get_or-append}
use lib.Seq.{get_or-take, get_or-drop, get_or-append-add, length-take-le}
use Rattle.base.specs.Limits.{max_modules, max_ends}
use Rattle.base.proofs.laws.Cond.{ltb-cases}
use Rattle.base.proofs.laws.Pool.{All-map}
use Rattle.base.specs.Table.{tabulate, upto}
use Rattle.base.proofs.laws.Table.{tabulated, upto-in, upto-out}
use Rattle.plan.specs.Links.{Plan, modules_of, links_of}
use Rattle.plan.proofs.laws.Accepted.{Accepted}
use Rattle.field.specs.Edges.{from}
use Rattle.field.specs.State.{WIDTH, CELLS, cell_of}
use Rattle.field.specs.Held.{fresh_cells}
use Rattle.field.proofs.laws.Held.{fresh-length}
use Rattle.store.specs.Layout.{places, places_below}
use Rattle.store.specs.Reading.{number_in, fresh_entries, entries_in, field_in}
use Rattle.store_laws.proofs.Places.{places-apart, places-inside}
use Rattle.store_laws.proofs.Pour.{poured-keeps, poured-length}
use Rattle.store_field.specs.Ends.{ends_below, cell_number, mark_number, entry}
use Rattle.store_field.specs.Parts.{cut_mark}
use Rattle.store_field.proofs.laws.Cut.{entry-cut}
use Rattle.store_field.proofs.Standing.{stands-poured, cell-stands, mark-stands}

fresh-long : length fresh_entries ≡ CELLS + max_ends
fresh-long = omega (arith, length-append (fresh_cells max_modules) (replicate max_ends 0), fresh-length max_modules, length-replicate {A = ℕ} max_ends 0)

module _ (p : Plan) (a : Accepted p) (numbers : List ℕ) where
  abbrev all : List ℕ
  all = entries_in p numbers

  all-long : length all ≡ CELLS + max_ends
  all-long = poured-length (number_in numbers) 1 (places p) fresh_entries ∙ fresh-long

  -- the entries at no place
  kept : (i : ℕ) → modules_of p * WIDTH ≤ i → (CELLS ≤ i → CELLS + 2 * links_of p ≤ i) → entry all i ≡ entry fresh_entries i
  kept i l m = poured-keeps (number_in numbers) i 1
      (All-map (λ j h e. ⊎_elim (λ b. omega arith) (λ b. omega (arith, m (omega (arith, b.0)), b.1)) h) (places-inside p)) fresh_entries

  cell-read : (i : ℕ) → i < modules_of p * WIDTH → entry all i ≡ number_in numbers (cell_number p i)
  cell-read i l =
      let v = i / WIDTH in
      let j = i % WIDTH in
      let e : cell_of v j ≡ i = omega arith in
      let n : 1 + (length (places_below p v) + j) ≡ cell_number p i = omega arith in
      ap (entry all) (sym e)
      ∙ stands-poured (number_in numbers) 1 (places-apart p a) (cell-stands p v j (omega arith) (omega arith)) fresh_entries (omega (arith, fresh-long, a.modules_ok))
      ∙ ap (number_in numbers) n

  mark-read : (d : ℕ) → d < 2 * links_of p → entry all (CELLS + d) ≡ number_in numbers (mark_number p d)
  mark-read d l =
      let v = from p d in
      let n : 1 + (length (places_below p v) + (WIDTH + ends_below p v d)) ≡ mark_number p d = omega arith in
      stands-poured (number_in numbers) 1 (places-apart p a) (mark-stands p a d l) fresh_entries (omega (arith, fresh-long, a.links_ok)) ∙ ap (number_in numbers) n

  pub cells-taken : (cells : List ℕ) → cells ≡ fresh_cells max_modules → {c : List ℕ}
      → c ≡ tabulate CELLS (upto (modules_of p * WIDTH) (λ i. number_in numbers (cell_number p i)) (entry cells)) → c ≡ (field_in p numbers).cells
  cells-taken cells z h = h ∙ sym (tabulated CELLS (upto n f (entry cells)) (take CELLS all) (length-take-le CELLS all (omega (arith, all-long)))
      (λ i l. get_or-take CELLS all i 0 l ∙ ltb-cases i n (λ b. entry all i ≡ upto n f (entry cells) i)
      (λ m. cell-read i m ∙ sym (upto-in n f (entry cells) i m))
      (λ m. kept i m (λ c. omega arith) ∙ get_or-append (fresh_cells max_modules) (replicate max_ends 0) 0 i (omega (arith, fresh-length max_modules))
      ∙ ap (λ s. entry s i) (sym z) ∙ sym (upto-out n f (entry cells) i m))))
    where
      n : ℕ
      n = modules_of p * WIDTH

      f : ℕ → ℕ
      f i = number_in numbers (cell_number p i)

  zero-kept : (d : ℕ) → 2 * links_of p ≤ d → d < max_ends → entry all (CELLS + d) ≡ 0
  zero-kept d l m =
      kept (CELLS + d) (omega (arith, a.modules_ok)) (λ c. omega arith)
      ∙ ap (λ (n : ℕ). entry fresh_entries (n + d)) (sym (fresh-length max_modules)) ∙ get_or-append-add (fresh_cells max_modules) (replicate max_ends 0) d 0 ∙ get_or-replicate max_ends d 0 0 m

  cut-zero : cut_mark 0 ≡ 0
  unfolding cut_mark
  cut-zero = refl

  pub marks-taken : (marks : List ℕ) → marks ≡ replicate max_ends 0 → {m : List ℕ}
      → m ≡ tabulate max_ends (upto (2 * links_of p) (λ d. cut_mark (number_in numbers (mark_number p d))) (entry marks)) → m ≡ map cut_mark (field_in p numbers).marks
  marks-taken marks z h = h ∙ sym (tabulated max_ends (upto n f (entry marks)) (map cut_mark (drop CELLS all))
      (length-map (drop CELLS all) cut_mark ∙ omega (arith, length-drop CELLS all, all-long))
      (λ d l. entry-cut (drop CELLS all) d ∙ ap cut_mark (get_or-drop CELLS all d 0) ∙ ltb-cases d n (λ b. cut_mark (entry all (CELLS + d)) ≡ upto n f (entry marks) d)
      (λ m. ap cut_mark (mark-read d m) ∙ sym (upto-in n f (entry marks) d m))
      (λ m. ap cut_mark (zero-kept d m l) ∙ cut-zero ∙ sym (get_or-replicate max_ends d 0 0 l) ∙ ap (λ s. entry s d) (sym z) ∙ sym (upto-out n f (entry marks) d m))))
    where
      n : ℕ
      n = 2 * links_of p

      f : ℕ → ℕ
      f d = cut_mark (number_in numbers (mark_number p d))
