-- A field's numbers as bytes: written and read they are the tidied field (`field-read`); read and written, the same bytes (`numbers-back`). A field that was
-- read is tidy (`read-tidy`).
use Rattle.std.specs.Prelude.{ℕ, zero, suc, ◌+◌, ◌-◌, ◌*◌, ◌≤◌, ◌<◌, ◌≡◌, ◌≢◌, length, take, drop, replicate}
use native.Mathlib.Omega.{arith}
use Rattle.std.proofs.Math.Path.{refl, sym, ap, fun_ext}
use Rattle.std.proofs.Common.{subst, ◌∙◌, ⊎_elim, length-append, length-drop, get_or-append-add, length-take-le, lt-ltb, le-ltb}
use Rattle.std.proofs.Math.Bool.{cond}
use mathlib.Core.List.{List, [], ◌∷◌, map}
use Rattle.std.proofs.Math.ListN.{get_or, get_or-append}
use Rattle.std.proofs.lemmas.List.{get_or-replicate, length-replicate, length-map}
use Rattle.std.proofs.Math.Seq.{get_or-take, get_or-drop}
use Rattle.base.proofs.laws.Cond.{ltb-cases}
use Rattle.base.specs.Limits.{max_modules, max_ends, AllBytes}
use Rattle.base.specs.Pool.{All}
use Rattle.base.proofs.laws.Pool.{All-map}
use Rattle.base.specs.Table.{tabulate, upto}
use Rattle.base.proofs.laws.Table.{tabulated, tabulate-ext, upto-in, upto-out}
use Rattle.format_wide.proofs.laws.Wide.{at16-behind}
use Rattle.plan.specs.Links.{Plan, modules_of, links_of}
use Rattle.plan.proofs.laws.Accepted.{Accepted}
use Rattle.plan.specs.Trimmed.{trimmed}
use Rattle.plan_file.specs.Layout.{bytes_of, number_at}
use Rattle.plan_file.proofs.laws.Numbers.{number-of, bytes-numbers}
use Rattle.plan.proofs.laws.Trimmed.{trimmed-same}
use Rattle.field.specs.declared.Field.{Field}
use Rattle.field.specs.State.{WIDTH, CELLS}
use Rattle.field.specs.Held.{fresh_cells, field_from}
use Rattle.field.proofs.laws.Held.{fresh-length}
use Rattle.store.specs.Layout.{mark_place, entry_at, places, field_numbers}
use Rattle.store.specs.Reading.{number_in, poured, fresh_entries, entries_in, field_in}
use Rattle.store.specs.Tidied.{tidied}
use Rattle.store_laws.proofs.Pour.{poured-length, poured-keeps, poured-back, poured-at}
use Rattle.store_laws.proofs.Places.{IsPlace, places-apart, places-inside, places-below, cell-among, mark-among}
use Rattle.store_laws.proofs.Alike.{alike-places}

-- ---- 16-bit numbers and their bytes

number-in : (xs : List ℕ) (q : ℕ) → q < length xs → number_in (bytes_of xs) q ≡ get_or xs q 0
number-in xs q l = sym (at16-behind (0 ∷ []) (bytes_of xs) (2 * q)) ∙ number-of 0 xs q l

bytes-in : (s : List ℕ) (n : ℕ) → length s ≡ 2 * n → AllBytes s → bytes_of (tabulate n (number_in s)) ≡ s
bytes-in s n e b = ap bytes_of (tabulate-ext n (number_in s) (number_at (0 ∷ s)) (λ q l. sym (at16-behind (0 ∷ []) s (2 * q)))) ∙ bytes-numbers 0 s n e b

map_at : (g : ℕ → ℕ) (l : List ℕ) (j : ℕ) → j < length l → get_or (map g l) j 0 ≡ g (get_or l j 0)
map_at g [] j h = absurd (omega arith)
map_at g (x ∷ l) zero h = refl
map_at g (x ∷ l) (suc j) h = map_at g l j (omega arith)

-- ---- before anything is read

fresh-size : length fresh_entries ≡ CELLS + max_ends
fresh-size = omega (arith, length-append (fresh_cells max_modules) (replicate max_ends 0), fresh-length max_modules, length-replicate {A = ℕ} max_ends 0)

fresh-cell : (i : ℕ) → i < CELLS → get_or fresh_entries i 0 ≡ get_or (fresh_cells max_modules) i 0
fresh-cell i l = get_or-append (fresh_cells max_modules) (replicate max_ends 0) 0 i (omega (arith, fresh-length max_modules))

fresh-mark : (d : ℕ) → d < max_ends → get_or fresh_entries (mark_place d) 0 ≡ 0
fresh-mark d l = ap (λ n. get_or fresh_entries (n + d) 0) (sym (fresh-length max_modules)) ∙ get_or-append-add (fresh_cells max_modules) (replicate max_ends 0) d 0 ∙ get_or-replicate {A = ℕ} max_ends d 0 0 l

-- ---- an accepted plan's numbers f, poured in: past its modules and links nothing is changed

module _ (p : Plan) (a : Accepted p) (f : ℕ → ℕ) where
  abbrev filled : List ℕ
  filled = poured f 1 (places p) fresh_entries

  filled-size : length filled ≡ CELLS + max_ends
  filled-size = poured-length f 1 (places p) fresh_entries ∙ fresh-size

  -- i is no place
  off : (i : ℕ) → (IsPlace p i → ⊥) → All (λ j. i ≢ j) (places p)
  off i n = All-map (λ j h e. n (subst (IsPlace p) (sym e) h)) (places-inside p)

  past-cells : (i : ℕ) → i < CELLS → modules_of p * WIDTH ≤ i → get_or filled i 0 ≡ get_or (fresh_cells max_modules) i 0
  past-cells i l m = poured-keeps f i 1 (off i (⊎_elim (λ h. omega arith) (λ h. omega (arith, h.0)))) fresh_entries ∙ fresh-cell i l

  past-marks : (d : ℕ) → d < max_ends → 2 * links_of p ≤ d → get_or filled (mark_place d) 0 ≡ 0
  past-marks d l m = poured-keeps f (mark_place d) 1 (off (mark_place d) (⊎_elim (λ h. omega (arith, a.modules_ok)) (λ h. omega (arith, h.1)))) fresh_entries ∙ fresh-mark d l

  cells-are : (g : ℕ → ℕ) → ((i : ℕ) → i < modules_of p * WIDTH → get_or filled i 0 ≡ g i)
      → take CELLS filled ≡ tabulate CELLS (upto (modules_of p * WIDTH) g (λ i. get_or (fresh_cells max_modules) i 0))
  cells-are g h = tabulated CELLS rule (take CELLS filled) (length-take-le CELLS filled (omega (arith, filled-size))) (λ i l. get_or-take CELLS filled i 0 l
      ∙ ltb-cases i (modules_of p * WIDTH) (λ b. get_or filled i 0 ≡ rule i)
      (λ m. h i m ∙ sym (upto-in (modules_of p * WIDTH) g (λ i. get_or (fresh_cells max_modules) i 0) i m))
      (λ m. past-cells i l m ∙ sym (upto-out (modules_of p * WIDTH) g (λ i. get_or (fresh_cells max_modules) i 0) i m)))
    where
      rule : ℕ → ℕ
      rule = upto (modules_of p * WIDTH) g (λ i. get_or (fresh_cells max_modules) i 0)

  marks-are : (g : ℕ → ℕ) → ((d : ℕ) → d < 2 * links_of p → get_or filled (mark_place d) 0 ≡ g d)
      → drop CELLS filled ≡ tabulate max_ends (upto (2 * links_of p) g (λ d. 0))
  marks-are g h = tabulated max_ends (upto (2 * links_of p) g (λ d. 0)) (drop CELLS filled) (omega (arith, length-drop CELLS filled, filled-size)) (λ d l. get_or-drop CELLS filled d 0
      ∙ ltb-cases d (2 * links_of p) (λ b. get_or filled (mark_place d) 0 ≡ upto (2 * links_of p) g (λ d. 0) d)
      (λ m. h d m ∙ sym (upto-in (2 * links_of p) g (λ d. 0) d m))
      (λ m. past-marks d l m ∙ sym (upto-out (2 * links_of p) g (λ d. 0) d m)))

field-same : (p : Plan) {c c' m m' : List ℕ} {n n' : ℕ} → c ≡ c' → m ≡ m' → n ≡ n' → field_from p c m n ≡ field_from p c' m' n'
field-same p a b c = rw (a, b, c)

-- ---- WRITTEN, THEN READ

-- what is written of a field behind its plan
abbrev pub numbers_of : Field → List ℕ
numbers_of f = f.sent ∷ map (entry_at f) (places f.plan)

-- the number at a cell's place, at a mark's
module _ (f : Field) where
  pub entry-cell : (i : ℕ) → i < CELLS → entry_at f i ≡ get_or f.cells i 0
  unfolding entry_at
  entry-cell i l = rw (lt-ltb i CELLS l)

  pub entry-mark : (d : ℕ) → entry_at f (mark_place d) ≡ get_or f.marks d 0
  unfolding entry_at
  entry-mark d = rw (le-ltb (CELLS + d) CELLS (omega arith)) (ap (λ k. get_or f.marks k 0) (let e : CELLS + d - CELLS ≡ d = omega arith in e))

module _ (f : Field) (a : Accepted f.plan) where
  abbrev own : ℕ → ℕ
  own = number_in (bytes_of (numbers_of f))

  valued : (j : ℕ) → j < length (places f.plan) → own (1 + j) ≡ entry_at f (get_or (places f.plan) j 0)
  valued j l =
      let e : 1 + j ≡ suc j = omega arith in
      number-in (numbers_of f) (1 + j) (omega (arith, length-map (places f.plan) (entry_at f))) ∙ ap (λ k. get_or (numbers_of f) k 0) e ∙ map_at (entry_at f) (places f.plan) j l

  cells-read : take CELLS (filled f.plan a own) ≡ (tidied f).cells
  unfolding tidied
  cells-read = cells-are f.plan a own (λ i. get_or f.cells i 0)
      (λ i m. poured-at own (entry_at f) i 1 (cell-among f.plan i m) fresh_entries valued (omega (arith, fresh-size, a.modules_ok)) ∙ entry-cell f i (omega (arith, a.modules_ok)))

  marks-read : drop CELLS (filled f.plan a own) ≡ (tidied f).marks
  unfolding tidied
  marks-read = marks-are f.plan a own (λ d. get_or f.marks d 0)
      (λ d m. poured-at own (entry_at f) (mark_place d) 1 (mark-among f.plan a d m) fresh_entries valued (omega (arith, fresh-size, a.links_ok)) ∙ entry-mark f d)

  pub field-read : field_in (trimmed f.plan) (bytes_of (numbers_of f)) ≡ tidied f
  unfolding tidied
  field-read =
      ap (λ is. field_from (trimmed f.plan) (take CELLS (poured own 1 is fresh_entries)) (drop CELLS (poured own 1 is fresh_entries)) (own 0)) (sym (alike-places (trimmed-same f.plan)))
      ∙ field-same (trimmed f.plan) cells-read marks-read (number-in (numbers_of f) 0 (omega arith))

-- ---- READ, THEN WRITTEN

module _ (p : Plan) (a : Accepted p) (s : List ℕ) where
  entry_read : (i : ℕ) → entry_at (field_in p s) i ≡ get_or (entries_in p s) i 0
  unfolding entry_at
  entry_read i = ltb-cases i CELLS (λ b. cond b (get_or (take CELLS (entries_in p s)) i 0) (get_or (drop CELLS (entries_in p s)) (i - CELLS) 0) ≡ get_or (entries_in p s) i 0)
      (λ l. get_or-take CELLS (entries_in p s) i 0 l)
      (λ l. get_or-drop CELLS (entries_in p s) (i - CELLS) 0 ∙ ap (λ k. get_or (entries_in p s) k 0) (let e : CELLS + (i - CELLS) ≡ i = omega arith in e))

  entries-back : map (entry_at (field_in p s)) (places p) ≡ tabulate (length (places p)) (λ j. number_in s (suc j))
  entries-back =
      ap (λ (g : ℕ → ℕ). map g (places p)) (fun_ext entry_read)
      ∙ poured-back (number_in s) 1 (places-apart p a) fresh_entries (subst (λ n. All (λ i. i < n) (places p)) (sym fresh-size) (places-below p a))
      ∙ tabulate-ext (length (places p)) (λ j. number_in s (1 + j)) (λ j. number_in s (suc j)) (λ j l. ap (number_in s) (let e : 1 + j ≡ suc j = omega arith in e))

  pub numbers-back : length s ≡ 2 * field_numbers p → AllBytes s → bytes_of (number_in s 0 ∷ map (entry_at (field_in p s)) (places p)) ≡ s
  unfolding tabulate
  numbers-back l b = ap (λ (xs : List ℕ). bytes_of (number_in s 0 ∷ xs)) entries-back ∙ bytes-in s (suc (length (places p))) (omega arith) b

  pub read-tidy : trimmed p ≡ p → tidied (field_in p s) ≡ field_in p s
  unfolding tidied
  read-tidy t =
      ap (λ q. field_from q (tidied (field_in p s)).cells (tidied (field_in p s)).marks (number_in s 0)) t
      ∙ field-same p
      (sym (cells-are p a (number_in s) (λ i. get_or (take CELLS (entries_in p s)) i 0) (λ i m. sym (get_or-take CELLS (entries_in p s) i 0 (omega (arith, a.modules_ok))))))
      (sym (marks-are p a (number_in s) (λ d. get_or (drop CELLS (entries_in p s)) d 0) (λ d m. sym (get_or-drop CELLS (entries_in p s) d 0))))
      refl
