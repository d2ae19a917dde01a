-- Integers written behind others (`run_on`, `value_on`); a module's are its values and its marks (`module-run`), all are the count and theirs (`numbers-run`).
use Prim.Native.Nat.{ℕ, zero, suc, ◌+◌, ◌*◌, ◌<◌}
use native.Mathlib.Numerals.{add-one}
use native.Mathlib.Omega.{arith}
use mathlib.Core.Path.{◌≡◌, refl, sym, ap, ap₂, ◌∙◌}
use mathlib.Core.List.{List, [], ◌∷◌, ◌++◌, map, map-append, map-map}
use lib.ListN.{length, length-map, length-append}
use lib.Seq.{sets}
use Rattle.base.specs.Limits.{max_modules}
use Rattle.base.specs.Table.{tabulate}
use Rattle.base.proofs.laws.Table.{length-tabulate, tabulate-next, tabulate-ext}
use Rattle.format_int16.specs.Int16.{put16}
use Rattle.plan.specs.Links.{Plan, links_of}
use Rattle.plan_file.specs.Layout.{bytes_of}
use Rattle.plan_file.proofs.laws.Lengths.{bytes_of-append, length-bytes_of}
use Rattle.field.specs.State.{WIDTH, cell_of}
use Rattle.field.specs.Held.{field_from}
use Rattle.store.specs.Layout.{entry_at, mark_place, value_places, mark_places, module_places, places}
use Rattle.store_laws.proofs.FieldBytes.{entry-cell, entry-mark}
use Rattle.store_field.specs.Ends.{own_ends, entry}
use Rattle.store_field.specs.Parts.{parts_at}
use Rattle.store_field.proofs.Ends.{places-ends}
use Rattle.store_field.proofs.Bytes.{sets-on}

-- integers from number q on, and others behind them
numbers_on : (s t : List ℕ) (q r : ℕ) (xs ys : List ℕ) → r ≡ q + length xs → t ≡ sets s (2 * q) (bytes_of xs)
    → sets t (2 * r) (bytes_of ys) ≡ sets s (2 * q) (bytes_of (xs ++ ys))
numbers_on s t q r xs ys e h =
    sets-on s t (2 * q) (2 * r) (bytes_of xs) (bytes_of ys) (let l : 2 * r ≡ 2 * q + length (bytes_of xs) = omega (arith, length-bytes_of xs) in l) h
    ∙ ap (sets s (2 * q)) (sym (bytes_of-append xs ys))

-- the same of the entries at some places
pub run_on : (f : ℕ → ℕ) (s : List ℕ) (q r : ℕ) (is js : List ℕ) {t u : List ℕ} → r ≡ q + length is
    → t ≡ sets s (2 * q) (bytes_of (map f is)) → u ≡ sets t (2 * r) (bytes_of (map f js)) → u ≡ sets s (2 * q) (bytes_of (map f (is ++ js)))
run_on f s q r is js {t} {u} e g h = h
    ∙ numbers_on s t q r (map f is) (map f js) (e ∙ ap (λ (n : ℕ). q + n) (sym (length-map is f))) g
    ∙ ap (λ l. sets s (2 * q) (bytes_of l)) (sym (map-append f is js))

-- nothing yet
nothing_run : (s : List ℕ) (at : ℕ) → s ≡ sets s at (bytes_of [])
unfolding bytes_of
nothing_run s at = refl

-- nothing more, one more
pub run_none : (f : ℕ → ℕ) (s : List ℕ) (q : ℕ) (is : List ℕ) → is ≡ [] → (s ≡ sets s (2 * q) (bytes_of (map f is))) × (q ≡ q + length is)
run_none f s q is e = (nothing_run s (2 * q) ∙ ap (λ l. sets s (2 * q) (bytes_of (map f l))) (sym e), omega (arith, ap length e))

pub run-one : (f : ℕ → ℕ) (s : List ℕ) (q d : ℕ) (is : List ℕ) → is ≡ d ∷ [] → (put16 s (2 * q) (f d) ≡ sets s (2 * q) (bytes_of (map f is))) × (q + 1 ≡ q + length is)
unfolding bytes_of
run-one f s q d is e = (rw (add-one (2 * q)) (ap (λ l. sets s (2 * q) (bytes_of (map f l))) (sym e)), omega (arith, ap length e))

-- one more value
pub value-start : (f : ℕ → ℕ) (s : List ℕ) (at : ℕ) → s ≡ sets s at (bytes_of (tabulate 0 f))
unfolding tabulate bytes_of
value-start f s at = refl

pub value_on : (f : ℕ → ℕ) (s t : List ℕ) (q j : ℕ) → t ≡ sets s (2 * q) (bytes_of (tabulate j f)) → put16 t (2 * (q + j)) (f j) ≡ sets s (2 * q) (bytes_of (tabulate (j + 1) f))
unfolding bytes_of
value_on f s t q j e = rw (add-one (2 * (q + j)), add-one j, tabulate-next j f)
    (numbers_on s t q (q + j) (tabulate j f) (f j ∷ []) (ap (λ (n : ℕ). q + n) (sym (length-tabulate j f))) e)

-- A MODULE

map-tabulate : (f g : ℕ → ℕ) (n : ℕ) → map f (tabulate n g) ≡ tabulate n (λ j. f (g j))
unfolding tabulate
map-tabulate f g zero = refl
map-tabulate f g (suc n) = ap (λ l. f (g 0) ∷ l) (map-tabulate f (λ j. g (suc j)) n)

map-ext : (f g : ℕ → ℕ) → ((i : ℕ) → f i ≡ g i) → (is : List ℕ) → map f is ≡ map g is
map-ext f g h [] = refl
map-ext f g h (i ∷ is) = ap₂ (λ x l. x ∷ l) (h i) (map-ext f g h is)

module _ (cells marks : List ℕ) where
  values-part : (v : ℕ) → v < max_modules → tabulate WIDTH (λ j. entry cells (cell_of v j)) ≡ map (parts_at cells marks) (value_places v)
  values-part v l = sym (map-tabulate (parts_at cells marks) (cell_of v) WIDTH
      ∙ tabulate-ext WIDTH (λ j. parts_at cells marks (cell_of v j)) (λ j. entry cells (cell_of v j)) (λ j h. entry-cell (field_from [] cells marks 0) (cell_of v j) (omega arith)))

  marks-part : (p : Plan) (v k : ℕ) → map (entry marks) (own_ends p v k) ≡ map (parts_at cells marks) (mark_places p v k)
  marks-part p v k = sym (ap (map (parts_at cells marks)) (places-ends p v k) ∙ map-map (parts_at cells marks) mark_place (own_ends p v k)
      ∙ map-ext (λ d. parts_at cells marks (mark_place d)) (entry marks) (entry-mark (field_from [] cells marks 0)) (own_ends p v k))

  -- the values, then the marks
  pub module-run : (p : Plan) (v q : ℕ) (s : List ℕ) {t u : List ℕ} → v < max_modules → t ≡ sets s (2 * q) (bytes_of (tabulate WIDTH (λ j. entry cells (cell_of v j))))
      → u ≡ sets t (2 * (q + WIDTH)) (bytes_of (map (entry marks) (own_ends p v (links_of p)))) → u ≡ sets s (2 * q) (bytes_of (map (parts_at cells marks) (module_places p v)))
  module-run p v q s {t} {u} l g h = run_on (parts_at cells marks) s q (q + WIDTH) (value_places v) (mark_places p v (links_of p))
      (ap (λ (n : ℕ). q + n) (sym (length-tabulate WIDTH (cell_of v))))
      (g ∙ ap (λ l. sets s (2 * q) (bytes_of l)) (values-part v l))
      (h ∙ ap (λ l. sets t (2 * (q + WIDTH)) (bytes_of l)) (marks-part p v (links_of p)))

-- how many numbers a module has
pub module-size : (p : Plan) (v : ℕ) → length (module_places p v) ≡ WIDTH + length (own_ends p v (links_of p))
module-size p v = length-append (value_places v) (mark_places p v (links_of p))
    ∙ ap₂ (λ (m n : ℕ). m + n) (length-tabulate WIDTH (cell_of v)) (ap length (places-ends p v (links_of p)) ∙ length-map (own_ends p v (links_of p)) mark_place)

-- ALL NUMBERS: the count, then those of the modules

pub numbers-run : (p : Plan) (cells marks : List ℕ) (sent : ℕ) (s : List ℕ) {t u : List ℕ} → t ≡ put16 s 0 sent
    → u ≡ sets t 2 (bytes_of (map (parts_at cells marks) (places p))) → u ≡ sets s 0 (bytes_of (sent ∷ map (entry_at (field_from p cells marks sent)) (places p)))
unfolding bytes_of entry_at
numbers-run p cells marks sent s {t} {u} g h = h ∙ ap (λ l. sets l 2 (bytes_of (map (parts_at cells marks) (places p)))) g
