-- The parts of a record: the plan's bytes (`size-inside`, `plan-there`), what is behind them (`behind-there`), and of that the numbers and the words
-- (`numbers-`, `field-there`, `words-behind`).
use Prim.Native.Nat.{ℕ, ◌+◌, ◌-◌, ◌*◌, ◌/◌, ◌≤◌}
use native.Mathlib.Omega.{arith}
use mathlib.Core.Path.{◌≡◌, sym, ap, ap₂, subst, ◌∙◌}
use mathlib.Core.Bool.{true}
use mathlib.Core.List.{List}
use lib.ListN.{length, take, drop, length-take, take-append-drop}
use lib.Seq.{length-take-le, take-append_seam}
use Rattle.base.specs.Limits.{max_words}
use Rattle.base.proofs.laws.Ceiling.{ceiling-most}
use Rattle.base.proofs.laws.Table.{length-tabulate}
use Rattle.format_int16.specs.Int16.{at16}
use Rattle.plan.specs.Links.{Plan, modules_of, links_of}
use Rattle.plan.proofs.laws.Accepted.{Accepted, accepted}
use Rattle.plan_file.specs.Reading.{Loaded}
use Rattle.plan_file.proofs.laws.RoundTrip.{read-accepted}
use Rattle.field.specs.Edges.{ceiling_of}
use Rattle.store.specs.Names.{body_in}
use Rattle.store.specs.Layout.{field_numbers}
use Rattle.store.specs.Reading.{plan_bytes, plan_in, behind_plan, numbers_size, words_part, words_in, field_in, held_in, record_fits}
use Rattle.store_laws.proofs.ReadBack.{record-ok}
use Rattle.store_records.proofs.Bytes.{tail_all}
use Rattle.store_check.specs.Seen.{plan_size_in, PlanRead, NumbersThere}

-- how many bytes of a body are the plan's
module _ (s : List ℕ) where
  pub size-inside : (n : ℕ) → n ≡ plan_size_in s → n ≤ length s
  size-inside n e = omega (arith, length-take (3 + at16 s 1) s)

front-taken : (n : ℕ) (s : List ℕ) → take (length (take n s)) s ≡ take n s
front-taken n s = ap (take (length (take n s))) (sym (take-append-drop n s)) ∙ take-append_seam (take n s) (drop n s)

module _ (r body : List ℕ) (n : ℕ) (e : body ≡ body_in r) (k : n ≡ plan_size_in body) where
  pub plan-there : take n body ≡ plan_bytes r
  unfolding plan_bytes
  plan-there = ap (λ m. take m body) k ∙ front-taken (3 + at16 body 1) body ∙ ap (λ (s : List ℕ). take (3 + at16 s 1) s) e

  pub behind-there : take (length body - n) (drop n body) ≡ behind_plan r
  unfolding behind_plan plan_bytes
  behind-there = tail_all body n ∙ ap (λ m. drop m body) k ∙ ap (λ (s : List ℕ). drop (plan_size_in s) s) e

pub seen-accepted : {r : List ℕ} {p : Plan} → PlanRead r p → Accepted p
seen-accepted {r} h = subst Accepted (sym h.is) (accepted (plan_in r) (read-accepted (plan_bytes r) h.taken))

pub seen_size : {r : List ℕ} {p : Plan} → PlanRead r p → 2 * field_numbers p ≡ numbers_size r
seen_size h = ap (λ q. 2 * field_numbers q) h.is

pub seen-ceiling : {r : List ℕ} {p : Plan} → PlanRead r p → ceiling_of p ≤ max_words
seen-ceiling {r} {p} h = let a = seen-accepted h in ceiling-most (modules_of p) (links_of p) a.modules_ok a.links_ok

-- behind the plan, n bytes of numbers
module _ (r : List ℕ) (p : Plan) (h : NumbersThere r p) (n : ℕ) (k : n ≡ 2 * field_numbers p) (behind : List ℕ) (e : behind ≡ behind_plan r) where
  numbers-size : n ≡ numbers_size r
  numbers-size = k ∙ seen_size h.read

  pub numbers-inside : n ≤ length behind
  numbers-inside = omega (arith, numbers-size, h.room, ap length e)

  pub numbers-length : 2 * field_numbers p ≤ length (take n behind)
  numbers-length = omega (arith, k, length-take-le n behind numbers-inside)

  pub field-there : field_in p (take n behind) ≡ (held_in r).field
  unfolding held_in
  field-there = ap₂ field_in h.read.is (ap₂ (λ m (s : List ℕ). take m s) numbers-size e)

  pub words-behind : take (length behind - n) (drop n behind) ≡ words_part r
  words-behind = tail_all behind n ∙ ap₂ (λ m (s : List ℕ). drop m s) numbers-size e

pub words_count : (r : List ℕ) → length (held_in r).words ≡ length (words_part r) / 8
unfolding held_in
words_count r = length-tabulate _ _

-- the words' bytes
module _ (r part : List ℕ) (e : part ≡ words_part r) where
  pub words-are : words_in part ≡ (held_in r).words
  unfolding held_in
  words-are = ap words_in e

  pub words-counted : length part / 8 ≡ length (held_in r).words
  words-counted = ap (λ (s : List ℕ). length s / 8) e ∙ sym (words_count r)

-- what reading the plan answers
module _ (r : List ℕ) {x : ℕ} {p : Plan} (h : Loaded (plan_bytes r) x p) where
  pub plan-read : x ≡ 0 → PlanRead r p
  plan-read z = record { taken = sym h.right ∙ z; is = h.loaded z }

  pub plan-held : record_fits r ≡ true → p ≡ (held_in r).field.plan
  unfolding held_in
  plan-held fit = h.loaded (h.right ∙ (record-ok r fit).plan)
