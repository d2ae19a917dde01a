-- What a taken save passed (`SavePassed`, `save-passed`) and leaves (`taken-saves`): its own record is found and restored, the others as before; the same save
-- again leaves the same (`saved-again`).
use Rattle.std.specs.Prelude.{ℕ, ◌≤◌, ◌≡◌, ◌≢◌, Bool, true, false, cond, not, ◌&&◌, List, [], ◌∷◌, ◌++◌, eqb, ltb}
use Rattle.std.proofs.Common.{arith, sym, ◌∙◌}
use Rattle.std.proofs.Math.Path.{refl, ap, ap₂, subst}
use Rattle.std.proofs.Math.ListN.{length}
use borrow.Author.Tests.{ltb-false, le-ltb, ne_eqb, not-false}
use Rattle.base.specs.Ceiling.{ceiling}
use Rattle.base.specs.Loop.{After, taken_to}
use Rattle.base.specs.Pool.{All, nil, con}
use Rattle.base.specs.Refuse.{or_else, first_refusal}
use Rattle.base.specs.Test.{same_list}
use Rattle.base.proofs.laws.Cond.{bool_cases}
use Rattle.base.proofs.laws.Pool.{All-app, All-one}
use Rattle.base.proofs.laws.Refuse.{or_else-zero}
use Rattle.plan.specs.Trimmed.{trimmed}
use Rattle.plan.proofs.laws.Trimmed.{trimmed-same}
use Rattle.field.specs.Edges.{ceiling_of}
use Rattle.field.specs.Valid.{waiting_in}
use Rattle.field.specs.Held.{Held, layout, valid, not_set_up}
use Rattle.store.specs.Records.{records_in, joined, stored}
use Rattle.store.specs.Names.{name_fits, is_named, without_first, held_among, holds, shown_part}
use Rattle.store.specs.Layout.{record_bytes}
use Rattle.store.specs.Reading.{held_in}
use Rattle.store.specs.Calls.{store_fits, saved, save_refusal, save_point, find_refusal, find_point, part_at, point_of, restore_refusal, restore_point}
use Rattle.store.proofs.laws.Outcomes.{find-refusal}
use Rattle.store.specs.Tidied.{tidied, saved_of}
use Rattle.store.specs.Claims.{SaveLeaves, TakenSaves}
use Rattle.store_laws.proofs.Written.{saved-version, saved-size, saved-name}
use Rattle.store_records.specs.Walk.{IsRecord, all-records, laid-back, stored-length}
use Rattle.store_records.specs.Spots.{NonePass, without-keeps}
use Rattle.store_records.specs.Named.{same-equal, equal-same, held_first, shown-first, saved-own, saved-other, held-other}
use Rattle.store_records.specs.Fit.{fit-without, fit-saved, fit-records, stored-fits}
use Rattle.store_claims.proofs.OneLayout.{reads-back}

-- ---- what a save passed

pub record SavePassed (name : List ℕ) (h : Held) (s : List ℕ) : Type 0 where
  pub valid : valid h ≡ true
  pub whole : store_fits s ≡ true
  pub good : name_fits name ≡ true
  pub room : length (joined (saved name h s)) ≤ length s

module _ (name : List ℕ) (h : Held) (s : List ℕ) where
  pub save-passed : save_refusal name h s ≡ 0 → SavePassed name h s
  unfolding save_refusal
  save-passed z =
      let f31 = or_else-zero _ 30 z in
      let f76 = or_else-zero _ 75 f31.1 in
      let f77 = or_else-zero _ 76 f76.1 in
      let f78 = or_else-zero _ 77 f77.1 in
      record {
        valid = not-false _ f31.0;
        whole = not-false _ f76.0;
        good = not-false _ f77.0;
        room = ltb-false (length s) (length (joined (saved name h s))) f78.0;
      }

  pub passed-save : SavePassed name h s → save_refusal name h s ≡ 0
  unfolding save_refusal
  passed-save k = rw (k.valid, k.whole, k.good, le-ltb (length s) (length (joined (saved name h s))) k.room)

  -- what the store holds then
  pub save-taken : save_refusal name h s ≡ 0 → (save_point name h s).state ≡ stored (length s) (saved name h s)
  unfolding save_point
  save-taken z = rw z

  pub save-refused : save_refusal name h s ≢ 0 → (save_point name h s).state ≡ s
  unfolding save_point
  save-refused d = rw (ne_eqb (save_refusal name h s) 0 d)

-- ---- finding and restoring look at two things: the refusal and the part that is shown

abbrev restored_by : ℕ → Held → List ℕ → After Held
restored_by refused g lent =
    let r = first_refusal refused (or_else (ltb (length lent) (ceiling_of g.field.plan)) 21 0) in
    cond (eqb r 0) (taken_to (record { field = g.field; words = layout (length lent) g.words })) (not_set_up r lent)

module _ (name s : List ℕ) where
  find-part : part_at (find_point name s) s ≡ cond (eqb (find_refusal name s) 0) (shown_part name s) []
  unfolding find_point
  find-part = bool_cases (eqb (find_refusal name s) 0) (λ e. rw e) (λ e. rw e)

  find-passed : store_fits s ≡ true → find_refusal name s ≡ or_else (not (name_fits name && holds name s)) 77 0
  unfolding find_refusal
  find-passed e = rw e

  restore-by : (lent : List ℕ) → restore_point name s lent ≡ restored_by (find_refusal name s) (point_of name s) lent
  unfolding restore_point restore_refusal
  restore-by lent = refl

different : (a b : List ℕ) → a ≢ b → same_list a b ≡ false
different a b d = bool_cases (same_list a b) (λ t. absurd (d (same-equal a b t))) (λ f. f)

-- the last record leaves where none before it passes
own_out : (q : List ℕ → Bool) {rs : List (List ℕ)} (r : List ℕ) → NonePass q rs → q r ≡ true → without_first q (rs ++ (r ∷ [])) ≡ rs
unfolding without_first
own_out q r nil e = rw e
own_out q r (con {x} {xs} f t) e = rw f (ap (λ l. x ∷ l) (own_out q r t e))

-- ---- a taken save

module _ (name : List ℕ) (h : Held) (s : List ℕ) (k : SavePassed name h s) where
  abbrev r : List ℕ
  r = record_bytes name h

  abbrev others : List (List ℕ)
  others = without_first (is_named name) (records_in s)

  -- what the store holds then
  abbrev left : List ℕ
  left = stored (length s) (others ++ (r ∷ []))

  is-record : IsRecord r
  is-record = record { version = saved-version name h; sized = saved-size name h }

  is-own : is_named name r ≡ true
  is-own = equal-same (sym (saved-name name h))

  all_left : All IsRecord (others ++ (r ∷ []))
  all_left = All-app (without-keeps (is_named name) (all-records s)) (All-one is-record)

  left-fits : store_fits left ≡ true
  left-fits = stored-fits (length s) all_left (fit-saved name r (reads-back name h k.good k.valid).fits (saved-name name h) (fit-records s k.whole))

  left-room : length (joined (others ++ (r ∷ []))) ≤ length s
  unfolding saved
  left-room = k.room

  -- its own name
  own-shown : shown_part name left ≡ r
  own-shown = saved-own name r (all-records s) is-record is-own (length s) (fit-without name (fit-records s k.whole))

  own_held : holds name left ≡ true
  own_held = held_first name (records_in left) ∙ ap (λ t. not (eqb (length t) 0)) (sym (shown-first name left) ∙ own-shown) ∙ ap not (ne_eqb (length r) 0 (λ e. omega (arith, saved-size name h)))

  own-found : find_refusal name left ≡ 0
  own-found = find-passed name left left-fits ∙ ap₂ (λ a b. or_else (not (a && b)) 77 0) k.good own_held

  own-point : point_of name left ≡ saved_of h
  own-point = ap held_in own-shown ∙ (reads-back name h k.good k.valid).held

  own-restored : (lent : List ℕ) → ceiling_of h.field.plan ≤ length lent
      → restore_point name left lent ≡ taken_to (record { field = tidied h.field; words = layout (length lent) (waiting_in h.words) })
  unfolding saved_of tidied
  own-restored lent l =
      let p = h.field.plan in
      let c : ceiling_of (trimmed p) ≤ length lent = omega (arith, ap₂ ceiling (trimmed-same p).modules (trimmed-same p).links) in
      restore-by name left lent ∙ ap₂ (λ n g. restored_by n g lent) own-found own-point ∙ rw (le-ltb (length lent) (ceiling_of (trimmed p)) c)

  -- another name
  module _ (m : List ℕ) (d : m ≢ name) where
    apart : same_list m name ≡ false
    apart = different m name d

    other-shown : shown_part m left ≡ shown_part m s
    other-shown = saved-other name r (all-records s) is-record is-own (length s) m apart ∙ sym (shown-first m s)

    other-held : holds m left ≡ holds m s
    other-held = ap (held_among m) (laid-back (length s) all_left) ∙ held-other name r (all-records s) is-record is-own m apart

    other-found : find_refusal m left ≡ find_refusal m s
    other-found = find-passed m left left-fits ∙ ap (λ b. or_else (not (name_fits m && b)) 77 0) other-held ∙ sym (find-passed m s k.whole)

  -- the records then, and those that a save under the same name would leave
  left-records : records_in left ≡ others ++ (r ∷ [])
  left-records = laid-back (length s) all_left

  left-others : without_first (is_named name) (records_in left) ≡ others
  left-others = ap (without_first (is_named name)) left-records ∙ own_out (is_named name) r (fit-without name (fit-records s k.whole)) is-own

  left-long : length left ≡ length s
  left-long = stored-length (length s) (others ++ (r ∷ [])) left-room

  -- the same save again
  saved-there : saved name h left ≡ others ++ (r ∷ [])
  unfolding saved
  saved-there = ap (λ rs. rs ++ (r ∷ [])) left-others

  left_passed : SavePassed name h left
  left_passed = record { valid = k.valid; whole = left-fits; good = k.good; room = omega (arith, left-long, left-room, ap (λ rs. length (joined rs)) saved-there) }

  left-again : save_point name h left ≡ taken_to left
  unfolding save_point
  left-again = rw (passed-save name h left left_passed, saved-there, left-long)

  left_so : SaveLeaves name h s left
  left_so = record {
    found = find-refusal name left ∙ own-found;
    shows = find-part name left ∙ ap₂ (λ n (t : List ℕ). cond (eqb n 0) t []) own-found own-shown;
    others = λ m d. find-refusal m left ∙ other-found m d ∙ sym (find-refusal m s);
    others_show = λ m d. find-part m left ∙ ap₂ (λ n (t : List ℕ). cond (eqb n 0) t []) (other-found m d) (other-shown m d) ∙ sym (find-part m s);
    others_restore = λ m d lent. restore-by m left lent ∙ ap₂ (λ n t. restored_by n (held_in t) lent) (other-found m d) (other-shown m d) ∙ sym (restore-by m s lent);
    restores = own-restored;
    fits = left-fits;
    long = left-long;
  }

-- what the names show then: this one the new record, every other what it showed
module _ (name : List ℕ) (h : Held) (s : List ℕ) (z : (save_point name h s).refusal ≡ 0) where
  pub saved-shown : shown_part name (save_point name h s).state ≡ record_bytes name h
  unfolding save_point saved
  saved-shown = subst (λ t. shown_part name t ≡ record_bytes name h) (sym (save-taken name h s z)) (own-shown name h s (save-passed name h s z))

  pub others-shown : (m : List ℕ) → m ≢ name → shown_part m (save_point name h s).state ≡ shown_part m s
  unfolding save_point saved
  others-shown m d = subst (λ t. shown_part m t ≡ shown_part m s) (sym (save-taken name h s z)) (other-shown name h s (save-passed name h s z) m d)

pub taken-saves : TakenSaves
unfolding save_point saved
taken-saves name h s z = subst (SaveLeaves name h s) (sym (save-taken name h s z)) (left_so name h s (save-passed name h s z))

-- "dropped space is used again": the same save once more is taken, and leaves the store as it is
pub saved-again : (name : List ℕ) (h : Held) (s : List ℕ) → (save_point name h s).refusal ≡ 0 → save_point name h (save_point name h s).state ≡ taken_to (save_point name h s).state
unfolding save_point saved
saved-again name h s z = subst (λ t. save_point name h t ≡ taken_to t) (sym (save-taken name h s z)) (left-again name h s (save-passed name h s z))
