-- What the claims alone tell. One layout: `same_name`, `same-saved`, `same-fields`, `same_length`, and back `same-record`. Saves: `comes-whole`, `both_found`,
-- `first-restored`, `as_long`. Any sequence: `save-never-76`, `find-never-76`, `restore-never-76`, `room-for-one`; a store of zeros is whole (`zeros-whole`).
use Rattle.std.specs.Prelude.{ℕ, ◌*◌, ◌-◌, ◌≤◌, ◌<◌, ◌≡◌, ◌≢◌, true, not, ◌&&◌, replicate, eqb, leb, ltb}
use Rattle.std.proofs.Common.{arith, sym, subst, ◌∙◌}
use Rattle.std.proofs.Math.Path.{refl, ap, ap₂}
use Rattle.std.proofs.Math.Bool.{and-eq-true_iff}
use mathlib.Core.List.{List, [], ◌∷◌}
use Rattle.std.proofs.Math.ListN.{length, length-replicate}
use borrow.Author.Tests.{leb-true}
use Rattle.base.specs.Loop.{taken_to}
use Rattle.base.specs.Pool.{nil}
use Rattle.base.proofs.laws.Cond.{by-eq, cond_has}
use Rattle.plan.specs.Links.{Plan, links_of}
use Rattle.plan.specs.Same.{Same}
use Rattle.plan.proofs.laws.Accepted.{accepted}
use Rattle.plan.proofs.laws.Ceiling.{ceiling-small}
use Rattle.field.specs.declared.Field.{Field}
use Rattle.field.specs.Edges.{ceiling_of}
use Rattle.field.specs.State.{WIDTH}
use Rattle.field.specs.Valid.{all_of, waiting_in}
use Rattle.field.specs.Held.{Held, layout, state_of, valid, set_up}
use Rattle.field_calls.specs.Call.{Call, after}
use Rattle.field_laws.proofs.Fits.{fits-facts}
use Rattle.field_laws.proofs.Laid.{valid-parts, layout-back}
use Rattle.store.specs.Records.{records_in, joined, stored}
use Rattle.store.specs.Names.{is_letter, longest_name, name_fits, name_in, without_first, holds}
use Rattle.store.specs.Layout.{record_bytes, longest_record}
use Rattle.store.specs.Reading.{held_in}
use Rattle.store.specs.Calls.{store_fits, save_refusal, save_point, find_refusal, find_point, part_at, point_of, restore_refusal, restore_point}
use Rattle.store.specs.Tidied.{tidied, saved_of}
use Rattle.store.specs.Claims.{SameField, record_length, OneLayout, TakenSaves, Save, all_saved, StaysWhole}
use Rattle.store_laws.proofs.Written.{saved-version, saved-size}
use Rattle.store_laws.proofs.Fitting.{saved-bytes}
use Rattle.store_records.specs.Walk.{laid-back}
use Rattle.store_records.specs.Fit.{fit_none, stored-fits}
use Rattle.store.proofs.laws.Outcomes.{find-refusal, restore-refusal}
use Rattle.store_claims.proofs.Saves.{save-passed, save-refused}

-- ---- one layout

-- two fields that what is kept of them agrees with
module _ {f g k : Field} (a : SameField f k) (b : SameField g k) where
  same-links : links_of f.plan ≡ links_of g.plan
  same-links = a.plan.links ∙ sym b.plan.links

  other-end : {i : ℕ} → i < links_of f.plan → i < links_of g.plan
  other-end l = omega (arith, same-links)

  plans-agree : Same f.plan g.plan
  plans-agree = record {
    modules = a.plan.modules ∙ sym b.plan.modules;
    links = same-links;
    lows = λ i l. a.plan.lows i l ∙ sym (b.plan.lows i (other-end l));
    highs = λ i l. a.plan.highs i l ∙ sym (b.plan.highs i (other-end l));
    nears = λ i l. a.plan.nears i l ∙ sym (b.plan.nears i (other-end l));
    fars = λ i l. a.plan.fars i l ∙ sym (b.plan.fars i (other-end l));
  }

  fields-agree : SameField f g
  fields-agree = record {
    plan = plans-agree;
    values = λ i l. a.values i l ∙ sym (b.values i (subst (λ n. i < n * WIDTH) plans-agree.modules l));
    marks = λ d l. a.marks d l ∙ sym (b.marks d (subst (λ n. d < 2 * n) plans-agree.links l));
    sent = a.sent ∙ sym b.sent;
  }

module _ (c : OneLayout) where
  module _ (name other : List ℕ) (h g : Held) (n : name_fits name ≡ true) (o : name_fits other ≡ true) (v : valid h ≡ true) (w : valid g ≡ true)
      (e : record_bytes name h ≡ record_bytes other g) where
    -- the same record: the same name, the same field and words kept, the same field but for what 31 does not look at, as long
    pub same_name : name ≡ other
    same_name = sym (c.written name h n v).named ∙ ap name_in e ∙ (c.written other g o w).named

    pub same-saved : saved_of h ≡ saved_of g
    same-saved = sym (c.written name h n v).held ∙ ap held_in e ∙ (c.written other g o w).held

    pub same-fields : SameField h.field g.field
    same-fields = fields-agree (c.written name h n v).same (subst (λ (k : Held). SameField g.field k.field) (sym same-saved) (c.written other g o w).same)

    pub same_length : record_length name h ≡ record_length other g
    same_length = sym (c.written name h n v).size ∙ ap length e ∙ (c.written other g o w).size

  -- and back: a record depends on nothing but what is kept
  kept_record : (name : List ℕ) (h : Held) → name_fits name ≡ true → valid h ≡ true → record_bytes name (saved_of h) ≡ record_bytes name h
  kept_record name h n v =
      let k = c.written name h n v in
      ap₂ record_bytes (sym k.named) (sym k.held) ∙ c.again (record_bytes name h) (saved-bytes h v name n) (saved-version name h) (saved-size name h) k.fits

  pub same-record : (name : List ℕ) (h g : Held) → name_fits name ≡ true → valid h ≡ true → valid g ≡ true → saved_of h ≡ saved_of g → record_bytes name h ≡ record_bytes name g
  same-record name h g n v w e = sym (kept_record name h n v) ∙ ap (record_bytes name) e ∙ kept_record name g n w

-- ---- saves

module _ (t : TakenSaves) where
  -- a field from setup, saved and restored into as many words, is what it was
  pub comes-whole : OneLayout → (p : Plan) (lent : List ℕ) → (set_up p lent).refusal ≡ 0 → (calls : List Call) (name s words : List ℕ)
      → (save_point name (after calls (set_up p lent).state) s).refusal ≡ 0 → length words ≡ length (after calls (set_up p lent).state).words
      → restore_point name (save_point name (after calls (set_up p lent).state) s).state words ≡ taken_to (after calls (set_up p lent).state)
  unfolding save_point
  comes-whole c p lent z calls name s words y l =
      let h = after calls (set_up p lent).state in
      let k = valid-parts h (save-passed name h s y).valid in
      (t name h s y).restores words (omega (arith, leb-true (ceiling_of h.field.plan) (length h.words) k.1))
      ∙ ap₂ (λ f ws. taken_to (record { field = f; words = ws })) (c.whole p lent z calls) (ap (λ n. layout n (waiting_in h.words)) l ∙ layout-back h.words k.2)

  -- two saves under two names: both are found, and the first is restored
  module _ (a b : List ℕ) (h g : Held) (s : List ℕ) (d : a ≢ b) (y : (save_point a h s).refusal ≡ 0) (z : (save_point b g (save_point a h s).state).refusal ≡ 0) where
    abbrev both : List ℕ
    both = (save_point b g (save_point a h s).state).state

    pub both_found : ((find_point a both).refusal ≡ 0) × ((find_point b both).refusal ≡ 0) × (part_at (find_point a both) both ≡ record_bytes a h) × (part_at (find_point b both) both ≡ record_bytes b g)
    both_found =
        let x = t a h s y in
        let w = t b g (save_point a h s).state z in
        (w.others a d ∙ x.found, w.found, w.others_show a d ∙ x.shows, w.shows)

    pub first-restored : (lent : List ℕ) → ceiling_of h.field.plan ≤ length lent
        → restore_point a both lent ≡ taken_to (record { field = tidied h.field; words = layout (length lent) (waiting_in h.words) })
    first-restored lent l = (t b g (save_point a h s).state z).others_restore a d lent ∙ (t a h s y).restores lent l

  -- a store is as long as it was
  pub as_long : (l : List Save) (s : List ℕ) → length (all_saved l s) ≡ length s
  unfolding all_saved save_point
  as_long [] s = refl
  as_long (x ∷ l) s = as_long l (save_point x.name x.held s).state ∙ by-eq (save_refusal x.name x.held s) 0
      (λ z. (t x.name x.held s z).long) (λ d. ap length (save-refused x.name x.held s d))

-- ---- any sequence

short-name : (name : List ℕ) → name_fits name ≡ true → length name ≤ longest_name
unfolding name_fits
short-name name e = leb-true _ _ ((and-eq-true_iff (leb 1 (length name)) (leb (length name) longest_name)).0 ((and-eq-true_iff (leb 1 (length name) && leb (length name) longest_name) (all_of is_letter name)).0 e).0).1

-- a store of zeros
none-stored : (n : ℕ) → stored n [] ≡ replicate n 0
unfolding joined
none-stored n = ap (λ k. replicate k 0) (let e : n - 0 ≡ n = omega arith in e)

pub zeros-whole : (n : ℕ) → store_fits (replicate n 0) ≡ true
zeros-whole n = subst (λ s. store_fits s ≡ true) (none-stored n) (stored-fits n nil fit_none)

module _ (s : List ℕ) (e : store_fits s ≡ true) where
  save-not-76 : (name : List ℕ) (h : Held) → save_refusal name h s ≢ 76
  unfolding save_refusal
  save-not-76 name h = rw e (cond_has (λ r. r ≢ 76) (not (valid h)) 31 _ (λ q. omega arith) (cond_has (λ r. r ≢ 76) (not (name_fits name)) 77 _ (λ q. omega arith)
      (cond_has (λ r. r ≢ 76) (ltb (length s) (length (joined _))) 78 0 (λ q. omega arith) (λ q. omega arith))))

  find-not-76 : (name : List ℕ) → find_refusal name s ≢ 76
  unfolding find_refusal
  find-not-76 name = rw e (cond_has (λ r. r ≢ 76) (not (name_fits name && holds name s)) 77 0 (λ q. omega arith) (λ q. omega arith))

  restore-not-76 : (name lent : List ℕ) → restore_refusal name s lent ≢ 76
  unfolding restore_refusal
  restore-not-76 name lent = cond_has (λ r. r ≢ 76) (eqb (find_refusal name s) 0) _ (find_refusal name s)
      (cond_has (λ r. r ≢ 76) (ltb (length lent) (ceiling_of (point_of name s).field.plan)) 21 0 (λ q. omega arith) (λ q. omega arith)) (find-not-76 name)

module _ (w : StaysWhole) where
  -- whatever was saved in a whole store, taken or refused: no call answers 76
  module _ (s : List ℕ) (e : store_fits s ≡ true) (l : List Save) (name : List ℕ) where
    pub save-never-76 : (h : Held) → (save_point name h (all_saved l s)).refusal ≢ 76
    unfolding save_point
    save-never-76 h = save-not-76 (all_saved l s) (w.stays s e l) name h

    pub find-never-76 : (find_point name (all_saved l s)).refusal ≢ 76
    find-never-76 q = find-not-76 (all_saved l s) (w.stays s e l) name (sym (find-refusal name (all_saved l s)) ∙ q)

    pub restore-never-76 : (lent : List ℕ) → (restore_point name (all_saved l s) lent).refusal ≢ 76
    restore-never-76 lent q = restore-not-76 (all_saved l s) (w.stays s e l) name lent (sym (restore-refusal name (all_saved l s) lent) ∙ q)

  -- zeros enough take any field
  pub room-for-one : (name : List ℕ) (h : Held) → valid h ≡ true → name_fits name ≡ true → (n : ℕ) → longest_record ≤ n → (save_point name h (replicate n 0)).refusal ≡ 0
  unfolding joined without_first
  room-for-one name h v g n l =
      let p = h.field.plan in
      let z = (valid-parts h v).0 in
      let a = accepted p z in
      let f = fits-facts p (state_of h) (valid-parts h v).3 in
      let none : records_in (replicate n 0) ≡ [] = ap records_in (sym (none-stored n)) ∙ laid-back n nil in
      (w.exact name h (replicate n 0) v (zeros-whole n) g).1 (rw none
      (omega (arith, length-replicate {A = ℕ} n 0, short-name name g, a.modules_ok, a.links_ok, f.waiting, f.ceiling, ceiling-small p z)))
