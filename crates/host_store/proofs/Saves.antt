-- Saving by its outcomes: `save-31`, `save-76`, `save-77`, `save-78`, `save-done`; what stays and what comes (`replaced`); bounds that the calls below ask for.
use Prim.Native.Nat.{ℕ, ◌+◌, ◌-◌, ◌≤◌, ◌<◌}
use native.Mathlib.Omega.{arith}
use mathlib.Core.Path.{◌≡◌, refl, sym, ap, ap₂, ◌∙◌}
use mathlib.Core.Bool.{true, false, ◌&&◌, and-eq-true_iff}
use mathlib.Core.List.{List, [], ◌∷◌, ◌++◌, append-nil}
use lib.ListN.{length, take, drop, length-append}
use lib.Seq.{sets}
use lib.Dec.{leb}
use borrow.Author.Tests.{lt-ltb, le-ltb, leb-true}
use Rattle.base.specs.Loop.{taken_to, refused_by, answering}
use Rattle.base.specs.Limits.{max_words}
use Rattle.plan.proofs.laws.Ceiling.{ceiling-small}
use Rattle.plan.proofs.laws.Accepted.{accepted}
use Rattle.field.specs.Valid.{all_of, waiting_in}
use Rattle.field.specs.Held.{Held, state_of, valid}
use Rattle.field_laws.proofs.Fits.{FieldFits, fits-facts}
use Rattle.field_laws.proofs.Laid.{valid-parts}
use Rattle.store.specs.Records.{records_in, joined, stored}
use Rattle.store.specs.Names.{is_letter, longest_name, name_fits, is_named, without_first}
use Rattle.store.specs.Layout.{record_bytes, record_size}
use Rattle.store.specs.Calls.{store_fits, saved, save_refusal, save_point}
use Rattle.store_records.specs.Walk.{all-records, joined-append, laid-back, used-fits}
use Rattle.store_records.specs.Spots.{lengths, without-keeps, comes}
use Rattle.store_field.proofs.laws.Sizes.{record-size, record-with}
use Rattle.store_field.proofs.Bytes.{part-back}

-- the record of the name has left, the new one comes behind the others
module _ (name s t : List ℕ) (left : t ≡ stored (length s) (without_first (is_named name) (records_in s))) where
  abbrev others : List (List ℕ)
  others = without_first (is_named name) (records_in s)

  pub used-left : (a : ℕ) → a ≡ length (joined (records_in t)) → a ≡ length (joined others)
  used-left a e = e ∙ ap (λ l. length (joined (records_in l))) left ∙ ap (λ rs. length (joined rs)) (laid-back (length s) (without-keeps (is_named name) (all-records s)))

  -- the new record is written in the part behind them
  pub replaced : (a : ℕ) (r y : List ℕ) → a ≡ length (joined others) → length (joined others) + length r ≤ length s → length t ≡ length s
      → y ≡ sets (take (length t - a) (drop a t)) 0 r → take a t ++ (y ++ drop (length t - a) (drop a t)) ≡ stored (length s) (others ++ (r ∷ []))
  replaced a r y e l n q = part-back t y a r (omega (arith, e, l, n)) q ∙ ap₂ (λ x k. sets x k r) left e ∙ comes (length s) others r l

module _ (name : List ℕ) (h : Held) (s : List ℕ) where
  saves : (n : ℕ) → save_refusal name h s ≡ n → answering n s (stored (length s) (saved name h s)) ≡ save_point name h s
  unfolding save_point
  saves n q = ap (λ m. answering m s (stored (length s) (saved name h s))) (sym q)

  pub save-31 : valid h ≡ false → refused_by 31 s ≡ save_point name h s
  unfolding save_refusal
  save-31 v = saves 31 (rw v)

  module _ (v : valid h ≡ true) where
    pub save-76 : store_fits s ≡ false → refused_by 76 s ≡ save_point name h s
    unfolding save_refusal
    save-76 f = saves 76 (rw (v, f))

    module _ (f : store_fits s ≡ true) where
      pub save-77 : name_fits name ≡ false → refused_by 77 s ≡ save_point name h s
      unfolding save_refusal
      save-77 g = saves 77 (rw (v, f, g))

      module _ (g : name_fits name ≡ true) where
        abbrev stays : List (List ℕ)
        stays = without_first (is_named name) (records_in s)

        -- how long the records would be
        saved-long : length (joined (saved name h s)) ≡ length (joined stays) + length (record_bytes name h)
        unfolding saved joined
        saved-long =
            ap length (joined-append stays (record_bytes name h ∷ [])) ∙ length-append (joined stays) (record_bytes name h ++ [])
            ∙ ap (λ r. length (joined stays) + length r) (append-nil (record_bytes name h))

        size_is : (n : ℕ) → n ≡ length (waiting_in h.words) → length (record_bytes name h) ≡ record_size h.field.plan (length name) n
        size_is n e = ap length (sym (record-with name h (waiting_in h.words) refl)) ∙ record-size name h.field (waiting_in h.words) (accepted _ (valid-parts h v).0) ∙ ap (record_size h.field.plan (length name)) (sym e)

        module _ (n a size : ℕ) (waits : n ≡ length (waiting_in h.words)) (stay : a ≡ length (joined stays)) (is : size ≡ record_size h.field.plan (length name) n) where
          pub save-78 : length s - a < size → refused_by 78 s ≡ save_point name h s
          unfolding save_refusal
          save-78 l = saves 78 (rw (v, f, g, lt-ltb (length s) (length (joined (saved name h s))) (omega (arith, saved-long, size_is n waits, stay, is, l))))

          pub save-done : size ≤ length s - a → a ≤ length s → (t : List ℕ) → t ≡ stored (length s) (stays ++ (record_bytes name h ∷ [])) → taken_to t ≡ save_point name h s
          unfolding save_refusal saved
          save-done l m t e = ap taken_to e ∙ saves 0 (rw (v, f, g, le-ltb (length s) (length (joined (saved name h s))) (omega (arith, saved-long, size_is n waits, stay, is, l, m))))

-- WHAT THE CALLS BELOW ASK FOR

pub kept-fits : (name s : List ℕ) → length (joined (without_first (is_named name) (records_in s))) ≤ length s
kept-fits name s = omega (arith, lengths (is_named name) 0 (records_in s), used-fits s)

pub name-bound : (name : List ℕ) → name_fits name ≡ true → length name ≤ longest_name
unfolding name_fits
name-bound name g =
    let a = (and-eq-true_iff (leb 1 (length name) && leb (length name) longest_name) (all_of is_letter name)).0 g in
    leb-true (length name) longest_name ((and-eq-true_iff (leb 1 (length name)) (leb (length name) longest_name)).0 a.0).1

module _ (h : Held) (v : valid h ≡ true) where
  state-facts : FieldFits h.field.plan (state_of h)
  state-facts = fits-facts h.field.plan (state_of h) (valid-parts h v).3

  pub few-wait : length (waiting_in h.words) ≤ max_words
  few-wait = omega (arith, state-facts.waiting, state-facts.ceiling, ceiling-small h.field.plan (valid-parts h v).0)

  pub few-sent : h.field.sent < 65536
  few-sent = omega (arith, state-facts.ceiling, ceiling-small h.field.plan (valid-parts h v).0)
