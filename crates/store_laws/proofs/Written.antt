-- A record that is written, read part by part: its name (`saved-name`), its size (`saved-size`, `record-length`), its field and words (`saved_read`).
use Rattle.std.specs.Prelude.{ℕ, ◌+◌, ◌*◌, ◌≡◌, get_or}
use native.Mathlib.Omega.{arith}
use Rattle.std.proofs.Math.Path.{refl, sym, ap, ap₂}
use Rattle.std.proofs.Common.{◌∙◌, drop-drop}
use mathlib.Core.List.{List, [], ◌∷◌, ◌++◌, append_assoc}
use Rattle.std.proofs.Math.ListN.{length, take, drop, length-append, length-map}
use Rattle.std.proofs.Math.Seq.{take-append_seam, drop-append_seam, take_at}
use Rattle.format_int16.specs.Int16.{at16}
use Rattle.format_int16.proofs.laws.Int16.{bytes-join}
use Rattle.format_wide.specs.Wide.{bytes32}
use Rattle.format_wide.proofs.laws.Wide.{four-back, at32-behind}
use Rattle.plan.specs.Links.{Plan, modules_of, links_of}
use Rattle.plan.proofs.laws.Accepted.{Accepted}
use Rattle.plan.specs.Trimmed.{trimmed}
use Rattle.plan_file.specs.Layout.{bytes_of, encode, decode}
use Rattle.plan_file.proofs.laws.Lengths.{length-bytes_of, length-encode}
use Rattle.plan.proofs.laws.Trimmed.{trimmed-same}
use Rattle.plan_file.proofs.laws.RoundTrip.{decode-encode}
use Rattle.field.specs.Valid.{waiting_in}
use Rattle.field.specs.Held.{Held}
use Rattle.store.specs.Records.{size_at}
use Rattle.store.specs.Names.{name_in, body_in}
use Rattle.store.specs.Layout.{entry_at, places, field_bytes, word_bytes, following, record_bytes, record_with}
use Rattle.store.specs.Reading.{plan_bytes, plan_in, behind_plan, numbers_size, numbers_in, words_part, words_in, field_in, held_in}
use Rattle.store.specs.Tidied.{saved_of}
use Rattle.store_laws.proofs.Alike.{alike-places}
use Rattle.store_laws.proofs.Places.{places-length}
use Rattle.store_laws.proofs.Words.{length-words, words-there}
use Rattle.store_laws.proofs.FieldBytes.{numbers_of, field-read}

-- the length number of a plan, whatever follows the plan
plan-size : (p : Plan) (t : List ℕ) → at16 (encode p ++ t) 1 ≡ 4 + 8 * links_of p
unfolding encode bytes_of
plan-size p t = bytes-join (4 + 8 * links_of p)

module _ (name : List ℕ) (h : Held) where
  -- its parts: the plan, the numbers, the waiting words
  abbrev p : Plan
  p = h.field.plan

  abbrev numbers : List ℕ
  numbers = bytes_of (numbers_of h.field)

  abbrev words : List ℕ
  words = word_bytes (waiting_in h.words)

  abbrev r : List ℕ
  r = record_bytes name h

  pub saved-version : get_or (record_bytes name h) 0 0 ≡ 1
  unfolding record_bytes record_with
  saved-version = refl

  pub saved-size : size_at (record_bytes name h) ≡ length (record_bytes name h)
  unfolding record_bytes record_with
  saved-size =
      let n = length (following name h.field (waiting_in h.words)) in
      omega (arith, at32-behind (1 ∷ []) (bytes32 n ++ following name h.field (waiting_in h.words)) 0, four-back n (following name h.field (waiting_in h.words)), length-append (bytes32 n) (following name h.field (waiting_in h.words)))

  pub saved-name : name_in (record_bytes name h) ≡ name
  unfolding name_in record_bytes record_with
  saved-name = take-append_seam name (field_bytes h.field ++ words)

  body : body_in r ≡ encode p ++ (numbers ++ words)
  unfolding body_in record_bytes record_with field_bytes
  body = sym (drop-drop (length name) 6 r) ∙ drop-append_seam name (field_bytes h.field ++ words) ∙ append_assoc (encode p) numbers words

  pub saved-plan : plan_bytes (record_bytes name h) ≡ encode h.field.plan
  unfolding plan_bytes
  saved-plan = ap (λ s. take (3 + at16 s 1) s) body
      ∙ take_at (encode p) (numbers ++ words) (3 + at16 (encode p ++ (numbers ++ words)) 1) (omega (arith, length-encode p, plan-size p (numbers ++ words)))

  pub saved-behind : behind_plan (record_bytes name h) ≡ bytes_of (numbers_of h.field) ++ word_bytes (waiting_in h.words)
  unfolding behind_plan
  saved-behind = ap₂ (λ (x y : List ℕ). drop (length x) y) saved-plan body ∙ drop-append_seam (encode p) (numbers ++ words)

  plan-in : plan_in r ≡ trimmed p
  plan-in = ap decode saved-plan ∙ decode-encode p

  pub saved-numbers : numbers_size (record_bytes name h) ≡ length (bytes_of (numbers_of h.field))
  saved-numbers =
      omega (
        arith,
        ap (λ q. length (places q)) plan-in,
        ap length (alike-places (trimmed-same p)),
        length-bytes_of (numbers_of h.field),
        length-map (places p) (entry_at h.field),
      )

  numbers-part : numbers_in r ≡ numbers
  numbers-part = ap₂ (λ n (s : List ℕ). take n s) saved-numbers saved-behind ∙ take-append_seam numbers words

  pub saved-words : words_part (record_bytes name h) ≡ word_bytes (waiting_in h.words)
  saved-words = ap₂ (λ n (s : List ℕ). drop n s) saved-numbers saved-behind ∙ drop-append_seam numbers words

  module _ (a : Accepted h.field.plan) where
    -- WRITTEN, THEN READ: what a record keeps of what the host holds
    pub saved_read : held_in (record_bytes name h) ≡ saved_of h
    unfolding held_in saved_of
    saved_read =
        ap₂ (λ f ws. record { field = f; words = ws }) (ap₂ field_in plan-in numbers-part ∙ field-read h.field a) (ap words_in saved-words ∙ words-there (waiting_in h.words))

    -- "5 + 1 + name + (7 + 8L) + 2 + 20N + 4L + 8 × waiting"
    pub record-length : length (record_bytes name h)
        ≡ 5 + 1 + length name + (7 + 8 * links_of h.field.plan) + 2 + 20 * modules_of h.field.plan + 4 * links_of h.field.plan + 8 * length (waiting_in h.words)
    unfolding record_bytes record_with field_bytes
    record-length =
        omega (
          arith,
          length-append (bytes32 (length (following name h.field (waiting_in h.words)))) (following name h.field (waiting_in h.words)),
          length-append name ((encode p ++ numbers) ++ words),
          length-append (encode p ++ numbers) words,
          length-append (encode p) numbers,
          length-encode p,
          length-bytes_of (numbers_of h.field),
          length-map (places p) (entry_at h.field),
          places-length p a,
          length-words (waiting_in h.words),
        )
