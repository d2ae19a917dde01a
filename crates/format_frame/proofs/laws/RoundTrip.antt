-- "A .. frame written and read gives its meaning back": `Written-Read`, `meaning-back`; "bytes that are taken and written again are the same bytes":
-- `read-written`. The reader takes exactly the listed frames (`taken-listed`, `listed-taken`).
use Rattle.std.specs.Prelude.{ℕ, ◌+◌, ◌*◌, ◌<◌, ◌≡◌, refl, List, [], ◌∷◌, true, length, get_or}
use Rattle.std.proofs.Common.{sym, ap, ap₂, ◌∙◌, arith}
use Rattle.format_int16.specs.Int16.{at16}
use Rattle.format_int16.proofs.laws.Int16.{bytes-join, high_byte, low_byte}
use Rattle.format_message.specs.Msg.{Msg}
use Rattle.format_message.specs.Header.{header_of, carried_of, meant}
use Rattle.format_message.specs.Listed.{listed, Listed}
use Rattle.format_message.proofs.laws.Means.{means, has_listed, means-back}
use Rattle.format_frame.specs.Frame.{Frame}
use Rattle.format_frame.specs.Frame.{frame_bytes, frame_refusal, frame_read, frame_written}
use Rattle.format_frame.proofs.laws.Six.{six}
use Rattle.format_frame.proofs.laws.Frame.{taken, FrameOk, frame-ok, frame-read-taken, write_done}

-- the message that a frame that was read means
abbrev pub frame_means : Frame → Msg
frame_means f = meant f.header f.carried

-- a listed header and carried number, written into any six bytes, are read back
module _ (h c : ℕ) (l : listed h c ≡ true) where
  bytes-taken : frame_refusal (frame_bytes h c) ≡ 0
  bytes-taken = taken (frame_bytes h c) refl refl refl (ap (listed h) (bytes-join c) ∙ l)

  pub frame-written-read : (out : List ℕ) → length out ≡ 6 → frame_read (frame_written h c out).state ≡ record { refusal = 0; header = h; carried = c }
  frame-written-read out p =
      ap (λ w. frame_read w.state) (write_done h c out l p) ∙ frame-read-taken (frame_bytes h c) bytes-taken ∙ ap (λ x. record { refusal = 0; header = h; carried = x }) (bytes-join c)

-- so a listed message, written and read, is the message
pub meaning-back : (m : Msg) → Listed m → (out : List ℕ) → length out ≡ 6 → frame_means (frame_read (frame_written (header_of m) (carried_of m) out).state) ≡ m
meaning-back m l out p = ap frame_means (frame-written-read (header_of m) (carried_of m) (has_listed m l) out p) ∙ means-back m l

-- taken bytes are those of the frame that was read from them
same_bytes : (s : List ℕ) → ((i : ℕ) → get_or s i 0 < 256) → FrameOk s → frame_bytes (get_or s 3 0) (at16 s 4) ≡ s
same_bytes s b t =
    six (λ s. ((i : ℕ) → get_or s i 0 < 256) → get_or s 0 0 ≡ 1 → at16 s 1 ≡ 3 → frame_bytes (get_or s 3 0) (at16 s 4) ≡ s) each s t.size b t.version t.rest
  where
    each : (x₀ x₁ x₂ x₃ x₄ x₅ : ℕ) → ((i : ℕ) → get_or (x₀ ∷ x₁ ∷ x₂ ∷ x₃ ∷ x₄ ∷ x₅ ∷ []) i 0 < 256) → x₀ ≡ 1 → x₁ * 256 + x₂ ≡ 3
        → frame_bytes x₃ (x₄ * 256 + x₅) ≡ x₀ ∷ x₁ ∷ x₂ ∷ x₃ ∷ x₄ ∷ x₅ ∷ []
    each x₀ x₁ x₂ x₃ x₄ x₅ b v l =
        let e₁ : x₁ ≡ 0 = omega (arith, b 2) in
        let e₂ : x₂ ≡ 3 = omega (arith, b 2) in
        rw (high_byte x₄ x₅ (b 5), low_byte x₄ x₅ (b 5), v, e₁, e₂)

-- taken bytes, read and written into any six bytes, are the same bytes
pub frame-read-written : (s : List ℕ) → ((i : ℕ) → get_or s i 0 < 256) → frame_refusal s ≡ 0 → (out : List ℕ) → length out ≡ 6
    → frame_written (frame_read s).header (frame_read s).carried out ≡ record { refusal = 0; state = s }
frame-read-written s b e out p =
    let t = frame-ok s e in
    ap (λ f. frame_written f.header f.carried out) (frame-read-taken s e)
    ∙ write_done (get_or s 3 0) (at16 s 4) out t.holds p
    ∙ ap (λ x. record { refusal = 0; state = x }) (same_bytes s b t)

-- THE READER TAKES EXACTLY THE FRAMES OF LISTED MESSAGES

abbrev pub frame_of : Msg → List ℕ
frame_of m = frame_bytes (header_of m) (carried_of m)

pub frame-taken-listed : (s : List ℕ) → ((i : ℕ) → get_or s i 0 < 256) → frame_refusal s ≡ 0 → (m : Msg) × Listed m × (s ≡ frame_of m)
frame-taken-listed s b e =
    let t = frame-ok s e in
    let m = means (get_or s 3 0) (at16 s 4) t.holds in
    (frame_means (frame_read s), rw (frame-read-taken s e) m.fits, sym (same_bytes s b t) ∙ rw (frame-read-taken s e) (ap₂ frame_bytes (sym m.header) (sym m.carried)))

pub frame-listed-taken : (s : List ℕ) → (m : Msg) × Listed m × (s ≡ frame_of m) → frame_refusal s ≡ 0
frame-listed-taken s t = rw t.2 (bytes-taken (header_of t.0) (carried_of t.0) (has_listed t.0 t.1))
