-- A word's parts and the word determine each other (`unpacked`, `repacked`); so do a laid-out word and the waiting message it means (`word_back`,
-- `waiting-back`, `laid-out-listed`, `packs-laid-out`).
use Rattle.std.specs.Prelude.{ℕ, ◌+◌, ◌*◌, ◌/◌, ◌%◌, ◌^◌, ◌<◌, ◌≡◌, refl, ◌≢◌, Bool, true, false, ◌&&◌, eqb}
use Rattle.std.proofs.Common.{sym, ap, ap₂, ◌∙◌, arith, shr-shr, eqb-true, eq-eqb}
use Rattle.std.proofs.Math.Bool.{and-eq-true_iff}
use Rattle.std.specs.Int.Bits.{bit_or, or_shifted_r}
use Rattle.std.proofs.Math.Pow.{split}
use Rattle.base.specs.Cond.{bit}
use Rattle.base.proofs.laws.Cond.{eqb-cases}
use Rattle.format_message.specs.Msg.{Msg}
use Rattle.format_message.specs.Header.{header_of, carried_of, meant}
use Rattle.format_message.specs.Listed.{listed, Listed}
use Rattle.format_message.proofs.laws.Means.{in-bits, header-lt, means, has_listed, means-back}
use Rattle.format_word.specs.Word.{packed, header_in, carried_in, link_in, handed_in, shaped, laid_out, hand_over, Waiting, waiting_of, pack_waiting}

-- unpacked from a packed word
pub record Unpacked (h c d b w : ℕ) : Type 0 where
  pub header : header_in w ≡ h
  pub carried : carried_in w ≡ c
  pub link : link_in w ≡ d
  pub handed : w / 2 ^ 40 % 2 ≡ b
  pub shape : w / 2 ^ 41 ≡ 1

pub unpacked : (h c d b : ℕ) → h < 256 → c < 65536 → d < 65536 → b < 2 → Unpacked h c d b (packed h c d b)
unpacked h c d b ph pc pd pb = record { header = omega arith; carried = omega arith; link = omega arith; handed = omega arith; shape = omega arith }

-- packed by shifts, from the low bits up: the parts lie apart, so that each `|` is a sum
pub or-packed : (h c d : ℕ) → h < 256 → c < 65536 → d < 65536
    → bit_or (bit_or (bit_or h (c * 2 ^ 8 % 2 ^ 64)) (d * 2 ^ 24 % 2 ^ 64)) (2 ^ 41) ≡ packed h c d 0
or-packed h c d ph pc pd =
    let low : c * 2 ^ 8 + h < 2 ^ 24 = omega arith in
    let all : d * 2 ^ 24 + (c * 2 ^ 8 + h) < 2 ^ 41 = omega arith in
    let ec : c * 2 ^ 8 % 2 ^ 64 ≡ c * 2 ^ 8 = omega arith in
    let ed : d * 2 ^ 24 % 2 ^ 64 ≡ d * 2 ^ 24 = omega arith in
    ap (λ x. bit_or x (2 ^ 41)) (ap₂ bit_or (ap (bit_or h) ec ∙ or_shifted_r c 8 h ph) ed ∙ or_shifted_r d 24 (c * 2 ^ 8 + h) low)
    ∙ or_shifted_r 1 41 (d * 2 ^ 24 + (c * 2 ^ 8 + h)) all ∙ omega arith

-- packed again from the parts of a shaped word
pub repacked : (w : ℕ) → w / 2 ^ 41 ≡ 1 → packed (header_in w) (carried_in w) (link_in w) (w / 2 ^ 40 % 2) ≡ w
repacked w s =
    omega (arith, split w 8, split (w / 2 ^ 8) 16, shr-shr w 8 16, split (w / 2 ^ 24) 16, shr-shr w 24 16, split (w / 2 ^ 40) 1, shr-shr w 40 1)

-- handed over: bit 40 is set, and the rest is as it was
pub over : (w : ℕ) → w / 2 ^ 41 ≡ 1 → Unpacked (header_in w) (carried_in w) (link_in w) 1 (hand_over w)
over w s =
    let e : hand_over w ≡ packed (header_in w) (carried_in w) (link_in w) 1 = omega (arith, repacked w s) in
    rw e (unpacked (header_in w) (carried_in w) (link_in w) 1 (omega arith) (omega arith) (omega arith) (omega arith))

-- no word is 0: bit 41 of what is packed is set, and a hand-over clears nothing
pub packed-nonzero : (h c d b : ℕ) → packed h c d b ≢ 0
packed-nonzero h c d b = λ e. omega arith

pub over-nonzero : (w : ℕ) → w ≢ 0 → hand_over w ≢ 0
over-nonzero w n = λ e. n (omega arith)

bit-of : (x : ℕ) → x < 2 → bit (eqb x 1) ≡ x
bit-of x p = eqb-cases x 1 (λ t. bit t ≡ x) (λ e. sym e) (λ n. omega (arith, n))

bit-lt : (b : Bool) → bit b < 2
bit-lt true = omega arith
bit-lt false = omega arith

bit-back : (b : Bool) → eqb (bit b) 1 ≡ b
bit-back true = refl
bit-back false = refl

same : {m n : Msg} {d e : ℕ} {b c : Bool} → m ≡ n → d ≡ e → b ≡ c → ◌≡◌ {A = Waiting} (record { msg = m; link = d; handed = b }) (record { msg = n; link = e; handed = c })
same p q r = cc

-- a waiting message that can be packed: listed, its directed link of 16 bits
module _ (m : Msg) (d : ℕ) (b : Bool) (l : Listed m) (p : d < 65536) where
  packed-parts : Unpacked (header_of m) (carried_of m) d (bit b) (packed (header_of m) (carried_of m) d (bit b))
  packed-parts =
      unpacked _ _ _ _ (omega (arith, header-lt m l)) (in-bits m l).carried p (bit-lt b)

  -- it is read back ..
  pub waiting-back : waiting_of (pack_waiting (record { msg = m; link = d; handed = b })) ≡ record { msg = m; link = d; handed = b }
  waiting-back = let u = packed-parts in
      same (ap₂ meant u.header u.carried ∙ means-back m l) u.link (ap (λ x. eqb x 1) u.handed ∙ bit-back b)

  -- .. from a laid-out word
  pub packs-laid-out : laid_out (pack_waiting (record { msg = m; link = d; handed = b })) ≡ true
  packs-laid-out = let u = packed-parts in
      ap₂ ◌&&◌ (eq-eqb _ 1 u.shape) (ap₂ listed u.header u.carried ∙ has_listed m l)

-- A laid-out word means a listed message, and packed again is the same word.
module _ (w : ℕ) (h : laid_out w ≡ true) where
  two : (shaped w ≡ true) × (listed (header_in w) (carried_in w) ≡ true)
  two = (and-eq-true_iff (shaped w) (listed (header_in w) (carried_in w))).0 h

  pub laid-out-listed : Listed (waiting_of w).msg
  laid-out-listed = (means (header_in w) (carried_in w) two.1).fits

  pub word_back : pack_waiting (waiting_of w) ≡ w
  word_back =
      let m = means (header_in w) (carried_in w) two.1 in
      ap₂ (λ h c. packed h c (link_in w) (bit (handed_in w))) m.header m.carried
      ∙ ap (packed (header_in w) (carried_in w) (link_in w)) (bit-of (w / 2 ^ 40 % 2) (omega arith)) ∙ repacked w (eqb-true _ 1 two.0)

  -- handed over it is laid out still, and means the same message, handed over
  pub over-laid-out : laid_out (hand_over w) ≡ true
  over-laid-out =
      let u = over w (eqb-true _ 1 two.0) in
      ap₂ ◌&&◌ (eq-eqb _ 1 u.shape) (ap₂ listed u.header u.carried ∙ two.1)

  pub over-means : waiting_of (hand_over w) ≡ record { msg = (waiting_of w).msg; link = (waiting_of w).link; handed = true }
  over-means =
      let u = over w (eqb-true _ 1 two.0) in
      same (ap₂ meant u.header u.carried) u.link (eq-eqb _ 1 u.handed)
