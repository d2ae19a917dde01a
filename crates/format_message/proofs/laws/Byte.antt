-- The header byte's parts and the byte determine each other (`byte-of-parts`, `parts-of-byte`); `header_from` by its outcomes (`from-fits`, `from-kind`,
-- `from-level`, `from-find`).
use Rattle.std.specs.Prelude.{ℕ, ◌+◌, ◌*◌, ◌%◌, ◌^◌, ◌≤◌, ◌<◌, ◌≡◌}
use Rattle.std.proofs.Common.{ap, ap₂, ◌∙◌, arith}
use Rattle.std.specs.Int.Bits.{bit_or, or_shifted_r}
use borrow.Author.Tests.{lt-ltb, le-ltb}
use Rattle.format_message.specs.Header.{header_byte, header_from, kind_at, level_at, find_at}

-- the header of parts that fit; of parts that do not
module _ (k l f : ℕ) where
  pub from-fits : k < 8 → l < 8 → f < 2 → header_from k l f ≡ header_byte k l f
  unfolding header_from
  from-fits a b c = rw (lt-ltb k 8 a, lt-ltb l 8 b, lt-ltb f 2 c)

  pub from-kind : 8 ≤ k → header_from k l f ≡ 255
  unfolding header_from
  from-kind h = rw (le-ltb k 8 h)

  module _ (a : k < 8) where
    pub from-level : 8 ≤ l → header_from k l f ≡ 255
    unfolding header_from
    from-level h = rw (lt-ltb k 8 a, le-ltb l 8 h)

    pub from-find : l < 8 → 2 ≤ f → header_from k l f ≡ 255
    unfolding header_from
    from-find b h = rw (lt-ltb k 8 a, lt-ltb l 8 b, le-ltb f 2 h)

pub byte-of-parts : (h : ℕ) → h < 128 → header_byte (kind_at h) (level_at h) (find_at h) ≡ h
byte-of-parts h p = omega arith

module _ (k l f : ℕ) (pk : k < 8) (pl : l < 8) (pf : f < 2) where
  pub byte-lt : header_byte k l f < 128
  byte-lt = omega arith

  pub parts-of-byte : (kind_at (header_byte k l f) ≡ k) × (level_at (header_byte k l f) ≡ l) × (find_at (header_byte k l f) ≡ f)
  parts-of-byte = (omega arith, omega arith, omega arith)

  -- put together by shifts, from the low bits up
  pub or-header : bit_or (bit_or k (l * 2 ^ 3 % 2 ^ 8)) (f * 2 ^ 6 % 2 ^ 8) ≡ header_byte k l f
  or-header =
      let low : l * 2 ^ 3 + k < 2 ^ 6 = omega arith in
      let a : l * 2 ^ 3 % 2 ^ 8 ≡ l * 2 ^ 3 = omega arith in
      let b : f * 2 ^ 6 % 2 ^ 8 ≡ f * 2 ^ 6 = omega arith in
      ap₂ bit_or (ap (bit_or k) a ∙ or_shifted_r l 3 k pk) b ∙ or_shifted_r f 6 (l * 2 ^ 3 + k) low ∙ omega arith
