-- An integer and its bytes determine each other (`four-back`, `eight-back`, `first-four`, `first-eight`), at any place (`at32-behind`, `at32-drop`, ..).
-- Writing is a run of stores (`two-16`, `two-32`), or of the bytes that the library makes (`four-made`, `eight-made`); what fits its width is bytes
-- (`four_bytes`, `eight-bytes`).
use Rattle.std.specs.Prelude.{ℕ, ◌+◌, ◌*◌, ◌/◌, ◌%◌, ◌≤◌, ◌<◌, ◌≡◌, refl, List, [], ◌∷◌, ◌++◌, length, get_or, take, drop}
use Rattle.std.proofs.Common.{arith, sym, ap, ap₂, ◌∙◌, length-drop, get_or-append-add, get_or-drop, take-add}
use Rattle.std.proofs.Math.Numerals.{unary_clauses}
use Rattle.std.specs.Int.{w32, w64, to_be_bytes}
use Rattle.base.specs.Limits.{AllBytes}
use Rattle.base.specs.Pool.{All, nil, con}
use Rattle.base.proofs.laws.Pool.{All-app}
use Rattle.format_int16.specs.Int16.{at16, bytes16, put16}
use Rattle.format_int16.proofs.laws.Int16.{high_byte, low_byte}
use Rattle.format_wide.specs.Wide.{at32, at64, bytes32, bytes64, put32, put64}

-- two integers of half the width, one behind the other
pub two-16 : (s : List ℕ) (i x : ℕ) → put16 (put16 s i (x / 65536)) (i + 2) (x % 65536) ≡ put32 s i x
two-16 s i x = simp unary_clauses refl

pub two-32 : (s : List ℕ) (i x : ℕ) → put32 (put32 s i (x / 4294967296)) (i + 4) (x % 4294967296) ≡ put64 s i x
two-32 s i x = simp unary_clauses refl

-- the bytes that the library makes
pub four-made : (x : ℕ) → x < 4294967296 → to_be_bytes w32 x ≡ bytes32 x
four-made x l =
    let a : x / 16777216 % 256 ≡ x / 65536 / 256 = omega arith in
    let b : x / 256 % 256 ≡ x % 65536 / 256 = omega arith in
    let c : x % 256 ≡ x % 65536 % 256 = omega arith in
    cc

pub eight-made : (x : ℕ) → x < 18446744073709551616 → to_be_bytes w64 x ≡ bytes64 x
eight-made x l =
    let a : x / 72057594037927936 % 256 ≡ x / 4294967296 / 65536 / 256 = omega arith in
    let b : x / 281474976710656 % 256 ≡ x / 4294967296 / 65536 % 256 = omega arith in
    let c : x / 1099511627776 % 256 ≡ x / 4294967296 % 65536 / 256 = omega arith in
    let d : x / 4294967296 % 256 ≡ x / 4294967296 % 65536 % 256 = omega arith in
    let e : x / 16777216 % 256 ≡ x % 4294967296 / 65536 / 256 = omega arith in
    let f : x / 65536 % 256 ≡ x % 4294967296 / 65536 % 256 = omega arith in
    let g : x / 256 % 256 ≡ x % 4294967296 % 65536 / 256 = omega arith in
    let h : x % 256 ≡ x % 4294967296 % 65536 % 256 = omega arith in
    cc

-- WRITTEN, THEN READ

pub four-back : (x : ℕ) (s : List ℕ) → at32 (bytes32 x ++ s) 0 ≡ x
four-back x s = omega arith

pub eight-back : (x : ℕ) (s : List ℕ) → at64 (bytes64 x ++ s) 0 ≡ x
eight-back x s = rw (four-back (x / 4294967296) (bytes32 (x % 4294967296) ++ s), four-back (x % 4294967296) s) (omega arith)

-- READ AT A PLACE: behind other bytes, and from a part

pub at16-behind : (p s : List ℕ) (i : ℕ) → at16 (p ++ s) (length p + i) ≡ at16 s i
at16-behind p s i = ap₂ (λ a b. a * 256 + b) (get_or-append-add p s i 0)
    (ap (λ n. get_or (p ++ s) n 0) (let e : length p + i + 1 ≡ length p + (i + 1) = omega arith in e) ∙ get_or-append-add p s (i + 1) 0)

pub at32-behind : (p s : List ℕ) (i : ℕ) → at32 (p ++ s) (length p + i) ≡ at32 s i
at32-behind p s i = ap₂ (λ a b. a * 65536 + b) (at16-behind p s i)
    (ap (at16 (p ++ s)) (let e : length p + i + 2 ≡ length p + (i + 2) = omega arith in e) ∙ at16-behind p s (i + 2))

pub at64-behind : (p s : List ℕ) (i : ℕ) → at64 (p ++ s) (length p + i) ≡ at64 s i
at64-behind p s i = ap₂ (λ a b. a * 4294967296 + b) (at32-behind p s i)
    (ap (at32 (p ++ s)) (let e : length p + i + 4 ≡ length p + (i + 4) = omega arith in e) ∙ at32-behind p s (i + 4))

pub at16-drop : (n : ℕ) (s : List ℕ) (i : ℕ) → at16 (drop n s) i ≡ at16 s (n + i)
at16-drop n s i = ap₂ (λ a b. a * 256 + b) (get_or-drop n s i 0)
    (get_or-drop n s (i + 1) 0 ∙ ap (λ k. get_or s k 0) (let e : n + (i + 1) ≡ n + i + 1 = omega arith in e))

pub at32-drop : (n : ℕ) (s : List ℕ) (i : ℕ) → at32 (drop n s) i ≡ at32 s (n + i)
at32-drop n s i = ap₂ (λ a b. a * 65536 + b) (at16-drop n s i)
    (at16-drop n s (i + 2) ∙ ap (at16 s) (let e : n + (i + 2) ≡ n + i + 2 = omega arith in e))

pub at64-drop : (n : ℕ) (s : List ℕ) (i : ℕ) → at64 (drop n s) i ≡ at64 s (n + i)
at64-drop n s i = ap₂ (λ a b. a * 4294967296 + b) (at32-drop n s i)
    (at32-drop n s (i + 4) ∙ ap (at32 s) (let e : n + (i + 4) ≡ n + i + 4 = omega arith in e))

-- READ, THEN WRITTEN

module _ (s : List ℕ) (h : AllBytes s) where
  pub at16-fits : (i : ℕ) → at16 s i < 65536
  at16-fits i = omega (arith, h i, h (i + 1))

  pub at32-fits : (i : ℕ) → at32 s i < 4294967296
  at32-fits i = omega (arith, at16-fits i, at16-fits (i + 2))

first_two : (s : List ℕ) → 2 ≤ length s → AllBytes s → bytes16 (at16 s 0) ≡ take 2 s
first_two [] l h = absurd (omega arith)
first_two (x ∷ []) l h = absurd (omega arith)
first_two (x ∷ y ∷ s) l h = let q : y < 256 = omega (arith, h 1) in rw (high_byte x y q, low_byte x y q)

drop-bytes : (n : ℕ) (s : List ℕ) → AllBytes s → AllBytes (drop n s)
drop-bytes n s h i = rw (get_or-drop n s i 0) (h (n + i))

pub first-four : (s : List ℕ) → 4 ≤ length s → AllBytes s → bytes32 (at32 s 0) ≡ take 4 s
first-four s l h =
    let f = at16-fits s h 2 in
    let high : at32 s 0 / 65536 ≡ at16 s 0 = omega arith in
    let low : at32 s 0 % 65536 ≡ at16 (drop 2 s) 0 = (let e : at32 s 0 % 65536 ≡ at16 s 2 = omega arith in e) ∙ sym (at16-drop 2 s 0) in
    ap₂ (λ (a b : List ℕ). a ++ b) (ap bytes16 high ∙ first_two s (omega arith) h)
    (ap bytes16 low ∙ first_two (drop 2 s) (omega (arith, length-drop 2 s)) (drop-bytes 2 s h)) ∙ sym (take-add 2 2 s)

pub first-eight : (s : List ℕ) → 8 ≤ length s → AllBytes s → bytes64 (at64 s 0) ≡ take 8 s
first-eight s l h =
    let f = at32-fits s h 4 in
    let high : at64 s 0 / 4294967296 ≡ at32 s 0 = omega arith in
    let low : at64 s 0 % 4294967296 ≡ at32 (drop 4 s) 0 = (let e : at64 s 0 % 4294967296 ≡ at32 s 4 = omega arith in e) ∙ sym (at32-drop 4 s 0) in
    ap₂ (λ (a b : List ℕ). a ++ b) (ap bytes32 high ∙ first-four s (omega arith) h)
    (ap bytes32 low ∙ first-four (drop 4 s) (omega (arith, length-drop 4 s)) (drop-bytes 4 s h)) ∙ sym (take-add 4 4 s)

-- WHAT FITS ITS WIDTH IS BYTES

two_bytes : (x : ℕ) → x < 65536 → All (λ b. b < 256) (bytes16 x)
two_bytes x l = con {x = x / 256} (omega arith) (con {x = x % 256} (omega arith) nil)

pub four_bytes : (x : ℕ) → x < 4294967296 → All (λ b. b < 256) (bytes32 x)
four_bytes x l = All-app (two_bytes (x / 65536) (omega arith)) (two_bytes (x % 65536) (omega arith))

pub eight-bytes : (x : ℕ) → x < 18446744073709551616 → All (λ b. b < 256) (bytes64 x)
eight-bytes x l = All-app (four_bytes (x / 4294967296) (omega arith)) (four_bytes (x % 4294967296) (omega arith))
