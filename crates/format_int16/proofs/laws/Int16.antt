-- An integer and its two bytes determine each other (`bytes-join`, `high_byte`, `low_byte`); two stores are one copy (`two-stores`).
use Rattle.std.specs.Prelude.{ℕ, ◌+◌, ◌*◌, ◌/◌, ◌%◌, ◌≤◌, ◌<◌, ◌≡◌, List, [], ◌∷◌, length, set, take, drop}
use Rattle.std.proofs.Common.{add-one, append_assoc, sym, arith}
use Rattle.std.proofs.lemmas.List.{drop-drop}
use Rattle.std.proofs.lemmas.List.Edits.{sets-eq}
use borrow.Rule.Slice.PartMut.{put_mid}

pub bytes-join : (x : ℕ) → x / 256 * 256 + x % 256 ≡ x
bytes-join x = omega arith

-- two bytes, of which the low one is a byte, are those of the integer they make
pub high_byte : (a b : ℕ) → b < 256 → (a * 256 + b) / 256 ≡ a
high_byte a b p = omega arith

pub low_byte : (a b : ℕ) → b < 256 → (a * 256 + b) % 256 ≡ b
low_byte a b p = omega arith

pub two-stores : (s : List ℕ) (i k a b : ℕ) → k ≡ 2 → i + 2 ≤ length s → put_mid i k s (a ∷ b ∷ []) ≡ set (set s i a) (i + 1) b
two-stores s i k a b e h = rw (add-one i, sets-eq (a ∷ b ∷ []) s i h, e, drop-drop 2 i s) (sym (append_assoc (take i s) (a ∷ b ∷ []) (drop (i + 2) s)))
