-- Parts of a store: one up to the end (`tail_all`), one put back (`tail-back`).
use Prim.Native.Nat.{ℕ, ◌-◌}
use native.Mathlib.Omega.{arith}
use mathlib.Core.Path.{◌≡◌}
use mathlib.Core.List.{List, ◌++◌, append-nil}
use lib.ListN.{length, take, drop, length-drop, drop_of_length-le}
use lib.Seq.{take_all}

-- a part up to the end
pub tail_all : (s : List ℕ) (a : ℕ) → take (length s - a) (drop a s) ≡ drop a s
tail_all s a = take_all (length s - a) (drop a s) (omega (arith, length-drop a s))

-- a part that was lent from byte a on is put back
pub tail-back : (s y : List ℕ) (a : ℕ) → take a s ++ (y ++ drop (length s - a) (drop a s)) ≡ take a s ++ y
tail-back s y a = rw (drop_of_length-le (drop a s) {i = length s - a} (omega (arith, length-drop a s)), append-nil y)
