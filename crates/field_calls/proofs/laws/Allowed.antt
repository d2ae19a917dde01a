-- What no call may answer: 31, 32 and 33 (`never-allowed`), and in a run of rounds nothing but 0 (`rounds-unrefused`).
use Rattle.std.proofs.Common.{arith, inl, inr}
use Rattle.std.specs.Prelude.{ℕ, ◌≤◌, ◌≡◌}
use Rattle.field_calls.specs.Call.{Call, one, run, rounds}
use Rattle.field_calls.specs.Demand.{Allowed}

pub never-allowed : (c : Call) (r : ℕ) → 31 ≤ r → r ≤ 33 → ¬ Allowed c r
never-allowed (one kind number) r l h (inl z) = omega (arith, l, h, z)
never-allowed (one kind number) r l h (inr (inl k)) = omega (arith, l, h, k.0, k.1)
never-allowed (one kind number) r l h (inr (inr k)) = omega (arith, l, h, k.0, k.1)
never-allowed (run bytes) r l h (inl z) = omega (arith, l, h, z)
never-allowed (run bytes) r l h (inr (inl k)) = omega (arith, l, h, k.0, k.1)
never-allowed (run bytes) r l h (inr (inr k)) = omega (arith, l, h, k.0, k.1)
never-allowed (rounds limit) r l h z = omega (arith, l, h, z)

pub rounds-unrefused : (limit r : ℕ) → Allowed (rounds limit) r → r ≡ 0
rounds-unrefused limit r z = z
