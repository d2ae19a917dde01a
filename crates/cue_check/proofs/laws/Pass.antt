-- 73 by a pass up: the records below v are right, and n of them are senders' (`RightBelow`), none (`below_start`), one more (`below_on`), one that is not
-- right (`below-stops`), all (`below_over`).
use Prim.Native.Nat.{ℕ, ◌+◌, ◌≤◌, ◌<◌}
use native.Mathlib.Omega.{arith}
use Rattle.std.proofs.Common.{add-one, true≢false, sym, ◌∙◌}
use Rattle.std.specs.Prelude.{◌≡◌, refl, true, false, List}
use Rattle.std.proofs.Math.Dec.{eqb}
use Rattle.base.specs.Cond.{bit}
use Rattle.base.specs.Test.{every}
use Rattle.base.proofs.laws.Cond.{bool_cases, bit_le}
use Rattle.base.proofs.laws.Test.{every-all}
use Rattle.plan.specs.Links.{Plan, modules_of}
use Rattle.cue.specs.declared.Cue.{Cue}
use Rattle.cue.specs.Record.{record_of}
use Rattle.cue.specs.Calls.{right_at, is_sender, senders, left_by_sending}

module _ (p : Plan) (row : List Cue) where
  pub record RightBelow (v n : ℕ) : Type 0 where
    pub few : n ≤ v
    pub each_right : every v (right_at p row) ≡ true
    pub counted : senders v row ≡ n

  pub below_start : RightBelow 0 0
  unfolding every
  below_start = record { few = omega arith; each_right = refl; counted = refl }

  pub below_on : (v n s : ℕ) → RightBelow v n → right_at p row v ≡ true → s ≡ bit (is_sender (record_of row v)) → RightBelow (v + 1) (n + s)
  unfolding every
  below_on v n s h r e = record {
    few = omega (arith, h.few, bit_le (is_sender (record_of row v)));
    each_right = rw (add-one v, r) h.each_right;
    counted = rw (add-one v) (omega (arith, h.counted));
  }

  pub below-stops : (v : ℕ) → v < modules_of p → right_at p row v ≡ false → false ≡ left_by_sending p row
  unfolding left_by_sending
  below-stops v l f = bool_cases (every (modules_of p) (right_at p row))
      (λ y. absurd (true≢false (sym (every-all (modules_of p) (right_at p row) y v l) ∙ f)))
      (λ y. rw y)

  pub below_over : (v n : ℕ) → v ≡ modules_of p → RightBelow v n → eqb n 1 ≡ left_by_sending p row
  unfolding left_by_sending
  below_over v n e h = rw (← e, h.each_right, h.counted)
