-- A schedule read through: from the first place, read after read gives its steps in order (`reads_all`, `run-read`), and then none is left (`none_left`).
use Prim.Native.Nat.{ℕ, zero, suc, ◌+◌, ◌≤◌, ◌<◌}
use Rattle.std.proofs.Common.{add-one, arith, ap, ne_eqb}
use Rattle.std.specs.Prelude.{◌≡◌, Bool, true, false, not, cond, List, [], ◌∷◌, length, get_or, eqb, ltb}
use Rattle.std.proofs.Math.Path.{refl}
use Rattle.std.specs.Borrow.{Bor}
use Rattle.base.specs.Test.{every}
use Rattle.base.proofs.laws.Test.{every-all}
use Rattle.plan.specs.Links.{Plan}
use Rattle.field.specs.State.{State}
use Rattle.field_calls.specs.declared.Step.{Step}
use Rattle.field_calls.specs.Schedule.{steps_in, kind_of, length_fits, kind_listed, schedule_refusal, schedule_run, step_of, steps_from, schedule_steps, list_run}
use Rattle.field_calls.proofs.laws.Schedule.{run-list}
use Rattle.host_reader.specs.declared.Schedule.{Schedule}
use Rattle.host_reader.specs.Reader.{left_from, opened, left_of, read_of}

-- the reader after n reads
unfoldable pub after_reads : ℕ → Schedule → Schedule
after_reads zero s = s
after_reads (suc n) s = (read_of (after_reads n s)).reader

-- what n reads give
unfoldable pub reads : ℕ → Schedule → List Step
reads zero s = []
reads (suc n) s = (read_of s).step ∷ reads n (read_of s).reader

-- a schedule that is taken has listed kinds only
pub taken-kinds : (s : List ℕ) → schedule_refusal s ≡ 0 → (i : ℕ) → i < steps_in s → kind_listed (kind_of s i) ≡ true
unfolding schedule_refusal
taken-kinds s fine = every-all (steps_in s) (λ i. kind_listed (kind_of s i)) (past (ltb (length s) 3) (not (eqb (get_or s 0 0) 1)) (not (length_fits s)) (every (steps_in s) (λ i. kind_listed (kind_of s i))) fine)
  where
    past : (a b c d : Bool) → ◌≡◌ {A = ℕ} (cond a 51 (cond b 52 (cond c 53 (cond (not d) 54 0)))) 0 → d ≡ true
    past true b c d e = absurd (omega arith)
    past false true c d e = absurd (omega arith)
    past false false true d e = absurd (omega arith)
    past false false false true e = refl
    past false false false false e = absurd (omega arith)

module _ (bytes : Bor (List ℕ)) where
  -- the reader at a place
  abbrev at : ℕ → Schedule
  at i = record { bytes = bytes; at = i }

  more : (i : ℕ) → i < steps_in bytes.now → eqb (left_from bytes.now i) 0 ≡ false
  more i l = ne_eqb (left_from bytes.now i) 0 (λ z. omega arith)

  read_step : (i : ℕ) → i < steps_in bytes.now → (read_of (at i)).step ≡ step_of bytes.now i
  read_step i l = simp (more i l)

  read-on : (i : ℕ) → i < steps_in bytes.now → (read_of (at i)).reader ≡ at (suc i)
  read-on i l = simp (more i l, add-one)

  -- after n reads it is at place n
  pub after-at : (n : ℕ) → n ≤ steps_in bytes.now → after_reads n (opened bytes) ≡ at n
  unfolding after_reads
  after-at zero l = refl
  after-at (suc n) l = rw (after-at n (omega arith)) (read-on n l)

  -- read i gives step i
  pub read-nth : (i : ℕ) → i < steps_in bytes.now → (read_of (after_reads i (opened bytes))).step ≡ step_of bytes.now i
  read-nth i l = rw (after-at i (omega arith)) (read_step i l)

  reads-from : (n i : ℕ) → i + n ≤ steps_in bytes.now → reads n (at i) ≡ steps_from bytes.now i n
  unfolding reads steps_from
  reads-from zero i l = refl
  reads-from (suc n) i l = rw (read_step i (omega arith), read-on i (omega arith)) (ap (λ t. step_of bytes.now i ∷ t) (reads-from n (suc i) (omega arith)))

  all_left : left_of (opened bytes) ≡ steps_in bytes.now
  all_left = omega arith

  -- as many reads as steps are left give the schedule's steps, in order
  pub reads_all : reads (left_of (opened bytes)) (opened bytes) ≡ schedule_steps bytes.now
  reads_all = rw all_left (reads-from (steps_in bytes.now) 0 (omega arith))

  -- and then none is left
  pub none_left : left_of (after_reads (left_of (opened bytes)) (opened bytes)) ≡ 0
  none_left = rw (all_left, after-at (steps_in bytes.now) (omega arith)) (omega arith)

  -- of a schedule that is taken each of these has a listed kind: kind 0 says that none is left
  pub read-listed : schedule_refusal bytes.now ≡ 0 → (i : ℕ) → i < left_of (opened bytes) → kind_listed (read_of (after_reads i (opened bytes))).step.kind ≡ true
  read-listed fine i l = rw (read-nth i (omega arith)) (taken-kinds bytes.now fine i (omega arith))

  -- the run of a schedule is the run of what the reader gives
  pub run-read : (p : Plan) (s : State) → schedule_run p bytes.now s ≡ list_run p 0 (reads (left_of (opened bytes)) (opened bytes)) s
  run-read p s = rw reads_all (run-list p bytes.now s)
