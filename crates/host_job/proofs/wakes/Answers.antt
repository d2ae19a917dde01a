-- host_job::wakes: the head is put before the steps, by `schedule-written`.
use Prim.Native.Nat.{ℕ}
use native.Mathlib.Omega.{arith}
use mathlib.Core.Path.{◌∙◌}
use lib.ListN.{length-set}
use Rattle.host_job.proofs.Lemmas.{low-most, schedule-written}
use Rattle.host_job.proofs.wakes.Goals as goal

pub overflow_cast-end : goal.overflow_cast-end
overflow_cast-end c = record { fits = omega (arith, c.put_wakes-end.ensures.1, low-most c.args.p.now c.requires.0) }

pub shape_of-out : goal.shape_of-out
shape_of-out c =
    c.put.auto.s ∙ length-set {A = ℕ} c.put_wakes-end.new.out 0 1 ∙ c.put_wakes-end.auto.out

pub returns : goal.returns
returns c =
    let r = schedule-written c.args.p.now c.args.out.now _ c.put_wakes-end.result c.requires.0 c.requires.1 c.put_wakes-end.ensures.0 c.put_wakes-end.ensures.1 in
    (rw c.put.ensures r.0, r.1)
