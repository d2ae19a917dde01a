use Rattle.std.proofs.Common.{◌≡◌, ◌+◌, ◌*◌, length-take-le, ◌∙◌, arith}
use Rattle.std.proofs.Math.Seq.{get_or-take}
use Rattle.plan.specs.Links.{links_of}
use Rattle.plan_file.specs.Layout.{plan_numbers}
use Rattle.plan_file.proofs.Stores.{put-start, write-turn, write-end}
use Rattle.plan_file.proofs.put_plan.Goals as goal

pub loop-i-init : goal.loop-i-init
loop-i-init c = put-start _ _

pub loop-i-preserved : goal.loop-i-preserved
loop-i-preserved c =
    let n = 2 + 4 * c.links-l.result in
    let p = c.args.p.now in
    let l = length-take-le n p (omega arith) in
    c.put-in-loop-i.ensures ∙ rw (get_or-take n p c.loop-i.i 0 (omega arith)) (write-turn _ _ _ _ c.loop-i.invariant)

pub returns : goal.returns
returns c =
    let p = c.args.p.now in
    let l = length-take-le (2 + 4 * c.links-l.result) p (omega arith) in
    let k : c.loop-i.i ≡ plan_numbers (links_of p) = omega arith in
    write-end _ _ _ c.links-l.ensures c.put.ensures (rw k at c.loop-i.invariant)
