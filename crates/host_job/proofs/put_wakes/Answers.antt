use Rattle.std.proofs.Common.{◌+◌, length, ap, refl, sym, ◌∙◌, arith}
use Rattle.std.proofs.lemmas.List.Edits.{sets}
use mathlib.Core.List.{flat_map}
use Rattle.base.specs.Limits.{max_modules}
use Rattle.graph.specs.Parts.{lowests}
use Rattle.graph.proofs.laws.Parts.{labels-lowest}
use Rattle.plan.specs.Links.{graph_of}
use Rattle.plan.proofs.laws.Accepted.{accepted}
use Rattle.host_job.specs.Job.{wake_steps}
use Rattle.host_job.proofs.Lemmas.{low-room, low_off, low-next}
use Rattle.host_job.proofs.put_wakes.Goals.{then-lowest, else-lowest}
use Rattle.host_job.proofs.put_wakes.Goals as goal

pub merge-requires : goal.merge-requires
merge-requires c =
    let a = accepted c.args.p.now c.requires.0 in
    (refl, a.links_ok, λ k l. let o = a.each k l in (omega (arith, o.ordered, o.inside, a.modules_ok), omega (arith, o.inside, a.modules_ok)))

pub lowest-requires : goal.lowest-requires
lowest-requires c = omega (arith, (accepted c.args.p.now c.requires.0).modules_ok)

pub put_wake-requires : goal.put_wake-requires
put_wake-requires c = omega (arith, (accepted c.args.p.now c.requires.0).modules_ok, low-room (graph_of c.args.p.now) c.loop-v.v)

pub overflow_add-at : goal.overflow_add-at
overflow_add-at c = omega (arith, (accepted c.args.p.now c.requires.0).modules_ok, low-room (graph_of c.args.p.now) c.loop-v.v)

pub loop-v-init : goal.loop-v-init
unfolding lowests wake_steps flat_map
loop-v-init c = record { behind = refl; written = refl }

pub loop-v-preserved : goal.loop-v-preserved
loop-v-preserved c =
    let g = graph_of c.args.p.now in
    let i = c.loop-v.invariant in
    let told = c.lowest.ensures ∙ labels-lowest g max_modules _ c.merge.ensures c.loop-v.v (omega (arith, (accepted c.args.p.now c.requires.0).modules_ok)) in
    elim c.if-lowest.branch [
      | then-lowest w ↦ (
          let n = low-next g c.loop-v.v c.args.out.now c.loop-v.out w.put_wake.new.out c.loop-v.at i.behind i.written (sym told ∙ w.if-lowest.true) w.put_wake.ensures in
          record { behind = w.at-is ∙ n.0; written = w.out-is ∙ n.1 }
          )
      | else-lowest w ↦ (
          let n = low_off g c.loop-v.v (sym told ∙ w.if-lowest.false) in
          record { behind = w.at-is ∙ i.behind ∙ ap (λ l. 3 + length l) n; written = w.out-is ∙ i.written ∙ ap (sets c.args.out.now 3) n }
          )
    ]
