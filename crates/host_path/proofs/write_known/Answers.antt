use Rattle.std.proofs.Common.{◌∙◌, arith}
use Rattle.host_path.proofs.Known.{known_at, byte-bit, front-none, front-next}
use Rattle.host_path.proofs.write_known.Goals as goal

pub loop-w-init : goal.loop-w-init
loop-w-init c = front-none (known_at c.args.hops.now) c.args.out.now

pub loop-w-preserved : goal.loop-w-preserved
loop-w-preserved c =
    front-next (known_at c.args.hops.now) c.args.out.now _ _ _ (omega arith) (c.from.ensures ∙ byte-bit _) c.loop-w.invariant
