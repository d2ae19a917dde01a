-- field_verdict::no_module: the comparison itself.
use Rattle.field_verdict.proofs.no_module.Goals as goal

pub returns : goal.returns
returns c = cc
