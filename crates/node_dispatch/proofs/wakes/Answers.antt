-- node_dispatch::wakes: what `wakeup` ensures, at a response that has done nothing.
use Rattle.std.proofs.Common.{ap, ◌∙◌}
use Rattle.base.specs.None.{none}
use Rattle.node.specs.Rules.{wakeup}
use Rattle.node_edges.specs.Edges.{as_own, as_marks}
use Rattle.node_response.specs.declared.Response.{Response}
use Rattle.node_response.specs.Response.{work_of}
use Rattle.node_dispatch.proofs.wakes.Goals as goal

pub returns : goal.returns
returns c = λ cs.
    let e = c.args.edges in
    (c.wakeup.ensures.does (as_marks e) cs).work ∙ ap (λ (a : Response). wakeup (as_own e) none (work_of (as_marks e) cs a)) c.begin.ensures
