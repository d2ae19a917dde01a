-- The labels of a plan's parts, all links merged, as an array holds them. (`labels-part` and the laws beside it, graph/laws/Parts, say what they tell.)
use Rattle.std.specs.Prelude.{ℕ, true, List}
use Rattle.base.specs.Limits.{max_modules}
use Rattle.base.specs.Table.{tabulate}
use Rattle.graph.specs.Decide.{label}
use Rattle.plan.specs.Links.{Plan, links_of, graph_of}

abbrev pub part_labels : Plan → List ℕ
part_labels p = tabulate max_modules (label (graph_of p) (λ _. true) (links_of p))
