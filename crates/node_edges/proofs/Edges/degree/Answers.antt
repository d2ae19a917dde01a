-- node_edges::Edges::degree: the chain's items are the own edges (`YieldsList-from_filter`), and as many as the rules count (`number-filter`).
use Rattle.std.proofs.Common.{arith, rules, tests, ◌≡◌, ◌∙◌}
use Rattle.std.proofs.lemmas.Iterator.{YieldsList-from_range}
use Rattle.std.proofs.lemmas.Iterator.Consumers.{YieldsList-from_filter, count_from_yields_List}
use Rattle.node_edges.specs.Edges.{as_own}
use Rattle.node.specs.Work.{number, any_edge}
use Rattle.node_edges.proofs.laws.Own.{number-filter, number-within}
use Rattle.node_edges.proofs.Edges.degree.Goals as goal

pub returns : goal.returns
returns c =
    let e = c.args.self in
    let o = as_own e in
    let l = o.edges in
    let many : c.count.result ≡ number o any_edge l =
    count_from_yields_List _ _ c.count.ensures.ran
    (YieldsList-from_filter _ (o.own) (YieldsList-from_range 0 l l (cc) (omega arith)) c.filter.ensures.closure (λ x b q k. search (rules, tests)))
    ∙ number-filter o any_edge _ (λ k. grind arith) l in
    record { count = many; small = omega (arith, e.small, many, number-within o any_edge l) }
