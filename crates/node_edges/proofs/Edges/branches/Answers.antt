-- node_edges::Edges::branches: the chain's items are the branches (`YieldsList-from_filter`), and as many as the rules count (`number-filter`).
use Rattle.std.proofs.Common.{ℕ, Bool, ◌&&◌, arith, rules, tests, ◌≡◌, ◌∙◌, refl}
use Rattle.std.proofs.lemmas.Iterator.{YieldsList-from_range}
use Rattle.std.proofs.lemmas.Iterator.Consumers.{YieldsList-from_filter, count_from_yields_List}
use Rattle.node_edges.specs.Edges.{as_own, as_marks}
use Rattle.node.specs.Work.{number, branches}
use Rattle.node_edges.proofs.laws.Own.{number-filter, number-within}
use Rattle.node_edges.proofs.Edges.branches.Goals as goal

pub returns : goal.returns
returns c =
    let e = c.args.self in
    let o = as_own e in
    let f = branches c.args.j (as_marks e) in
    let l = o.edges in
    let p : ℕ → Bool = λ k. o.own k && f k in
    let many : c.count.result ≡ number o f l =
    count_from_yields_List _ _ c.count.ensures.ran
    (YieldsList-from_filter _ p (YieldsList-from_range 0 l l (cc) (omega arith)) c.filter.ensures.closure (λ x b q k. search (rules, tests)))
    ∙ number-filter o f p (λ k. refl) l in
    record { count = many; small = omega (arith, e.small, many, number-within o f l) }
