-- An accepted plan gives what the proofs about cues take (`net_of`).
use Rattle.std.specs.Prelude.{ℕ, ◌*◌, ◌%◌, ◌<◌, ◌≡◌, ◌≢◌, cond}
use Rattle.std.proofs.Common.{arith, ap}
use Rattle.base.proofs.laws.Cond.{eqb-cases}
use Rattle.graph.specs.Graph.{Joins}
use Rattle.graph.proofs.laws.Ways.{ends-diff, joins-lt}
use Rattle.plan.specs.Links.{Plan, links_of, lower_of, higher_of, graph_of}
use Rattle.plan.proofs.laws.Accepted.{Accepted}
use Rattle.plan_tree.proofs.laws.Paths.{tree-spare, tree-spans, link-inside}
use Rattle.field.specs.Edges.{end_of, link_of, dest}
use Rattle.field_laws.proofs.Places.{link-over, from-over, over_below}
use Rattle.field_laws.proofs.Ends.{directed-joins, joined-own, end-leads}
use Rattle.cue_laws.proofs.Net.{Names, Net}

module _ (p : Plan) (a : Accepted p) where
  ends-apart : {k u v : ℕ} → Joins (graph_of p) k u v → u ≢ v
  ends-apart {k} j = ends-diff (λ q. omega (arith, (a.each k (joins-lt j)).ordered)) j

  named : (k u v : ℕ) → Joins (graph_of p) k u v → Names p k u v
  named k u v j =
      let o = joined-own p (ends-apart j) j in
      record { number = end_of p u k; below = over_below p u k o; over = link-over p u k; near = from-over p u k o; far = end-leads p (ends-apart j) j }

  -- of the two directed links over a link, one leads to each end
  one-to : (d e : ℕ) → d < 2 * links_of p → link_of d ≡ link_of e → dest p d ≡ dest p e → d ≡ e
  one-to d e l q = eqb-cases (d % 2) 0 (λ b. cond b (higher_of p (link_of d)) (lower_of p (link_of d)) ≡ dest p e → d ≡ e)
      (λ x. eqb-cases (e % 2) 0 (λ b. higher_of p (link_of d) ≡ cond b (higher_of p (link_of e)) (lower_of p (link_of e)) → d ≡ e)
      (λ y r. omega arith)
      (λ y r. absurd (omega (arith, strict, ap (lower_of p) q))))
      (λ x. eqb-cases (e % 2) 0 (λ b. lower_of p (link_of d) ≡ cond b (higher_of p (link_of e)) (lower_of p (link_of e)) → d ≡ e)
      (λ y r. absurd (omega (arith, strict, ap (higher_of p) q)))
      (λ y r. omega arith))
    where
      strict : lower_of p (link_of d) < higher_of p (link_of d)
      strict = (a.each (link_of d) (omega arith)).ordered

  pub net_of : Net p
  net_of = record {
    few = omega (arith, a.links_ok);
    leads = directed-joins p;
    names = named;
    sole = λ d e l m. one-to d e l;
    inside = link-inside p a;
    apart = λ k u v j. ends-apart j;
    spare = tree-spare p;
    spans = tree-spans p;
  }
