-- plan_tree::grow: no edge marked, and each node its own label: a forest to begin with, by `forest-start`. The bytes by `exact_bytes`.
use Rattle.std.proofs.Common.{◌∙◌, length, arith}
use Rattle.std.proofs.lemmas.List.{get_or-replicate}
use Rattle.plan.specs.Links.{graph_of}
use Rattle.plan.proofs.laws.Accepted.{accepted}
use Rattle.plan_tree.specs.laws.Forest.{forest-start}
use Rattle.plan_tree.proofs.laws.Tree.{exact_bytes, accepted-ends}
use Rattle.plan_tree.proofs.Joins.{own-label, own-parts}
use Rattle.plan_tree.proofs.grow.Goals as goal

pub phases-requires : goal.phases-requires
phases-requires c =
    let p = c.args.plan.now in
    let a = accepted p c.requires.0 in
    let ends = accepted-ends p a in
    let own = c.number.ensures in (
      record { few = a.links_ok; ends = ends; size = c.fill.auto.self ∙ c.requires.1; parts = own-parts _ own },
      forest-start (graph_of p) _ _ _ ends (own-label _ own) (λ e l. rw (c.fill.ensures.after (λ y q. q)) (get_or-replicate (length c.args.out.now) e 0 0 (omega (arith, c.requires.1)))),
    )

pub returns : goal.returns
returns c = exact_bytes c.args.plan.now c.phases.new.out (c.phases.auto.out ∙ (c.fill.auto.self ∙ c.requires.1)) c.phases.ensures
