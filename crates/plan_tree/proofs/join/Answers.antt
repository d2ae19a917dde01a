-- plan_tree::join: the mark and the labels renamed are one edge joined, by `joined`.
use native.Mathlib.Omega.{arith}
use Rattle.base.specs.Limits.{max_modules}
use Rattle.base.proofs.laws.Table.{length-tabulate}
use Rattle.plan.specs.Links.{graph_of}
use Rattle.plan_tree.proofs.Joins.{set-joined}
use Rattle.plan_tree.proofs.join.Goals as goal

pub lower-requires : goal.lower-requires
lower-requires c = omega (arith, c.requires.0.few)

pub bounds-label-lower : goal.bounds-label-lower
bounds-label-lower c =
    let s = c.before.before in
    omega (arith, c.lower.ensures, (s.requires.0.ends s.args.k s.requires.1).0)

pub higher-requires : goal.higher-requires
higher-requires c = omega (arith, c.requires.0.few)

pub bounds-label-higher : goal.bounds-label-higher
bounds-label-higher c =
    let s = c.before.before.before.before in
    omega (arith, c.higher.ensures, (s.requires.0.ends s.args.k s.requires.1).1)

pub returns : goal.returns
returns c =
    let h = c.before.before.before in
    let l = h.before.before in
    let s = l.before.before in
    let a = s.args in (
      set-joined (graph_of a.plan.now) a.label.now c.relabel.new.parts a.out.now _ _ a.k l.lower.ensures h.higher.ensures (omega (arith, s.requires.0.size)) c.relabel.ensures,
      rw c.relabel.ensures (length-tabulate max_modules _),
    )
