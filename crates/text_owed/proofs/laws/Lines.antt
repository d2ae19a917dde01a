-- A field whose parts agree on the tree (demand 3, for each part): its marks are the tree's (`tree-marked`), its core lines are as `CoreLines` says (`core-lines`).
use Rattle.std.specs.Prelude.{ℕ, ◌*◌, ◌<◌, ◌≡◌, refl, ◌≢◌, ◌⊎◌, get_or, eqb}
use Rattle.std.proofs.Common.{arith, sym, ap, ◌∙◌, inl, inr, ⊎_elim, true≢false, lt-ltb}
use mathlib.Core.List.{List, [], ◌∷◌, flat_map}
use Rattle.base.specs.Pool.{All, nil, con}
use Rattle.base.proofs.laws.Cond.{eqb_same, bool_cases, by-eq}
use Rattle.graph.specs.Graph.{stop, up}
use Rattle.graph.specs.Parts.{part_nodes}
use Rattle.graph.proofs.laws.Ways.{edge-way, way-append}
use Rattle.graph.proofs.laws.Parts.{together-part, part-together, part-more, part-other}
use Rattle.graph.proofs.laws.Decide.{in_tree-tree, tree-in_tree}
use Rattle.plan.specs.Links.{graph_of, Plan, modules_of, links_of, lower_of, higher_of}
use Rattle.plan.specs.Weights.{earlier}
use Rattle.plan.proofs.laws.Accepted.{LinkOk, Accepted}
use Rattle.plan_tree.specs.Tree.{tree_link}
use Rattle.node.specs.Work.{BRANCH}
use Rattle.field.specs.Edges.{is_own, marks_in, end_of}
use Rattle.field.specs.State.{State, mark_at}
use Rattle.field_calls.specs.Demand.{InPart, Core, Agreed}
use Rattle.text_report.specs.Text.{part_text}
use Rattle.text_report.proofs.laws.Text.{part-line-none}
use Rattle.text_owed.specs.Tree.{CoreAlone, CoreNamed, CoreLines, end, next}
use Rattle.text_owed.proofs.laws.Tree.{MarksTree, part-two}

-- the mark of a link's lower module stands at 2 × k
lower-mark : (p : Plan) (s : State) (k : ℕ) → k < links_of p → mark_at p s (lower_of p k) k ≡ get_or s.marks (2 * k) 0
unfolding marks_in is_own end_of
lower-mark p s k l = rw (lt-ltb k (links_of p) l, eqb_same (lower_of p k)) refl

module _ (p : Plan) (acc : Accepted p) (s : State) (agreed : (w : ℕ) → w < modules_of p → Agreed p s (InPart p w)) where
  -- the lower end of a link marks it 1 where the tree has it, 2 elsewhere
  pub tree-marked : MarksTree p s.marks (links_of p)
  tree-marked k l = bool_cases (tree_link p k)
      (λ t. rw t (ap (λ m. eqb m BRANCH) (own-mark ∙ (own.tree k l here (in_tree-tree (graph_of p) (earlier p) k t)).lower)))
      (λ f. rw f (ap (λ m. eqb m BRANCH) (own-mark ∙ (own.others k l here (λ t. true≢false (sym (tree-in_tree (graph_of p) (earlier p) k t) ∙ f))).lower)))
    where
      inside : lower_of p k < modules_of p
      inside = omega (arith, (acc.each k l).ordered, (acc.each k l).inside)

      here : InPart p (lower_of p k) (lower_of p k)
      here = (inside, stop)

      own : Agreed p s (InPart p (lower_of p k))
      own = agreed (lower_of p k) inside

      own-mark : get_or s.marks (2 * k) 0 ≡ mark_at p s (lower_of p k) k
      own-mark = sym (lower-mark p s k l)

  -- the line of a part whose core is known
  core-named : (u : ℕ) → part_nodes (graph_of p) (modules_of p) u ≢ 1 → Core p s (InPart p u) → CoreNamed p u (part_text (graph_of p) (modules_of p) s.cells u)
  core-named u d c = record {
    link = c.link;
    within = c.within;
    tree = c.tree;
    inside = c.inside;
    named = part-two (graph_of p) s.cells u lower higher (modules_of p) o.ordered o.inside
        (part-together (graph_of p) u lower c.inside.1, (c.halted lower c.inside).1 (inl refl))
        (part-together (graph_of p) u higher across.1, (c.halted higher across).1 (inr refl))
        (λ v l a b h. ⊎_elim a b ((c.halted v (l, together-part (graph_of p) u v h.0)).0 h.1))
        d;
  }
    where
      lower : ℕ
      lower = lower_of p c.link

      higher : ℕ
      higher = higher_of p c.link

      o : LinkOk p c.link
      o = acc.each c.link c.within

      across : InPart p u higher
      across = (o.inside, way-append c.inside.1 (edge-way (up c.within refl refl) tt))

  part-line : (u : ℕ) → u < modules_of p
      → let text = part_text (graph_of p) (modules_of p) s.cells u in CoreAlone p u text ⊎ CoreNamed p u text
  part-line u l = by-eq (part_nodes (graph_of p) (modules_of p) u) 1
      (λ e. inl (record {
        only = λ v i. by-eq u v (λ q. q) (λ d. absurd (omega (arith, part-more (graph_of p) (modules_of p) u v l i.0 d i.1)));
        none = part-line-none (graph_of p) (modules_of p) s.cells u e;
      }))
      (λ d. let o = part-other (graph_of p) (modules_of p) u l d in
      inr (core-named u d ((agreed u l).core u o.node (l, stop) (o.below, o.joins) o.differs)))

  pub core-lines : (us : List ℕ) → All (λ u. u < modules_of p) us → CoreLines p us (flat_map (part_text (graph_of p) (modules_of p) s.cells) us)
  unfolding flat_map
  core-lines [] nil = end
  core-lines (u ∷ us) (con l rest) = next (part-line u l) (core-lines us rest)
