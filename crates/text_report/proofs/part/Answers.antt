-- text_report::part: a part of one by `part-line-none`, else by `part-line-ends`; its modules are counted by their labels (`labels-nodes`).
use Rattle.std.proofs.Common.{◌≡◌, ap, sym, ◌∙◌, arith, rules}
use Rattle.base.specs.Limits.{max_modules}
use Rattle.graph.specs.Parts.{part_nodes}
use Rattle.graph.proofs.laws.Parts.{labels-nodes}
use Rattle.plan.specs.Links.{modules_of, graph_of}
use Rattle.format_text.proofs.laws.Pages.{has_put_two, has_put_as}
use Rattle.text_report.proofs.laws.Text.{part-line-none, part-line-ends}
use Rattle.text_report.proofs.part.Goals as goal

pub returns-then-nodes_with-eq1 : goal.returns-then-nodes_with-eq1
returns-then-nodes_with-eq1 c =
    -- the modules of u's part, as the call counts them
    let g = graph_of c.args.plan.now in
    let n = c.modules-n.ensures in
    let counted : c.nodes_with.result ≡ part_nodes g (modules_of c.args.plan.now) c.args.u =
    c.nodes_with.ensures ∙ labels-nodes g max_modules _ c.requires.1 _ _ (omega (arith, n)) (omega arith) ∙ ap (λ k. part_nodes g k c.args.u) n in
    has_put_as (sym (part-line-none _ _ _ _ (sym counted ∙ c.if-nodes_with-eq1.true))) c.put.ensures

pub returns : goal.returns
returns c =
    -- the modules of u's part, as the call counts them
    let g = graph_of c.args.plan.now in
    let n = c.modules-n.ensures in
    let counted : c.nodes_with.result ≡ part_nodes g (modules_of c.args.plan.now) c.args.u =
    c.nodes_with.ensures ∙ labels-nodes g max_modules _ c.requires.1 _ _ (omega (arith, n)) (omega arith) ∙ ap (λ k. part_nodes g k c.args.u) n in
    has_put_as (sym (part-line-ends _ _ _ _ (λ e. c.if-nodes_with-eq1.false (counted ∙ e)))) (search (rules, has_put_two))
