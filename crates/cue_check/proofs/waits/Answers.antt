-- cue_check::waits: by `waits-read`; what the code reads of the row are the records at the link's two ends, by `record-read`.
use Rattle.std.proofs.Common.{◌≡◌, ◌&&◌, not, ap, ◌∙◌, arith}
use Rattle.cue.specs.Record.{record_of}
use Rattle.cue.specs.Copies.{waits_on}
use Rattle.cue_check.proofs.laws.Right.{record-read, waits-read}
use Rattle.cue_check.proofs.waits.Goals.{After-in_tree}
use Rattle.cue_check.proofs.waits.Goals as goal

told : (c : After-in_tree) → (c.in_tree.result && c.heard_not_by-sent.result && not c.came_by-arrived.result) ≡ waits_on c.args.plan.now c.args.row c.args.d
told c =
    let row = c.args.row in
    waits-read c.args.plan.now row c.args.d _ _ _ _ _
    (record-read row c.near_end.result _ (omega (arith, c.near_end.ensures.1, c.requires.0.modules_ok)) ∙ ap (record_of row) c.near_end.ensures.0)
    (record-read row c.far_end.result _ (omega (arith, c.far_end.ensures.1, c.requires.0.modules_ok)) ∙ ap (record_of row) c.far_end.ensures.0)
    c.in_tree.ensures c.heard_not_by-sent.ensures c.came_by-arrived.ensures

pub returns-then-sent : goal.returns-then-sent
returns-then-sent c = grind (arith, told (goal.at.returns-then-sent c).After-in_tree)

pub returns-else-sent : goal.returns-else-sent
returns-else-sent c = grind (arith, told (goal.at.returns-else-sent c).After-in_tree)
