-- plan_tree::build: refused by `refused-plan` or `refused-size`; else the bytes are the tree's, by `built`.
use Rattle.std.proofs.Common.{arith}
use Rattle.refusal.proofs.laws.Number.{positive}
use Rattle.plan_tree.proofs.laws.Tree.{refused-plan, refused-size, built}
use Rattle.plan_tree.proofs.build.Goals as goal

pub returns-in_err-check : goal.returns-in_err-check
returns-in_err-check c = grind (arith, refused-plan, positive)

pub returns-then-out-links : goal.returns-then-out-links
returns-then-out-links c = grind (arith, refused-size)

pub grow-requires : goal.grow-requires
grow-requires c = grind arith

pub returns : goal.returns
returns c = grind (arith, built)
