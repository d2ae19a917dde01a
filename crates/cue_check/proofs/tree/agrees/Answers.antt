-- cue_check::tree::agrees: the builder writes the tree's bytes; against them 71 is decided, by `bytes-agree`.
use Prim.Native.Nat.{ℕ}
use native.Mathlib.Omega.{arith}
use mathlib.Core.Path.{ap, ◌∙◌}
use mathlib.Core.List.{List}
use lib.ListN.{length}
use Rattle.base.specs.Test.{every}
use Rattle.plan.proofs.laws.Accepted.{accepted}
use Rattle.cue_check.specs.Bytes.{byte_agrees}
use Rattle.cue_check.proofs.laws.Bytes.{bytes-agree}
use Rattle.cue_check.proofs.tree.agrees.Goals as goal

pub links_agree-requires : goal.links_agree-requires
links_agree-requires c =
    omega (arith, c.grow.auto.out, c.requires.1, (accepted c.args.plan.now c.requires.0).links_ok)

pub returns : goal.returns
returns c =
    let a = c.args in
    c.links_agree.ensures
    ∙ ap (λ (l : List ℕ). every (length l) (byte_agrees l a.marks.now)) c.grow.ensures
    ∙ bytes-agree a.plan.now a.marks.now
