-- host_preview::show: 75 by `shows-short`, else the words by `shows-words`.
use native.Mathlib.Omega.{arith}
use mathlib.Core.Path.{refl}
use Rattle.host_preview.proofs.Shows.{shows-short, shows-words}
use Rattle.host_preview.proofs.show.Goals as goal

pub returns-then-buffer-d : goal.returns-then-buffer-d
returns-then-buffer-d c = shows-short _ _ _ _ _ refl c.requires.1 c.if-buffer-d.true refl

pub post_all-requires : goal.post_all-requires
post_all-requires c =
    let can = c.requires.1 in
    record { says = can.feasible.says; first = can.feasible.first; second = can.feasible.second; room = omega (arith, can.count, c.if-buffer-d.false) }

pub returns : goal.returns
returns c = shows-words _ _ _ _ _ refl c.requires.1 c.if-buffer-d.false c.post_all.ensures refl
