-- path_search::reach: the two tests are what `reaches` says.
use mathlib.Core.Path.{refl, sym}
use Rattle.path_search.proofs.laws.Reach.{reaches-no, reaches-old, reaches-yes}
use Rattle.path_search.proofs.reach.Goals as goal

pub returns-then-hops-a : goal.returns-then-hops-a
returns-then-hops-a c =
    let s = c.args in
    (sym (reaches-no s.hops.now s.a s.b s.h c.if-hops-a.true), refl, refl)

pub returns-then-hops-b : goal.returns-then-hops-b
returns-then-hops-b c =
    let s = c.args in
    (sym (reaches-old s.hops.now s.a s.b s.h c.if-hops-b.true), refl, refl)

pub returns : goal.returns
returns c =
    let s = c.args in
    (sym (reaches-yes s.hops.now s.a s.b s.h c.if-hops-a.false c.if-hops-b.false), refl, refl)
