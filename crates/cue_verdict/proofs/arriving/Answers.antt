-- cue_verdict::arriving: idle by `by-none`, heard by `by_copy`. One hop more still fits, by `hops-below`.
use Prim.Native.Nat.{ℕ, ◌<◌}
use mathlib.Core.List.{List}
use native.Mathlib.Omega.{arith}
use mathlib.Core.Path.{◌≡◌, sym, ap, ap₂, ◌∙◌}
use lib.ListN.{length, get_or}
use borrow.Author.Rules.{rules}
use Rattle.base.specs.Limits.{max_modules}
use Rattle.field.specs.Edges.{link_of, from}
use Rattle.cue.specs.declared.Cue.{Cue}
use Rattle.cue.specs.Delivery.{Heard}
use Rattle.cue.specs.Record.{record_of, heard_record}
use Rattle.cue_laws.proofs.NetOf.{net_of}
use Rattle.cue_laws.proofs.HopsBelow.{hops-below}
use Rattle.field_laws.proofs.Places.{from-below}
use Rattle.cue_check.proofs.laws.Right.{record-read}
use Rattle.cue_verdict.proofs.laws.Verdict.{by_copy, by-none}
use Rattle.cue_verdict.proofs.arriving.Goals as goal

pub returns-then-not-waits : goal.returns-then-not-waits
returns-then-not-waits c = λ lent. sym (by-none _ lent _ _ (sym c.waits.ensures ∙ c.if-not-waits.true))

-- what the code reads of the row is the record at the link's near end
read : (row : List Cue) (v u : ℕ) → v ≡ u → v < length row → get_or row v (record { heard = 0; cue = 0; link = 0; hops = 0 }) ≡ record_of row u
read row v u e l = record-read row v _ l ∙ ap (record_of row) e

pub heard_record-found-requires : goal.heard_record-found-requires
heard_record-found-requires c =
    let p = c.args.plan.now in
    let a = c.requires.0 in
    let full : length c.args.row ≡ max_modules = search rules in
    let few = hops-below p (net_of p a) c.args.row (omega (arith, full, a.modules_ok)) c.requires.2 (from p c.args.d) (from-below p a c.args.d c.requires.3) in
    omega (arith, few, a.modules_ok, ap (λ (x : Cue). x.hops) (read c.args.row c.near_end.result _ c.near_end.ensures.0 (omega (arith, c.near_end.ensures.1, a.modules_ok, full))))

pub returns : goal.returns
returns c = λ lent.
    let a = c.requires.0 in
    let full : length c.args.row ≡ max_modules = search rules in
    ap₂ (λ (at : ℕ) (found : Cue). record { answer = Heard; at = at; found = found }) c.far_end-at.ensures.0
    (c.heard_record-found.ensures ∙ ap (λ (u : Cue). heard_record u (link_of c.args.d)) (read c.args.row c.near_end.result _ c.near_end.ensures.0 (omega (arith, c.near_end.ensures.1, a.modules_ok, full))))
    ∙ sym (by_copy _ lent _ _ (sym c.waits.ensures ∙ c.if-not-waits.false))
