-- field_serve::serve: refused by `refused-moves`; else the verdict on it is `executable`, carried out it is the step, by `out-advances`, and leaves a sound field, by
-- `serve-sound`.
use mathlib.Core.Path.{◌≡◌, sym}
use lib.Seq.{length-take-le}
use Rattle.std.specs.Prelude.{Ok, Err}
use Rattle.std.proofs.Common.{rules}
use Rattle.field.specs.Step.{serve}
use Rattle.field_words.specs.Hands.{lent_state}
use Rattle.field_serve.specs.Lent.{standing}
use Rattle.field_serve.proofs.Ready.{serve-sound}
use Rattle.field_serve.proofs.CarriedOut.{refused-moves, executable, out-advances}
use Rattle.field_serve.proofs.serve.Goals as goal

pub slice_bounds-serve-end-2 : goal.slice_bounds-serve-end-2
slice_bounds-serve-end-2 c = sym (length-take-le c.args.n.now c.args.lent.now c.requires.laid.within)

pub serve-requires : goal.serve-requires
serve-requires c = let r = c.requires in (r.plan, r.whole, r.sound)

pub returns-in_err-d : goal.returns-in_err-d
returns-in_err-d c =
    let f = c.args.f.now in
    let x = c.in_err-d.field-0.0 in
    let e : c.serve.result ≡ Err x = grind rules in
    let q : c.from_residual.result ≡ Err x = grind rules in
    let s = lent_state f.cells f.marks c.args.lent.now c.args.n.now f.sent in
    rw q (refused-moves f _ _ c.args.v c.requires (λ p. serve p c.args.v) x (rw e at c.serve.ensures))

pub carry_out-requires : goal.carry_out-requires
carry_out-requires c =
    let e : c.serve.result ≡ Ok c.in_ok-d.d = grind rules in
    executable _ _ _ _ (standing c.args.n.now c.args.f.now) _ _ c.requires (λ p. serve p c.args.v) (rw e at c.serve.ensures)

pub returns : goal.returns
returns c =
    let b = standing c.args.n.now c.args.f.now in
    let e : c.serve.result ≡ Ok c.in_ok-d.d = grind rules in
    record {
      advances = out-advances _ _ _ _ b _ _ c.requires (λ p. serve p c.args.v) (rw e at c.serve.ensures) (serve-sound _ _ _ _ b c.requires c.args.v) c.carry_out.ensures.0 (search rules);
      plan = c.carry_out.ensures.1;
    }
