-- field_verdict::serve: one law for each return: `serve-41` and `serve-45`, by which it `refuses`, and `serving`; the response may be worked out, by
-- `serving-listed` and `serving-receives`.
use native.Mathlib.Omega.{arith}
use mathlib.Core.Path.{refl, sym, ◌∙◌}
use borrow.Author.Tests.{leb-true, leb-false}
use Rattle.field_verdict.proofs.Decided.{refuses}
use Rattle.field_verdict.proofs.Steps.{serve-41, serve-45, serving-listed, serving-receives, serving}
use Rattle.field_verdict.proofs.serve.Goals as goal

pub returns-then-no_module : goal.returns-then-no_module
returns-then-no_module c =
    let e = c.before in
    refuses 41 (λ z. omega arith) (serve-41 _ _ _ (leb-true _ _ (sym e.no_module.ensures ∙ e.if-no_module.true))) refl

pub first_in_queue-requires : goal.first_in_queue-requires
first_in_queue-requires c = c.requires.1

pub returns-in_default : goal.returns-in_default
returns-in_default c =
    refuses 45 (λ z. omega arith) (serve-45 _ _ _ (leb-false _ _ (sym c.no_module.ensures ∙ c.if-no_module.false)) (omega (arith, c.in_default.ensures))) refl

pub response-a-requires : goal.response-a-requires
response-a-requires c =
    let l = leb-false _ _ (sym c.no_module.ensures ∙ c.if-no_module.false) in
    record {
      node = omega (arith, l, c.requires.0.modules_ok);
      listed = serving-listed _ _ _ _ _ _ c.requires.0 c.requires.2 l _ c.in-Some.ensures.1 c.in-Some.ensures.0;
      receives = serving-receives _ _ _ _ _ _ c.requires.0 c.requires.2 l _ c.in-Some.ensures.1 c.in-Some.ensures.0;
    }

pub judge-requires : goal.judge-requires
judge-requires c = c.requires.2.fits.ceiling

pub returns : goal.returns
returns c =
    serving _ _ _ _ _ _ c.requires.0 c.requires.2 (leb-false _ _ (sym c.no_module.ensures ∙ c.if-no_module.false)) _ c.in-Some.ensures.1 c.in-Some.ensures.0
    c.response-a.ensures c.judge.ensures
