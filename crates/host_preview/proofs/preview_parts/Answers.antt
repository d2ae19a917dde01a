-- host_preview::preview_parts: one law for each way: `preview-31`, `wake-verdict`, `hand-refused`, `hand-shown`, `serve-verdict`, `preview-54`. What waits is the
-- part of the words that is passed on, by `starts`.
use mathlib.Core.Path.{◌≡◌, refl, ap}
use mathlib.Core.Logic.{◌≢◌}
use lib.ListN.{take}
use Rattle.std.specs.Prelude.{Ok, Err}
use Rattle.std.proofs.Common.{rules, arith}
use Rattle.std.proofs.lemmas.Bool.Decides.{nat_tests}
use Rattle.refusal.specs.declared.Refusal.TheVariants.{StepKind}
use Rattle.refusal.specs.declared.Refusal.TheVariants as R
use Rattle.refusal.proofs.laws.Number.{positive}
use Rattle.field.specs.State.{State}
use Rattle.field.specs.Held.{held_from}
use Rattle.field_words.specs.Hands.{handable}
use Rattle.field_check.specs.Ready.{Ready}
use Rattle.field_check.specs.Checked.{check_of}
use Rattle.field_check.proofs.Admitted.{invalid, passes, starts}
use Rattle.field_verdict.specs.Verdict.{verdict_of}
use Rattle.host_preview.proofs.Shows.{shows-refused}
use Rattle.host_preview.proofs.Steps.{showable, preview-31, preview-54, hand-refused, hand-shown, wake-verdict, serve-verdict}
use Rattle.host_preview.proofs.preview_parts.Goals as goal

pub returns-in_err-n : goal.returns-in_err-n
returns-in_err-n c =
    let a = c.args in
    let h = held_from a.plan.now a.cells.now a.marks.now a.sent a.words.now in
    let e : Err c.in_err-n.field-0.0 ≡ check_of h = grind rules in
    let q : c.from_residual.result ≡ Err R.Field = grind rules in
    rw q (preview-31 _ _ h _ (invalid h.field h.words e))

pub returns-in_err-try_from : goal.returns-in_err-try_from
returns-in_err-try_from c =
    let a = c.args in
    let h = held_from a.plan.now a.cells.now a.marks.now a.sent a.words.now in
    let e : Ok c.in_ok-n.n ≡ check_of h = grind rules in
    let v = passes h.field h.words e in
    let q : c.from_residual-in_err-try_from.result ≡ Err StepKind = grind arith in
    let k : c.args.kind ≢ 1 = grind (arith, nat_tests) in
    let l : c.args.kind ≢ 2 = grind (arith, nat_tests) in
    let m : c.args.kind ≢ 3 = grind (arith, nat_tests) in
    rw q (preview-54 _ _ h _ v k l m)

pub wake-requires : goal.wake-requires
wake-requires c =
    let a = c.args in
    let h = held_from a.plan.now a.cells.now a.marks.now a.sent a.words.now in
    let e : Ok c.in_ok-n.n ≡ check_of h = grind rules in
    let v = passes h.field h.words e in
    let r : Ready a.plan.now a.cells.now a.marks.now a.words.now c.in_ok-n.n a.sent = grind rules in
    (r.plan, r.whole, r.sound)

pub returns-in_err-d-in-Wake : goal.returns-in_err-d-in-Wake
returns-in_err-d-in-Wake c =
    let a = c.args in
    let h = held_from a.plan.now a.cells.now a.marks.now a.sent a.words.now in
    let e : Ok c.in_ok-n.n ≡ check_of h = grind rules in
    let v = passes h.field h.words e in
    let k : c.args.kind ≡ 1 = grind arith in
    let x = c.in_err-d-in-Wake.field-0.0 in
    let d : c.wake.result ≡ Err x = grind rules in
    let q : c.from_residual-in_err-d-in-Wake.result ≡ Err x = grind rules in
    rw q ((shows-refused a.plan.now a.marks.now a.number (verdict_of (Err x)) a.buffer.now (positive x) refl).is _ _ _ _
    (wake-verdict _ _ h a.buffer.now v _ (starts h.field h.words e) k (rw d at c.wake.ensures)))

pub show-requires : goal.show-requires
show-requires c =
    let a = c.args in
    let h = held_from a.plan.now a.cells.now a.marks.now a.sent a.words.now in
    let e : Ok c.in_ok-n.n ≡ check_of h = grind rules in
    let v = passes h.field h.words e in
    let r : Ready a.plan.now a.cells.now a.marks.now a.words.now c.in_ok-n.n a.sent = grind rules in
    let d : c.wake.result ≡ Ok c.in_ok-d-in-Wake.d = grind rules in
    (r.plan.links_ok, showable (rw d at c.wake.ensures) refl)

pub returns-in_ok-d-in-Wake : goal.returns-in_ok-d-in-Wake
returns-in_ok-d-in-Wake c =
    let a = c.args in
    let h = held_from a.plan.now a.cells.now a.marks.now a.sent a.words.now in
    let e : Ok c.in_ok-n.n ≡ check_of h = grind rules in
    let v = passes h.field h.words e in
    let k : c.args.kind ≡ 1 = grind arith in
    let d : c.wake.result ≡ Ok c.in_ok-d-in-Wake.d = grind rules in
    c.show.ensures.is _ _ _ _ (wake-verdict _ _ h a.buffer.now v _ (starts h.field h.words e) k (rw d at c.wake.ensures))

pub serve-requires : goal.serve-requires
serve-requires c =
    let a = c.args in
    let h = held_from a.plan.now a.cells.now a.marks.now a.sent a.words.now in
    let e : Ok c.in_ok-n.n ≡ check_of h = grind rules in
    let v = passes h.field h.words e in
    let r : Ready a.plan.now a.cells.now a.marks.now a.words.now c.in_ok-n.n a.sent = grind rules in
    (r.plan, r.whole, r.sound)

pub returns-in_err-d-in-Serve : goal.returns-in_err-d-in-Serve
returns-in_err-d-in-Serve c =
    let a = c.args in
    let h = held_from a.plan.now a.cells.now a.marks.now a.sent a.words.now in
    let e : Ok c.in_ok-n.n ≡ check_of h = grind rules in
    let v = passes h.field h.words e in
    let k : c.args.kind ≡ 3 = grind arith in
    let x = c.in_err-d-in-Serve.field-0.0 in
    let d : c.serve.result ≡ Err x = grind rules in
    let q : c.from_residual-in_err-d-in-Serve.result ≡ Err x = grind rules in
    rw q ((shows-refused a.plan.now a.marks.now a.number (verdict_of (Err x)) a.buffer.now (positive x) refl).is _ _ _ _
    (serve-verdict _ _ h a.buffer.now v _ (starts h.field h.words e) k (rw d at c.serve.ensures)))

pub show-requires-in-Serve : goal.show-requires-in-Serve
show-requires-in-Serve c =
    let a = c.args in
    let h = held_from a.plan.now a.cells.now a.marks.now a.sent a.words.now in
    let e : Ok c.in_ok-n.n ≡ check_of h = grind rules in
    let v = passes h.field h.words e in
    let r : Ready a.plan.now a.cells.now a.marks.now a.words.now c.in_ok-n.n a.sent = grind rules in
    let d : c.serve.result ≡ Ok c.in_ok-d-in-Serve.d = grind rules in
    (r.plan.links_ok, showable (rw d at c.serve.ensures) refl)

pub returns-in_ok-d-in-Serve : goal.returns-in_ok-d-in-Serve
returns-in_ok-d-in-Serve c =
    let a = c.args in
    let h = held_from a.plan.now a.cells.now a.marks.now a.sent a.words.now in
    let e : Ok c.in_ok-n.n ≡ check_of h = grind rules in
    let v = passes h.field h.words e in
    let k : c.args.kind ≡ 3 = grind arith in
    let d : c.serve.result ≡ Ok c.in_ok-d-in-Serve.d = grind rules in
    c.show-in-Serve.ensures.is _ _ _ _ (serve-verdict _ _ h a.buffer.now v _ (starts h.field h.words e) k (rw d at c.serve.ensures))

pub returns-in_err-handable-in-HandOver : goal.returns-in_err-handable-in-HandOver
returns-in_err-handable-in-HandOver c =
    let a = c.args in
    let h = held_from a.plan.now a.cells.now a.marks.now a.sent a.words.now in
    let e : Ok c.in_ok-n.n ≡ check_of h = grind rules in
    let v = passes h.field h.words e in
    let k : c.args.kind ≡ 2 = grind arith in
    let x = c.in_err-handable-in-HandOver.field-0.0 in
    let q : c.from_residual-in_err-handable-in-HandOver.result ≡ Err x = grind rules in
    let d : Err x ≡ handable a.plan.now a.number (take c.in_ok-n.n a.words.now) = grind rules in
    rw q (hand-refused _ _ h a.buffer.now v k _ (ap (λ (t : State). t.words) (starts h.field h.words e)) d)

pub returns-in_ok-handable-in-HandOver : goal.returns-in_ok-handable-in-HandOver
returns-in_ok-handable-in-HandOver c =
    let a = c.args in
    let h = held_from a.plan.now a.cells.now a.marks.now a.sent a.words.now in
    let e : Ok c.in_ok-n.n ≡ check_of h = grind rules in
    let v = passes h.field h.words e in
    let k : c.args.kind ≡ 2 = grind arith in
    let d : Ok c.in_ok-handable-in-HandOver.field-0 ≡ handable a.plan.now a.number (take c.in_ok-n.n a.words.now) = grind rules in
    hand-shown _ _ h a.buffer.now v k _ (ap (λ (t : State). t.words) (starts h.field h.words e)) d
