-- program_trace::follow: an accepted plan with M words is set up, by `fresh-taken`; the run is put as text by `text_trace::render`: the trace of a run, by
-- `ran-shown`.
use mathlib.Core.Path.{◌≡◌, refl, sym, ap, ◌∙◌}
use lib.Seq.{length-take-le}
use Rattle.std.proofs.Common.{rules}
use Rattle.field_check.proofs.Words.{front, within}
use Rattle.std.specs.Prelude.{ℕ, List, Result, Ok, Err}
use Rattle.std.specs.Result.{IsOk}
use Rattle.refusal.specs.declared.Refusal.{Refusal}
use Rattle.refusal.proofs.laws.Number.{positive}
use Rattle.field.specs.declared.Field.{Field}
use Rattle.host_setup.specs.Made.{field_made}
use Rattle.base.specs.Loop.{After, taken_to}
use Rattle.format_text.specs.Put.{put}
use Rattle.plan.proofs.laws.Accepted.{accepted}
use Rattle.field.specs.Held.{Held}
use Rattle.field_calls.specs.Call.{run_bytes}
use Rattle.text_owed.specs.Traced.{fresh_held}
use Rattle.text_owed.proofs.laws.Traced.{fresh-taken, ran-shown}
use Rattle.program_trace.proofs.follow.Goals as goal

pub slice_bounds-render-end : goal.slice_bounds-render-end
slice_bounds-render-end c = within _ _ c.waiting-n.ensures

pub slice_bounds-render-end-2 : goal.slice_bounds-render-end-2
slice_bounds-render-end-2 c = sym (length-take-le _ _ (within _ _ c.waiting-n.ensures))

pub render-requires : goal.render-requires
render-requires c =
    let a = accepted _ c.requires.0 in
    (a.modules_ok, a.links_ok)

-- a call that makes a field, and is taken
made-fine : (r : Result Field Refusal) (words : List ℕ) (h : Held) → field_made r words ≡ taken_to h → IsOk r
made-fine (Ok f) words h e = refl
made-fine (Err x) words h e = absurd (positive x (ap (λ (a : After Held). a.refusal) e))

pub unwrap-f-requires : goal.unwrap-f-requires
unwrap-f-requires c =
    made-fine c.setup.result c.setup.new.words (fresh_held c.args.p.now) (c.setup.ensures ∙ fresh-taken c.args.p.now c.args.lent.now c.requires.0 c.requires.1)

pub returns : goal.returns
returns c =
    let p = c.args.p.now in
    let q : c.setup.result ≡ Ok c.unwrap-f.result = grind rules in
    let s : field_made (Ok c.unwrap-f.result) c.setup.new.words ≡ taken_to (fresh_held p) = rw q at c.setup.ensures ∙ fresh-taken p c.args.lent.now c.requires.0 c.requires.1 in
    let h : record { field = c.unwrap-f.result; words = c.setup.new.words } ≡ fresh_held p = ap (λ (a : After Held). a.state) s in
    rw c.refusal_in-refusal.ensures at c.render.ensures
    ∙ ap (put _) (ran-shown p (c.run-run.ensures ∙ ap (run_bytes c.args.schedule.now) h) (front _ _ c.waiting-n.ensures))
