-- What is printed, by outcome: refused (`traced-refused`), or the run (`traced-ran`, `ran-shown`), which starts from an accepted plan's setup with
-- M words (`fresh-taken`).
use Rattle.std.specs.Prelude.{ℕ, ◌-◌, ◌≡◌, ◌≢◌, List, length, take, drop}
use Rattle.std.proofs.Common.{arith, ap, ◌∙◌}
use Rattle.std.proofs.Math.Path.{refl, sym}
use Rattle.std.proofs.Math.ListN.{length-drop}
use Rattle.std.proofs.Math.Seq.{take_all}
use borrow.Author.Tests.{eq-eqb, ne_eqb, le-ltb}
use Rattle.base.specs.Loop.{Ran, taken_to}
use Rattle.plan.specs.Links.{Plan}
use Rattle.plan.specs.Refusal.{plan_refusal}
use Rattle.plan_file.specs.Reading.{Outcome}
use Rattle.plan_file.specs.Reading.{read_plan}
use Rattle.field.specs.Edges.{ceiling_of}
use Rattle.field.specs.Valid.{waiting_in}
use Rattle.field.specs.Held.{Held, set_up}
use Rattle.field_calls.specs.Call.{run_bytes}
use Rattle.format_text.specs.Lines.{refused_text}
use Rattle.text_trace.specs.Text.{trace_text}
use Rattle.text_owed.specs.Traced.{fresh_held, plan_part, ran_text, traced}

-- For code: which of the two, where the plan's part is read.
module _ (s : List ℕ) (part : ℕ) (e : part ≡ plan_part s) (g : Outcome) (f : g ≡ read_plan (take part s)) where
  pub traced-refused : g.refusal ≢ 0 → traced s ≡ refused_text g.refusal
  unfolding traced
  traced-refused h = rw (sym e, sym f, ne_eqb g.refusal 0 h) refl

  pub traced-ran : g.refusal ≡ 0 → traced s ≡ ran_text g.plan (run_bytes (take (length s - part) (drop part s)) (fresh_held g.plan))
  unfolding traced
  traced-ran h = rw (sym e, sym f, eq-eqb g.refusal 0 h, take_all (length s - part) (drop part s) (omega (arith, length-drop part s))) refl

pub ran-shown : (p : Plan) {r x : Ran Held} → r ≡ x → {waiting : List ℕ} → waiting ≡ waiting_in r.state.words
    → trace_text p r.state.field r.done r.refusal waiting ≡ ran_text p x
unfolding ran_text
ran-shown p {r} e w = ap (trace_text p r.state.field r.done r.refusal) w ∙ ap (ran_text p) e

-- an accepted plan's setup with M words is taken
pub fresh-taken : (p : Plan) (lent : List ℕ) → plan_refusal p ≡ 0 → length lent ≡ ceiling_of p → set_up p lent ≡ taken_to (fresh_held p)
unfolding set_up
fresh-taken p lent a m = simp (eq-eqb _ 0 a, m, le-ltb (ceiling_of p) (ceiling_of p) (omega arith))
