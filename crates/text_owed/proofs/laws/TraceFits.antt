-- All that the tracing program prints has at most 400000 bytes (`traced-fits`): 7920 words wait at most.
use Rattle.std.specs.Prelude.{ℕ, ◌≤◌, ◌≡◌, refl, cond, List, length, take, drop, replicate}
use Rattle.std.proofs.Common.{arith, subst}
use Rattle.std.proofs.lemmas.List.{length-replicate}
use Rattle.base.specs.Limits.{max_words}
use Rattle.base.proofs.laws.Cond.{eqb-cases}
use Rattle.base.specs.Loop.{Ran}
use Rattle.format_text.specs.Lines.{refused_text}
use Rattle.format_text.proofs.laws.Lines.{line-length}
use Rattle.plan.specs.Refusal.{plan_refusal}
use Rattle.plan.proofs.laws.Accepted.{Accepted, accepted}
use Rattle.plan.proofs.laws.Ceiling.{ceiling-small}
use Rattle.plan.proofs.laws.Trimmed.{trimmed-taken}
use Rattle.plan_file.specs.Reading.{read_plan}
use Rattle.plan_file.proofs.laws.RoundTrip.{read_taken}
use Rattle.plan.specs.Links.{Plan}
use Rattle.plan.specs.Trimmed.{trimmed}
use Rattle.field.specs.Edges.{ceiling_of}
use Rattle.field.specs.Valid.{waiting_in}
use Rattle.field.specs.Held.{Held, fresh}
use Rattle.field_calls.specs.Call.{run, run_bytes, does}
use Rattle.field_laws.proofs.Laid.{Live, live-sound, does-live, plan-of-does}
use Rattle.field_laws.proofs.After.{trimmed-ceiling, begun-live}
use Rattle.text_trace.proofs.laws.Fits.{trace-length}
use Rattle.text_owed.specs.Traced.{fresh_held, plan_part, ran_text, traced}

ran-length : (p : Plan) (r : Ran Held) → Accepted p → length (waiting_in r.state.words) ≤ max_words → length (ran_text p r) ≤ 400000
unfolding ran_text
ran-length p r a l = trace-length p r.state.field r.done r.refusal (waiting_in r.state.words) a.modules_ok a.links_ok l

-- the field that a run leaves passes 31: no more words wait than M
module _ (p : Plan) (a : plan_refusal p ≡ 0) where
  begun : Live (fresh_held p)
  begun =
      let n = length-replicate {A = ℕ} (ceiling_of p) 0 in
      subst (λ k. Live (record { field = fresh (trimmed p); words = replicate k 0 })) n (begun-live (trimmed p) (replicate (ceiling_of p) 0) (trimmed-taken p a) (omega (arith, n, trimmed-ceiling p)))

  waiting-small : (schedule : List ℕ) → length (waiting_in (run_bytes schedule (fresh_held p)).state.words) ≤ max_words
  unfolding does
  waiting-small schedule =
      let h = (does (run schedule) (fresh_held p)).state in
      let left = (live-sound h (does-live (fresh_held p) begun (run schedule))).fits in
      let most : ceiling_of h.field.plan ≤ max_words = rw (plan-of-does (fresh_held p) begun (run schedule)) (ceiling-small (trimmed p) (trimmed-taken p a)) in
      omega (arith, left.waiting, left.ceiling)

pub traced-length : (s : List ℕ) → length (traced s) ≤ 400000
unfolding traced
traced-length s =
    let g = read_plan (take (plan_part s) s) in
    let r = run_bytes (drop (plan_part s) s) (fresh_held g.plan) in
    eqb-cases g.refusal 0 (λ b. length (cond b (ran_text g.plan r) (refused_text g.refusal)) ≤ 400000)
    (λ z.
    let a = read_taken (take (plan_part s) s) g refl z in
    ran-length g.plan r (accepted g.plan a) (waiting-small g.plan a (drop (plan_part s) s)))
    (λ n. omega (arith, line-length "refused " g.refusal))

-- the buffer, before anything is put
pub traced-fits : (s : List ℕ) → length (traced s) ≤ length {A = ℕ} (replicate 400000 0)
traced-fits s = rw (length-replicate {A = ℕ} 400000 0) (omega (arith, traced-length s))
