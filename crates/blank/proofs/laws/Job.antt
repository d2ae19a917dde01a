-- The whole job on a plan with nobody in it leaves what setup leaves (`blank-job`).
use Rattle.std.specs.Prelude.{ℕ, ◌≡◌, true, List, [], ◌∷◌, length}
use Rattle.std.proofs.Common.{sym, ap, ◌∙◌}
use Rattle.std.proofs.Math.Path.{refl}
use Rattle.std.proofs.lemmas.List.{length-replicate}
use Rattle.base.specs.Loop.{After}
use Rattle.plan.specs.Links.{Plan}
use Rattle.plan.specs.Trimmed.{trimmed}
use Rattle.field.specs.Held.{Held, fresh, valid, set_up}
use Rattle.field_calls.specs.Call.{run, run_bytes, run_rounds, does, after}
use Rattle.host_job.specs.Job.{job_wakes, max_rounds, job_run}
use Rattle.host_job.proofs.laws.Agrees.{job_is}
use Rattle.blank.specs.Claim.{Blank, zero_words}
use Rattle.blank.proofs.laws.Plans.{trimmed-blank}
use Rattle.blank.proofs.laws.Fields.{blank-set, blank-valid}
use Rattle.blank.proofs.laws.Rounds.{blank-rounds}
use Rattle.blank.proofs.laws.Calls.{blank-after}

module _ (p : Plan) (b : Blank p) (lent : List ℕ) where
  abbrev pub blank_begun : Held
  blank_begun = record { field = fresh (trimmed p); words = zero_words (length lent) }

  pub held-blank : Blank (trimmed p)
  held-blank = trimmed-blank p b

  pub blank-begun : valid blank_begun ≡ true
  blank-begun = (blank-valid blank_begun held-blank).1 (refl, ap zero_words (sym (length-replicate {A = ℕ} (length lent) 0)))

  pub begun-is : (set_up p lent).state ≡ blank_begun
  begun-is = ap (λ (a : After Held). a.state) (blank-set p b lent)

  woken-is : (run_bytes (job_wakes p) blank_begun).state ≡ blank_begun
  unfolding after does
  woken-is = blank-after blank_begun held-blank blank-begun (run (job_wakes p) ∷ [])

  pub blank-job : job_run p lent ≡ record { done = 0; refusal = 0; state = (set_up p lent).state }
  blank-job =
      job_is p lent (ap (λ (a : After Held). a.refusal) (blank-set p b lent))
      ∙ ap (λ h. run_rounds max_rounds (run_bytes (job_wakes p) h).state) begun-is
      ∙ ap (run_rounds max_rounds) woken-is
      ∙ blank-rounds blank_begun held-blank blank-begun max_rounds
      ∙ ap (λ (h : Held). record { done = 0; refusal = 0; state = h }) (sym begun-is)
