-- What waits in a channel by the records (`waiting`), by whether a copy waits there.
use Rattle.std.specs.Prelude.{ℕ, ◌≡◌, cond, List, [], ◌∷◌}
use Rattle.std.proofs.Common.{sym, ◌∙◌, true≢false}
use Rattle.base.proofs.laws.Cond.{bool_cases}
use Rattle.plan.specs.Links.{Plan}
use Rattle.field.specs.Edges.{from}
use Rattle.cue.specs.declared.Cue.{Cue}
use Rattle.cue.specs.Record.{record_of}
use Rattle.cue.specs.Copies.{waits_on}
use Rattle.cue.proofs.laws.Copies.{WaitsOn, waits-facts, facts-wait}

-- what directed link d's channel holds by the records: the copy that waits there, or none
abbrev pub waiting : Plan → List Cue → ℕ → List Cue
waiting p cues d = cond (waits_on p cues d) (record_of cues (from p d) ∷ []) []

-- the two cases
pub waiting-by : (p : Plan) (cues : List Cue) (d : ℕ) {l : List Cue} → (WaitsOn p cues d → l ≡ record_of cues (from p d) ∷ []) → (¬ WaitsOn p cues d → l ≡ [])
    → l ≡ waiting p cues d
waiting-by p cues d y n = bool_cases (waits_on p cues d)
    (λ t. y (waits-facts p cues d t) ∙ rw t)
    (λ f. n (λ w. true≢false (sym (facts-wait p cues d w) ∙ f)) ∙ rw f)

pub waiting-copy : (p : Plan) (cues : List Cue) (d : ℕ) → WaitsOn p cues d → waiting p cues d ≡ record_of cues (from p d) ∷ []
waiting-copy p cues d w = rw (facts-wait p cues d w)

pub waiting_none : (p : Plan) (cues : List Cue) (d : ℕ) → ¬ WaitsOn p cues d → waiting p cues d ≡ []
waiting_none p cues d n = bool_cases (waits_on p cues d) (λ t. absurd (n (waits-facts p cues d t))) (λ f. rw f)
