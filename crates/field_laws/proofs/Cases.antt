-- THE way to reason on a step: it is refused and leaves the state, or it is taken and these are the facts (`wake-outcome`, `hand-outcome`,
-- `serve-outcome`, `step-outcome`).
use Rattle.std.specs.Prelude.{ℕ, ◌+◌, ◌*◌, ◌≤◌, ◌<◌, ◌≡◌, ◌≢◌, ◌⊎◌, not, cond, List, [], ◌∷◌, ◌++◌, eqb, ltb, leb}
use Rattle.std.proofs.Common.{arith, inl, inr}
use Rattle.std.proofs.Math.Path.{refl}
use Rattle.std.proofs.Math.ListN.{length, get_or}
use borrow.Author.Tests.{leb-false, lt-leb}
use Rattle.base.proofs.laws.Cond.{bool_cases, eqb-cases, ltb-cases, eqb-diff, by-eq}
use Rattle.base.specs.Loop.{After, taken_to, refused_by}
use Rattle.base.specs.Keep.{keep, place}
use Rattle.base.proofs.laws.Keep.{FirstThat, place-first, place-some}
use Rattle.format_word.specs.Word.{hand_over}
use Rattle.plan.specs.Links.{Plan, modules_of, links_of}
use Rattle.node.specs.Work.{Work, ASLEEP, REFUSED}
use Rattle.field.specs.Edges.{ceiling_of}
use Rattle.field.specs.State.{State, node_at, placed}
use Rattle.field.specs.Step.{in_air, in_queue, without, carry_out, wake_work, wake, hand, serve_work, back_of, serve, step}

-- a response that was placed
pub record Placed (p : Plan) (v : ℕ) (w : Work) (s : State) (words back : List ℕ) (s' : State) : Type 0 where
  pub fine : w.answer ≢ REFUSED
  pub room : s.sent + length w.sends ≤ ceiling_of p
  pub is : s' ≡ placed p v w s words back

pub record Woke (p : Plan) (v : ℕ) (s s' : State) : Type 0 where
  pub within : v < modules_of p
  pub asleep : (node_at s v).status ≡ ASLEEP
  pub responds : Placed p v (wake_work p v s) s s.words [] s'

pub record HandedOver (p : Plan) (d : ℕ) (s s' : State) : Type 0 where
  pub within : d < 2 * links_of p
  pub word : ℕ
  pub rest : List ℕ
  pub first : FirstThat (in_air d) s.words word rest
  pub is : s' ≡ record { cells = s.cells; marks = s.marks; words = rest ++ (hand_over word ∷ []); sent = s.sent }

pub record Served (p : Plan) (v : ℕ) (s s' : State) : Type 0 where
  pub within : v < modules_of p
  pub word : ℕ
  pub rest : List ℕ
  pub first : FirstThat (in_queue p v) s.words word rest
  pub at : word ≡ get_or s.words (place (in_queue p v) s.words) 0
  pub responds : Placed p v (serve_work p v word s) s rest (back_of (serve_work p v word s) word) s'

-- "A refused call alters no field": a step refused by one of these numbers
abbrev pub RefusalNumber : ℕ → Type 0
RefusalNumber r = (r ≡ 32) ⊎ (r ≡ 33) ⊎ ((41 ≤ r) × (r ≤ 45)) ⊎ (r ≡ 54)

pub refusal-not-0 : (r : ℕ) → RefusalNumber r → r ≢ 0
refusal-not-0 r (inl h) = λ e. omega arith
refusal-not-0 r (inr (inl h)) = λ e. omega arith
refusal-not-0 r (inr (inr (inl h))) = λ e. omega (arith, h.0)
refusal-not-0 r (inr (inr (inr h))) = λ e. omega arith

usual : (r : ℕ) → 41 ≤ r → r ≤ 45 → RefusalNumber r
usual r l h = inr (inr (inl (l, h)))

pub data StepOutcome (s : State) (Took : State → Type 0) : After State → Type 0 where
  took : {s' : State} → Took s' → StepOutcome s Took (taken_to s')
  kept : (r : ℕ) → RefusalNumber r → StepOutcome s Took (refused_by r s)

module _ (p : Plan) (v : ℕ) (w : Work) (s : State) (words back : List ℕ) where
  pub carried-out : StepOutcome s (Placed p v w s words back) (carry_out p v w s words back)
  unfolding carry_out
  carried-out = eqb-cases w.answer REFUSED (λ b. StepOutcome s (Placed p v w s words back) (cond b (refused_by REFUSED s) (cond (ltb (ceiling_of p) (s.sent + length w.sends)) (refused_by 33 s) (taken_to (placed p v w s words back)))))
      (λ e. kept 32 (inl refl))
      (λ n. ltb-cases (ceiling_of p) (s.sent + length w.sends) (λ b. StepOutcome s (Placed p v w s words back) (cond b (refused_by 33 s) (taken_to (placed p v w s words back))))
      (λ l. kept 33 (inr (inl refl)))
      (λ l. took (record { fine = n; room = l; is = refl })))

  carried-out-refusal : ((carry_out p v w s words back).refusal ≡ 0) ⊎ ((carry_out p v w s words back).refusal ≡ 32) ⊎ ((carry_out p v w s words back).refusal ≡ 33)
  unfolding carry_out
  carried-out-refusal = bool_cases (eqb w.answer REFUSED) (λ e. rw e (inr (inl refl)))
      (λ e. rw e (bool_cases (ltb (ceiling_of p) (s.sent + length w.sends)) (λ b. rw b (inr (inr refl))) (λ b. rw b (inl refl))))

-- the same outcome, told with more facts
pub outcome-map : {s : State} {P Q : State → Type 0} {a : After State} → ((s' : State) → P s' → Q s') → StepOutcome s P a → StepOutcome s Q a
outcome-map f (took {s'} h) = took (f s' h)
outcome-map f (kept r h) = kept r h

module _ (p : Plan) (s : State) where
  pub wake-outcome : (v : ℕ) → StepOutcome s (Woke p v s) (wake p v s)
  unfolding wake
  wake-outcome v = bool_cases (leb (modules_of p) v)
      (λ b. rw b (kept 41 (usual 41 (omega arith) (omega arith))))
      (λ b. rw b (eqb-cases (node_at s v).status ASLEEP (λ t. StepOutcome s (Woke p v s) (cond (not t) (refused_by 43 s) (carry_out p v (wake_work p v s) s s.words [])))
      (λ e. outcome-map (λ s' h. record { within = leb-false _ _ b; asleep = e; responds = h }) (carried-out p v (wake_work p v s) s s.words []))
      (λ n. kept 43 (usual 43 (omega arith) (omega arith)))))

  pub hand-outcome : (d : ℕ) → StepOutcome s (HandedOver p d s) (hand p d s)
  unfolding hand
  hand-outcome d = bool_cases (leb (2 * links_of p) d)
      (λ b. rw b (kept 42 (usual 42 (omega arith) (omega arith))))
      (λ b. rw b (bool_cases (leb (length s.words) (place (in_air d) s.words))
      (λ c. rw c (kept 44 (usual 44 (omega arith) (omega arith))))
      (λ c. rw c (took (record { within = leb-false _ _ b; word = _; rest = _; first = place-first (in_air d) s.words 0 (leb-false _ _ c); is = refl })))))

  pub serve-outcome : (v : ℕ) → StepOutcome s (Served p v s) (serve p v s)
  unfolding serve
  serve-outcome v = bool_cases (leb (modules_of p) v)
      (λ b. rw b (kept 41 (usual 41 (omega arith) (omega arith))))
      (λ b. rw b (bool_cases (leb (length s.words) (place (in_queue p v) s.words))
      (λ c. rw c (kept 45 (usual 45 (omega arith) (omega arith))))
      (λ c. rw c
      (let i = place (in_queue p v) s.words in
      let x = get_or s.words i 0 in
      let w = serve_work p v x s in
      outcome-map (λ s' h. record {
        within = leb-false _ _ b;
        word = x;
        rest = without i s.words;
        first = place-first (in_queue p v) s.words 0 (leb-false _ _ c);
        at = refl;
        responds = h;
      })
      (carried-out p v w s (without i s.words) (back_of w x))))))

  -- a step of any kind
  pub data FieldStep : ℕ → ℕ → State → Type 0 where
    wake-step : {v : ℕ} {s' : State} → Woke p v s s' → FieldStep 1 v s'
    hand-step : {d : ℕ} {s' : State} → HandedOver p d s s' → FieldStep 2 d s'
    serve-step : {v : ℕ} {s' : State} → Served p v s s' → FieldStep 3 v s'

  pub step-outcome : (kind number : ℕ) → StepOutcome s (FieldStep kind number) (step p kind number s)
  unfolding step
  step-outcome kind number = by-eq kind 1
      (λ e. rw e (outcome-map (λ s' h. wake-step h) (wake-outcome number)))
      (λ n₁. rw (eqb-diff kind 1 n₁) (by-eq kind 2
      (λ e. rw e (outcome-map (λ s' h. hand-step h) (hand-outcome number)))
      (λ n₂. rw (eqb-diff kind 2 n₂) (by-eq kind 3
      (λ e. rw e (outcome-map (λ s' h. serve-step h) (serve-outcome number)))
      (λ n₃. rw (eqb-diff kind 3 n₃) (kept 54 (inr (inr (inr refl)))))))))

-- an outcome whose answer is 0 was taken
pub took_it : {s : State} {Took : State → Type 0} {a : After State} → StepOutcome s Took a → a.refusal ≡ 0 → Took a.state
took_it (took h) e = h
took_it (kept r h) e = absurd (refusal-not-0 r h e)

-- ---- a step that is not refused

module _ (p : Plan) (s : State) where
  -- a word is there to hand over
  pub hand-fine : (d : ℕ) → d < 2 * links_of p → 1 ≤ length (keep (in_air d) s.words) → (hand p d s).refusal ≡ 0
  unfolding hand
  hand-fine d l h = rw (lt-leb (2 * links_of p) d l, lt-leb (length s.words) (place (in_air d) s.words) (place-some (in_air d) s.words h)) refl

  -- a word is in the queue, and the response is not refused
  pub serve-fine : (v : ℕ) → v < modules_of p → 1 ≤ length (keep (in_queue p v) s.words) → (serve p v s).refusal ≢ 32 → (serve p v s).refusal ≢ 33 → (serve p v s).refusal ≡ 0
  unfolding serve
  serve-fine v l h = rw (lt-leb (modules_of p) v l, lt-leb (length s.words) (place (in_queue p v) s.words) (place-some (in_queue p v) s.words h))
      (let i = place (in_queue p v) s.words in
      let x = get_or s.words i 0 in
      let w = serve_work p v x s in
      fine (carried-out-refusal p v w s (without i s.words) (back_of w x)))
    where
      fine : {r : ℕ} → (r ≡ 0) ⊎ (r ≡ 32) ⊎ (r ≡ 33) → r ≢ 32 → r ≢ 33 → r ≡ 0
      fine (inl e) a b = e
      fine (inr (inl e)) a b = absurd (a e)
      fine (inr (inr e)) a b = absurd (b e)
