-- DEMAND 3 FROM THE PROTOCOL: what remains to be shown of one field, step by step, for all that the demand says of lists of calls (`demand3-from`).
use Rattle.std.specs.Prelude.{ℕ, ◌+◌, ◌≤◌, ◌≡◌, refl, ◌≢◌, ◌⊎◌, Bool, true, false, not, cond, length, get_or, replicate, eqb, ltb}
use Rattle.std.proofs.Common.{arith, sym, ◌∙◌, inl, inr, ⊎_elim}
use Rattle.std.proofs.Math.Path.{ap, subst}
use mathlib.Core.List.{List, [], ◌∷◌}
use Rattle.base.proofs.laws.Cond.{eqb-cases}
use Rattle.base.specs.Loop.{After, Ran}
use Rattle.base.proofs.laws.Loop.{runs-refusal}
use Rattle.base.specs.Pool.{All, nil, con}
use Rattle.base.proofs.laws.Pool.{All-map}
use Rattle.base.specs.Test.{every}
use Rattle.plan.proofs.laws.Accepted.{Accepted, accepted}
use Rattle.plan.specs.Links.{Plan, modules_of}
use Rattle.plan.specs.Trimmed.{trimmed}
use Rattle.node.specs.declared.Node.{Node}
use Rattle.node.specs.Work.{BRANCH}
use Rattle.field.specs.Edges.{ceiling_of}
use Rattle.field.specs.State.{State, mark_at}
use Rattle.field.specs.Step.{step}
use Rattle.field.specs.Held.{Held, state_of, fresh}
use Rattle.field_calls.specs.Schedule.{schedule_refusal, schedule_run, length_fits, kind_listed, steps_in, kind_of, number_of, step_at, never}
use Rattle.field_calls.specs.Rounds.{rounds_run}
use Rattle.field_calls.specs.Call.{Call, one, run, rounds, does, run_rounds, after, answers}
use Rattle.field_calls.specs.Demand.{TreeLink, Allowed, InPart, Agreed, AsAtSetup, ComesToRest, Claim, Demand3}
use Rattle.field_calls.specs.Trail.{Awake}
use Rattle.field_laws.proofs.Cases.{StepOutcome, took, kept, step-outcome}
use Rattle.field_laws.proofs.Keeps.{Sound, step_keeps}
use Rattle.field_laws.proofs.Trace.{on_state, call-keeps}
use Rattle.field_laws.proofs.Laid.{waiting-zeros, Live, live-sound, does-live, does-state, state-of-does, plan-of-does, refusal-of-does}
use Rattle.field_laws.proofs.After.{fresh-node, started, begun-live, after-live, after-plan, list_counts, list-keeps}
use Rattle.field_laws.proofs.Messages.{times-conserved, number-conserved}
use Rattle.field_roundlaws.proofs.Progress.{BlockedWord}
use Rattle.field_roundlaws.proofs.Calm.{Calm}
use Rattle.field_roundlaws.proofs.Rest.{rested}
use Rattle.field_roundlaws.proofs.Awake.{list-wakes, all-member}

-- What the protocol has to show: an invariant Good of the states of accepted plan p, with these facts.
pub record Protocol (p : Plan) (Good : State → Type 0) : Type 0 where
  -- it holds at setup
  pub start : (lent : List ℕ) → Good (state_of (record { field = fresh p; words = replicate (length lent) 0 }))
  -- every step keeps it
  pub keeps : (kind number : ℕ) (s : State) → Sound p s → Good s → Good (step p kind number s).state
  -- no step is refused by 32 or 33
  pub unrefused : (kind number : ℕ) (s : State) → Sound p s → Good s → ((step p kind number s).refusal ≢ 32) × ((step p kind number s).refusal ≢ 33)
  -- nothing waits where every waiting message is blocked
  pub stuck : (s : State) → Sound p s → Good s → All (BlockedWord p s) s.words → s.words ≡ []
  -- branches are tree links
  pub branches : (s : State) → Sound p s → Good s → (v k : ℕ) → mark_at p s v k ≡ BRANCH → TreeLink p k
  -- at rest, with module v awake, its part agrees
  pub agreed : (s : State) → Sound p s → Good s → (v : ℕ) → Awake p s v → s.words ≡ [] → Agreed p s (InPart p v)
  -- a part with nobody awake is as at setup
  pub asleep : (lent : List ℕ) (s : State) → Sound p s → Good s → (w : ℕ) → ((v : ℕ) → InPart p w v → ¬ Awake p s v)
      → AsAtSetup p (state_of (record { field = fresh p; words = replicate (length lent) 0 })) s (InPart p w)

-- ---- refusals

-- 51 to 54, or none
abbrev OfSchedule : ℕ → Type 0
OfSchedule r = (r ≡ 0) ⊎ ((51 ≤ r) × (r ≤ 54))

pick : (b : Bool) (x y : ℕ) → 51 ≤ x → x ≤ 54 → OfSchedule y → OfSchedule (cond b x y)
pick true x y l h q = inr (l, h)
pick false x y l h q = q

schedule-refusal : (bytes : List ℕ) → OfSchedule (schedule_refusal bytes)
unfolding schedule_refusal
schedule-refusal bytes =
    pick (ltb (length bytes) 3) 51 _ (omega arith) (omega arith)
    (pick (not (eqb (get_or bytes 0 0) 1)) 52 _ (omega arith) (omega arith)
    (pick (not (length_fits bytes)) 53 _ (omega arith) (omega arith)
    (pick (not (every (steps_in bytes) (λ i. kind_listed (kind_of bytes i)))) 54 0 (omega arith) (omega arith) (inl refl))))

-- what a step or a run may answer
abbrev Usual : ℕ → Type 0
Usual r = (r ≡ 0) ⊎ ((41 ≤ r) × (r ≤ 45)) ⊎ ((51 ≤ r) × (r ≤ 54))

usual-schedule : (r : ℕ) → OfSchedule r → Usual r
usual-schedule r (inl e) = inl e
usual-schedule r (inr h) = inr (inr h)

usual-step : {s : State} {Took : State → Type 0} {a : After State} → StepOutcome s Took a → a.refusal ≢ 32 → a.refusal ≢ 33 → Usual a.refusal
usual-step (took h) x y = inl refl
usual-step (kept r (inl e)) x y = absurd (x e)
usual-step (kept r (inr (inl e))) x y = absurd (y e)
usual-step (kept r (inr (inr (inl h)))) x y = inr (inl h)
usual-step (kept r (inr (inr (inr e)))) x y = inr (inr (omega arith, omega arith))

module _ (p : Plan) (a : Accepted p) (Good : State → Type 0) (proto : Protocol p Good) where
  calm : Calm p Good
  unfolding step
  calm = record { keeps = proto.keeps; unrefused = λ v s i g. proto.unrefused 3 v s i g; stuck = proto.stuck }

  step-usual : (kind number : ℕ) (s : State) → Sound p s → Good s → Usual (step p kind number s).refusal
  step-usual kind number s i g = let u = proto.unrefused kind number s i g in usual-step (step-outcome p s kind number) u.0 u.1

  -- a call on a good state answers what it may
  call-allowed : (c : Call) (s : State) → Sound p s → Good s → Allowed c (on_state p c s).refusal
  unfolding on_state
  call-allowed (one kind number) s i g = step-usual kind number s i g
  call-allowed (run bytes) s i g = eqb-cases (schedule_refusal bytes) 0
      (λ b. Usual (cond b (schedule_run p bytes s) (record { done = 0; refusal = schedule_refusal bytes; state = s })).refusal)
      (λ e. runs-refusal (λ x. Sound p x × Good x) Usual never (steps_in bytes) (step_at p bytes) s (i, g) (inl refl)
      (λ k y l h. (
        (step_keeps p a y h.0 (kind_of bytes k) (number_of bytes k), proto.keeps (kind_of bytes k) (number_of bytes k) y h.0 h.1),
        step-usual (kind_of bytes k) (number_of bytes k) y h.0 h.1,
      )))
      (λ n. usual-schedule (schedule_refusal bytes) (schedule-refusal bytes))
  call-allowed (rounds limit) s i g = (rested p a Good calm s i g limit).refusal

  -- ---- lists of calls on what a host holds

  module _ (h : Held) (i : Live h) (e : h.field.plan ≡ p) where
    sound-held : Sound p (state_of h)
    sound-held = subst (λ q. Sound q (state_of h)) e (live-sound h i)

  allowed : (cs : List Call) (h : Held) → Live h → h.field.plan ≡ p → Good (state_of h) → All (λ r. Allowed r.call r.refusal) (answers cs h)
  unfolding answers
  allowed [] h i e g = nil
  allowed (c ∷ cs) h i e g =
      let s = sound-held h i e in
      let q : on_state h.field.plan c (state_of h) ≡ on_state p c (state_of h) = ap (λ x. on_state x c (state_of h)) e in
      let next : Good (state_of (does c h).state) =
      subst Good (sym (state-of-does h i c ∙ ap (λ (r : Ran State). r.state) q))
      (call-keeps p (λ x. Sound p x × Good x) (λ kind number x k. (step_keeps p a x k.0 kind number, proto.keeps kind number x k.0 k.1)) c (state_of h) (s, g)).1 in
      con (subst (Allowed c) (sym (refusal-of-does h i c ∙ ap (λ (r : Ran State). r.refusal) q)) (call-allowed c (state_of h) s g))
      (allowed cs (does c h).state (does-live h i c) (plan-of-does h i c ∙ e) next)

  -- what a run of rounds leaves
  settling : (h : Held) → Live h → h.field.plan ≡ p → Good (state_of h) → (limit : ℕ) → ceiling_of p + modules_of p ≤ limit → ComesToRest p (run_rounds limit h)
  unfolding does on_state
  settling h i e g limit l =
      let r = rested p a Good calm (state_of h) (sound-held h i e) g limit in
      let q : on_state h.field.plan (rounds limit) (state_of h) ≡ rounds_run p limit (state_of h) = ap (λ x. rounds_run x limit (state_of h)) e in
      record {
        rest = ap (λ (s : State). s.words) (state-of-does h i (rounds limit)) ∙ ap (λ (x : Ran State). x.state.words) q ∙ r.rest l;
        unrefused = refusal-of-does h i (rounds limit) ∙ ap (λ (x : Ran State). x.refusal) q ∙ r.refusal;
        within = subst (λ n. n ≤ ceiling_of p + modules_of p) (sym (ap (λ (x : Ran Held). x.done) (does-state h i (rounds limit)) ∙ ap (λ (x : Ran State). x.done) q)) r.within;
      }

  -- all of it, for a list of calls on the field and words of a setup
  claim : (lent : List ℕ) → let h : Held = record { field = fresh p; words = replicate (length lent) 0 } in Live h → (cs : List Call) → Claim p h cs
  claim lent i cs =
      let h : Held = record { field = fresh p; words = replicate (length lent) 0 } in
      let e : h.field.plan ≡ p = refl in
      let g = proto.start lent in
      let none = waiting-zeros (length lent) in
      let h' = after cs h in
      let i' = after-live cs h i in
      let e' : h'.field.plan ≡ p = after-plan cs h i ∙ e in
      let g' = list-keeps p Good proto.keeps cs h i e g in
      let s' = sound-held h' i' e' in
      let c = list_counts p cs h i e in
      let w = list-wakes p a cs h i e in
      record {
        branches = proto.branches (state_of h') s' g';
        exact = c.sent ∙ omega arith;
        messages = times-conserved p a cs h i e none;
        waiting = omega (arith, c.sent, number-conserved p a cs h i e none);
        ceiling = s'.fits.ceiling;
        refusals = allowed cs h i e g;
        agreed = λ r. All-map (λ v k. proto.agreed (state_of h') s' g' v k r) w.woken;
        asleep = λ v n. proto.asleep lent (state_of h') s' g' v (λ u y k. ⊎_elim
            (λ q. q.awake (ap (λ (x : Node). x.status) (fresh-node u (omega (arith, k.within, a.modules_ok)))))
            (λ m. all-member n m y)
            (w.only u k));
        rests = settling h' i' e' g';
      }

-- THE REDUCTION
pub demand3-from : ((p : Plan) → Accepted p → (Good : State → Type 0) × Protocol p Good) → Demand3
demand3-from proto p lent z cs =
    let q = trimmed p in
    let s = started p lent z in
    let a = accepted q s.plan in
    let g = proto q a in
    subst (λ h. Claim q h cs) (sym s.is) (claim q a g.0 g.1 lent (begun-live q lent s.plan s.room) cs)
