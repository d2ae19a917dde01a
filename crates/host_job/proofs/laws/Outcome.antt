-- What the whole job runs (`job_is`), whom that wakes (`woken-lowest`), and what it leaves (`JobOutcome`).
use Rattle.std.specs.Prelude.{ℕ, ◌≤◌, ◌<◌, ◌≡◌, true, cond}
use Rattle.std.proofs.Common.{arith, sym, subst, ◌∙◌, inl, inr, take_all}
use Rattle.std.proofs.Math.Path.{refl, ap}
use mathlib.Core.List.{List, [], ◌∷◌, ◌++◌, append-nil, map}
use Rattle.base.specs.Limits.{max_modules}
use Rattle.base.specs.Loop.{Ran, runs_trace}
use Rattle.base.specs.Pool.{All, con}
use Rattle.base.proofs.laws.Pool.{All-map}
use Rattle.graph.specs.Parts.{lowests}
use Rattle.graph.proofs.laws.Parts.{lowests-are}
use Rattle.plan.specs.Links.{Plan, modules_of, graph_of}
use Rattle.plan.specs.Trimmed.{trimmed}
use Rattle.plan.specs.Same.{Same}
use Rattle.plan.proofs.laws.Accepted.{accepted}
use Rattle.plan.proofs.laws.Trimmed.{trimmed-same}
use Rattle.node.specs.Work.{ASLEEP}
use Rattle.field.specs.Edges.{ceiling_of}
use Rattle.field.specs.State.{State, node_at}
use Rattle.field.specs.Held.{Held, state_of, valid, set_up}
use Rattle.field_calls.specs.Schedule.{steps_in, kind_of, number_of, step_at, never, schedule_run, list_run}
use Rattle.field_calls.proofs.laws.Schedule.{run-list}
use Rattle.field_calls.specs.Call.{Call, run, rounds, answers, does, laid_back, run_bytes, run_rounds}
use Rattle.field_calls.specs.Trail.{trail, steps_of, if_taken, messages_sent}
use Rattle.field_calls.specs.Demand.{InPart, Agreed, Allowed, ComesToRest, Claim}
use Rattle.field_laws.proofs.After.{started, begun-live, fresh-node}
use Rattle.field_laws.proofs.Laid.{Live}
use Rattle.demand.proofs.Demand.{demand3}
use Rattle.host_job.specs.Job.{wakes_of, job_wakes, max_rounds, job_run}
use Rattle.host_job.proofs.laws.Wakes.{wake_of, step_in, wakes-many, wakes-fit, wakes-steps, wakes-taken, CarriedAs, Sleeper, sleepers-carried, lowests-once}

-- the calls that it makes
abbrev pub calls : Plan → List Call
calls p = run (job_wakes p) ∷ rounds max_rounds ∷ []

-- of 0, 32 and 33 demand 3 leaves 0
unrefused : (r : ℕ) (bytes : List ℕ) → CarriedAs r → Allowed (run bytes) r → r ≡ 0
unrefused r b (inl e) a = e
unrefused r b (inr (inl e)) (inl z) = z
unrefused r b (inr (inl e)) (inr (inl h)) = omega (arith, h.0)
unrefused r b (inr (inl e)) (inr (inr h)) = omega (arith, h.0)
unrefused r b (inr (inr e)) (inl z) = z
unrefused r b (inr (inr e)) (inr (inl h)) = omega (arith, h.0)
unrefused r b (inr (inr e)) (inr (inr h)) = omega (arith, h.0)

head : {A : Type 0} {P : A → Type 0} {x : A} {l : List A} → All P (x ∷ l) → P x
head (con h t) = h

-- a run of wakes in a field that 31 does not refuse: how it ends, and what it takes
module _ (l : List ℕ) (h : Held) (live : valid h ≡ true) where
  abbrev wakes_run : Ran State
  wakes_run = schedule_run h.field.plan (wakes_of l) (state_of h)

  wakes-run : run_bytes (wakes_of l) h ≡ laid_back h wakes_run
  unfolding run_bytes
  wakes-run = rw (live, wakes-fit l) refl

  -- if none is refused, the steps taken are the wakes
  wakes-trail : wakes_run.refusal ≡ 0 → map step_in (trail (run (wakes_of l) ∷ []) h) ≡ map wake_of l
  unfolding trail steps_of
  wakes-trail z =
      let q = h.field.plan in
      let b = wakes_of l in
      let n = steps_in b in
      let told = runs_trace never n (step_at q b) (λ i. if_taken q (kind_of b i) (number_of b i)) (state_of h) in
      rw (live, wakes-fit l, append-nil told)
      (wakes-taken q l (state_of h) n (omega (arith, wakes-many l)) z ∙ ap (map wake_of) (take_all n l (omega (arith, wakes-many l))))

  -- what more calls take comes behind
  pub trail-on : (cs : List Call) → trail (run (wakes_of l) ∷ cs) h ≡ trail (run (wakes_of l) ∷ []) h ++ trail cs (does (run (wakes_of l)) h).state
  unfolding trail
  trail-on cs = ap (λ t. t ++ trail cs (does (run (wakes_of l)) h).state) (sym (append-nil (cond (valid h) (steps_of h.field.plan (run (wakes_of l)) (state_of h)) [])))

module _ (p : Plan) (lent : List ℕ) (ok : (set_up p lent).refusal ≡ 0) where
  abbrev start : Held
  start = (set_up p lent).state

  -- the plan as the field holds it
  abbrev held : Plan
  held = trimmed p

  same : Same p held
  same = trimmed-same p

  pub live : Live start
  live = let q = started p lent ok in subst Live (sym q.is) (begun-live held lent q.plan q.room)

  pub first-claim : Claim held start (run (job_wakes p) ∷ [])
  first-claim = demand3 p lent ok (run (job_wakes p) ∷ [])

  own : start.field.plan ≡ held
  own = ap (λ (h : Held). h.field.plan) (started p lent ok).is

  abbrev low : List ℕ
  low = lowests (graph_of p) (modules_of p)

  -- at the start all are asleep, so each wake is taken
  taken : (wakes_run low start live.valid).refusal ≡ 0
  unfolding answers does
  taken =
      let q = started p lent ok in
      let few = (accepted held q.plan).modules_ok in
      let asleep : (v : ℕ) → v < max_modules → (node_at (state_of start) v).status ≡ ASLEEP =
      λ v l. ap (λ s. (node_at (state_of s) v).status) q.is ∙ ap (λ n. n.status) (fresh-node v l) in
      let sleepers : All (Sleeper start.field.plan (state_of start)) low =
      All-map (λ v h. (omega (arith, h.0, ap modules_of own, same.modules), asleep v (omega (arith, h.0, same.modules, few)))) (lowests-are (graph_of p) (modules_of p)) in
      let carried = sleepers-carried start.field.plan 0 (state_of start) (lowests-once (graph_of p) (modules_of p)) sleepers in
      let is = run-list start.field.plan (job_wakes p) (state_of start) ∙ ap (λ l. list_run start.field.plan 0 l (state_of start)) (wakes-steps low) in
      unrefused _ (job_wakes p) (subst CarriedAs (sym (ap (λ (r : Ran State). r.refusal) is)) carried)
      (subst (Allowed (run (job_wakes p))) (ap (λ (r : Ran Held). r.refusal) (wakes-run low start live.valid)) (head first-claim.refusals))

  wakes : (run_bytes (job_wakes p) start).refusal ≡ 0
  wakes = ap (λ (r : Ran Held). r.refusal) (wakes-run low start live.valid) ∙ taken

  -- so the job is that list of calls
  pub job_is : job_run p lent ≡ run_rounds max_rounds (run_bytes (job_wakes p) start).state
  unfolding job_run
  job_is = rw (ok, wakes) refl

  -- AT THE END: "comes to rest unrefused within N more rounds than the ceiling"; the sent count is exact and within the ceiling; in each part all modules agree
  -- on the tree, and exactly the ends of one tree link have halted, or the one module
  pub record JobOutcome : Type 0 where
    -- it runs the wakes, then rounds
    pub is : job_run p lent ≡ run_rounds max_rounds (run_bytes (job_wakes p) start).state
    -- "wakes the lowest module of each part" (request 08), all before the first round; nobody where there is nobody
    pub wakes : map step_in (trail (run (job_wakes p) ∷ []) start) ≡ map wake_of (lowests (graph_of p) (modules_of p))
    pub rests : ComesToRest p (job_run p lent)
    -- (sends are those of the plan as the field holds it)
    pub exact : (state_of (job_run p lent).state).sent ≡ messages_sent held (trail (calls p) start)
    pub ceiling : (state_of (job_run p lent).state).sent ≤ ceiling_of p
    pub agreed : (w : ℕ) → w < modules_of p → Agreed p (state_of (job_run p lent).state) (InPart p w)

  pub woken-lowest : map step_in (trail (run (job_wakes p) ∷ []) start) ≡ map wake_of low
  woken-lowest = wakes-trail low start live.valid taken
