-- The schedule of some wakes is not refused (`wakes-fit`), and its steps are these wakes in this order (`wakes-steps`); if none is refused, all are taken
-- (`wakes-taken`). Wakes of sleepers, none of them twice, are refused by 32 or 33, if at all (`sleepers-carried`).
use Prim.Native.Nat.{ℕ, zero, suc, ◌+◌, ◌*◌, ◌%◌, ◌≤◌, ◌<◌}
use Rattle.std.proofs.Common.{arith, subst, ◌∙◌, inr, take-suc, drop-cons, get_or-drop}
use Rattle.std.specs.Prelude.{◌≡◌, ◌≢◌, ◌⊎◌, cond, take, ltb}
use Rattle.std.proofs.Math.Path.{refl, sym, ap, ap₂}
use Rattle.std.proofs.Math.Logic.{inl}
use Rattle.std.proofs.Math.Bool.{true}
use mathlib.Core.List.{List, [], ◌∷◌, ◌++◌, append-nil, map, map-append, flat_map}
use Rattle.std.proofs.Math.ListN.{length, get_or, drop}
use Rattle.std.proofs.Math.Dec.{eqb}
use borrow.Author.Tests.{eq-eqb, le-ltb, lt-leb}
use Rattle.base.proofs.laws.Cond.{bool_cases, by-eq, eqb-diff}
use Rattle.base.specs.Loop.{After, runs, runs_trace}
use Rattle.base.proofs.laws.Loop.{by-test}
use Rattle.base.specs.Pool.{All, nil, con}
use Rattle.base.proofs.laws.Pool.{All-map, All-both}
use Rattle.base.proofs.laws.Test.{all-every}
use Rattle.base.specs.Twice.{NoTwice, nobody, another}
use Rattle.base.proofs.laws.Twice.{NoTwice-behind}
use Rattle.format_int16.proofs.laws.Int16.{bytes-join}
use Rattle.graph.specs.Graph.{Graph}
use Rattle.graph.specs.Parts.{lowest, lowests}
use Rattle.graph.proofs.laws.Parts.{lowests-are}
use Rattle.plan.specs.Links.{Plan, modules_of}
use Rattle.node.specs.declared.Node.{Node}
use Rattle.node.specs.Work.{Work, ASLEEP, REFUSED}
use Rattle.field.specs.Edges.{ceiling_of}
use Rattle.field.specs.State.{State, node_at}
use Rattle.field.specs.Step.{carry_out, wake_work, wake, WAKE, step}
use Rattle.field_calls.specs.declared.Step.{Step}
use Rattle.field_calls.specs.Schedule.{schedule_refusal, steps_in, kind_of, number_of, kind_listed, step_at, never, step_of, steps_from, schedule_steps, list_run}
use Rattle.field_calls.specs.Trail.{Taken, step_taken, if_taken}
use Rattle.field_laws.proofs.Cases.{Woke, StepOutcome, took, kept, wake-outcome}
use Rattle.field_laws.proofs.Places.{node-other}
use Rattle.host_job.specs.Job.{wake_steps, wakes_of}

-- a wake of module v, as a step
abbrev pub wake_of : ℕ → Step
wake_of v = record { kind = WAKE; number = v }

-- THE BYTES

pub length-wakes : (l : List ℕ) → length (wake_steps l) ≡ 3 * length l
unfolding wake_steps flat_map
length-wakes [] = refl
length-wakes (v ∷ l) = omega (arith, length-wakes l)

drop-wakes : (l : List ℕ) (i : ℕ) → drop (3 * i) (wake_steps l) ≡ wake_steps (drop i l)
unfolding wake_steps flat_map
drop-wakes l zero = refl
drop-wakes [] (suc i) = let e : 3 * suc i ≡ suc (2 + 3 * i) = omega arith in rw e refl
drop-wakes (v ∷ l) (suc i) = let e : 3 * suc i ≡ suc (suc (suc (3 * i))) = omega arith in rw e (drop-wakes l i)

module _ (l : List ℕ) where
  -- byte k behind the head and i steps
  byte-behind : (i k : ℕ) → i < length l → get_or (wakes_of l) (3 + 3 * i + k) 0 ≡ get_or (wake_steps (get_or l i 0 ∷ drop (suc i) l)) k 0
  byte-behind i k h =
      let e : 3 + 3 * i ≡ suc (suc (suc (3 * i))) = omega arith in
      sym (get_or-drop (3 + 3 * i) (wakes_of l) k 0)
      ∙ ap (λ (n : ℕ). get_or (drop n (wakes_of l)) k 0) e
      ∙ ap (λ (r : List ℕ). get_or r k 0) (drop-wakes l i ∙ ap wake_steps (drop-cons l i 0 h))

  step_is : (i : ℕ) → i < length l → step_of (wakes_of l) i ≡ wake_of (get_or l i 0)
  unfolding wake_steps flat_map
  step_is i h = ap₂ (λ (kind : ℕ) (number : ℕ). record { kind = kind; number = number }) (at 0 (3 + 3 * i) (omega arith))
      (ap₂ (λ (a : ℕ) (b : ℕ). a * 256 + b) (at 1 (4 + 3 * i) (omega arith)) (at 2 (4 + 3 * i + 1) (omega arith)) ∙ bytes-join (get_or l i 0))
    where
      at : (k j : ℕ) → j ≡ 3 + 3 * i + k → get_or (wakes_of l) j 0 ≡ get_or (wake_steps (get_or l i 0 ∷ drop (suc i) l)) k 0
      at k j e = ap (λ (n : ℕ). get_or (wakes_of l) n 0) e ∙ byte-behind i k h

  pub wakes-many : steps_in (wakes_of l) ≡ length l
  wakes-many = omega (arith, length-wakes l)

  pub wakes-fit : schedule_refusal (wakes_of l) ≡ 0
  unfolding schedule_refusal
  wakes-fit =
      let n = length (wake_steps l) in
      rw (
        le-ltb (length (wakes_of l)) 3 (omega arith),
        bytes-join n,
        eq-eqb (n + 3) (length (wakes_of l)) (omega arith),
        let z : eqb (n % 3) 0 ≡ true = eq-eqb (n % 3) 0 (omega (arith, length-wakes l)) in z,
        all-every (steps_in (wakes_of l)) (λ i. kind_listed (kind_of (wakes_of l) i)) (λ i h. ap (λ (x : Step). kind_listed x.kind) (step_is i (omega (arith, wakes-many)))),
      ) refl

  pub wakes-steps : schedule_steps (wakes_of l) ≡ map wake_of l
  unfolding steps_from
  wakes-steps = ap (steps_from (wakes_of l) 0) wakes-many ∙ listed l 0 (λ j h. at j (0 + j) (omega arith) ∙ step_is j h)
    where
      at : (i j : ℕ) → j ≡ i → step_of (wakes_of l) j ≡ step_of (wakes_of l) i
      at i j e = ap (step_of (wakes_of l)) e

      listed : (m : List ℕ) (i : ℕ) → ((j : ℕ) → j < length m → step_of (wakes_of l) (i + j) ≡ wake_of (get_or m j 0)) → steps_from (wakes_of l) i (length m) ≡ map wake_of m
      listed [] i h = refl
      listed (v ∷ m) i h = ap₂ ◌∷◌ (at (i + 0) i (omega arith) ∙ h 0 (omega arith)) (listed m (suc i) (λ j k. at (i + suc j) (suc i + j) (omega arith) ∙ h (suc j) (omega arith)))

-- THE STEPS

-- a step that was taken, without the state
abbrev pub step_in : Taken → Step
step_in t = record { kind = t.kind; number = t.number }

-- 0, 32 or 33
abbrev pub CarriedAs : ℕ → Type 0
CarriedAs r = (r ≡ 0) ⊎ (r ≡ 32) ⊎ (r ≡ 33)

module _ (p : Plan) where
  -- the first n of them, where none is refused
  pub wakes-taken : (l : List ℕ) (s : State) (n : ℕ) → n ≤ length l → (runs never n (step_at p (wakes_of l)) s).refusal ≡ 0
      → map step_in (runs_trace never n (step_at p (wakes_of l)) (λ i. if_taken p (kind_of (wakes_of l) i) (number_of (wakes_of l) i)) s) ≡ map wake_of (take n l)
  unfolding runs runs_trace if_taken
  wakes-taken l s zero h z = refl
  wakes-taken l s (suc n) h z =
      let b = wakes_of l in
      let r = runs never n (step_at p b) s in
      let told = runs_trace never n (step_at p b) (λ i. if_taken p (kind_of b i) (number_of b i)) s in
      by-eq r.refusal 0
      (λ e. let y : (step_at p b n r.state).refusal ≡ 0 = rw e at z in
      rw (e, y) (map-append step_in told (step_taken (kind_of b n) (number_of b n) r.state ∷ [])
      ∙ ap₂ ◌++◌ (wakes-taken l s n (omega arith) e) (ap (λ x. x ∷ []) (step_is l n (omega arith)))
      ∙ sym (map-append wake_of (take n l) (get_or l n 0 ∷ []))
      ∙ ap (map wake_of) (sym (take-suc l n 0 (omega arith)))))
      (λ d. absurd (d (rw (eqb-diff r.refusal 0 d) at z)))

  -- a wake of a sleeper is refused by 32 or 33, if at all
  carry-only : (v : ℕ) (w : Work) (s : State) (words back : List ℕ) → CarriedAs (carry_out p v w s words back).refusal
  unfolding carry_out
  carry-only v w s words back = bool_cases (eqb w.answer REFUSED) (λ e. rw e (inr (inl refl)))
      (λ e. rw e (bool_cases (ltb (ceiling_of p) (s.sent + length w.sends)) (λ b. rw b (inr (inr refl))) (λ b. rw b (inl refl))))

  abbrev pub Sleeper : State → ℕ → Type 0
  Sleeper s v = (v < modules_of p) × ((node_at s v).status ≡ ASLEEP)

  wake-only : (s : State) (v : ℕ) → Sleeper s v → CarriedAs (step p WAKE v s).refusal
  unfolding step wake
  wake-only s v h = rw (lt-leb (modules_of p) v h.0, eq-eqb _ ASLEEP h.1) (carry-only v _ s s.words [])

  -- and leaves the others as they were
  wake-others : (s : State) (v u : ℕ) → u ≢ v → node_at (step p WAKE v s).state u ≡ node_at s u
  unfolding step
  wake-others s v u n = go (wake-outcome p s v)
    where
      go : {a : After State} → StepOutcome s (Woke p v s) a → node_at a.state u ≡ node_at s u
      go (took h) = ap (λ t. node_at t u) h.responds.is ∙ node-other s.cells v (wake_work p v s).node u n
      go (kept r h) = refl

  pub sleepers-carried : {l : List ℕ} (d : ℕ) (s : State) → NoTwice l → All (Sleeper s) l → CarriedAs (list_run p d (map wake_of l) s).refusal
  unfolding list_run
  sleepers-carried d s nobody nil = inl refl
  sleepers-carried d s (another {x = v} n t) (con h k) =
      let a = step p WAKE v s in
      by-eq a.refusal 0
      (λ e. rw e (sleepers-carried (suc d) a.state t (All-map (λ u q. (q.1.0, ap (λ (m : Node). m.status) (wake-others s v u (λ z. q.0 (sym z))) ∙ q.1.1)) (All-both n k))))
      (λ d. rw (eqb-diff a.refusal 0 d) (wake-only s v h))

-- THE LOWEST MODULES

pub lowests-once : (g : Graph) (n : ℕ) → NoTwice (lowests g n)
unfolding lowests
lowests-once g zero = nobody
lowests-once g (suc n) = by-test (lowest g n) (λ b. NoTwice (lowests g n ++ cond b (n ∷ []) []))
    (NoTwice-behind (lowests-once g n) (All-map (λ u h e. omega (arith, h.0)) (lowests-are g n)))
    (subst NoTwice (sym (append-nil (lowests g n))) (lowests-once g n))
