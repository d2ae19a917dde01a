-- The steps taken, one after the other, lead from the start to the end: `trail` tells what was done (`call-replay`, `replay`). And how a run ends, of a
-- schedule or of rounds (`run_ends`, `rounds-end`).
use Prim.Native.Nat.{ℕ, zero, suc, ◌+◌, ◌*◌, ◌<◌}
use Rattle.std.proofs.Common.{arith, ap, ◌∙◌, inr, length-append, eq-eqb, ne_eqb}
use Rattle.std.specs.Prelude.{◌≡◌, ◌≢◌, ◌⊎◌, true, ◌&&◌, eqb}
use Rattle.std.proofs.Math.Path.{refl}
use Rattle.std.proofs.Math.Logic.{inl}
use Rattle.std.proofs.Math.Bool.{not, cond}
use mathlib.Core.List.{List, [], ◌∷◌, ◌++◌}
use Rattle.std.proofs.Math.ListN.{length}
use Rattle.base.proofs.laws.Cond.{bool_cases, eqb-diff}
use Rattle.base.specs.Loop.{After, Ran, taken_to, refused_by, loop, counted_turn, runs, runs_trace}
use Rattle.base.proofs.laws.Loop.{by-test, then-elim}
use Rattle.plan.specs.Links.{Plan, modules_of, links_of}
use Rattle.field.specs.State.{State}
use Rattle.field.specs.Step.{in_air, in_queue, hand, serve, step}
use Rattle.field.specs.Held.{Held, state_of}
use Rattle.field_calls.specs.Schedule.{kind_of, number_of, step_at, never}
use Rattle.base.specs.Keep.{many}
use Rattle.field_calls.specs.Rounds.{hand_turn, hand_phase, serve_turn, serve_phase, round, at_rest, rounds_run}
use Rattle.field_calls.specs.Call.{Call, after}
use Rattle.field_calls.specs.Trail.{Taken, if_taken, steps_of, trail}
use Rattle.field_laws.proofs.Cases.{refusal-not-0, StepOutcome, took, kept, step-outcome}
use Rattle.field_laws.proofs.Trace.{on_state, call-tells}
use Rattle.field_laws.proofs.Laid.{Live}
use Rattle.field_laws.proofs.After.{list_tells}

-- from the first state the steps, each taken where it says, lead to the second
pub data Replay (p : Plan) : State → List Taken → State → Type 0 where
  done : {x : State} → Replay p x [] x
  next : {x y z : State} {kind number : ℕ} {l : List Taken} → step p kind number x ≡ taken_to y → Replay p y l z
      → Replay p x (record { kind = kind; number = number; at = x } ∷ l) z

module _ (p : Plan) where
  replay-more : (x y z : State) (l m : List Taken) → Replay p x l y → Replay p y m z → Replay p x (l ++ m) z
  replay-more x _ z _ m done b = b
  replay-more x y z _ m (next {y = w} {l = l} e a) b = next e (replay-more w y z l m a b)

  replay-step : (kind number : ℕ) (s : State) → Replay p s (if_taken p kind number s) (step p kind number s).state
  unfolding if_taken
  replay-step kind number s = go (step p kind number s) refl (step-outcome p s kind number)
    where
      go : {Took : State → Type 0} (a : After State) → step p kind number s ≡ a → StepOutcome s Took a
          → Replay p s (cond (eqb a.refusal 0) (record { kind = kind; number = number; at = s } ∷ []) []) a.state
      go _ e (took h) = next e done
      go _ e (kept r h) = rw (eqb-diff r 0 (refusal-not-0 r h)) done

  -- THE LAW, for every call ..
  pub call-replay : (c : Call) (s : State) → Replay p s (steps_of p c s) (on_state p c s).state
  call-replay c s = call-tells p (Replay p) (λ x. done) replay-more replay-step c s

  -- .. and for every list of calls
  pub replay : (cs : List Call) (h : Held) → Live h → h.field.plan ≡ p → Replay p (state_of h) (trail cs h) (state_of (after cs h))
  replay cs h i e = list_tells p (Replay p) (λ x. done) replay-more replay-step cs h i e

-- ---- a run of a schedule

-- all steps were done; or the step after those done is refused, in the state that is left: "the steps before the refused one stand"
pub record Stopped (p : Plan) (bytes : List ℕ) (n : ℕ) (r : Ran State) : Type 0 where
  pub some : r.refusal ≢ 0
  pub below : r.done < n
  pub at : step_at p bytes r.done r.state ≡ refused_by r.refusal r.state

abbrev pub Ended : Plan → List ℕ → ℕ → Ran State → Type 0
Ended p bytes n r = ((r.refusal ≡ 0) × (r.done ≡ n)) ⊎ Stopped p bytes n r

module _ (p : Plan) (bytes : List ℕ) where
  one_more : (n d : ℕ) (y : State) → d ≡ n → {a : After State} {Took : State → Type 0} → step_at p bytes n y ≡ a → StepOutcome y Took a → Ended p bytes (suc n) (counted_turn d a)
  one_more n d y e q (took h) = inl (refl, ap suc e)
  one_more n d y e q (kept r h) =
      let z = refusal-not-0 r h in
      inr (rw (eqb-diff r 0 z) (record { some = z; below = omega arith; at = ap (λ k. step_at p bytes k y) e ∙ q }))

  -- THE LAW
  pub run_ends : (n : ℕ) (s : State) → Ended p bytes n (runs never n (step_at p bytes) s)
  unfolding runs
  run_ends zero s = inl (refl, refl)
  run_ends (suc n) s = go (runs never n (step_at p bytes) s) (run_ends n s)
    where
      go : (r : Ran State) → Ended p bytes n r → Ended p bytes (suc n) (cond (eqb r.refusal 0 && not (never r.state)) (counted_turn r.done (step_at p bytes n r.state)) r)
      go r (inl h) = rw (eq-eqb r.refusal 0 h.0) (one_more n r.done r.state h.1 refl (step-outcome p r.state (kind_of bytes n) (number_of bytes n)))
      go r (inr h) = rw (ne_eqb r.refusal 0 h.some) (inr (record { some = h.some; below = omega (arith, h.below); at = h.at }))

  -- the steps done are the steps taken
  run-done : (n : ℕ) (s : State) → length (runs_trace never n (step_at p bytes) (λ i. if_taken p (kind_of bytes i) (number_of bytes i)) s) ≡ (runs never n (step_at p bytes) s).done
  unfolding runs runs_trace if_taken
  run-done zero s = refl
  run-done (suc n) s =
      let r = runs never n (step_at p bytes) s in
      let t = runs_trace never n (step_at p bytes) (λ i. if_taken p (kind_of bytes i) (number_of bytes i)) s in
      let i = run-done n s in
      by-test (eqb r.refusal 0 && true)
      (λ b. length (t ++ cond b (if_taken p (kind_of bytes n) (number_of bytes n) r.state) []) ≡ (cond b (counted_turn r.done (step_at p bytes n r.state)) r).done)
      (length-append t (if_taken p (kind_of bytes n) (number_of bytes n) r.state) ∙ by-test (eqb (step_at p bytes n r.state).refusal 0)
      (λ b. length t + length {A = Taken} (cond b (record { kind = kind_of bytes n; number = number_of bytes n; at = r.state } ∷ []) []) ≡ cond b (suc r.done) r.done)
      (omega (arith, i)) (omega (arith, i)))
      (length-append t [] ∙ omega (arith, i))

-- ---- a run of rounds

-- a step was refused, by the number that is answered and in the state that is left: it changed nothing
pub record RefusedStep (p : Plan) (a : After State) : Type 0 where
  pub some : a.refusal ≢ 0
  pub kind : ℕ
  pub number : ℕ
  pub at : step p kind number a.state ≡ refused_by a.refusal a.state

abbrev Goes : Plan → After State → Type 0
Goes p a = (a.refusal ≡ 0) ⊎ RefusedStep p a

-- all rounds were completed, or the field was at rest before the next; or a step of the round after those completed was refused
abbrev pub RoundsEnded : Plan → ℕ → Ran State → Type 0
RoundsEnded p limit r =
    ((r.refusal ≡ 0) × ((r.done ≡ limit) ⊎ (at_rest r.state ≡ true))) ⊎ ((r.done < limit) × RefusedStep p (record { refusal = r.refusal; state = r.state }))

module _ (p : Plan) where
  step-goes : (kind number : ℕ) (s : State) → Goes p (step p kind number s)
  step-goes kind number s = go (step-outcome p s kind number) refl
    where
      go : {a : After State} {Took : State → Type 0} → StepOutcome s Took a → step p kind number s ≡ a → Goes p a
      go (took h) e = inl refl
      go (kept r h) e = inr (record { some = refusal-not-0 r h; kind = kind; number = number; at = e })

  -- turns that go, one after the other
  loop-goes : (n : ℕ) (g : ℕ → State → After State) → ((k : ℕ) (y : State) → Goes p (g k y)) → (x : State) → Goes p (loop n g x)
  unfolding loop
  loop-goes zero g h x = inl refl
  loop-goes (suc n) g h x = then-elim (Goes p) (loop n g x) (g n) (λ e. h n (loop n g x).state) (λ e. loop-goes n g h x)

  round-goes : (s : State) → Goes p (round p s)
  unfolding round hand_turn serve_turn step
  round-goes s = then-elim (Goes p) (hand_phase p s) (serve_phase p)
      (λ e. loop-goes (modules_of p) (serve_turn p) (λ v y. loop-goes (many (in_queue p v) y.words) (λ j. serve p v) (λ j z. step-goes 3 v z) y) (hand_phase p s).state)
      (λ e. loop-goes (2 * links_of p) (hand_turn p) (λ d y. loop-goes (many (in_air d) y.words) (λ j. hand p d) (λ j z. step-goes 2 d z) y) s)

  -- THE LAW: with `call-replay`, the steps before the refused one stand
  pub rounds-end : (limit : ℕ) (s : State) → RoundsEnded p limit (rounds_run p limit s)
  unfolding runs
  rounds-end zero s = inl (refl, inl refl)
  rounds-end (suc n) s = go (runs at_rest n (λ i. round p) s) (rounds-end n s)
    where
      turned : (r : Ran State) → r.done ≡ n → (a : After State) → Goes p a → RoundsEnded p (suc n) (counted_turn r.done a)
      turned r d a (inl z) = rw (eq-eqb a.refusal 0 z) (inl (z, inl (ap suc d)))
      turned r d a (inr f) = rw (ne_eqb a.refusal 0 f.some) (inr (omega (arith, d), f))

      go : (r : Ran State) → RoundsEnded p n r → RoundsEnded p (suc n) (cond (eqb r.refusal 0 && not (at_rest r.state)) (counted_turn r.done (round p r.state)) r)
      go r (inr h) = rw (ne_eqb r.refusal 0 h.1.some) (inr (omega (arith, h.0), h.1))
      go r (inl (e, inr q)) = rw (eq-eqb r.refusal 0 e, q) (inl (e, inr q))
      go r (inl (e, inl d)) = bool_cases (at_rest r.state)
          (λ q. rw (eq-eqb r.refusal 0 e, q) (inl (e, inr q)))
          (λ q. rw (eq-eqb r.refusal 0 e, q) (turned r d (round p r.state) (round-goes r.state)))
