-- From steps to calls: what holds of each step, taken or refused, holds of each turn, round, run and call (`call-tells`, `call-keeps`).
use Rattle.std.specs.Prelude.{ℕ, ◌*◌, eqb}
use Rattle.std.proofs.Math.Bool.{cond}
use mathlib.Core.List.{List, [], ◌++◌}
use Rattle.base.specs.Loop.{Ran, then, counted_turn, loop_trace, runs_trace}
use Rattle.base.proofs.laws.Loop.{by-test, loop-tells, runs-tell}
use Rattle.plan.specs.Links.{Plan, modules_of, links_of}
use Rattle.field.specs.State.{State}
use Rattle.field.specs.Step.{in_air, in_queue, hand, serve, HAND, SERVE, step}
use Rattle.field_calls.specs.Schedule.{schedule_refusal, schedule_run, steps_in, kind_of, number_of, step_at, never}
use Rattle.base.specs.Keep.{many}
use Rattle.field_calls.specs.Rounds.{hand_turn, hand_phase, serve_turn, serve_phase, round, at_rest, rounds_run}
use Rattle.field_calls.specs.Call.{Call, one, run, rounds}
use Rattle.field_calls.specs.Trail.{Taken, if_taken, hand_turn_steps, serve_turn_steps, round_steps, steps_of}

-- what a call does to a state that 31 does not refuse
unfoldable pub on_state : Plan → Call → State → Ran State
on_state p (one kind number) s = counted_turn 0 (step p kind number s)
on_state p (run bytes) s =
    cond (eqb (schedule_refusal bytes) 0) (schedule_run p bytes s) (record { done = 0; refusal = schedule_refusal bytes; state = s })
on_state p (rounds limit) s = rounds_run p limit s

-- R x l y: from x the steps l were taken and left y
module _ (p : Plan) (R : State → List Taken → State → Type 0) (none : (x : State) → R x [] x)
    (more : (x y z : State) (l m : List Taken) → R x l y → R y m z → R x (l ++ m) z)
    (turn : (kind number : ℕ) (s : State) → R s (if_taken p kind number s) (step p kind number s).state) where
  hand-one : (d : ℕ) (s : State) → R s (if_taken p HAND d s) (hand p d s).state
  unfolding step
  hand-one d s = turn HAND d s

  serve-one : (v : ℕ) (s : State) → R s (if_taken p SERVE v s) (serve p v s).state
  unfolding step
  serve-one v s = turn SERVE v s

  pub hand-turn-tells : (d : ℕ) (s : State) → R s (hand_turn_steps p d s) (hand_turn p d s).state
  unfolding hand_turn_steps hand_turn
  hand-turn-tells d s = loop-tells R none more (λ j. hand p d) (λ j. if_taken p HAND d) (many (in_air d) s.words) s (λ k y l. hand-one d y)

  pub serve-turn-tells : (v : ℕ) (s : State) → R s (serve_turn_steps p v s) (serve_turn p v s).state
  unfolding serve_turn_steps serve_turn
  serve-turn-tells v s = loop-tells R none more (λ j. serve p v) (λ j. if_taken p SERVE v) (many (in_queue p v) s.words) s (λ k y l. serve-one v y)

  pub round-tells : (s : State) → R s (round_steps p s) (round p s).state
  unfolding round_steps round then
  round-tells s =
      let y = (hand_phase p s).state in
      let a = loop_trace (2 * links_of p) (hand_turn p) (hand_turn_steps p) s in
      let b = loop_trace (modules_of p) (serve_turn p) (serve_turn_steps p) y in
      let i = loop-tells R none more (hand_turn p) (hand_turn_steps p) (2 * links_of p) s (λ k x l. hand-turn-tells k x) in
      by-test (eqb (hand_phase p s).refusal 0) (λ t. R s (a ++ cond t b []) (cond t (serve_phase p y) (hand_phase p s)).state)
      (more s y (serve_phase p y).state a b i (loop-tells R none more (serve_turn p) (serve_turn_steps p) (modules_of p) y (λ k x l. serve-turn-tells k x)))
      (more s y y a [] i (none y))

  pub call-tells : (c : Call) (s : State) → R s (steps_of p c s) (on_state p c s).state
  unfolding steps_of on_state
  call-tells (one kind number) s = turn kind number s
  call-tells (run bytes) s =
      by-test (eqb (schedule_refusal bytes) 0)
      (λ t. R s (cond t (runs_trace never (steps_in bytes) (step_at p bytes) (λ i. if_taken p (kind_of bytes i) (number_of bytes i)) s) [])
      (cond t (schedule_run p bytes s) (record { done = 0; refusal = schedule_refusal bytes; state = s })).state)
      (runs-tell R none more (step_at p bytes) (λ i. if_taken p (kind_of bytes i) (number_of bytes i)) never (steps_in bytes) s (λ k y l. turn (kind_of bytes k) (number_of bytes k) y))
      (none s)
  call-tells (rounds limit) s = runs-tell R none more (λ i. round p) (λ i. round_steps p) at_rest limit s (λ k y l. round-tells y)

-- an invariant of the steps is one of the calls
pub call-keeps : (p : Plan) (P : State → Type 0) → ((kind number : ℕ) (s : State) → P s → P (step p kind number s).state) → (c : Call) (s : State) → P s → P (on_state p c s).state
call-keeps p P keeps c s = call-tells p (λ x l y. P x → P y) (λ x h. h) (λ x y z l m f g h. g (f h)) keeps c s
