-- Setup (`started`), and lists of calls from it on: never 31 (`after-live`), the counts are exact (`list_counts`), an invariant of the steps holds after
-- every list (`list-keeps`).
use Rattle.std.specs.Prelude.{ℕ, zero, suc, ◌+◌, ◌≤◌, ◌<◌, ◌≡◌, refl, Bool, true, not, cond, length, get_or, replicate, ltb}
use Rattle.std.proofs.Common.{arith, not-suc-le-zero, sym, ap, subst, ◌∙◌, inl, get_or-append-add, le-leb, eq-eqb}
use Rattle.std.proofs.Math.Path.{ap₂}
use Rattle.std.proofs.Math.Bool.{◌&&◌}
use mathlib.Core.List.{List, [], ◌∷◌, ◌++◌}
use Rattle.std.proofs.Math.ListN.{get_or-append, length-replicate}
use Rattle.std.proofs.lemmas.List.{get_or-replicate}
use Rattle.base.proofs.laws.Cond.{eqb-cases, ltb-cases}
use Rattle.base.specs.Ceiling.{ceiling}
use Rattle.base.specs.Limits.{max_modules, max_ends}
use Rattle.base.specs.Loop.{After, taken_to}
use Rattle.base.specs.Pool.{nil}
use Rattle.plan.specs.Refusal.{plan_refusal}
use Rattle.plan.proofs.laws.Accepted.{Accepted, accepted}
use Rattle.plan.specs.Links.{Plan}
use Rattle.plan.specs.Trimmed.{trimmed}
use Rattle.plan.proofs.laws.Trimmed.{trimmed-same, trimmed-taken}
use Rattle.node.specs.Work.{setup, ASLEEP}
use Rattle.field.specs.Edges.{own_of, limit_of, ceiling_of}
use Rattle.node.proofs.laws.Values.{node-by}
use Rattle.field.specs.State.{State, WIDTH, values, cell_of, node_in}
use Rattle.field.specs.Step.{step}
use Rattle.field.specs.Valid.{zero_after}
use Rattle.field.specs.Held.{Held, state_of, valid, fresh_cells, fresh, not_set_up, set_up}
use Rattle.field.proofs.laws.Held.{fresh-length}
use Rattle.field_calls.specs.Call.{Call, does, after}
use Rattle.field_calls.specs.Trail.{Taken, steps_of, trail, if_taken}
use Rattle.field_laws.proofs.Lists.{NodeOk, ok-fresh}
use Rattle.field_laws.proofs.Fits.{FieldFits, facts-fits}
use Rattle.field_laws.proofs.Keeps.{Sound, step_keeps}
use Rattle.field_laws.proofs.Trace.{on_state, call-tells}
use Rattle.field_laws.proofs.Counts.{CountedSteps, counted_none, counted-more, step_counts}
use Rattle.field_laws.proofs.Laid.{waiting-zeros, zeros-all, Live, live-plan, live-sound, does-live, state-of-does, plan-of-does}

-- ---- setup

-- the cells of n modules: each is as at setup
fresh-at : (n v : ℕ) → v < n → (j : ℕ) → j < WIDTH → get_or (fresh_cells n) (cell_of v j) 0 ≡ get_or (values setup) j 0
unfolding fresh_cells
fresh-at zero v l j h = absurd (not-suc-le-zero l)
fresh-at (suc n) zero l j h = let e : cell_of 0 j ≡ j = omega arith in ap (λ i. get_or (values setup ++ fresh_cells n) i 0) e ∙ get_or-append (values setup) (fresh_cells n) 0 j h
fresh-at (suc n) (suc v) l j h =
    let e : cell_of (suc v) j ≡ length (values setup) + cell_of v j = omega arith in
    ap (λ i. get_or (values setup ++ fresh_cells n) i 0) e ∙ get_or-append-add (values setup) (fresh_cells n) (cell_of v j) 0 ∙ fresh-at n v (omega arith) j h

pub fresh-node : (v : ℕ) → v < max_modules → node_in (fresh_cells max_modules) v ≡ setup
fresh-node v l = node-by (λ j. get_or (fresh_cells max_modules) (cell_of v j) 0) (λ j. get_or (values setup) j 0) (fresh-at max_modules v l)

pub trimmed-ceiling : (p : Plan) → ceiling_of (trimmed p) ≡ ceiling_of p
trimmed-ceiling p = sym (ap₂ ceiling (trimmed-same p).modules (trimmed-same p).links)

-- what a setup that is not refused leaves, by the plan that the field then holds
pub record Started (p : Plan) (lent : List ℕ) (h : Held) : Type 0 where
  pub plan : plan_refusal p ≡ 0
  pub room : ceiling_of p ≤ length lent
  pub is : h ≡ record { field = fresh p; words = replicate (length lent) 0 }

pub started : (p : Plan) (lent : List ℕ) → (set_up p lent).refusal ≡ 0 → Started (trimmed p) lent (set_up p lent).state
unfolding set_up
started p lent = eqb-cases (plan_refusal p) 0
    (λ b. (cond (not b) (not_set_up (plan_refusal p) lent) rest).refusal ≡ 0 → Started (trimmed p) lent (cond (not b) (not_set_up (plan_refusal p) lent) rest).state)
    (λ e. ltb-cases (length lent) (ceiling_of p) (λ b. (enough_or b).refusal ≡ 0 → Started (trimmed p) lent (enough_or b).state)
    (λ l z. absurd (omega arith))
    (λ l z. record { plan = trimmed-taken p e; room = omega (arith, l, trimmed-ceiling p); is = refl }))
    (λ n z. absurd (n z))
  where
    enough_or : Bool → After Held
    enough_or b = cond b (not_set_up 21 lent) (taken_to (record { field = fresh (trimmed p); words = replicate (length lent) 0 }))

    rest : After Held
    rest = enough_or (ltb (length lent) (ceiling_of p))

module _ (p : Plan) (lent : List ℕ) (a : plan_refusal p ≡ 0) (room : ceiling_of p ≤ length lent) where
  abbrev begun : Held
  begun = record { field = fresh p; words = replicate (length lent) 0 }

  fresh-fits : FieldFits p (state_of begun)
  fresh-fits = record {
    words = rw (waiting-zeros (length lent)) nil;
    nodes = λ v l. subst (NodeOk (own_of p v) (limit_of p)) (sym (fresh-node v (omega (arith, (accepted p a).modules_ok)))) (ok-fresh (own_of p v) (limit_of p) ASLEEP 0 setup.waking (omega arith) (omega arith) (inl refl) (λ e. refl));
    marks = λ d l. rw (get_or-replicate {A = ℕ} max_ends d 0 0 (omega (arith, (accepted p a).links_ok))) (omega arith);
    waiting = rw (waiting-zeros (length lent)) (omega arith);
    ceiling = omega arith;
  }

  zeros-after : zero_after (replicate (length lent) 0) ≡ true
  zeros-after = rw (waiting-zeros (length lent)) (zeros-all (length lent))

  pub begun-live : Live begun
  unfolding valid
  begun-live = record {
    cells = omega (arith, fresh-length max_modules);
    marks = omega (arith, length-replicate {A = ℕ} max_ends 0);
    valid =
        ap₂ ◌&&◌ (ap₂ ◌&&◌ (ap₂ ◌&&◌ (eq-eqb _ _ a) (le-leb (ceiling_of p) (length (replicate (length lent) 0)) (omega (arith, length-replicate {A = ℕ} (length lent) 0, room)))) zeros-after)
        (facts-fits p (state_of begun) fresh-fits);
  }

-- ---- lists of calls

-- 31 never applies after a call
pub after-live : (cs : List Call) (h : Held) → Live h → Live (after cs h)
unfolding after
after-live [] h i = i
after-live (c ∷ cs) h i = after-live cs (does c h).state (does-live h i c)

pub after-plan : (cs : List Call) (h : Held) → Live h → (after cs h).field.plan ≡ h.field.plan
unfolding after
after-plan [] h i = refl
after-plan (c ∷ cs) h i = after-plan cs (does c h).state (does-live h i c) ∙ plan-of-does h i c

-- what holds of each step, of states that pass 31, holds of every list
module _ (p : Plan) (R : State → List Taken → State → Type 0) (none : (x : State) → R x [] x)
    (more : (x y z : State) (l m : List Taken) → R x l y → R y m z → R x (l ++ m) z)
    (turn : (kind number : ℕ) (s : State) → R s (if_taken p kind number s) (step p kind number s).state) where
  pub list_tells : (cs : List Call) (h : Held) → Live h → h.field.plan ≡ p → R (state_of h) (trail cs h) (state_of (after cs h))
  unfolding after trail
  list_tells [] h i e = none (state_of h)
  list_tells (c ∷ cs) h i e =
      let h' = (does c h).state in
      let t = steps_of h.field.plan c (state_of h) in
      let one-call : R (state_of h) t (state_of h') =
      rw (state-of-does h i c) (subst (λ q. R (state_of h) (steps_of q c (state_of h)) (on_state q c (state_of h)).state) (sym e) (call-tells p R none more turn c (state_of h))) in
      more (state_of h) (state_of h') (state_of (after cs h')) (cond (valid h) t []) (trail cs h')
      (rw i.valid one-call)
      (list_tells cs h' (does-live h i c) (plan-of-does h i c ∙ e))

-- THE LAW of the counts, for every list of calls
pub list_counts : (p : Plan) (cs : List Call) (h : Held) → Live h → h.field.plan ≡ p → CountedSteps p (state_of h) (trail cs h) (state_of (after cs h))
list_counts p cs h i e = list_tells p (CountedSteps p) (counted_none p) (counted-more p) (step_counts p) cs h i e

-- an invariant of the steps from sound states
module _ (p : Plan) (P : State → Type 0) (keeps : (kind number : ℕ) (s : State) → Sound p s → P s → P (step p kind number s).state) where
  pub list-keeps : (cs : List Call) (h : Held) → Live h → h.field.plan ≡ p → P (state_of h) → P (state_of (after cs h))
  list-keeps cs h i e x =
      let a = subst Accepted e (live-plan h i) in
      (list_tells p (λ y l z. Sound p y × P y → Sound p z × P z) (λ y k. k) (λ x y z l m f g k. g (f k))
      (λ kind number y k. (step_keeps p a y k.0 kind number, keeps kind number y k.0 k.1)) cs h i e
      (subst (λ q. Sound q (state_of h)) e (live-sound h i), x)).1
