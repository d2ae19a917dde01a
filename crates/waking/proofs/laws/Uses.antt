-- What the claim alone tells: of an awake module (`root-or-woken`, `some-wake-step`), of a sleeper (`sleeper-none`), of who was woken first (`one-first`).
-- And a plan that has it (`triangle-claim`).
use Rattle.std.specs.Prelude.{ℕ, zero, suc, ◌<◌, ◌≡◌, refl, ◌≢◌, ◌⊎◌, replicate}
use Rattle.std.proofs.Common.{sym, subst, ◌∙◌, inl, inr, ne_eqb}
use mathlib.Core.List.Memᴰ
use mathlib.Core.List.{List, [], ◌∷◌, Memᴰ}
use Rattle.base.proofs.laws.Cond.{bool_cases}
use Rattle.base.specs.None.{none}
use Rattle.base.specs.Pool.{All, con}
use Rattle.base.specs.Twice.{NoTwice, nobody, another}
use Rattle.graph.specs.Graph.{Joins}
use Rattle.plan.specs.Links.{Plan, modules_of, graph_of}
use Rattle.plan.proofs.laws.Samples.{worse_reading}
use Rattle.node.specs.Work.{ASLEEP}
use Rattle.field.specs.State.{State, node_at}
use Rattle.field.specs.Held.{Held, state_of, set_up}
use Rattle.field_calls.specs.Call.{Call, after}
use Rattle.field_calls.specs.Trail.{Taken, trail, wakes_one, Awake, woken_in}
use Rattle.field_roundlaws.proofs.Awake.{all-member}
use Rattle.waking.specs.Claim.{waking_in, by_wake_steps, Before, here, later, Follows, ends, on, Chain, chain_from, WakingClaim}
use Rattle.waking.proofs.laws.Claim.{who-woke-whom}
use Rattle.base.specs.Log as base3
use Rattle.base.specs.Test as base5
use Rattle.graph.specs.Decide as graph1
use Rattle.plan.specs.Refusal as plan1
use Rattle.plan.specs.Trimmed as plan3
use Rattle.field.specs.Held as field4

-- woken over its waking link, from another module that is awake and was woken before
pub record WokenFrom (p : Plan) (s : State) (l : List Taken) (v : ℕ) : Type 0 where
  pub from : ℕ
  pub over : Joins (graph_of p) (node_at s v).waking v from
  pub before : Before from v (woken_in p l)
  pub awake : Awake p s from
  pub other : v ≢ from

-- ---- lists

first_step : {p : Plan} {s : State} {l : List Taken} {vs : List ℕ} → Follows p s l vs → by_wake_steps l ≢ []
first_step (ends {v} e i) n = Memᴰ.not-nil (subst (Memᴰ v) n i)
first_step (on j b f) n = first_step f n

then-in : {u v : ℕ} {l : List ℕ} → Before u v l → Memᴰ v l
then-in (here i) = Memᴰ.tail i
then-in (later b) = Memᴰ.tail (then-in b)

one_way : {u v : ℕ} {l : List ℕ} → NoTwice l → Before u v l → Before v u l → ⊥
one_way nobody b c = elim b [ ]
one_way (another h t) (here i) (here j) = all-member h i refl
one_way (another h t) (here i) (later c) = all-member h (then-in c) refl
one_way (another h t) (later b) (here j) = all-member h (then-in b) refl
one_way (another h t) (later b) (later c) = one_way t b c

-- no step woke v, so none tells its waking link
never-woken : (p : Plan) (v : ℕ) (l : List Taken) → ¬ Memᴰ v (woken_in p l) → waking_in p l v ≡ none
unfolding woken_in waking_in
never-woken p v [] n = refl
never-woken p v (t ∷ l) n = bool_cases (wakes_one p t)
    (λ e. rw (e, ne_eqb _ v (λ q. n (rw e (Memᴰ.head (sym q))))) (never-woken p v l (λ i. n (rw e (Memᴰ.tail i)))))
    (λ e. rw e (never-woken p v l (λ i. n (rw e i))))

-- ---- the claim

-- what is worked out from v begins with v
begins : (p : Plan) (s : State) (n v : ℕ) → (r : List ℕ) × (chain_from p s n v ≡ v ∷ r)
unfolding chain_from
begins p s zero v = ([], refl)
begins p s (suc n) v = (_, refl)

module _ (p : Plan) (start : Held) (calls : List Call) (c : WakingClaim p start calls) where
  abbrev s : State
  s = state_of (after calls start)

  abbrev l : List Taken
  l = trail calls start

  -- v has no waking link and was woken by a wake step, or has one, to a module woken before
  abbrev RootOrWoken : ℕ → Type 0
  RootOrWoken v = (((node_at s v).waking ≡ none) × Memᴰ v (by_wake_steps l)) ⊎ WokenFrom p s l v

  pub root-or-woken : (v : ℕ) → Awake p s v → RootOrWoken v
  root-or-woken v k = let q = begins p s (modules_of p) v in go (subst (Chain p s l) q.1 (c.traced v k))
    where
      first : {w : ℕ} {r : List ℕ} → Follows p s l (w ∷ r) → All (Awake p s) (w ∷ r) → NoTwice (w ∷ r) → RootOrWoken w
      first (ends e i) a d = inl (e, i)
      first (on {v} {u} j b f) (con a (con x y)) (another (con n m) d) = inr (record { from = u; over = j; before = b; awake = x; other = n })

      go : {w : ℕ} {r : List ℕ} → Chain p s l (w ∷ r) → RootOrWoken w
      go h = first h.follows h.awake h.different

  -- nobody is awake without a wake step
  pub some-wake-step : (v : ℕ) → Awake p s v → by_wake_steps l ≢ []
  some-wake-step v k = first_step (c.traced v k).follows

  -- "none for a sleeper"
  pub sleeper-none : (v : ℕ) → v < modules_of p → (node_at s v).status ≡ ASLEEP → (node_at s v).waking ≡ none
  sleeper-none v i e = c.told v i ∙ never-woken p v l (λ m. ((c.exactly v).1 m).awake e)

  -- no two modules were each woken before the other
  pub one-first : (u v : ℕ) → Before u v (woken_in p l) → Before v u (woken_in p l) → ⊥
  one-first u v = one_way c.once

-- ---- a plan that has it

pub triangle-claim : (calls : List Call) → WakingClaim (plan3.trimmed worse_reading) (set_up worse_reading (replicate 21 0)).state calls
unfolding base3.log2-to base3.log2 base5.every graph1.label graph1.joined_over plan1.ascends plan1.in_order plan1.link_verdict plan1.links_refusal plan1.plan_refusal field4.set_up
triangle-claim calls = who-woke-whom worse_reading (replicate 21 0) refl calls
