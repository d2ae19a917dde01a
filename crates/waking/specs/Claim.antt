-- Document 02's request 05, "Who woke whom", as one type (`WhoWokeWhom`). (A waking link is the parent edge in the wake-up forest, whose roots are the modules
-- that wake steps woke.)
use Rattle.std.specs.Prelude.{ℕ, zero, suc, ◌<◌, ◌≡◌, ◌↔◌, cond, ◌&&◌, eqb}
use mathlib.Core.List.{List, [], ◌∷◌, map, Memᴰ}
use Rattle.base.specs.None.{none}
use Rattle.base.specs.Keep.{keep}
use Rattle.base.specs.Pool.{All}
use Rattle.base.specs.Twice.{NoTwice}
use Rattle.format_word.specs.Word.{link_in}
use Rattle.graph.specs.Graph.{Joins}
use Rattle.plan.specs.Links.{Plan, modules_of, graph_of}
use Rattle.plan.specs.Trimmed.{trimmed}
use Rattle.field.specs.Edges.{link_of, end_of, dest}
use Rattle.field.specs.State.{State, node_at}
use Rattle.field.specs.Step.{WAKE}
use Rattle.field.specs.Held.{Held, state_of, set_up}
use Rattle.field_calls.specs.Call.{Call, after}
use Rattle.field_calls.specs.Trail.{Taken, trail, served_word, wakes_one, Awake, woken_in}

-- "the link whose message woke it: none for .. one woken by a wake step", of the module that a step wakes
unfoldable pub waking_link : Plan → Taken → ℕ
waking_link p t = cond (eqb t.kind WAKE) none (link_of (link_in (served_word p t.number t.at)))

-- the waking link of module v by the steps taken: of the first that woke it, none where no step did
unfoldable pub waking_in : Plan → List Taken → ℕ → ℕ
waking_in p [] v = none
waking_in p (t ∷ l) v = cond (wakes_one p t && eqb t.number v) (waking_link p t) (waking_in p l v)

-- the modules that wake steps woke, of the steps taken
abbrev pub by_wake_steps : List Taken → List ℕ
by_wake_steps l = map (λ t. t.number) (keep (λ t. eqb t.kind WAKE) l)

-- u stands before v in a list
pub data Before (u v : ℕ) : List ℕ → Type 0 where
  here : {l : List ℕ} → Memᴰ v l → Before u v (u ∷ l)
  later : {x : ℕ} {l : List ℕ} → Before u v l → Before u v (x ∷ l)

-- "following these links": from each module of a list to the next, where l are the steps taken before
pub data Follows (p : Plan) (s : State) (l : List Taken) : List ℕ → Type 0 where
  -- "ends at one that a wake step woke": it has no waking link
  ends : {v : ℕ} → (node_at s v).waking ≡ none → Memᴰ v (by_wake_steps l) → Follows p s l (v ∷ [])
  -- v's waking link leads to its other end u, and u was woken before v
  on : {v u : ℕ} {rest : List ℕ} → Joins (graph_of p) (node_at s v).waking v u → Before u v (woken_in p l) → Follows p s l (u ∷ rest) → Follows p s l (v ∷ (u ∷ rest))

-- a chain of waking links: "without returning to a module"
pub record Chain (p : Plan) (s : State) (l : List Taken) (vs : List ℕ) : Type 0 where
  pub follows : Follows p s l vs
  pub awake : All (Awake p s) vs
  pub different : NoTwice vs

-- v and the modules that the waking links lead to from it, n links at most
unfoldable pub chain_from : Plan → State → ℕ → ℕ → List ℕ
chain_from p s zero v = v ∷ []
chain_from p s (suc n) v =
    let k = (node_at s v).waking in
    v ∷ cond (eqb k none) [] (chain_from p s n (dest p (end_of p v k)))

-- what is said of one list of calls on the field and words of a setup
pub record WakingClaim (p : Plan) (start : Held) (calls : List Call) : Type 0 where
  -- "Each module's record gains the link whose message woke it: none for a sleeper or one woken by a wake step."
  pub told : (v : ℕ) → v < modules_of p → (node_at (state_of (after calls start)) v).waking ≡ waking_in p (trail calls start) v
  -- (awake are just those that were woken, and nobody is woken twice)
  pub exactly : (v : ℕ) → Awake p (state_of (after calls start)) v ↔ Memᴰ v (woken_in p (trail calls start))
  pub once : NoTwice (woken_in p (trail calls start))
  -- "From setup, following these links from any awake module ends at one that a wake step woke, without returning to a module."
  -- (N links are enough)
  pub traced : (v : ℕ) → Awake p (state_of (after calls start)) v
      → Chain p (state_of (after calls start)) (trail calls start) (chain_from p (state_of (after calls start)) (modules_of p) v)

-- for every setup that is not refused, and every list of calls from it: of the plan as the field holds it, zeros past its links
abbrev pub WhoWokeWhom : Type 0
WhoWokeWhom = (p : Plan) (lent : List ℕ) → (set_up p lent).refusal ≡ 0 → (calls : List Call) → WakingClaim (trimmed p) (set_up p lent).state calls
