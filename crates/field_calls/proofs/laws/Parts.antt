-- What follows from demand 3 by parts alone: in a part with nobody woken nobody stirs and nothing waits (`nobody-stirs`, `no-mark-set`, `nothing-waits`); the ends of
-- a part's core have halted (`two-halted`), nobody else of the part (`no_third`); at rest a module that was woken has halted, or its part has a core (`woken-rest`). A plan is in
-- one part if every module is joined to module 0 (`joined-to-0`).
use Rattle.std.specs.Prelude.{ℕ, ◌<◌, ◌≡◌, refl, ◌≢◌, ◌⊎◌, List}
use Rattle.std.proofs.Common.{sym, subst, inl, inr, ⊎_elim}
use Rattle.base.specs.Pool.{All}
use Rattle.base.proofs.laws.Pool.{All-map}
use Rattle.format_word.specs.Word.{link_in}
use Rattle.graph.specs.Graph.{stop}
use Rattle.graph.specs.Parts.{SamePart}
use Rattle.graph.proofs.laws.Ways.{way-append, way-reverse}
use Rattle.plan.specs.Links.{Plan, modules_of, lower_of, higher_of, graph_of}
use Rattle.field.specs.Edges.{from}
use Rattle.field.specs.State.{State, node_at, mark_at}
use Rattle.field.specs.Held.{Held, state_of}
use Rattle.field_calls.specs.Call.{Call, after}
use Rattle.field_calls.specs.Trail.{trail, woken_in}
use Rattle.field_calls.specs.Demand.{InPart, Core, Agreed, AsAtSetup, Claim, OnePart}

-- A PART WITH NOBODY WOKEN, whoever was woken elsewhere

module _ {p : Plan} {start : Held} {calls : List Call} (c : Claim p start calls) (v : ℕ) (l : v < modules_of p)
    (none-of-it : All (λ u. ¬ InPart p v u) (woken_in p (trail calls start))) where
  sleeps : AsAtSetup p (state_of start) (state_of (after calls start)) (InPart p v)
  sleeps = c.asleep v none-of-it

  pub nobody-stirs : node_at (state_of (after calls start)) v ≡ node_at (state_of start) v
  nobody-stirs = sleeps.nodes v (l, stop)

  pub no-mark-set : (k : ℕ) → mark_at p (state_of (after calls start)) v k ≡ mark_at p (state_of start) v k
  no-mark-set k = sleeps.marks v k (l, stop)

  -- no word that waits is its own
  pub nothing-waits : All (λ x. from p (link_in x) ≢ v) (state_of (after calls start)).words
  nothing-waits = All-map (λ x n q. n (subst (InPart p v) (sym q) (l, stop))) sleeps.words

-- WHO HAS HALTED

module _ {p : Plan} {s : State} {In : ℕ → Type 0} (c : Core p s In) where
  pub two-halted : ((node_at s (lower_of p c.link)).halted ≡ 1) × ((node_at s (higher_of p c.link)).halted ≡ 1)
  two-halted = ((c.halted _ c.inside).1 (inl refl), (c.halted _ c.across).1 (inr refl))

  pub no_third : (v : ℕ) → In v → v ≢ lower_of p c.link → v ≢ higher_of p c.link → (node_at s v).halted ≢ 1
  no_third v i a b h = ⊎_elim a b ((c.halted v i).0 h)

-- at rest, by whether w's part has another module
pub woken-rest : {p : Plan} {s : State} {In : ℕ → Type 0} (w : ℕ) → In w → Agreed p s In → ((u : ℕ) → In u → u ≡ w) ⊎ ((u : ℕ) × In u × (u ≢ w))
    → ((node_at s w).halted ≡ 1) ⊎ Core p s In
woken-rest w i g (inl only) = inl (g.alone w i only)
woken-rest w i g (inr (u, j, d)) = inr (g.core u w j i d)

-- ONE PART: it is enough that every module is joined to module 0
pub joined-to-0 : (p : Plan) → ((v : ℕ) → v < modules_of p → SamePart (graph_of p) 0 v) → OnePart p
joined-to-0 p h u v lu lv = way-append (way-reverse (h u lu)) (h v lv)
