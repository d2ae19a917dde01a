-- A chain of waking links stays one while awake modules keep their waking links (`traced-on`); and it grows by one that was asleep (`traced-more`).
use Rattle.std.specs.Prelude.{ℕ, ◌≡◌, refl}
use Rattle.std.proofs.Common.{sym, subst, ◌∙◌}
use mathlib.Core.List.Memᴰ
use mathlib.Core.List.{List, [], ◌∷◌, ◌++◌, Memᴰ}
use Rattle.base.specs.None.{none}
use Rattle.base.specs.Pool.{All, nil, con}
use Rattle.base.proofs.laws.Pool.{All-map}
use Rattle.base.specs.Twice.{another}
use Rattle.base.proofs.laws.Twice.{NoTwice-one}
use Rattle.graph.specs.Graph.{Joins}
use Rattle.plan.specs.Links.{Plan, graph_of}
use Rattle.node.specs.Work.{ASLEEP}
use Rattle.field.specs.State.{State, node_at}
use Rattle.field_calls.specs.Trail.{Taken, Awake, woken_in}
use Rattle.waking.specs.Claim.{by_wake_steps, Before, here, later, Follows, ends, on, Chain}

-- ---- the order in which modules were woken

pub before-app : {u v : ℕ} {l : List ℕ} (m : List ℕ) → Before u v l → Before u v (l ++ m)
before-app m (here i) = here (Memᴰ.append_left m i)
before-app m (later b) = later (before-app m b)

-- one more behind all others
pub before_last : {u v : ℕ} (l : List ℕ) → Memᴰ u l → Before u v (l ++ (v ∷ []))
before_last [] i = absurd (Memᴰ.not-nil i)
before_last {u} {v} (x ∷ l) (Memᴰ.head e) = subst (λ y. Before u v (y ∷ (l ++ (v ∷ [])))) e (here (Memᴰ.append_right l (Memᴰ.head refl)))
before_last (x ∷ l) (Memᴰ.tail i) = later (before_last l i)

-- ---- v's chain

pub record TracedBack (p : Plan) (s : State) (l : List Taken) (v : ℕ) : Type 0 where
  pub rest : List ℕ
  pub chain : Chain p s l (v ∷ rest)

-- ---- from the state x, where the steps l were taken before, to y, where l' were

pub record Grown (p : Plan) (x : State) (l : List Taken) (y : State) (l' : List Taken) : Type 0 where
  pub stays : (v : ℕ) → Awake p x v → Awake p y v
  pub keeps : (v : ℕ) → Awake p x v → (node_at y v).waking ≡ (node_at x v).waking
  pub roots : (v : ℕ) → Memᴰ v (by_wake_steps l) → Memᴰ v (by_wake_steps l')
  pub order : (u v : ℕ) → Before u v (woken_in p l) → Before u v (woken_in p l')

module _ {p : Plan} {x y : State} {l l' : List Taken} (g : Grown p x l y l') where
  follows_on : {vs : List ℕ} → All (Awake p x) vs → Follows p x l vs → Follows p y l' vs
  follows_on nil f = elim f [ ]
  follows_on (con a t) (ends {v} e i) = ends (g.keeps v a ∙ e) (g.roots v i)
  follows_on (con a t) (on {v} {u} j b f) = on (subst (λ k. Joins (graph_of p) k v u) (sym (g.keeps v a)) j) (g.order u v b) (follows_on t f)

  pub traced-on : (v : ℕ) → TracedBack p x l v → TracedBack p y l' v
  traced-on v t =
      let c = t.chain in
      record { rest = t.rest; chain = record { follows = follows_on c.awake c.follows; awake = All-map g.stays c.awake; different = c.different } }

  -- v slept, and was woken over the link k to u
  pub traced-more : (v u k : ℕ) → (node_at x v).status ≡ ASLEEP → Awake p y v → (node_at y v).waking ≡ k → Joins (graph_of p) k v u
      → Memᴰ u (woken_in p l) → woken_in p l' ≡ woken_in p l ++ (v ∷ []) → TracedBack p x l u → TracedBack p y l' v
  traced-more v u k z a e j i q t =
      let c = t.chain in
      record {
        rest = u ∷ t.rest;
        chain = record {
          follows = on (subst (λ d. Joins (graph_of p) d v u) (sym e) j) (subst (Before u v) (sym q) (before_last (woken_in p l) i)) (follows_on c.awake c.follows);
          awake = con a (All-map g.stays c.awake);
          different = another (All-map (λ w b e'. b.awake (subst (λ d. (node_at x d).status ≡ ASLEEP) e' z)) c.awake) c.different;
        };
      }

-- a chain of one: a wake step woke it
pub traced-root : (p : Plan) (s : State) (l : List Taken) (v : ℕ) → Awake p s v → (node_at s v).waking ≡ none → Memᴰ v (by_wake_steps l) → TracedBack p s l v
traced-root p s l v a e i = record { rest = []; chain = record { follows = ends e i; awake = con a nil; different = NoTwice-one v } }
