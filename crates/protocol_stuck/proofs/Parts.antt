-- STUCK MEANS FINISHED (`stuck-finished`), and so does rest (`rest-finished`): what such a state says of each part of the graph. A part with nobody awake is
-- as at setup in every state with the invariant (`part-asleep`).
use Rattle.protocol.proofs.Prelude.{ℕ, ◌≤◌, arith, ◌≡◌, refl, sym, ap, subst, ◌≢◌, ◌⊎◌, inl, inr, ⊎_elim, by-eq, List, [], ◌∷◌}
use Rattle.protocol.proofs.Prelude.{Network, Edge, up, down, flip, wider, ProtocolState, Idle, GL, GC, In, first, in-nil, Inv}
use Rattle.protocol.proofs.Prelude.{sleep-lev, sleep-id, sleep-te, sleep-fc, sleep-halt, sleep-ib}
use Rattle.graph.specs.Parts.{SamePart}
use Rattle.graph.proofs.laws.Ways.{way-reverse}
use Rattle.protocol_stuck.proofs.Informed.{Stuck}
use Rattle.protocol_stuck.proofs.Outcome.{PartOfOne, NodeAsleep}
pub use Rattle.protocol_stuck.proofs.Outcome.{PartCore, PartFinished, PartAsleep, AllFinished}
use Rattle.protocol_stuck.proofs.Finished.{edge?, part, part-awake, nothing}
use Rattle.protocol_stuck.proofs.Rest.{leaves, tree-branch, other-rejected, level-pos, core-tree, core-halted, halted-core, lone-halted}

-- ---- a part in which nobody is awake, in any state with the invariant

pub part-asleep : {p : Network} {s : ProtocolState} → Inv p s → (v : ℕ) → ((u : ℕ) → SamePart p.g v u → s.st u ≡ 0) → PartAsleep p s v
part-asleep {p} {s} i v z = record { nodes = λ u w. node u (z u w); channels = λ k a b e w. i.hush.g6o k a b e (z a w) }
  where
    node : (u : ℕ) → s.st u ≡ 0 → NodeAsleep s u
    node u e = record {
      status = e;
      level = sleep-lev i u e;
      identity = sleep-id i u e;
      weight = (i.sleepers.g6 u e).g6w;
      best = (i.sleepers.g6 u e).g6e;
      test = sleep-te i u e;
      branch = sleep-ib i u e;
      count = sleep-fc i u e;
      halted = sleep-halt i u e;
      markings = λ k. i.sleepers.g6m u k e;
    }

-- ---- a part with an awake node, in a stuck state

module _ {p : Network} {s : ProtocolState} (i : Inv p s) (t : Stuck p s) (w : ℕ) (a : s.st w ≢ 0) where
  -- w has an edge: the two that have halted are the ends of the fragment's core
  module _ (j x : ℕ) (f : Edge p j w x) where
    abbrev core : ℕ
    core = GC s w

    level : 1 ≤ GL s w
    level = level-pos i t j w x f a

    core-ends : Edge p core (p.g.lo core) (p.g.hi core)
    core-ends = up (i.cores.g5r w level) refl refl

    -- each of the part has an edge
    has-edge : (v : ℕ) → SamePart p.g w v → (k : ℕ) × (u : ℕ) × Edge p k v u
    has-edge v y = by-eq v w (λ e. (j, x, subst (λ z. Edge p j z x) (sym e) f)) (λ n. leaves (way-reverse y) n)

    end_of : {v y : ℕ} → Edge p core v y → (v ≡ p.g.lo core) ⊎ (v ≡ p.g.hi core)
    end_of (up l e f) = inl (sym e)
    end_of (down l e f) = inr (sym e)

    is-end : (v : ℕ) → SamePart p.g w v → s.halt v ≡ 1 → (v ≡ p.g.lo core) ⊎ (v ≡ p.g.hi core)
    is-end v y h =
        let e = has-edge v y in
        let c = halted-core i t e.0 v e.1 e.2 (λ q. omega arith) in
        end_of (subst (λ k. Edge p k v c.0) (ap s.gc (sym (part i t w v a y))) c.1)

    end-halted : (v : ℕ) → (v ≡ p.g.lo core) ⊎ (v ≡ p.g.hi core) → s.halt v ≡ 1
    end-halted v h = ⊎_elim
        (λ e. subst (λ z. s.halt z ≡ 1) (sym e) (core-halted i t w (p.g.lo core) (p.g.hi core) a level core-ends))
        (λ e. subst (λ z. s.halt z ≡ 1) (sym e) (core-halted i t w (p.g.hi core) (p.g.lo core) a level (flip core-ends))) h

    part-core : PartCore p s w
    part-core = record {
      edge = core;
      within = i.cores.g5r w level;
      tree = core-tree i t w (p.g.lo core) (p.g.hi core) level core-ends;
      inside = wider (λ e l h. tt) (i.markings.m4 w (p.g.lo core) (sym (i.cores.g5 w (p.g.lo core) (p.g.hi core) level core-ends).1));
      apart = p.no_loop core (i.cores.g5r w level);
      halted = λ v y. (is-end v y, end-halted v);
    }

  -- w has none
  part-of-one : ((k u : ℕ) → ¬ Edge p k w u) → PartOfOne p s w
  part-of-one n = record {
    only = λ u y. by-eq u w (λ e. e) (λ d. let e = leaves y (λ q. d (sym q)) in absurd (n e.0 e.1 e.2));
    edgeless = n;
    halted = lone-halted i t w a n;
  }

  part-finished : PartFinished p s w
  part-finished = record {
    tree = λ k b c e y h. tree-branch i t k b c e (part-awake i t w b a y) h;
    others = λ k b c e y h. other-rejected i t k b c e (part-awake i t w b a y) h;
    halted = ⊎_elim (λ e. inl (part-core e.0 e.1 e.2)) (λ n. inr (part-of-one n)) (edge? p w);
  }

-- ---- the theorems

empty : {A : Type 0} (l : List A) → ((x : A) → ¬ In x l) → l ≡ []
empty [] n = refl
empty (x ∷ l) n = absurd (n x first)

-- STUCK MEANS FINISHED. (Nobody need be awake: then all parts are asleep.)
pub stuck-finished : {p : Network} {s : ProtocolState} → Inv p s → Stuck p s → AllFinished p s
stuck-finished {p} {s} i t = record {
  silent = λ k a b e. empty (s.ch a k) (λ m. nothing i t k a b m e);
  awake = λ v u y a. part-finished i t v (part-awake i t u v a (way-reverse y));
  asleep = part-asleep i;
}

-- REST: no response is under way and no message on any channel
pub rest-finished : {p : Network} {s : ProtocolState} → Inv p s → Idle s → ((k a b : ℕ) → Edge p k a b → s.ch a k ≡ []) → AllFinished p s
rest-finished {p} {s} i d z = stuck-finished i (record { idle = d; back = λ k u v m e n. absurd (in-nil (subst (λ l. In m l) (z k u v e) n)) })
