-- A node's own edges as its rules see them: the edges that end there (`own-ends`, `ends-own`), their order (`before-lt`), searches (`searched`) and counts
-- (`fc-degree`).
use Rattle.std.specs.Prelude.{ℕ, ◌≤◌, ◌<◌, ◌≡◌, refl, ◌≢◌, ◌⊎◌, Bool, true, false, ◌&&◌, ◌||◌, eqb}
use Rattle.std.proofs.Common.{arith, sym, ap, ◌∙◌, inl, inr, ⊎_elim, true≢false, lt-ltb, eq-eqb}
use Rattle.base.proofs.laws.Cond.{eqb-cases, ltb-cases, by-eq}
use Rattle.graph.specs.Graph.{up, down}
use Rattle.graph.proofs.laws.Ways.{joins-lt}
use Rattle.graph.proofs.laws.Rank.{rank-not-earlier, rank_in-lt}
use Rattle.format_message.specs.Msg.{none}
use Rattle.node.specs.Work.{before, earliest, any_edge, degree}
use Rattle.node.proofs.laws.Count.{number-sum}
use Rattle.node.proofs.laws.First.{first, before-none, before-edges, none_before}
use Rattle.protocol.specs.Network.{Network, Edge, key, rank, key-none, key-edge, rank_lt}
use Rattle.protocol.specs.State.{ProtocolState}
use Rattle.protocol.specs.Inv.{Inv}
use Rattle.protocol_invariant.proofs.Safe.{count-le}
use Rattle.protocol_bridge.proofs.Real.{own_p}

module _ (p : Network) (v : ℕ) where
  -- ---- own edges are those that end at v

  pub own-ends : (k : ℕ) → (own_p p v).own k ≡ true → (u : ℕ) × Edge p k v u
  own-ends k = ltb-cases k p.g.L (λ b. (b && (eqb (p.g.lo k) v || eqb (p.g.hi k) v)) ≡ true → (u : ℕ) × Edge p k v u)
      (λ l. eqb-cases (p.g.lo k) v (λ b. (true && (b || eqb (p.g.hi k) v)) ≡ true → (u : ℕ) × Edge p k v u)
      (λ e h. (p.g.hi k, up l e refl))
      (λ n. eqb-cases (p.g.hi k) v (λ b. b ≡ true → (u : ℕ) × Edge p k v u) (λ e h. (p.g.lo k, down l e refl)) (λ m h. absurd (true≢false (sym h)))))
      (λ l h. absurd (true≢false (sym h)))

  pub ends-own : {k u : ℕ} → Edge p k v u → (own_p p v).own k ≡ true
  ends-own {k} (up l e f) = rw (lt-ltb k p.g.L l, eq-eqb (p.g.lo k) v e)
  ends-own {k} (down l e f) = rw (lt-ltb k p.g.L l, eq-eqb (p.g.hi k) v e) (or-true (eqb (p.g.lo k) v))
    where
      or-true : (b : Bool) → (b || true) ≡ true
      or-true true = refl
      or-true false = refl

  -- ---- what a search finds: nothing, or the edge of least rank

  pub record Lacks (f : ℕ → Bool) (k : ℕ) : Type 0 where
    pub is : k ≡ none
    pub nothing : (j u : ℕ) → Edge p j v u → f j ≡ true → ⊥

  pub record FindsFirst (f : ℕ → Bool) (k : ℕ) : Type 0 where
    pub other : ℕ
    pub ends : Edge p k v other
    pub holds : f k ≡ true
    pub least : (j u : ℕ) → Edge p j v u → f j ≡ true → rank p k ≤ rank p j

  pub searched : (f : ℕ → Bool) → Lacks f (earliest (own_p p v) f p.g.L) ⊎ FindsFirst f (earliest (own_p p v) f p.g.L)
  searched f = ⊎_elim
      (λ e. inl (record { is = e.is; nothing = λ j u h q. e.nothing j (joins-lt h) (ends-own h) q }))
      (λ e. let t = own-ends k e.mine in
      inr (record {
        other = t.0;
        ends = t.1;
        holds = e.holds;
        least = λ j u h q. by-eq j k (λ z. omega (arith, ap (rank p) z))
            (λ d. omega (arith, rank_in-lt p.order k j e.below (e.least j (joins-lt h) (ends-own h) q d)));
      }))
      (first (own_p p v) f p.order.trans p.order.total p.small p.g.L (omega arith))
    where
      k : ℕ
      k = earliest (own_p p v) f p.g.L

  -- ---- "earlier", with none later than all, is < on keys

  module _ (a b : ℕ) (la : a ≢ none → a < p.g.L) (lb : b ≢ none → b < p.g.L) where
    pub before-lt : before (own_p p v) a b ≡ true → key p a < key p b
    before-lt h = by-eq a none
        (λ e. absurd (true≢false (sym h ∙ (rw e (none_before (own_p p v) b)))))
        (λ n. by-eq b none
        (λ e. omega (arith, key-edge p a (la n), rank_lt p a (la n), ap (key p) e, key-none p))
        (λ m. omega (arith, key-edge p a (la n), key-edge p b (lb m), rank_in-lt p.order a b (la n) (sym (before-edges (own_p p v) a b n m) ∙ h))))

    pub before-ge : before (own_p p v) a b ≡ false → key p b ≤ key p a
    before-ge h = by-eq a none
        (λ e. by-eq b none (λ q. omega (arith, ap (key p) e, ap (key p) q)) (λ m. omega (arith, ap (key p) e, key-none p, key-edge p b (lb m), rank_lt p b (lb m))))
        (λ n. by-eq b none
        (λ e. absurd (true≢false (sym (rw e (before-none (own_p p v) a n)) ∙ h)))
        (λ m. omega (arith, key-edge p a (la n), key-edge p b (lb m), rank-not-earlier p.order a b (la n) (lb m) (sym (before-edges (own_p p v) a b n m) ∙ h))))

  -- ---- counts

  -- the find-count is at most the number of own edges
  pub fc-degree : {s : ProtocolState} → Inv p s → s.fc v ≤ degree (own_p p v)
  fc-degree i = omega (arith, number-sum (own_p p v) any_edge p.g.L, count-le i v (λ k. (own_p p v).own k && true) (λ k u e. rw (ends-own e)))
