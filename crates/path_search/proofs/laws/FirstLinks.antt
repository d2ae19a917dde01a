-- The first link of a path leads to a node that is a hop nearer (`nearer`); of a link's two ends it is the first link of one (`first-link`).
use Rattle.std.specs.Prelude.{ℕ, suc, ◌≡◌, refl, ◌⊎◌, length}
use Rattle.std.proofs.Common.{arith, sym, ap, subst, ◌∙◌, inl, inr, ⊎_elim}
use Rattle.base.specs.None.{none}
use Rattle.graph.specs.Graph.{Joins}
use Rattle.graph.specs.Parts.{SamePart}
use Rattle.graph.proofs.laws.Ways.{ends-two}
use Rattle.plan.specs.Links.{Plan, graph_of}
use Rattle.path.proofs.laws.Steps.{PathSteps, Next}
use Rattle.path_search.specs.Spread.{hops_to, head_or, link_to}

-- w is in v's part, at h hops
abbrev pub AtHops : Plan → ℕ → ℕ → ℕ → Type 0
AtHops p v h w = SamePart (graph_of p) w v × (hops_to p v w ≡ h)

module _ (p : Plan) (v : ℕ) (steps : PathSteps p v) where
  pub here-none : hops_to p v v ≡ 0
  here-none = rw (steps.here) refl

  -- a node of v's part that is not v itself
  pub nearer : (w h : ℕ) → SamePart (graph_of p) w v → hops_to p v w ≡ suc h → (n : Next p w v) × (hops_to p v n.to ≡ h) × (link_to p v w ≡ n.link)
  nearer w h s e =
      let n = steps.next w s (λ q. omega (arith, here-none, ap (hops_to p v) q)) in
      (n, omega (arith, ap length n.rest), ap (head_or none) n.rest)

  -- link k, of ends a and b, is the first of w's path: w is one end, and the other is nearer
  pub first-link : (k a b w h : ℕ) → Joins (graph_of p) k a b → SamePart (graph_of p) w v → hops_to p v w ≡ suc h → k ≡ link_to p v w
      → ((w ≡ a) × AtHops p v h b) ⊎ ((w ≡ b) × AtHops p v h a)
  first-link k a b w h j s e q =
      let n = nearer w h s e in
      let to = n.0.to in
      let there : AtHops p v h to = (n.0.part, n.1) in
      ⊎_elim
      (λ x. inl (x.0, subst (AtHops p v h) x.1 there))
      (λ x. inr (x.0, subst (AtHops p v h) x.1 there))
      (ends-two (subst (λ x. Joins (graph_of p) x w to) (sym (q ∙ n.2)) n.0.joins) j)
