-- A chain of waking links worked out: `chain_from` comes to just its modules (`chain-worked-out`); N links are enough, as there are N modules at most (`chain-found`).
use Prim.Native.Nat.{ℕ, zero, suc, ◌≤◌}
use Rattle.std.proofs.Common.{arith, sym, ap, subst, eq-eqb, ne_eqb}
use Rattle.std.specs.Prelude.{◌≡◌, List, ◌∷◌, length}
use Rattle.std.proofs.Math.Path.{refl}
use Rattle.base.specs.None.{none}
use Rattle.base.specs.Pool.{con}
use Rattle.base.proofs.laws.Pool.{All-map}
use Rattle.base.specs.Twice.{NoTwice, another}
use Rattle.base.proofs.laws.Twice.{NoTwice-most}
use Rattle.graph.proofs.laws.Ways.{joins-lt}
use Rattle.plan.specs.Links.{Plan, modules_of, links_of}
use Rattle.field.specs.State.{State, node_at}
use Rattle.field_calls.specs.Trail.{Taken}
use Rattle.field_laws.proofs.Ends.{end-leads}
use Rattle.waking.specs.Claim.{Follows, ends, on, Chain, chain_from}
use Rattle.waking.proofs.laws.Follow.{TracedBack}

module _ (p : Plan) (few : links_of p ≤ none) (s : State) (l : List Taken) where
  pub chain-worked-out : (n : ℕ) {v : ℕ} {rest : List ℕ} → Follows p s l (v ∷ rest) → NoTwice (v ∷ rest) → length rest ≤ n → chain_from p s n v ≡ v ∷ rest
  unfolding chain_from
  chain-worked-out zero (ends e i) d h = refl
  chain-worked-out zero (on j b f) d h = absurd (omega arith)
  chain-worked-out (suc n) (ends {v} e i) d h = rw (eq-eqb (node_at s v).waking none e) refl
  chain-worked-out (suc n) (on {v} {u} j b f) (another (con n' t) d) h =
      rw (ne_eqb (node_at s v).waking none (λ e. omega (arith, joins-lt j)), end-leads p n' j) (ap (λ r. v ∷ r) (chain-worked-out n f d (omega arith)))

  -- N modules at most, as all are below N and different
  pub chain-found : (v : ℕ) → TracedBack p s l v → Chain p s l (chain_from p s (modules_of p) v)
  chain-found v t =
      let c = t.chain in
      let short : length (v ∷ t.rest) ≤ modules_of p = NoTwice-most (modules_of p) c.different (All-map (λ u k. k.within) c.awake) in
      subst (Chain p s l) (sym (chain-worked-out (modules_of p) c.follows c.different (omega arith))) c
