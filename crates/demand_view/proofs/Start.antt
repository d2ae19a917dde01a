-- The view of a setup is the protocol's setup (`view-start`).
use Rattle.std.specs.Prelude.{ℕ, ◌≡◌, refl, length, replicate}
use Rattle.std.proofs.Common.{arith, ap, ap₂, ◌∙◌}
use Rattle.std.proofs.Math.Path.{fun_ext}
use Rattle.std.proofs.Math.Bool.{cond}
use mathlib.Core.List.{List, []}
use Rattle.std.proofs.lemmas.List.{get_or-replicate}
use Rattle.base.proofs.laws.Cond.{ltb-cases, bool_cases}
use Rattle.plan.proofs.laws.Accepted.{Accepted}
use Rattle.node.specs.Work.{setup}
use Rattle.field.specs.Edges.{is_own, end_of, marks_in}
use Rattle.field.specs.State.{node_in}
use Rattle.field.specs.Held.{state_of, fresh_cells, fresh}
use Rattle.field.specs.Valid.{waiting_in}
use Rattle.base.specs.Limits.{max_modules, max_ends}
use Rattle.base.specs.Keep.{keep}
use Rattle.plan.specs.Links.{Plan, modules_of}
use Rattle.field.proofs.laws.Edges.{mark-own, mark-not}
use Rattle.field_laws.proofs.Chan.{chan}
use Rattle.field_laws.proofs.Places.{over_below}
use Rattle.field_laws.proofs.Laid.{waiting-zeros}
use Rattle.field_laws.proofs.After.{fresh-node}
use Rattle.protocol.specs.State.{setup_state}
use Rattle.protocol_bridge.proofs.Real.{real}
use Rattle.demand_view.proofs.View.{nodes, chans, tables, view}
use Rattle.demand_view.proofs.Chans.{chans-own, chans-not}

module _ (p : Plan) (a : Accepted p) where
  nodes-fresh : nodes p (fresh_cells max_modules) ≡ (λ v. setup)
  unfolding nodes
  nodes-fresh = fun_ext (λ v. ltb-cases v (modules_of p) (λ b. cond b (node_in (fresh_cells max_modules) v) setup ≡ setup)
      (λ l. fresh-node v (omega (arith, a.modules_ok))) (λ l. refl))

  marks-fresh : marks_in p (replicate max_ends 0) ≡ (λ v k. 0)
  marks-fresh = fun_ext (λ v. fun_ext (λ k. bool_cases (is_own p v k)
      (λ o. mark-own p v k (replicate max_ends 0) o
      ∙ get_or-replicate {A = ℕ} max_ends (end_of p v k) 0 0 (omega (arith, over_below p v k o, a.links_ok)))
      (λ o. mark-not p v k (replicate max_ends 0) o)))

  -- nothing waits
  pub chans-none : (v k : ℕ) → chans p [] v k ≡ []
  unfolding chan keep
  chans-none v k = bool_cases (is_own p v k) (λ o. chans-own p [] v k o) (λ o. chans-not p [] v k o)

  pub view-start : (lent : List ℕ) → view p (state_of (record { field = fresh p; words = replicate (length lent) 0 })) ≡ real setup_state
  view-start lent =
      ap₂ (λ f m. tables f m (chans p (waiting_in (replicate (length lent) 0)))) nodes-fresh marks-fresh
      ∙ ap (tables (λ v. setup) (λ v k. 0)) (ap (chans p) (waiting-zeros (length lent)) ∙ fun_ext (λ v. fun_ext (λ k. chans-none v k)))
