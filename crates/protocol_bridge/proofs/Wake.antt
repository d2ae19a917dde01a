-- Procedure wakeup as a small step (`wake-fin`).
use Rattle.std.specs.Prelude.{ℕ, ◌<◌, ◌≡◌, refl, length}
use Rattle.std.proofs.Common.{arith, ⊎_elim}
use Rattle.base.proofs.laws.Cond.{by-eq}
use Rattle.format_message.specs.Msg.{connect}
use Rattle.node.specs.Work.{Work, BRANCH, any_edge, earliest}
use Rattle.node.specs.Rules.{wakeup}
use Rattle.node.proofs.laws.Rules.{wake-alone, wake-edge}
use Rattle.protocol.specs.Network.{Network, edge-some}
use Rattle.protocol.specs.State.{ProtocolState}
use Rattle.protocol.specs.Step.{Idle, wake-lone, wake-half, wake-merge}
use Rattle.protocol_bridge.proofs.Real.{Real, real, own_p}
use Rattle.protocol_bridge.proofs.Own.{Lacks, FindsFirst, searched}
use Rattle.protocol_bridge.proofs.Fin.{At, Fin, fin-last, fin-same, one_more, at-halted, at-woken, at_mark, at-send}

-- j: the edge whose message wakes it, or none. The protocol does not know it.
module _ (p : Network) (s : ProtocolState) (j : ℕ) {r : Real} {v : ℕ} {w : Work} (a : At r v w (real s)) (z : w.answer ≡ 0) (idle : Idle s) (lt : v < p.N) (asleep : s.st v ≡ 0) where
  abbrev edge : ℕ
  edge = earliest (own_p p v) any_edge p.g.L

  alone : Lacks p v any_edge edge → Fin p r v 0 (length w.sends) (wakeup (own_p p v) j w) s
  alone h = fin-same (wake-alone j edge w h.is) (fin-last (wake-lone idle lt asleep (λ k u e. h.nothing k u e refl)) (omega arith) idle z (at-halted (at-woken a j) 1))

  connects : FindsFirst p v any_edge edge → Fin p r v 0 (length w.sends) (wakeup (own_p p v) j w) s
  connects h =
      let y = h.other in
      let m = connect 0 in
      let a' = at-send (at_mark (at-woken a j) edge BRANCH) edge m in
      fin-same (wake-edge j edge w (edge-some p h.ends)) (by-eq (s.mark y edge) 1
      (λ b. fin-last (wake-merge idle h.ends asleep (λ i u e. h.least i u e refl) b) (one_more w edge m) idle z a')
      (λ b. fin-last (wake-half idle h.ends asleep (λ i u e. h.least i u e refl) b) (one_more w edge m) idle z a'))

  pub wake-fin : Fin p r v 0 (length w.sends) (wakeup (own_p p v) j w) s
  wake-fin = ⊎_elim alone connects (searched p v any_edge)
