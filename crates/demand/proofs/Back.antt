-- The messages that an awake node puts back are those that the protocol calls blocked (`back-blocked`).
use Rattle.std.specs.Prelude.{ℕ, ◌≡◌, ◌≢◌}
use Rattle.std.proofs.Common.{arith, ◌∙◌, ⊎_elim}
use Rattle.format_message.specs.Msg.{Msg, connect, initiate, test, accept, reject, report, change}
use Rattle.node.specs.declared.Node.{Node}
use Rattle.node.specs.Work.{Own, Work, BACK, start}
use Rattle.node.specs.Rules.{respond}
use Rattle.field_roundlaws.proofs.Steady.{PutsBack, ends-awake}
use Rattle.protocol.specs.State.{ProtocolState}
use Rattle.protocol.specs.Step.{Blocked}
use Rattle.protocol_bridge.proofs.Real.{real}
use Rattle.protocol_bridge.proofs.Fin.{Shows, st-is, lev-is, ib-is}

module _ (o : Own) (limit : ℕ) (s : ProtocolState) {n : Node} {v : ℕ} (shows : Shows (real s) v n) (j : ℕ) (up : s.st v ≢ 0) where
  abbrev w : Work
  w = start n (s.mark v)

  blocks : (m : Msg) → PutsBack j w m → Blocked s v j m
  blocks (connect l) h = rw (lev-is shows) h
  blocks (initiate l f x) h = h
  blocks (test l f) h = rw (lev-is shows) h
  blocks accept h = h
  blocks reject h = h
  blocks (report x) h = rw (ib-is shows, st-is shows) h
  blocks change h = h

  pub back-blocked : (m : Msg) → (respond o limit m j n (s.mark v)).answer ≡ BACK → Blocked s v j m
  back-blocked m e = ⊎_elim (λ k. absurd (k.unblocked e)) (λ t. blocks m t.0) (ends-awake o limit j m w (record { unblocked = λ q. omega arith; awake = λ q. up (st-is shows ∙ q) }))
