-- (3) The response to Connect of an awake node, as a small step (`connect-fin`).
use Rattle.std.specs.Prelude.{ℕ, ◌≡◌, ◌⊎◌, List, length}
use Rattle.std.proofs.Common.{arith, inl, inr}
use Rattle.std.proofs.Math.Decide.{dec_le}
use Rattle.std.proofs.Math.Logic.{by_cases}
use Rattle.base.proofs.laws.Cond.{by-eq}
use Rattle.format_message.specs.Msg.{Msg, connect}
use Rattle.node.specs.Work.{Work, put_back, Own}
use Rattle.node.specs.Rules.{on_connect}
use Rattle.protocol.proofs.Prelude.{Network, ProtocolState, Blocked}
use Rattle.protocol_bridge.proofs.Real.{Real, own_p}
use Rattle.protocol_bridge.proofs.Fin.{Fin, Keeps, Serving}
use Rattle.protocol_bridge.proofs.ConnectCases as C

module _ {p : Network} (keeps : Keeps p) {s : ProtocolState} {r : Real} {u v k l : ℕ} {rest : List Msg} {w : Work} (sv : Serving p s r u v k (connect l) rest w) where
  abbrev o : Own
  o = own_p p v

  abbrev limit : ℕ
  limit = C.limit keeps sv

  pub connect-fin : Fin p r v 0 (length w.sends) (on_connect o limit l k w) s ⊎ ((on_connect o limit l k w ≡ put_back w) × Blocked s v k (connect l))
  connect-fin = by_cases (dec_le (s.lev v) l)
      (λ le. by-eq (s.mark v k) 0 (λ b. inr (C.waits-connect keeps sv le b, (le, b))) (λ b. inl (C.core-fin keeps sv le b)))
      (λ n. inl (C.absorb-fin keeps sv (omega arith)))
