-- (6), (8) The responses to Test of an awake node, and to Reject, as small steps (`asked-fin`, `reject-fin`).
use Rattle.std.specs.Prelude.{ℕ, ◌≤◌, ◌<◌, ◌≡◌, ◌⊎◌, List, length}
use Rattle.std.proofs.Common.{arith, inl, inr}
use Rattle.std.proofs.Math.Decide.{dec_le}
use Rattle.std.proofs.Math.Logic.{by_cases}
use Rattle.base.proofs.laws.Cond.{by-eq}
use Rattle.format_message.specs.Msg.{Msg, test, reject}
use Rattle.node.specs.Work.{Work, put_back, Own}
use Rattle.node.specs.Rules.{on_test, on_reject}
use Rattle.protocol.proofs.Prelude.{Network, ProtocolState, SmallStep, Blocked}
use Rattle.protocol.specs.Step.{rejected}
use Rattle.protocol_bridge.proofs.Real.{Real, own_p}
use Rattle.protocol_bridge.proofs.Fin.{Fin, Keeps, Serving, fin-step}
use Rattle.protocol_bridge.proofs.TestCases.{next, strikes, struck-fin}
use Rattle.protocol_bridge.proofs.TestCases as T

-- (8) Reject
pub reject-fin : {p : Network} → Keeps p → {s : ProtocolState} {r : Real} {u v k : ℕ} {rest : List Msg} {w : Work} → Serving p s r u v k reject rest w
    → Fin p r v 0 (length w.sends) (on_reject (own_p p v) k w) s
reject-fin {p} keeps {s} {r} {u} {v} {k} {rest} {w} sv =
    let t : SmallStep p s (next sv) = rejected sv.idle sv.ends sv.head (strikes sv) in
    fin-step t (omega arith) (struck-fin keeps sv t)

-- (6) Test
module _ {p : Network} (keeps : Keeps p) {s : ProtocolState} {r : Real} {u v k l f : ℕ} {rest : List Msg} {w : Work} (sv : Serving p s r u v k (test l f) rest w) where
  abbrev o : Own
  o = own_p p v

  answered-fin : l ≤ s.lev v → Fin p r v 0 (length w.sends) (on_test o l f k w) s
  answered-fin le = by-eq (s.id v) f (λ e. by-eq (s.te v) k (T.crossed-fin keeps sv le e) (T.own-fin keeps sv le e)) (T.other-fin keeps sv le)

  pub asked-fin : Fin p r v 0 (length w.sends) (on_test o l f k w) s ⊎ ((on_test o l f k w ≡ put_back w) × Blocked s v k (test l f))
  asked-fin = by_cases (dec_le l (s.lev v)) (λ le. inl (answered-fin le))
      (λ n. let b : s.lev v < l = omega arith in inr (T.waits-test keeps sv b, b))
