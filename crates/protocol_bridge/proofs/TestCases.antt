-- (6) The cases of the response to Test of an awake node: answered by small steps (`other-fin`, `crossed-fin`, `own-fin`), or put back (`waits-test`).
-- What a crossed Test and a Reject do alike: `strikes`, `struck-fin`.
use Rattle.std.specs.Prelude.{ℕ, suc, ◌≤◌, ◌<◌, ◌≡◌, refl, ◌≢◌, cond, List, length, eqb}
use Rattle.std.proofs.Common.{arith, sym, ◌∙◌, inl, inr}
use Rattle.base.proofs.laws.Cond.{eqb-cases}
use Rattle.format_message.specs.Msg.{Msg, test, accept, reject}
use Rattle.node.specs.Work.{Work, BASIC, REJECTED, put_back, Own}
use Rattle.node.specs.Rules.{do_test, strike, on_test}
use Rattle.node.proofs.laws.Rules.{test-waits, test-accepted, test-crossed, test-rejected}
use Rattle.protocol.proofs.Prelude.{Network, ProtocolState, SmallStep, Strike, pop, remarked, set-ot}
use Rattle.protocol.specs.Step.{accept-test, reject-test, crossed-test}
use Rattle.protocol_bridge.proofs.Real.{Real, own_p}
use Rattle.protocol_bridge.proofs.Fin.{Fin, Keeps, Serving, fin-step, fin-last, fin-same, one_more, lev-is, id-is, te-is, mark-at, at_mark, at-send}
use Rattle.protocol_bridge.proofs.Finish.{test-fin}

-- the mark once Basic has become Rejected
abbrev struck : Work → ℕ → ℕ
struck w k = cond (eqb (w.mark k) BASIC) REJECTED (w.mark k)

module _ {p : Network} {s : ProtocolState} {r : Real} {u v k : ℕ} {m : Msg} {rest : List Msg} {w : Work} (sv : Serving p s r u v k m rest w) where
  pub strikes : Strike s v k (struck w k)
  strikes = eqb-cases (w.mark k) 0 (λ b. Strike s v k (cond b REJECTED (w.mark k)))
      (λ e. inl (mark-at sv.at k ∙ e, refl)) (λ n. inr ((λ e. n (sym (mark-at sv.at k) ∙ e)), sym (mark-at sv.at k)))

  -- the mark is struck, and procedure test follows
  abbrev pub next : ProtocolState
  next = set-ot (remarked (pop s u k rest) v k (struck w k)) (suc v)

pub struck-fin : {p : Network} → Keeps p → {s : ProtocolState} {r : Real} {u v k : ℕ} {m : Msg} {rest : List Msg} {w : Work} (sv : Serving p s r u v k m rest w) → SmallStep p s (next sv)
    → Fin p r v 0 (length w.sends) (do_test (own_p p v) (strike k w)) (next sv)
struck-fin keeps {k = k} {w = w} sv t = test-fin keeps (keeps _ _ t sv.inv) (at_mark sv.at k (struck w k)) sv.fresh refl (sv.idle).1 (sv.idle).2

module _ {p : Network} (keeps : Keeps p) {s : ProtocolState} {r : Real} {u v k l f : ℕ} {rest : List Msg} {w : Work} (sv : Serving p s r u v k (test l f) rest w) where
  abbrev o : Own
  o = own_p p v

  module _ (le : l ≤ s.lev v) where
    pub other-fin : s.id v ≢ f → Fin p r v 0 (length w.sends) (on_test o l f k w) s
    other-fin n = fin-same (test-accepted o l f k w (omega (arith, lev-is sv.at)) (λ e. n (id-is sv.at ∙ sym e)))
        (fin-last (accept-test sv.idle sv.ends sv.awake sv.head le n) (one_more w k accept) sv.idle sv.fresh (at-send sv.at k accept))

    pub crossed-fin : s.id v ≡ f → s.te v ≡ k → Fin p r v 0 (length w.sends) (on_test o l f k w) s
    crossed-fin e h =
        let t : SmallStep p s (next sv) = crossed-test sv.idle sv.ends sv.awake sv.head le e h (strikes sv) in
        fin-same (test-crossed o l f k w (omega (arith, lev-is sv.at)) (sym e ∙ id-is sv.at) (sym (te-is sv.at) ∙ h)) (fin-step t (omega arith) (struck-fin keeps sv t))

    pub own-fin : s.id v ≡ f → s.te v ≢ k → Fin p r v 0 (length w.sends) (on_test o l f k w) s
    own-fin e n = fin-same (test-rejected o l f k w (omega (arith, lev-is sv.at)) (sym e ∙ id-is sv.at) (λ h. n (te-is sv.at ∙ h)))
        (fin-last (reject-test sv.idle sv.ends sv.awake sv.head le e n (strikes sv)) (one_more w k reject) sv.idle sv.fresh (at-send (at_mark sv.at k (struck w k)) k reject))

  -- from above: put back
  pub waits-test : s.lev v < l → on_test o l f k w ≡ put_back w
  waits-test b = test-waits o l f k w (omega (arith, lev-is sv.at))
