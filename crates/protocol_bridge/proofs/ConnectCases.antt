-- (3) The cases of the response to Connect of an awake node: taken as a small step (`absorb-fin`, `core-fin`), or put back (`waits-connect`).
use Rattle.std.specs.Prelude.{ℕ, ◌+◌, ◌≤◌, ◌<◌, ◌≡◌, refl, ◌≢◌, List, length}
use Rattle.std.proofs.Common.{arith, sym, ap, ap₂, subst, ◌∙◌, inl, inr}
use Rattle.base.proofs.laws.Cond.{by-eq, upd_same}
use Rattle.base.specs.Log.{log2}
use Rattle.format_message.specs.Msg.{Msg, connect, initiate}
use Rattle.node.specs.Work.{Work, BRANCH, put_back, with_node, set_mark, set_count, degree, Own, send}
use Rattle.node.specs.Rules.{join_over, count_up, on_connect}
use Rattle.node.specs.Rules as N
use Rattle.node.proofs.laws.Rules.{count-rises, absorb-find, absorb-found, core-answers, connect-absorbed, connect-waits, connect-core}
use Rattle.protocol.proofs.Prelude.{Network, ProtocolState, SmallStep, pop-head, pop, absorbed}
use Rattle.protocol.specs.Step.{absorb, core-reply}
use Rattle.protocol_invariant.proofs.Safe.{reply-le}
use Rattle.protocol_bridge.proofs.Real.{Real, real, own_p}
use Rattle.protocol_bridge.proofs.Place.{to_count, to_mark, to_send}
use Rattle.protocol_bridge.proofs.Own.{fc-degree}
use Rattle.protocol_bridge.proofs.Fin.{At, Fin, Keeps, Serving, fin-last, fin-same, one_more, st-is, lev-is, id-is, fc-is, mark-at, at_count, at_mark, at-send}

module _ {p : Network} (keeps : Keeps p) {s : ProtocolState} {r : Real} {u v k l : ℕ} {rest : List Msg} {w : Work} (sv : Serving p s r u v k (connect l) rest w) where
  abbrev o : Own
  o = own_p p v

  abbrev pub limit : ℕ
  limit = log2 p.N

  -- L < LN: the other fragment is absorbed. After it the find-count is at most the number of own edges (f4).
  absorb-find-fin : l < s.lev v → s.st v ≡ 1 → Fin p r v 0 (length w.sends) (N.absorb o k w) s
  absorb-find-fin lt f =
      let step : SmallStep p s (absorbed (pop s u k rest) u v k 1) = absorb sv.idle sv.ends sv.awake sv.head lt (inl (f, refl)) in
      let c = s.fc v + 1 in
      let m = initiate (s.lev v) (s.id v) 1 in
      let fits : c ≤ degree o = omega (arith, fc-degree p v (keeps _ _ step sv.inv), upd_same s.fc v c) in
      fin-same (absorb-find o k w (sym (st-is sv.at) ∙ f) ∙ (ap (λ n. count_up o (n + 1) (join_over k 1 w)) (sym (fc-is sv.at)) ∙ (count-rises o c (join_over k 1 w) fits
      ∙ ap₂ (λ n f. with_node (set_count c w.node) (send k (initiate n f 1) (set_mark k BRANCH w))) (sym (lev-is sv.at)) (sym (id-is sv.at)))))
      (fin-last step (one_more w k m) sv.idle sv.fresh (at_count (at_mark (at-send sv.at k m) k BRANCH) c))

  absorb-found-fin : l < s.lev v → s.st v ≢ 1 → Fin p r v 0 (length w.sends) (N.absorb o k w) s
  absorb-found-fin lt f =
      let m = initiate (s.lev v) (s.id v) 0 in
      fin-same (absorb-found o k w (λ e. f (st-is sv.at ∙ e)) ∙ ap₂ (λ n f. send k (initiate n f 0) (set_mark k BRANCH w)) (sym (lev-is sv.at)) (sym (id-is sv.at)))
      (fin-last (absorb sv.idle sv.ends sv.awake sv.head lt (inr (f, refl))) (one_more w k m) sv.idle sv.fresh
      (subst (λ n. At r v (with_node (set_count n w.node) (send k m (set_mark k BRANCH w))) (to_count v (s.fc v + 0) (to_mark v k BRANCH (to_send v k m (real (pop s u k rest)))))) same_count
      (at_count (at_mark (at-send sv.at k m) k BRANCH) (s.fc v + 0))))
    where
      same_count : s.fc v + 0 ≡ w.node.count
      same_count = omega (arith, fc-is sv.at)

  pub absorb-fin : l < s.lev v → Fin p r v 0 (length w.sends) (on_connect o limit l k w) s
  absorb-fin lt = fin-same (connect-absorbed o limit l k w (omega (arith, lev-is sv.at))) (by-eq (s.st v) 1 (absorb-find-fin lt) (absorb-found-fin lt))

  -- not Basic: Initiate of the next level, which is at most ⌊log2 N⌋
  pub core-fin : s.lev v ≤ l → s.mark v k ≢ 0 → Fin p r v 0 (length w.sends) (on_connect o limit l k w) s
  core-fin le b =
      let m = initiate (s.lev v + 1) k 1 in
      let low : w.node.level < limit = omega (arith, lev-is sv.at, reply-le sv.inv k u v l sv.ends (pop-head s.ch u k sv.head) b) in
      fin-same (connect-core o limit l k w (omega (arith, lev-is sv.at)) (λ e. b (mark-at sv.at k ∙ e)) ∙ (core-answers limit k w low ∙ ap (λ n. send k (initiate (n + 1) k 1) w) (sym (lev-is sv.at))))
      (fin-last (core-reply sv.idle sv.ends sv.awake sv.head le b) (one_more w k m) sv.idle sv.fresh (at-send sv.at k m))

  -- Basic: put back
  pub waits-connect : s.lev v ≤ l → s.mark v k ≡ 0 → on_connect o limit l k w ≡ put_back w
  waits-connect le b = connect-waits o limit l k w (omega (arith, lev-is sv.at)) (sym (mark-at sv.at k) ∙ b)
