-- (7), (10), (12) The responses to Accept, Report and Change-root, as small steps (`accept-fin`, `reported-fin`, `change-fin`).
use Rattle.std.specs.Prelude.{ℕ, suc, ◌-◌, ◌<◌, ◌≡◌, refl, ◌≢◌, ◌⊎◌, Bool, false, cond, List, length}
use Rattle.std.proofs.Common.{arith, sym, ap, ◌∙◌, inl, inr}
use Rattle.base.specs.Cond.{upd, upd2}
use Rattle.base.proofs.laws.Cond.{by-eq, bool_cases}
use Rattle.graph.proofs.laws.Ways.{joins-lt}
use Rattle.format_message.specs.Msg.{Msg, none, accept, report, change}
use Rattle.node.specs.Work.{Work, put_back, before, with_node, set_count, Own}
use Rattle.node.specs.Rules.{on_accept, on_report, core_report, better, do_report, change_root}
use Rattle.node.proofs.laws.Rules.{child-reports, report-child, report-waits, report-core, core-decides, core-halts, core-edge, core-idle}
use Rattle.protocol.proofs.Prelude.{Network, key, ProtocolState, SmallStep, Blocked, Better, In, pop-head, pop, rooted, bested, set-te, set-op, set-owe, set-fc}
use Rattle.protocol.specs.Step.{accepted, child-report, core-nothing, core-halt, decide, change-root}
use Rattle.protocol.specs.Run.{sends}
use Rattle.protocol_invariant.proofs.Safe.{child-count}
use Rattle.protocol_bridge.proofs.Real.{Real, own_p}
use Rattle.protocol_bridge.proofs.Own.{before-lt, before-ge}
use Rattle.protocol_bridge.proofs.Fin.{Fin, Keeps, Serving, fin-step, fin-last, fin-same, st-is, bw-is, be-is, ib-is, fc-is, at-best, at_test, at_count, at-halted}
use Rattle.protocol_bridge.proofs.Finish.{report-fin, root-fin}

-- a weight x that came over k against v's best
module _ {p : Network} {s : ProtocolState} {r : Real} {u v k : ℕ} {m : Msg} {rest : List Msg} {w : Work} (sv : Serving p s r u v k m rest w) where
  -- v's best weight is an edge or none (w1w)
  weight : w.node.weight ≢ none → w.node.weight < p.g.L
  weight n = omega (arith, bw-is sv.at, sv.inv.values.w1w v (λ e. n (sym (bw-is sv.at) ∙ e)))

  module _ (x : ℕ) where
    abbrev wins : Bool
    wins = before (own_p p v) x w.node.weight

    abbrev new_edge : ℕ
    new_edge = cond wins k w.node.best

    abbrev new_weight : ℕ
    new_weight = cond wins x w.node.weight

    chosen : (x ≢ none → x < p.g.L) → Better p s v x k new_weight new_edge
    chosen edge = bool_cases wins
        (λ e. inl (omega (arith, before-lt p v x w.node.weight edge weight e, ap (key p) (bw-is sv.at)), rw e, rw e))
        (λ e. inr (omega (arith, before-ge p v x w.node.weight edge weight e, ap (key p) (bw-is sv.at)), rw e (sym (bw-is sv.at)), rw e (sym (be-is sv.at))))

-- (7) Accept
pub accept-fin : {p : Network} → Keeps p → {s : ProtocolState} {r : Real} {u v k : ℕ} {rest : List Msg} {w : Work} → Serving p s r u v k accept rest w
    → Fin p r v 0 (length w.sends) (on_accept (own_p p v) k w) s
accept-fin {p} keeps {s} {r} {u} {v} {k} {rest} {w} sv =
    let b = new_weight sv k in
    let e = new_edge sv k in
    let t : SmallStep p s (set-op (bested (set-te (pop s u k rest) (upd s.te v none)) v b e) (suc v)) = accepted sv.idle sv.ends sv.head (chosen sv k (λ n. joins-lt sv.ends)) in
    fin-step t (omega arith) (report-fin (keeps _ _ t sv.inv) (at-best (at_test sv.at none) e b) sv.fresh (sv.idle).0 refl (sv.idle).2)

-- procedure change-root follows
rooted-fin : {p : Network} → Keeps p → {s : ProtocolState} {r : Real} {u v k : ℕ} {m : Msg} {rest : List Msg} {w : Work} → Serving p s r u v k m rest w
    → (t : SmallStep p s (rooted (pop s u k rest) v)) → sends t ≡ 0 → Fin p r v 0 (length w.sends) (change_root w) s
rooted-fin keeps sv t n = fin-step t (omega arith) (root-fin (keeps _ _ t sv.inv) sv.at sv.fresh (sv.idle).0 (sv.idle).1 refl)

-- (12) Change-root
pub change-fin : {p : Network} → Keeps p → {s : ProtocolState} {r : Real} {u v k : ℕ} {rest : List Msg} {w : Work} → Serving p s r u v k change rest w
    → Fin p r v 0 (length w.sends) (change_root w) s
change-fin keeps sv = rooted-fin keeps sv (change-root sv.idle sv.ends sv.head) refl

-- (10) Report
module _ {p : Network} (keeps : Keeps p) {s : ProtocolState} {r : Real} {u v k x : ℕ} {rest : List Msg} {w : Work} (sv : Serving p s r u v k (report x) rest w) where
  abbrev o : Own
  o = own_p p v

  here : In (report x) (s.ch u k)
  here = pop-head s.ch u k sv.head

  -- it carries an edge or none (r1r)
  edge : x ≢ none → x < p.g.L
  edge n = sv.inv.reports.r1r k u v x sv.ends here n

  -- not over the in-branch: it is a child's, and counted
  child-fin : s.ib v ≢ k → Fin p r v 0 (length w.sends) (on_report o x k w) s
  child-fin n =
      let b = new_weight sv x in
      let e = new_edge sv x in
      let c = s.fc v - 1 in
      let t : SmallStep p s (set-op (set-owe (set-fc (bested (pop s u k rest) v b e) (upd s.fc v c)) (upd2 s.owe v k 0)) (suc v)) = child-report sv.idle sv.ends sv.head n (chosen sv x edge) in
      fin-same (report-child o x k w (λ q. n (ib-is sv.at ∙ sym q)) ∙ (child-reports o x k w (λ q. child-count sv.inv k u v x sv.ends sv.head n (fc-is sv.at ∙ q))
      ∙ ap (λ d. do_report (with_node (better o k x (set_count (d - 1) w.node)) w)) (sym (fc-is sv.at))))
      (fin-step t (omega arith) (report-fin (keeps _ _ t sv.inv) (at-best (at_count sv.at c) e b) sv.fresh (sv.idle).0 refl (sv.idle).2))

  -- over the in-branch, at a Found node
  module _ (b : s.ib v ≡ k) (f : s.st v ≢ 1) where
    core_is : on_report o x k w ≡ core_report o x w
    core_is = report-core o x k w (sym b ∙ ib-is sv.at) (λ e. f (st-is sv.at ∙ e))

    nothing-fin : before o w.node.weight x ≡ false → (x ≢ none) ⊎ (s.bw v ≢ none) → core_report o x w ≡ w → Fin p r v 0 (length w.sends) (on_report o x k w) s
    nothing-fin h n e = fin-same (core_is ∙ e)
        (fin-last (core-nothing sv.idle sv.ends sv.head b f (omega (arith, before-ge p v w.node.weight x (weight sv) edge h, ap (key p) (bw-is sv.at))) n) (omega arith) sv.idle sv.fresh sv.at)

    core-fin : Fin p r v 0 (length w.sends) (on_report o x k w) s
    core-fin = bool_cases (before o w.node.weight x)
        (λ h. fin-same (core_is ∙ core-decides o x w h)
        (rooted-fin keeps sv (decide sv.idle sv.ends sv.head b f (omega (arith, before-lt p v w.node.weight x (weight sv) edge h, ap (key p) (bw-is sv.at)))) refl))
        (λ h. by-eq x none
        (λ e. by-eq w.node.weight none
        (λ q. fin-same (core_is ∙ core-halts o x w h e q) (fin-last (core-halt sv.idle sv.ends sv.head b f e (bw-is sv.at ∙ q)) (omega arith) sv.idle sv.fresh (at-halted sv.at 1)))
        (λ n. nothing-fin h (inr (λ q. n (sym (bw-is sv.at) ∙ q))) (core-idle o x w h n)))
        (λ n. nothing-fin h (inl n) (core-edge o x w h n)))

  pub reported-fin : Fin p r v 0 (length w.sends) (on_report o x k w) s ⊎ ((on_report o x k w ≡ put_back w) × Blocked s v k (report x))
  reported-fin = by-eq (s.ib v) k
      (λ b. by-eq (s.st v) 1 (λ f. inr (report-waits o x k w (sym b ∙ ib-is sv.at) (sym (st-is sv.at) ∙ f), (b, f))) (λ f. inl (core-fin b f)))
      (λ n. inl (child-fin n))
