-- The procedures with which responses end, as small steps. That they are not refused follows from the invariant (`report-fin`, `test-fin`, `root-fin`).
use Rattle.std.specs.Prelude.{ℕ, suc, ◌≡◌, refl, ◌≢◌, ◌⊎◌, true, length}
use Rattle.std.proofs.Common.{arith, sym, ap, ap₂, ◌∙◌, inl, inr, ⊎_elim, eq-eqb, eqb-true}
use Rattle.base.specs.Cond.{upd}
use Rattle.base.proofs.laws.Cond.{by-eq}
use Rattle.format_message.specs.Msg.{none, connect, test, report, change}
use Rattle.node.specs.Work.{Work, FOUND, BRANCH, basic, with_node, set_mark, set_status, set_test, earliest, send}
use Rattle.node.specs.Rules.{do_report, do_test, change_root}
use Rattle.node.proofs.laws.Rules.{report-counts, report-tests, report-sends, test-over, test-sends, root_told, root-connects}
use Rattle.protocol.specs.Network.{Network, Edge, edge-some}
use Rattle.protocol.specs.State.{ProtocolState, set-te, set-ot, set-op}
use Rattle.protocol.specs.Step.{test-next, test-none, report-now, report-later, root-branch, root-half, root-merge}
use Rattle.protocol.specs.Inv.{Inv}
use Rattle.protocol_invariant.proofs.Safe.{test-level, report-branch, root-edge}
use Rattle.protocol_bridge.proofs.Real.{Real, real, own_p}
use Rattle.protocol_bridge.proofs.Own.{Lacks, FindsFirst, searched}
use Rattle.protocol_bridge.proofs.Fin.{At, Fin, Keeps, fin-step, fin-last, fin-same, one_more, lev-is, id-is, bw-is, be-is, te-is, ib-is, fc-is, mark-at, at-status, at_test, at_mark, at-send}

module _ {p : Network} {s : ProtocolState} (i : Inv p s) {r : Real} {v : ℕ} {w : Work} (a : At r v w (real s)) (z : w.answer ≡ 0) where
  -- (9) procedure report
  module _ (t : s.ot ≡ 0) (o : s.op ≡ suc v) (c : s.oo ≡ 0) where
    branch : (u : ℕ) × Edge p (s.ib v) v u
    branch = report-branch i v o

    later : (s.fc v ≢ 0) ⊎ (s.te v ≢ none) → do_report w ≡ w → Fin p r v 0 (length w.sends) (do_report w) s
    later h e = fin-same e (fin-last (report-later t o c h) (omega arith) (t, refl, c) z a)

    now : w.node.count ≡ 0 → w.node.test ≡ none → Fin p r v 0 (length w.sends) (do_report w) s
    now n h =
        fin-same (report-sends w n h (λ q. edge-some p branch.1 (ib-is a ∙ q)) ∙ sym (ap₂ (λ k x. send k (report x) (with_node (set_status FOUND w.node) w)) (ib-is a) (bw-is a)))
        (fin-last (report-now t o c branch.1 refl (fc-is a ∙ n) (te-is a ∙ h)) (one_more w (s.ib v) (report (s.bw v))) (t, refl, c) z (at-status (at-send a (s.ib v) (report (s.bw v))) FOUND))

    pub report-fin : Fin p r v 0 (length w.sends) (do_report w) s
    report-fin = by-eq w.node.count 0
        (λ n. by-eq w.node.test none (λ h. now n h) (λ h. later (inr (λ q. h (sym (te-is a) ∙ q))) (report-tests w h)))
        (λ n. later (inl (λ q. n (sym (fc-is a) ∙ q))) (report-counts w n))

  -- (11) procedure change-root
  module _ (t : s.ot ≡ 0) (o : s.op ≡ 0) (c : s.oo ≡ suc v) where
    abbrev k : ℕ
    k = s.be v

    ends : (u : ℕ) × Edge p k v u
    ends = root-edge i v c

    is-k : w.node.best ≡ k
    is-k = sym (be-is a)

    some : w.node.best ≢ none
    some e = edge-some p ends.1 (be-is a ∙ e)

    mark-k : s.mark v k ≡ w.mark w.node.best
    mark-k = mark-at a k ∙ ap w.mark (be-is a)

    told : s.mark v k ≡ 1 → Fin p r v 0 (length w.sends) (change_root w) s
    told h = fin-same (root_told w some (sym mark-k ∙ h) ∙ ap (λ j. send j change w) is-k)
        (fin-last (root-branch t o c ends.1 refl h) (one_more w k change) (t, o, refl) z (at-send a k change))

    connects : s.mark v k ≢ 1 → Fin p r v 0 (length w.sends) (change_root w) s
    connects h =
        let m = connect (s.lev v) in
        let y = ends.0 in
        let a' = at_mark (at-send a k m) k BRANCH in
        fin-same (root-connects w some (λ q. h (mark-k ∙ q)) ∙ ap₂ (λ j l. set_mark j BRANCH (send j (connect l) w)) is-k (sym (lev-is a)))
        (by-eq (s.mark y k) 1
        (λ b. fin-last (root-merge t o c ends.1 refl h b) (one_more w k m) (t, o, refl) z a')
        (λ b. fin-last (root-half t o c ends.1 refl h b) (one_more w k m) (t, o, refl) z a'))

    pub root-fin : Fin p r v 0 (length w.sends) (change_root w) s
    root-fin = by-eq (s.mark v k) 1 told connects

-- (5) procedure test
module _ {p : Network} (keeps : Keeps p) {s : ProtocolState} (i : Inv p s) {r : Real} {v : ℕ} {w : Work} (a : At r v w (real s)) (z : w.answer ≡ 0)
    (t : s.ot ≡ suc v) (o : s.op ≡ 0) (c : s.oo ≡ 0) where
  abbrev edge : ℕ
  edge = earliest (own_p p v) (basic w) p.g.L

  is-basic : (j : ℕ) → s.mark v j ≡ 0 → basic w j ≡ true
  is-basic j e = eq-eqb (w.mark j) 0 (sym (mark-at a j) ∙ e)

  test-nothing : Lacks p v (basic w) edge → Fin p r v 0 (length w.sends) (do_test (own_p p v) w) s
  test-nothing h =
      let step = test-none t o c (λ j u e q. h.nothing j u e (is-basic j q)) in
      fin-same (test-over edge w h.is) (fin-step step (omega arith)
      (report-fin (keeps s (set-op (set-ot (set-te s (upd s.te v none)) 0) (suc v)) step i) (at_test a none) z refl refl c))

  test-edge : FindsFirst p v (basic w) edge → Fin p r v 0 (length w.sends) (do_test (own_p p v) w) s
  test-edge h =
      let m = test (s.lev v) (s.id v) in
      fin-same (test-sends edge w (edge-some p h.ends) (λ q. omega (arith, lev-is a, test-level i v t)) ∙ sym (ap₂ (λ l f. send edge (test l f) (with_node (set_test edge w.node) w)) (lev-is a) (id-is a)))
      (fin-last (test-next t o c h.ends (mark-at a edge ∙ eqb-true (w.mark edge) 0 h.holds, λ j u e q. h.least j u e (is-basic j q)))
      (one_more w edge m) (refl, o, c) z (at_test (at-send a edge m) edge))

  pub test-fin : Fin p r v 0 (length w.sends) (do_test (own_p p v) w) s
  test-fin = ⊎_elim test-nothing test-edge (searched p v (basic w))
