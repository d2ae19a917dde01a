-- A Report is paid from rp (`paid-report-now`), a Change-root from rt (`paid-root-branch`).
use Rattle.protocol.proofs.Prelude.{ℕ, suc, ◌+◌, ◌≤◌, ◌<◌, arith, ◌≡◌, refl, sym, ap, subst, ◌∙◌, ◌≢◌, ◌⊎◌, ⊎_elim, by-eq}
use Rattle.protocol.proofs.Prelude.{upd, upd-elim, upd_same, upd_other, sum-upd, none, report, change}
use Rattle.protocol.proofs.Prelude.{Network, Edge, end_lt, ProtocolState}
use Rattle.protocol.proofs.Prelude.{snoc, top, top-none, GL, Inf, Inv}
use Rattle.protocol_budget.proofs.Paid.{Heights, Paid}
use Rattle.protocol_budget.proofs.Height.{heights-send, links-send, tb-inf}
use Rattle.protocol.proofs.Prelude.{set-ub, set-oo, send_over, decided, report_sent, no-initiate}

module _ {p : Network} {z n : ℕ} {s : ProtocolState} (i : Inv p s) (h : Paid p z s n) where
  pub paid-report-now : {v k u : ℕ} → s.op ≡ suc v → Edge p k v u → Paid p z (report_sent s v k) (n + 1)
  paid-report-now {v} {k} {u} op ends =
      let f = i.finds.f1 v (i.pending.f5p v op) in
      let one = (h.D).rp1 v (tb-inf i (h.H) v (f.f1i)) in
      record {
        tb = h.tb;
        rp = upd (h.rp) v 0;
        ts = h.ts;
        rt = h.rt;
        lk = h.lk;
        H = heights-send s.ch v k (report (s.bw v)) refl (h.H);
        D = record {
          rp1 = λ w a. by-eq v w
              (λ e. omega (arith, ap (upd s.due v 0) e, upd_same s.due v 0))
              (λ d. omega (arith, upd_other s.due v 0 w d, upd_other (h.rp) v 0 w d, (h.D).rp1 w a));
          rt0 = (h.D).rt0;
          rt1 = (h.D).rt1;
          rt2 = (h.D).rt2;
          rt3 = (h.D).rt3;
        };
        T = record {
          ts0 = (h.T).ts0;
          ts1 = λ w a b c. by-eq v w
              (λ e. absurd (omega (arith, c, ap (upd s.due v 0) e, upd_same s.due v 0)))
              (λ d. (h.T).ts1 w a b (sym (upd_other s.due v 0 w d) ∙ c));
          ts2 = (h.T).ts2;
        };
        L = links-send s.ch v k (report (s.bw v)) (record { no-init = refl; no_test = refl; no-yes = refl }) (h.L);
        bal = omega (arith, h.bal, one, f.f1u, sum-upd p.N v 0 (h.rp) (end_lt p ends));
      }

  -- the token goes from v to a child: those below keep theirs
  pub paid-root-branch : {v k c : ℕ} → s.oo ≡ suc v → Edge p k v c → Paid p z (set-oo (decided (set-ub (send_over s v k change) (upd s.ub v k)) v 2 v k) 0) (n + 1)
  paid-root-branch {v} {k} {c} oo ends =
      let t = i.rootings.f5r v oo in
      let o = i.rootings.d3 v t in
      let f = o.d3i in
      let one = (h.D).rt2 v (tb-inf i (h.H) v f) t.0 (omega (arith, ap s.dep t.1)) in
      record {
        tb = h.tb;
        rp = h.rp;
        ts = h.ts;
        rt = upd (h.rt) v 0;
        lk = h.lk;
        H = turned v k c ends f;
        D = record {
          rp1 = (h.D).rp1;
          rt0 = λ w a. upd-elim (λ y. (y ≡ 0) ⊎ (y ≡ 4) → 1 ≤ upd (h.rt) v 0 w) s.dk (s.fr v) 2 (s.fr w)
              (λ e b. absurd (⊎_elim two-not two-not4 b))
              (λ d b. omega (arith, upd_other (h.rt) v 0 w (λ e. d (ap s.fr e)), (h.D).rt0 w a b));
          rt1 = λ w a. upd-elim (λ y. y ≤ 2 → s.lev w < GL s w → 1 ≤ upd (h.rt) v 0 w) s.dk (s.fr v) 2 (s.fr w)
              (λ e b l. omega (arith, upd_other (h.rt) v 0 w (low v f w l), (h.D).rt1 w a (omega (arith, t.0, ap s.dk e)) l))
              (λ d b l. omega (arith, upd_other (h.rt) v 0 w (low v f w l), (h.D).rt1 w a b l));
          rt2 = λ w a. by-eq (s.fr v) (s.fr w)
              (λ e b. absurd (omega (arith, b, ap (upd s.dk (s.fr v) 2) e, upd_same s.dk (s.fr v) 2)))
              (λ d b l. omega (arith, upd_other (h.rt) v 0 w (λ e. d (ap s.fr e)), (h.D).rt2 w a (sym (upd_other s.dk (s.fr v) 2 (s.fr w) d) ∙ b) (omega (arith, ap s.dep (upd_other s.dn (s.fr v) v (s.fr w) d)))));
          rt3 = λ w a. by-eq (s.fr v) (s.fr w)
              (λ e b l.
              let dv : s.dep v < s.dep w = omega (arith, ap s.dep (ap (upd s.dn (s.fr v) v) (sym e) ∙ upd_same s.dn (s.fr v) v)) in
              omega (arith, upd_other (h.rt) v 0 w (λ q. irr v w q dv), (h.D).rt2 w a (ap s.dk (sym e) ∙ t.0) (omega (arith, ap s.dep (ap s.dn (sym e) ∙ t.1)))))
              (λ d b l. omega (arith, upd_other (h.rt) v 0 w (λ e. d (ap s.fr e)), (h.D).rt3 w a (sym (upd_other s.dk (s.fr v) 2 (s.fr w) d) ∙ b) (omega (arith, ap s.dep (upd_other s.dn (s.fr v) v (s.fr w) d)))));
        };
        T = h.T;
        L = links-send s.ch v k change (record { no-init = refl; no_test = refl; no-yes = refl }) (h.L);
        bal = omega (arith, h.bal, one, sum-upd p.N v 0 (h.rt) (end_lt p ends));
      }
    where
      two-not : ◌≡◌ {A = ℕ} 2 0 → ⊥
      two-not y = omega arith

      two-not4 : ◌≡◌ {A = ℕ} 2 4 → ⊥
      two-not4 y = omega arith

      low : (v : ℕ) → Inf s v → (w : ℕ) → s.lev w < GL s w → v ≢ w
      low v f w l e = omega (arith, f.1, ap s.lev e, ap (GL s) e)

      irr : (v w : ℕ) → v ≡ w → s.dep v < s.dep w → ⊥
      irr v w q l = omega (arith, ap s.dep q)

      -- the inbound edge turns, and no Initiate is on its way to v
      turned : (v k c : ℕ) → Edge p k v c → Inf s v → Heights p s.lev (upd s.ub v k) (snoc s.ch v k change) (h.tb)
      turned v k c ends f = heights-send s.ch v k change refl (record {
        tb0 = λ w. upd-elim (λ y. y ≡ none → h.tb w ≡ s.lev w) s.ub v k w
            (λ e b. ap (h.tb) (sym e) ∙ tb-inf i (h.H) v f ∙ sym f.1 ∙ ap s.lev e) (λ d b. (h.H).tb0 w b);
        tb1 = λ j x w e. upd-elim (λ y. y ≡ j → h.tb w ≡ top (s.lev w) (s.ch x j)) s.ub v k w
            (λ o b. ap (h.tb) (sym o) ∙ tb-inf i (h.H) v f ∙ sym f.1 ∙ ap s.lev o
            ∙ sym (top-none (s.lev w) (s.ch x j) (λ l g y n. no-initiate i j x w l g y e (subst (λ d. Inf s d) o f) n)))
            (λ d b. (h.H).tb1 j x w e b);
      })
