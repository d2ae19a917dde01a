-- A Report or a Change-root, the head of the channel from u over k, makes v execute procedure change-root (`inv-rooted`).
use Rattle.protocol.proofs.Prelude.{ℕ, suc, arith, ◌≡◌, refl, sym, ap, subst, ◌∙◌, inl, ⊎_elim, by-eq}
use Rattle.protocol.proofs.Prelude.{List, ◌∷◌, upd, upd_same, upd_other, upd2, sum_l, Msg, report}
use Rattle.protocol.proofs.Prelude.{Network, Edge, flip, other-end, ProtocolState, Idle, pop, rooted, is_r, In, pop-in, pop-bef}
use Rattle.protocol.proofs.Prelude.{Rooting, Inv, no-root}
use Rattle.protocol.specs.Decisions.{RootOk, Rootings}
use Rattle.protocol_core.proofs.Late.{Late}
use Rattle.protocol_core.proofs.Rule.{Ruling, inv-rule}
pub use Rattle.protocol_core.proofs.Ready.{RootReady}

module _ {p : Network} {s : ProtocolState} (i : Inv p s) {u v k : ℕ} {m : Msg} {r : List Msg} (idle : Idle s) (q : s.ch u k ≡ m ∷ r) (late : Late m) (h : RootReady p s u v k r) where
  abbrev dk' : ℕ → ℕ
  dk' = upd s.dk (s.fr v) 1

  abbrev dn' : ℕ → ℕ
  dn' = upd s.dn (s.fr v) v

  -- v's fragment is the one at its root, and v the node
  pub root_in : (x : ℕ) → dk' (s.fr x) ≡ 1 → s.fr v ≡ s.fr x
  root_in x z = by-eq (s.fr v) (s.fr x) (λ e. e) (λ n. absurd (no-root i x idle.2 (sym (upd_other s.dk (s.fr v) 1 (s.fr x) n) ∙ z)))

  dn-in : (x : ℕ) → s.fr v ≡ s.fr x → dn' (s.fr x) ≡ v
  dn-in x e = ap dn' (sym e) ∙ upd_same s.dn (s.fr v) v

  root_is : (x : ℕ) → Rooting dk' dn' s.fr x → v ≡ x
  root_is x t = sym (dn-in x (root_in x t.0)) ∙ t.1

  root_ok : RootOk p s.fr s.gl s.lev s.ib s.ub s.bw s.mark v
  root_ok = record {
    d3i = h.inf;
    d3w = h.some;
    d3b = h.bounds;
    d3u = h.ub-v ∙ sym (h.ib);
    d3v = λ j y e z. let a = sym (h.ib) ∙ z in sym (ap s.ub (other-end (flip (h.ends)) e refl a)) ∙ h.ub-u ∙ a;
  }

  rootings : Rootings p dk' dn' s.fr s.gl s.lev s.ib s.ub s.bw s.mark (suc v)
  rootings = record {
    d3f = λ x z. let e = root_in x z in ap s.fr (dn-in x e) ∙ e;
    d3o = λ x z. ap suc (sym (dn-in x (root_in x z)));
    f5r = λ x z. subst (λ a. Rooting dk' dn' s.fr a) (omega arith) (upd_same s.dk (s.fr v) 1, upd_same s.dn (s.fr v) v);
    d3 = λ x t. subst (λ a. RootOk p s.fr s.gl s.lev s.ib s.ub s.bw s.mark a) (root_is x t) root_ok;
  }

  -- nobody in the fragment has halted
  awake : (x : ℕ) → s.fr x ≡ s.fr v → s.halt x ≡ 0
  awake x e = by-eq (s.halt x) 0 (λ z. z) (λ n. absurd (h.unfinished (sym (ap s.dk e) ∙ i.finishes.d6 x n)))

  ruling : Ruling p s u v k r 1 dn' s.halt (suc v)
  ruling = record {
    inside = h.inside;
    level = (h.inf).0;
    fresh = h.fresh;
    no-find = h.no-find;
    no_due = h.no_due;
    dn-off = λ x n. upd_other s.dn (s.fr v) v (s.fr x) n;
    halt-off = λ x n. refl;
    halt-le = i.ranges.halt-le;
    verdict = inl (refl, awake);
    rootings = rootings;
    no-report = λ j x y e t z.
        let a = root_is x t in
        let c : k ≡ j = sym (h.ib) ∙ ap s.ib a ∙ z in
        let d = other-end (flip (h.ends)) e a c in
        subst (λ n. sum_l is_r (upd2 s.ch u k r n j) ≡ 0) d (subst (λ n. sum_l is_r (upd2 s.ch u k r u n) ≡ 0) c (h.silent));
    no-token = h.no-token;
    spent = λ j a b n e f o. let t = h.spent j a b n e f o in (
      t.0,
      t.1,
      t.2,
      t.3,
      λ x y. t.4 x (pop-bef s.ch u k q a j y),
      ⊎_elim (λ l. inl l) (λ l. absurd (h.unfinished (ap s.dk (within j a b n e f o) ∙ l.2))) t.5,
    );
  }
    where
      within : (j a b n : ℕ) → Edge p j a b → s.fr a ≡ s.fr v → In (report n) (upd2 s.ch u k r a j) → s.fr v ≡ s.fr b
      within j a b n e f o = sym f ∙ i.markings.m3 j a b e (i.reports.r1j j a b n e (pop-in s.ch u k q a j o))

  pub inv-rooted : Inv p (rooted (pop s u k r) v)
  inv-rooted = inv-rule i q late ruling
