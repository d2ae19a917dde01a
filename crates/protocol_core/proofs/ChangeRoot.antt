-- Change-root from u at v over k: v is to execute procedure change-root (`inv-change-root`).
use Rattle.protocol.proofs.Prelude.{ℕ, arith, ◌≡◌, refl, sym, ap, subst, ◌∙◌, ◌≢◌}
use Rattle.protocol.proofs.Prelude.{List, ◌∷◌, upd2, sum_l, Msg, change, Network, Edge, ProtocolState, Idle, pop, rooted}
use Rattle.protocol.proofs.Prelude.{is_r, is_k, In, at2, here-new, pop-head, pop-in, pop-le, none_in, no-reports, rest-none}
use Rattle.protocol.proofs.Prelude.{DK, Changing, Inv, decided-find, decided-report}
use Rattle.protocol.specs.Decisions.{ChangingOk}
use Rattle.protocol_core.proofs.Late.{late-change}
use Rattle.protocol_core.proofs.Rooted.{RootReady, inv-rooted}

module _ {p : Network} {s : ProtocolState} (i : Inv p s) {u v k : ℕ} {r : List Msg} (idle : Idle s) (ends : Edge p k u v) (q : s.ch u k ≡ change ∷ r) where
  -- it is the fragment's decision
  pub changing : Changing s u k
  changing = i.tokens.k1 k u v ends (pop-head s.ch u k q)

  pub changing-ok : ChangingOk p s.fr s.gl s.gc s.lev s.ib s.ub s.bw s.mark k u v
  changing-ok = i.change_roots.d2 k u v ends changing

  inside : s.fr u ≡ s.fr v
  inside = i.markings.m3 k u v ends changing-ok.d2j

  pub dk-two : DK s v ≡ 2
  dk-two = sym (ap s.dk inside) ∙ changing.0

  dk-of : (x : ℕ) → s.fr x ≡ s.fr v → DK s x ≢ 0
  dk-of x e z = omega (arith, ap s.dk e, dk-two)

  -- no Report is on its way to v over k: it would be spent, so k the core
  silent : sum_l is_r (s.ch u k) ≡ 0
  silent = no-reports (s.ch u k) (λ w o. let t = decided-report i k u v w ends (dk-of v refl) o in
      changing-ok.d2g (ap s.gc inside ∙ sym (i.levels.g2i v changing-ok.d2x) ∙ t.1))

  -- it was the only Change-root of the fragment
  no-token : (j x y : ℕ) → Edge p j x y → s.fr x ≡ s.fr v → ¬ In change (upd2 s.ch u k r x j)
  no-token j x y e f o =
      let t = i.tokens.k1 j x y e (pop-in s.ch u k q x j o) in
      let a : x ≡ u = sym t.1 ∙ ap s.dn (f ∙ sym inside) ∙ changing.1 in
      let b : j ≡ k = sym t.2 ∙ ap s.de (f ∙ sym inside) ∙ changing.2 in
      omega (arith, none_in is_k (rest-none i is_k ends q (λ n z. z)) (subst (λ l. In change l) (at2 (upd2 s.ch u k r) a b ∙ here-new s.ch u k r) o))

  ready : RootReady p s u v k r
  ready = record {
    ends = ends;
    inside = inside;
    inf = changing-ok.d2x;
    ib = changing-ok.d2b;
    ub-v = changing-ok.d2v;
    ub-u = changing-ok.d2u;
    some = changing-ok.d2w;
    bounds = changing-ok.d2n;
    fresh = λ z. omega (arith, dk-two);
    unfinished = λ z. omega (arith, dk-two);
    no-find = λ x e. decided-find i x (dk-of x e);
    no_due = λ x e. i.finishes.d5 x (dk-of x e);
    silent = omega (arith, pop-le s.ch u k q is_r u k, silent);
    no-token = no-token;
    spent = λ j a b n e f o. let l = pop-in s.ch u k q a j o in decided-report i j a b n e (dk-of b (sym (i.markings.m3 j a b e (i.reports.r1j j a b n e l)) ∙ f)) l;
  }

  pub inv-change-root : Inv p (rooted (pop s u k r) v)
  inv-change-root = inv-rooted i idle q late-change ready
