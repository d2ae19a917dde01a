-- Procedure change-root with best edge k a branch of v: v sends Change-root over k, to its child c (`inv-root-branch`).
use Rattle.protocol.proofs.Prelude.{ℕ, suc, arith, ◌≡◌, refl, sym, ap, subst, ◌∙◌, fun_ext, ◌≢◌, inl, ⊎_elim, by-eq}
use Rattle.protocol.proofs.Prelude.{upd, upd-id, upd2, upd2-elim, at2, Msg, change, Network, Edge, key, ends-two, ends_same, ends-irr, ProtocolState}
use Rattle.protocol.proofs.Prelude.{set-st, set-mark, set-ub, set-oo, send_over, remarked, decided, is_k, fits-change, In, in-new, in_sum, some-change}
use Rattle.protocol.proofs.Prelude.{Jn, Inf, Inv, inf-found, inf-awake}
use Rattle.protocol_merge.proofs.Turn.{Turn, is-root, root_ok, turn-root}
use Rattle.protocol_merge.proofs.Move as M
use Rattle.protocol_merge.proofs.Move.{Move}
use Rattle.protocol_merge.proofs.Pass.{PassCase, inv-pass}

-- a table that has the value already
upd2-id : (f : ℕ → ℕ → ℕ) (v k a : ℕ) → f v k ≡ a → upd2 f v k a ≡ f
upd2-id f v k a e = fun_ext (λ w. fun_ext (λ j. upd2-elim (λ x. x ≡ f w j) f v k a w j (λ q r. sym e ∙ at2 f q r) (λ n. refl)))

module _ {p : Network} {s : ProtocolState} (i : Inv p s) {v k c : ℕ} (ot : s.ot ≡ 0) (op : s.op ≡ 0) (oo : s.oo ≡ suc v)
    (ends : Edge p k v c) (best : s.be v ≡ k) (branch : s.mark v k ≡ 1) where
  turn : Turn p s v
  turn = turn-root i oo

  -- no edge of the fragment is half
  joined : Jn s k v c
  joined = (branch, by-eq (s.mark c k) 1 (λ e. e) (λ n. absurd (omega (arith, (i.halves.m2 k v c ends branch n).0, (is-root i oo).0))))

  -- k is not the best weight, which leaves the fragment
  inner : s.be v ≢ s.bw v
  inner q =
      let x = i.weights.b1 v (root_ok i oo).d3i (root_ok i oo).d3w in
      let e = subst (λ j. Edge p j x.0 x.1) (sym q ∙ best) x.2 in
      let f = i.markings.m3 k v c ends joined in
      ⊎_elim (λ r. x.4 (ap s.fr (sym r.1) ∙ sym f)) (λ r. x.4 (ap s.fr (sym r.0))) (ends-two ends e)

  -- so c is the child that reported it
  child : (s.ib v ≢ k) × Inf s c × (s.ib c ≡ k) × (s.bw c ≡ s.bw v)
  child =
      let x = i.bests.b1e v (root_ok i oo).d3i (root_ok i oo).d3w inner in
      let q : x.0 ≡ c = ends_same (subst (λ j. Edge p j v x.0) best x.1) ends in
      (λ z. x.3 (z ∙ sym best), subst (λ n. Inf s n) q x.4, ap s.ib (sym q) ∙ x.5 ∙ best, ap s.bw (sym q) ∙ x.6)

  inbound : s.ub c ≡ k
  inbound = ⊎_elim (λ q. absurd (child.0 (sym (root_ok i oo).d3u ∙ q))) (λ q. q) (i.inbounds.m3u k v c ends joined)

  move : Move p s v c k change
  move = record {
    ends = ends;
    not-i = refl;
    not_t = refl;
    not_a = refl;
    not-r = refl;
    call = inl (refl, refl);
    mark-v = λ z. omega arith;
    mark-y = λ z. omega (arith, joined.1);
    rouse = λ z. absurd (inf-awake i c child.1 z);
    fits = λ n o. fits-change n (by-eq (is_k n) 0 (λ z. z) (λ z. absurd (omega (arith, (i.tokens.k1 k v c ends (token n z o)).0, (is-root i oo).0))));
  }
    where
      token : (n : Msg) → is_k n ≢ 0 → In n (s.ch v k) → In change (s.ch v k)
      token n z o = some-change (s.ch v k) (omega (arith, in_sum is_k o))

  own : PassCase p s v c k 2 change
  own = record {
    low = omega arith;
    high = omega arith;
    joins = inl branch;
    tree = i.markings.m5 k v c ends branch;
    half = λ n. absurd (n joined.1);
    changing = λ z. refl;
    half-ok = λ z. absurd (omega arith);
    half_in = λ z. absurd (omega arith);
    half-all = λ z. absurd (omega arith);
    changing-ok = λ z. record {
      d2j = M.both-up i turn move k v c joined;
      d2g = λ g. child.0 (i.parents.t1e k v c ends (root_ok i oo).d3i g);
      d2i = (root_ok i oo).d3i;
      d2x = child.1;
      d2b = child.2;
      d2u = M.ub-new i turn move;
      d2v = M.ub-off i turn move c (ends-irr p ends) ∙ inbound;
      d2w = λ z. (root_ok i oo).d3w (sym child.3 ∙ z);
      d2n = λ u j w q e m. omega (
        arith,
        (root_ok i oo).d3b u j w (q ∙ sym (i.markings.m3 k v c ends joined)) e (M.dn0-move i turn move u j m),
        ap (key p) child.3,
      );
    };
    changing-in = λ z. in-new s.ch v k change;
  }

  -- v is Found already, and k its branch
  pub inv-root-branch : Inv p (set-oo (decided (set-ub (send_over s v k change) (upd s.ub v k)) v 2 v k) 0)
  inv-root-branch =
      subst (λ f. Inv p (set-oo (decided (set-ub (set-mark (send_over s v k change) f) (upd s.ub v k)) v 2 v k) 0)) (upd2-id s.mark v k 1 branch)
      (subst (λ f. Inv p (set-oo (set-st (decided (set-ub (remarked (send_over s v k change) v k 1) (upd s.ub v k)) v 2 v k) f) 0)) (upd-id s.st v 2 found)
      (inv-pass i turn move own))
    where
      found : s.st v ≡ 2
      found = inf-found i v (root_ok i oo).d3i (turn.no-find v refl)
