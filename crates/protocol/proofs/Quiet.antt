-- THE QUIET LEMMA: where both core ends of an undecided fragment are informed and Found, nobody in it is due, so nobody is Find (`no_due`, `no-find`).
use Rattle.std.specs.Prelude.{ℕ, ◌<◌, ◌≡◌, refl, ◌≢◌}
use Rattle.std.proofs.Common.{arith, sym, ap, subst, ◌∙◌, inl, inr, ⊎_elim}
use Rattle.base.proofs.laws.Cond.{by-eq}
use Rattle.base.proofs.laws.Sum.{le-sum}
use Rattle.base.proofs.laws.Search.{strong}
use Rattle.graph.specs.Graph.{Way, stop, go}
use Rattle.graph.proofs.laws.Ways.{joins-lt, flip, ends-two}
use Rattle.protocol.specs.Network.{Network, Edge}
use Rattle.protocol.specs.State.{ProtocolState}
use Rattle.protocol.proofs.Lemmas.{joined-both}
use Rattle.protocol.specs.Notion.{GL, GC, Inf, Jn, JoinedEdge, Outst}
use Rattle.protocol.specs.Inv.{Inv}
use Rattle.protocol.proofs.Facts.{inf-cases, fc-find, up-other}

module _ {p : Network} {s : ProtocolState} (i : Inv p s) where
  -- who waits for a Report is Find
  pub parent-find : (k v c : ℕ) → Edge p k v c → Inf s v → Jn s k v c → s.ib v ≢ k → Outst s c k → s.st v ≡ 1
  parent-find k v c e h j n o = fc-find i v (λ z. omega (arith, i.find_counts.f4 v, i.owing.f4n k v c e h j n o, le-sum p.g.L k (s.owe v) (joins-lt e)))

  -- the parent of a Find node is Find
  pub climb : (k v u : ℕ) → Edge p k v u → s.ib v ≡ k → GC s v ≢ k → s.st v ≡ 1 → s.st u ≡ 1
  climb k v u e b n f =
      let h = (i.finds.f1 v f).f1i in
      let j = i.inbounds.u1i k v u e b in
      parent-find k u v (flip e) (i.parents.t1p k v u e h b n).0 (j.1, j.0) (up-other i k v u e h b n) (inl (h, inl f))

  module _ {k x y : ℕ} (ends : Edge p k x y) (core : GC s x ≡ k) (ix : Inf s x) (iy : Inf s y) (fx : s.st x ≢ 1) (fy : s.st y ≢ 1) where
    -- nobody informed is Find: by the depth
    no-find-at : (d v : ℕ) → s.dep v ≡ d → s.fr v ≡ s.fr x → s.st v ≢ 1
    no-find-at = strong (λ d. (v : ℕ) → s.dep v ≡ d → s.fr v ≡ s.fr x → s.st v ≢ 1) step
      where
        -- a node whose in-branch is the core is one of its ends
        end : (v : ℕ) → Inf s v → s.fr v ≡ s.fr x → s.ib v ≡ k → s.st v ≢ 1
        end v h q b =
            let t = i.inbounds.u1r v (i.parents.t1 v h) in
            ⊎_elim (λ z f. fx (ap s.st (sym z.0) ∙ f)) (λ z f. fy (ap s.st (sym z.0) ∙ f)) (ends-two (subst (λ j. Edge p j v t.0) b t.1) ends)

        step : (d : ℕ) → ((c : ℕ) → c < d → (v : ℕ) → s.dep v ≡ c → s.fr v ≡ s.fr x → s.st v ≢ 1) → (v : ℕ) → s.dep v ≡ d → s.fr v ≡ s.fr x → s.st v ≢ 1
        step d ih v e q f =
            let h = (i.finds.f1 v f).f1i in
            let t = i.inbounds.u1r v (i.parents.t1 v h) in
            by-eq (s.ib v) (GC s v)
            (λ b. end v h q (b ∙ ap s.gc q ∙ core) f)
            (λ b.
            let n : GC s v ≢ s.ib v = λ z. b (sym z) in
            let r = i.parents.t1p (s.ib v) v t.0 t.1 h refl n in
            ih (s.dep t.0) (omega (arith, r.1)) t.0 refl (sym (i.markings.m3 (s.ib v) v t.0 t.1 (i.inbounds.u1i (s.ib v) v t.0 t.1 refl)) ∙ q)
            (climb (s.ib v) v t.0 t.1 refl n f))

    pub no-find : (v : ℕ) → s.fr v ≡ s.fr x → s.st v ≢ 1
    no-find v q = no-find-at (s.dep v) v refl q

    -- nobody informed is due
    due-inf : (v : ℕ) → s.fr v ≡ s.fr x → Inf s v → s.due v ≢ 1
    due-inf v q h d = no-find v q (i.finds.f1d v h d)

    -- nobody at all: along a way of joined edges to the core end
    along : {v : ℕ} {w : ℕ} → Way p.g (JoinedEdge p s.mark) v w → w ≡ x → s.fr v ≡ s.fr x → s.due v ≢ 1
    along stop e q d = due-inf _ q (subst (λ z. Inf s z) (sym e) ix) d
    along (go {u = a} {v = b} j f o w) e q d =
        let both = joined-both p s.mark f o in
        let r : s.fr b ≡ s.fr x = sym (i.markings.m3 j a b f both) ∙ q in
        inf-cases i a (λ h. due-inf a q h d)
        (λ l. inf-cases i b
        (λ h. by-eq (s.ib b) j
        (λ z. by-eq (GC s b) j
        (λ g. omega (arith, low a b j f both q r l g))
        (λ g. omega (arith, l, (i.parents.t1p j b a (flip f) h z g).0.1)))
        (λ z. no-find b r (parent-find j b a (flip f) h (both.1, both.0) z (inr (l, d)))))
        (λ m. along w e r (sym (i.kids.t3 j a b f both l m) ∙ d))
        (λ z. omega (arith, ap s.gl r, ix.0)))
        (λ z. omega (arith, ap s.gl q, ix.0))
      where
        -- a node beyond the core, in the fragment, is a core end, so informed
        low : (a b j : ℕ) → Edge p j a b → Jn s j a b → s.fr a ≡ s.fr x → s.fr b ≡ s.fr x → s.lev a < GL s a → GC s b ≡ j → s.lev a ≡ GL s a
        low a b j f both q r l g =
            let e : j ≡ k = sym g ∙ ap s.gc r ∙ core in
            ⊎_elim (λ z. subst (λ n. s.lev n ≡ GL s n) (sym z.0) ix.1) (λ z. subst (λ n. s.lev n ≡ GL s n) (sym z.0) iy.1) (ends-two (subst (λ n. Edge p n a b) e f) ends)

    pub no_due : (v : ℕ) → s.fr v ≡ s.fr x → s.due v ≢ 1
    no_due v q = along (i.markings.m4 v x q) refl q
