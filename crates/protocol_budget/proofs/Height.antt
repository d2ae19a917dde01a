-- The level that a node will have (`tb-le`, `tb-inf`); channels after a message was taken (`heights-pop`) or sent (`heights-send`) that is no Initiate.
use Rattle.protocol.proofs.Prelude.{ℕ, ◌≤◌, ◌<◌, arith, ◌≡◌, refl, sym, ap, subst, ◌∙◌, ◌⊎◌, ⊎_elim, by-eq}
use Rattle.protocol.proofs.Prelude.{List, ◌∷◌, upd, upd-elim, upd_same, upd_other, upd2, Msg, none, initiate, Network, Edge, flip, ProtocolState, is_i, is_t, is_y, top, In, snoc}
use Rattle.protocol.proofs.Prelude.{top-none, top_in, top-max, pop-top, snoc-top, pop-sum, snoc-sum, GL, Inf, Inv, no-initiate}
use Rattle.protocol_budget.proofs.Paid.{Heights, Dues, Tries, Links, Paid, heights-same, links-same}

-- ---- the same tables, in another state

pub paid-keep : {p : Network} {z n : ℕ} {s : ProtocolState} (h : Paid p z s n) (s' : ProtocolState) → Heights p s'.lev s'.ub s'.ch (h.tb) → Dues s'.lev s'.fr s'.gl s'.due s'.dk s'.dn s'.dep (h.tb) (h.rp) (h.rt)
    → Tries z s'.lev s'.fr s'.gl s'.due (h.tb) (h.ts) s'.ot → Links p z s'.lev s'.te s'.mark s'.ch s'.ot (h.ts) (h.lk) → Paid p z s' n
paid-keep h s' a b c d = record { tb = h.tb; rp = h.rp; ts = h.ts; rt = h.rt; lk = h.lk; H = a; D = b; T = c; L = d; bal = h.bal }

-- ---- a message that is no Initiate, nor Test, nor Accept

-- the channel clauses stay when such a message is taken or sent
pub record Neutral (m : Msg) : Type 0 where
  pub no-init : is_i m ≡ 0
  pub no_test : is_t m ≡ 0
  pub no-yes : is_y m ≡ 0

pub heights-pop : {p : Network} {lev ub tb : ℕ → ℕ} (ch : ℕ → ℕ → List Msg) (u k : ℕ) {m : Msg} {r : List Msg} → ch u k ≡ m ∷ r → is_i m ≡ 0
    → Heights p lev ub ch tb → Heights p lev ub (upd2 ch u k r) tb
heights-pop ch u k {m} {r} q z h = heights-same (upd2 ch u k r) (pop-top ch u k m z q) h

pub heights-send : {p : Network} {lev ub tb : ℕ → ℕ} (ch : ℕ → ℕ → List Msg) (v k : ℕ) (m : Msg) → is_i m ≡ 0 → Heights p lev ub ch tb → Heights p lev ub (snoc ch v k m) tb
heights-send ch v k m z h = heights-same (snoc ch v k m) (snoc-top ch v k m z) h

pub links-pop : {p : Network} {z ot : ℕ} {lev te ts lk : ℕ → ℕ} {mark : ℕ → ℕ → ℕ} (ch : ℕ → ℕ → List Msg) (u k : ℕ) {m : Msg} {r : List Msg} → ch u k ≡ m ∷ r → Neutral m
    → Links p z lev te mark ch ot ts lk → Links p z lev te mark (upd2 ch u k r) ot ts lk
links-pop ch u k {r = r} q n l = links-same (upd2 ch u k r) (pop-sum ch u k q is_t (n.no_test)) (pop-sum ch u k q is_y (n.no-yes)) l

pub links-send : {p : Network} {z ot : ℕ} {lev te ts lk : ℕ → ℕ} {mark : ℕ → ℕ → ℕ} (ch : ℕ → ℕ → List Msg) (v k : ℕ) (m : Msg) → Neutral m
    → Links p z lev te mark ch ot ts lk → Links p z lev te mark (snoc ch v k m) ot ts lk
links-send ch v k m n l = links-same (snoc ch v k m) (snoc-sum ch v k m is_t (n.no_test)) (snoc-sum ch v k m is_y (n.no-yes)) l

-- ---- the level that a node will have

module _ {p : Network} {s : ProtocolState} (i : Inv p s) {tb : ℕ → ℕ} (h : Heights p s.lev s.ub s.ch tb) where
  -- with no Initiate on its way: the level that it has
  pub tb-none : (v : ℕ) → ((k u l f x : ℕ) → Edge p k u v → s.ub v ≡ k → ¬ In (initiate l f x) (s.ch u k)) → tb v ≡ s.lev v
  tb-none v n = by-eq (s.ub v) none (λ z. h.tb0 v z)
      (λ d. let e = i.inbounds.u1o v d in h.tb1 (s.ub v) e.0 v (flip e.1) refl ∙ top-none (s.lev v) (s.ch e.0 (s.ub v)) (λ l f x. n (s.ub v) e.0 l f x (flip e.1) refl))

  pub tb-inf : (v : ℕ) → Inf s v → tb v ≡ GL s v
  tb-inf v f = tb-none v (λ k u l a x e q. no-initiate i k u v l a x e f) ∙ f.1

  -- between its level and its fragment's
  bounds : (v : ℕ) → (s.lev v ≤ tb v) × (tb v ≤ GL s v)
  bounds v = by-eq (s.ub v) none (λ z. (omega (arith, h.tb0 v z), omega (arith, h.tb0 v z, i.levels.g2 v)))
      (λ d.
      let e = i.inbounds.u1o v d in
      let q = h.tb1 (s.ub v) e.0 v (flip e.1) refl in
      ⊎_elim (λ z. (omega (arith, q, z), omega (arith, q, z, i.levels.g2 v)))
      (λ z. let o = i.initiates.i1 (s.ub v) e.0 v (top (s.lev v) (s.ch e.0 (s.ub v))) z.0 z.1 (flip e.1) z.2 in
      (omega (arith, q, o.i1l), omega (arith, q, o.i1g)))
      (top_in (s.lev v) (s.ch e.0 (s.ub v))))

  pub tb-le : (v : ℕ) → tb v ≤ GL s v
  tb-le v = (bounds v).1

  -- an Initiate on its way
  pub tb-init : (k u v l f x : ℕ) → Edge p k u v → In (initiate l f x) (s.ch u k) → l ≤ tb v
  tb-init k u v l f x e n =
      omega (arith, h.tb1 k u v e (i.initiates.i1 k u v l f x e n).i1u, top-max (s.lev v) (s.ch u k) (λ a b o. i.ordered.q1 k u v a b e o) l f x n)

-- ---- a decision: the fragment of label a gets decision d, with node x

module _ {lev fr gl due dk dn dep tb rp rt : ℕ → ℕ} (h : Dues lev fr gl due dk dn dep tb rp rt) (a d : ℕ) where
  pub dues-decide : (x : ℕ) → ((w : ℕ) → a ≡ fr w → tb w ≡ gl (fr w) → (d ≡ 0) ⊎ (d ≡ 4) → 1 ≤ rt w)
      → ((w : ℕ) → a ≡ fr w → tb w ≡ gl (fr w) → d ≤ 2 → lev w < gl (fr w) → 1 ≤ rt w)
      → ((w : ℕ) → a ≡ fr w → tb w ≡ gl (fr w) → d ≡ 1 → dep x ≤ dep w → 1 ≤ rt w)
      → ((w : ℕ) → a ≡ fr w → tb w ≡ gl (fr w) → d ≡ 2 → dep x < dep w → 1 ≤ rt w)
      → Dues lev fr gl due (upd dk a d) (upd dn a x) dep tb rp rt
  dues-decide x r0 r1 r2 r3 = record {
    rp1 = h.rp1;
    rt0 = λ w q. upd-elim (λ y. (y ≡ 0) ⊎ (y ≡ 4) → 1 ≤ rt w) dk a d (fr w) (λ e. r0 w e q) (λ n. h.rt0 w q);
    rt1 = λ w q. upd-elim (λ y. y ≤ 2 → lev w < gl (fr w) → 1 ≤ rt w) dk a d (fr w) (λ e. r1 w e q) (λ n. h.rt1 w q);
    rt2 = λ w q. by-eq a (fr w)
        (λ e o l. r2 w e q (sym (read dk d (fr w) e) ∙ o) (omega (arith, ap dep (read dn x (fr w) e))))
        (λ n o l. h.rt2 w q (sym (upd_other dk a d (fr w) n) ∙ o) (omega (arith, ap dep (upd_other dn a x (fr w) n))));
    rt3 = λ w q. by-eq a (fr w)
        (λ e o l. r3 w e q (sym (read dk d (fr w) e) ∙ o) (omega (arith, ap dep (read dn x (fr w) e))))
        (λ n o l. h.rt3 w q (sym (upd_other dk a d (fr w) n) ∙ o) (omega (arith, ap dep (upd_other dn a x (fr w) n))));
  }
    where
      read : (f : ℕ → ℕ) (y b : ℕ) → a ≡ b → upd f a y b ≡ y
      read f y b e = ap (upd f a y) (sym e) ∙ upd_same f a y

-- a fragment is finished that was undecided, or finished already
pub dues-finish : {lev fr gl due dk dn dep tb rp rt : ℕ → ℕ} (a : ℕ) → (dk a ≡ 0) ⊎ (dk a ≡ 4) → Dues lev fr gl due dk dn dep tb rp rt
    → Dues lev fr gl due (upd dk a 4) dn dep tb rp rt
dues-finish {lev} {fr} {gl} {due} {dk} {dn} {dep} {tb} {rp} {rt} a was h = record {
  rp1 = h.rp1;
  rt0 = λ w q. upd-elim (λ y. (y ≡ 0) ⊎ (y ≡ 4) → 1 ≤ rt w) dk a 4 (fr w) (λ e o. h.rt0 w q (subst (λ b. (dk b ≡ 0) ⊎ (dk b ≡ 4)) e was)) (λ n. h.rt0 w q);
  rt1 = λ w q. upd-elim (λ y. y ≤ 2 → lev w < gl (fr w) → 1 ≤ rt w) dk a 4 (fr w) (λ e o. absurd (omega arith)) (λ n. h.rt1 w q);
  rt2 = λ w q. upd-elim (λ y. y ≡ 1 → dep (dn (fr w)) ≤ dep w → 1 ≤ rt w) dk a 4 (fr w) (λ e o. absurd (omega arith)) (λ n. h.rt2 w q);
  rt3 = λ w q. upd-elim (λ y. y ≡ 2 → dep (dn (fr w)) < dep w → 1 ≤ rt w) dk a 4 (fr w) (λ e o. absurd (omega arith)) (λ n. h.rt3 w q);
}
