-- Steps that send nothing and change no table of the budget: `paid-back`, `paid-accepted`, `paid-decide` and so on.
use Rattle.protocol.proofs.Prelude.{ℕ, suc, ◌-◌, ◌*◌, eqb, bit, ◌≤◌, ◌<◌, arith, ◌≡◌, refl, sym, ap, subst, ◌∙◌, ◌≢◌, ◌⊎◌, inl, inr, ⊎_elim, by-eq}
use Rattle.protocol.proofs.Prelude.{List, ◌∷◌, ◌++◌, sum_l, upd, upd2, Msg, none, accept, report, change}
use Rattle.protocol.proofs.Prelude.{Network, Edge, key, flip, other-end, ProtocolState, Idle, Blocked, Better, set-st, set-te, set-fc, set-halt, set-dk, set-owe, set-ot, set-op, bested, rooted, pop, woken_up, woken-same}
use Rattle.protocol.proofs.Prelude.{is_t, is_y, rot-top, pop-head, pop-sum, else_same, rot-sum, GL, DK, Inv}
use Rattle.protocol_budget.proofs.Paid.{Paid, heights-same, links-same}
use Rattle.protocol_budget.proofs.Height.{paid-keep, Neutral, heights-pop, links-pop, dues-decide, dues-finish}
use Rattle.protocol_search.proofs.Back.{not-initiate}
use Rattle.protocol_search.proofs.Accepted.{waits-accepted}
use Rattle.protocol_search.proofs.TestNone.{waits-none}

module _ {p : Network} {z n : ℕ} {s : ProtocolState} (i : Inv p s) (h : Paid p z s n) where
  pub paid-report-later : Paid p z (set-op s 0) n
  paid-report-later = paid-keep h (set-op s 0) (h.H) (h.D) (h.T) (h.L)

  pub paid-back : {u v k : ℕ} {m : Msg} (a b : List Msg) → Edge p k u v → s.ch u k ≡ m ∷ (a ++ b) → Blocked s v k m → Paid p z (pop s u k (a ++ (m ∷ b))) n
  paid-back {u} {v} {k} {m} a b e q blocked = paid-keep h (pop s u k (a ++ (m ∷ b)))
      (heights-same (upd2 s.ch u k (a ++ (m ∷ b))) (rot-top s.ch u k m (not-initiate s v k m blocked) a b q) (h.H)) (h.D) (h.T)
      (links-same (upd2 s.ch u k (a ++ (m ∷ b))) (rot-sum s.ch u k a b q is_t) (rot-sum s.ch u k a b q is_y) (h.L))

  -- ---- Reports

  a-report : (w : ℕ) → Neutral (report w)
  a-report w = record { no-init = refl; no_test = refl; no-yes = refl }

  pub paid-child-report : {u v k w : ℕ} (b e : ℕ) {r : List Msg} → Edge p k u v → s.ch u k ≡ report w ∷ r
      → Paid p z (set-op (set-owe (set-fc (bested (pop s u k r) v b e) (upd s.fc v (s.fc v - 1))) (upd2 s.owe v k 0)) (suc v)) n
  paid-child-report {u} {v} {k} {w} b e {r} f q = paid-keep h (set-op (set-owe (set-fc (bested (pop s u k r) v b e) (upd s.fc v (s.fc v - 1))) (upd2 s.owe v k 0)) (suc v))
      (heights-pop s.ch u k q refl (h.H)) (h.D) (h.T) (links-pop s.ch u k q (a-report w) (h.L))

  pub paid-core-nothing : {u v k w : ℕ} {r : List Msg} → Edge p k u v → s.ch u k ≡ report w ∷ r → Paid p z (pop s u k r) n
  paid-core-nothing {u} {v} {k} {w} {r} f q = paid-keep h (pop s u k r) (heights-pop s.ch u k q refl (h.H)) (h.D) (h.T) (links-pop s.ch u k q (a-report w) (h.L))

  -- a Report that is not earlier than the best weight of a Found node: its fragment is undecided, or finished where both are none
  was : {u v k w : ℕ} {r : List Msg} → Edge p k u v → s.ch u k ≡ report w ∷ r → s.st v ≢ 1 → key p (s.bw v) ≤ key p w → (DK s v ≡ 0) ⊎ ((DK s v ≡ 4) × (w ≡ none) × (s.bw v ≡ none))
  was {u} {v} {k} {w} e q f l =
      let o = pop-head s.ch u k q in
      ⊎_elim (λ t. absurd (f t.6))
      (⊎_elim (λ t. inl (sym (ap s.dk (i.markings.m3 k u v e (i.reports.r1j k u v w e o))) ∙ t.1))
      (λ t. ⊎_elim (λ y. absurd (omega arith)) (λ y. inr (y.2, y.0, y.1)) t.5))
      (i.reports.r1 k u v w e o)

  pub paid-core-halt : {u v k w : ℕ} {r : List Msg} → Edge p k u v → s.ch u k ≡ report w ∷ r → s.st v ≢ 1 → w ≡ none → s.bw v ≡ none
      → Paid p z (set-halt (set-dk (pop s u k r) (upd s.dk (s.fr v) 4)) (upd s.halt v 1)) n
  paid-core-halt {u} {v} {k} {w} {r} e q f a b = paid-keep h (set-halt (set-dk (pop s u k r) (upd s.dk (s.fr v) 4)) (upd s.halt v 1))
      (heights-pop s.ch u k q refl (h.H))
      (dues-finish (s.fr v) (⊎_elim (λ t. inl t) (λ t. inr t.0) (was e q f (omega (arith, ap (key p) (b ∙ sym a))))) (h.D)) (h.T) (links-pop s.ch u k q (a-report w) (h.L))

  pub paid-decide : {u v k w : ℕ} {r : List Msg} → Edge p k u v → s.ch u k ≡ report w ∷ r → s.st v ≢ 1 → key p (s.bw v) < key p w → Paid p z (rooted (pop s u k r) v) n
  paid-decide {u} {v} {k} {w} {r} e q f l =
      let d : DK s v ≡ 0 = ⊎_elim (λ t. t) (λ t. absurd (omega (arith, ap (key p) t.1, ap (key p) t.2))) (was e q f (omega arith)) in
      let old : (w : ℕ) → s.fr v ≡ s.fr w → h.tb w ≡ GL s w → 1 ≤ h.rt w = λ w a b. (h.D).rt0 w b (inl (ap s.dk (sym a) ∙ d)) in
      paid-keep h (rooted (pop s u k r) v) (heights-pop s.ch u k q refl (h.H))
      (dues-decide (h.D) (s.fr v) 1 v (λ w a b o. old w a b) (λ w a b o m. old w a b) (λ w a b o m. old w a b) (λ w a b o m. old w a b)) (h.T) (links-pop s.ch u k q (a-report w) (h.L))

  -- ---- Change-root: the token goes one deeper

  pub paid-change-root : {u v k : ℕ} {r : List Msg} → Edge p k u v → s.ch u k ≡ change ∷ r → Paid p z (rooted (pop s u k r) v) n
  paid-change-root {u} {v} {k} {r} e q =
      let changing = i.tokens.k1 k u v e (pop-head s.ch u k q) in
      let o = i.change_roots.d2 k u v e changing in
      let same = i.markings.m3 k u v e (o.d2j) in
      let deep = (i.parents.t1p k v u (flip e) (o.d2x) (o.d2b) (λ y. o.d2g (ap s.gc same ∙ y))).1 in
      let d : DK s v ≡ 2 = ap s.dk (sym same) ∙ changing.0 in
      let dn : s.dn (s.fr v) ≡ u = ap s.dn (sym same) ∙ changing.1 in
      paid-keep h (rooted (pop s u k r) v) (heights-pop s.ch u k q refl (h.H))
      (dues-decide (h.D) (s.fr v) 1 v
      (λ w a b c. absurd (⊎_elim one-not one-not4 c))
      (λ w a b c m. (h.D).rt1 w b (omega (arith, d, ap s.dk a)) m)
      (λ w a b c m. (h.D).rt3 w b (ap s.dk (sym a) ∙ d) (omega (arith, deep, m, ap s.dep (ap s.dn (sym a) ∙ dn))))
      (λ w a b c m. absurd (omega arith)))
      (h.T) (links-pop s.ch u k q (record { no-init = refl; no_test = refl; no-yes = refl }) (h.L))
    where
      one-not : ◌≡◌ {A = ℕ} 1 0 → ⊥
      one-not y = omega arith

      one-not4 : ◌≡◌ {A = ℕ} 1 4 → ⊥
      one-not4 y = omega arith

  -- ---- Accept, procedure test with nothing Basic: v waits no more

  pub paid-test-none : {v : ℕ} (ot : s.ot ≡ suc v) (op : s.op ≡ 0) (oo : s.oo ≡ 0) (basic : (k u : ℕ) → Edge p k v u → s.mark v k ≢ 0)
      → Paid p z (set-op (set-ot (set-te s (upd s.te v none)) 0) (suc v)) n
  paid-test-none {v} ot op oo basic = paid-keep h (set-op (set-ot (set-te s (upd s.te v none)) 0) (suc v)) (h.H) (h.D)
      (record { ts0 = (h.T).ts0; ts1 = (h.T).ts1; ts2 = λ w e. absurd (omega arith) })
      (record {
        ts3 = λ k w u e a m. (h.L).ts3 k w u e (waits-none i ot op oo basic k w u e a).1 m;
        lk1 = (h.L).lk1;
        lk2 = λ k x y e a m. (h.L).lk2 k x y e (waits-none i ot op oo basic k x y e a).1 m;
      })

  pub paid-accepted : {u v k b e : ℕ} {r : List Msg} (idle : Idle s) (ends : Edge p k u v) (q : s.ch u k ≡ accept ∷ r) (better : Better p s v k k b e)
      → Paid p z (set-op (bested (set-te (pop s u k r) (upd s.te v none)) v b e) (suc v)) n
  paid-accepted {u} {v} {k} {b} {e} {r} idle ends q better = paid-keep h (set-op (bested (set-te (pop s u k r) (upd s.te v none)) v b e) (suc v))
      (heights-pop s.ch u k q refl (h.H)) (h.D) (h.T)
      (record {
        ts3 = λ j w x f a m. let o = waits-accepted i idle ends q better j w x f a in omega (arith, (h.L).ts3 j w x f o.1 m, tests w j, yes j w x f o.0);
        lk1 = λ j w x f a m. omega (arith, (h.L).lk1 j w x f a m, ap (λ y. y * bit (eqb (s.lev w) z)) (tests w j), ap (λ y. y * bit (eqb (s.lev x) z)) (tests x j));
        lk2 = λ j w x f a m. omega (
          arith,
          (h.L).lk2 j w x f (waits-accepted i idle ends q better j w x f a).1 (omega (arith, tests w j)),
          ap (λ y. y * bit (eqb (s.lev w) z)) (tests w j),
          ap (λ y. y * bit (eqb (s.lev x) z)) (tests x j),
        );
      })
    where
      tests : (w j : ℕ) → sum_l is_t (upd2 s.ch u k r w j) ≡ sum_l is_t (s.ch w j)
      tests = pop-sum s.ch u k q is_t refl

      -- the Accepts to another
      yes : (j w x : ℕ) → Edge p j w x → v ≢ w → sum_l is_y (upd2 s.ch u k r x j) ≡ sum_l is_y (s.ch x j)
      yes j w x f n = ap (sum_l is_y) (else_same s.ch u k r x j (by-eq k j
          (λ y. inl (λ o. n (other-end ends (flip f) o y))) (λ y. inr y)))

  -- ---- waking without edges

  pub paid-wake-lone : {v : ℕ} → s.st v ≡ 0 → Paid p z (set-halt (set-dk (woken_up s v) (upd s.dk (s.fr v) 4)) (upd s.halt v 1)) n
  paid-wake-lone {v} asleep = subst (λ x. Paid p z (set-halt (set-dk x (upd s.dk (s.fr v) 4)) (upd s.halt v 1)) n) (sym (woken-same i v asleep))
      (paid-keep h (set-halt (set-dk (set-st s (upd s.st v 2)) (upd s.dk (s.fr v) 4)) (upd s.halt v 1)) (h.H) (dues-finish (s.fr v) (inl (i.sleepers.g6 v asleep).g6d) (h.D)) (h.T) (h.L))
