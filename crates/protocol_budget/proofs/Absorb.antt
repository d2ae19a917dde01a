-- A fragment is absorbed: its node u gets an Initiate, and the others are below the level that they then have to reach (`paid-absorb`).
use Rattle.protocol.proofs.Prelude.{ℕ, ◌+◌, ◌≤◌, ◌<◌, arith, ◌≡◌, sym, ap, subst, ◌∙◌, ◌⊎◌, by-eq}
use Rattle.protocol.proofs.Prelude.{List, ◌∷◌, upd2, upd2-elim, Msg, connect, initiate}
use Rattle.protocol.proofs.Prelude.{Network, Edge, flip, ends_same, ProtocolState, Idle, Flag}
use Rattle.protocol.proofs.Prelude.{In, all_in, pop-head, at2, GL, Half, Inv}
use Rattle.protocol_budget.proofs.Paid.{Dues, Tries, Paid}
use Rattle.protocol_budget.proofs.Height.{paid-keep, tb-none, tb-le}
use Rattle.protocol.proofs.Prelude.{bulk-in, bulk-out, send_over, pop, absorbed, half_at}
use Rattle.protocol_budget.proofs.Raise.{Raised, raise}

module _ {p : Network} {z n : ℕ} {s : ProtocolState} (i : Inv p s) (h : Paid p z s n) {u v k l x : ℕ} {r : List Msg} (idle : Idle s) (ends : Edge p k u v) (q : s.ch u k ≡ connect l ∷ r)
    (low : l < s.lev v) (flag : Flag s v x) where
  abbrev S' : ProtocolState
  S' = absorbed (pop s u k r) u v k x

  head : In (connect l) (s.ch u k)
  head = pop-head s.ch u k q

  -- k is half at u: joined, v would be of the Connect's level
  basic : s.mark v k ≡ 0
  basic = by-eq (s.mark v k) 0 (λ e. e)
      (λ d. by-eq (s.mark v k) 1 (λ e. absurd (omega (arith, (i.connects.c1 k u v l ends head e).2)))
      (λ e. absurd ((i.markings.m1 k v u (flip ends) (omega (arith, i.ranges.mark-le v k))).1 (i.connects.c1m k u v l ends head))))

  half : Half s u k
  half = half_at i k u v ends (i.connects.c1m k u v l ends head) basic

  level : GL s u ≡ l
  level = sym (all_in (i.tokens.d1a k u v ends half) head)

  -- no Initiate is on its way to u
  tb-u : h.tb u ≡ s.lev u
  tb-u = tb-none i (h.H) u (λ a b d f g w e o. not-joined a b d f g w (sym (i.halves.d1 k u v ends half).d1u ∙ e) o)
    where
      not-joined : (a b d f g : ℕ) → Edge p a b u → k ≡ a → In (initiate d f g) (s.ch b a) → ⊥
      not-joined a b d f g w e o =
          let t = ends_same ends (subst (λ c. Edge p c u b) (sym e) (flip w)) in
          omega (arith, (i.initiates.i1 a b u d f g w o).i1j.0, ap (λ c. s.mark c a) t, ap (s.mark v) e, basic)

  raised : Raised p z (send_over (pop s u k r) v k (initiate (s.lev v) (s.id v) x)) (n + 1) u (h.tb)
  raised = raise i h (s.lev v) (s.id v) x ends q (i.halves.d1 k u v ends half).d1u (omega (arith, tb-u, (i.halves.d1 k u v ends half).d1l, level))

  abbrev h' : Paid p z (send_over (pop s u k r) v k (initiate (s.lev v) (s.id v) x)) (n + 1)
  h' = raised.paid

  -- by the label: u itself, or one whose fragment is not absorbed
  cases : {C : Type 0} (w : ℕ) → h'.tb w ≡ GL S' w → (u ≡ w → C) → ((S'.fr w ≡ s.fr w) → (S'.due w ≡ s.due w) → C) → C
  cases w e y f = by-eq u w y
      (λ d. by-eq (s.fr w) (s.fr u)
      (λ a. absurd (omega (arith, e, raised.else-tb w d, tb-le i (h.H) w, ap s.gl a, level, low, i.levels.g2 v, ap s.gl (bulk-in s.fr (s.fr u) (s.fr v) s.fr w a))))
      (λ a. f (bulk-out s.fr (s.fr u) (s.fr v) s.fr w a) (bulk-out s.fr (s.fr u) (s.due v) s.due w a)))

  to : (w : ℕ) → h'.tb w ≡ GL S' w → S'.fr w ≡ s.fr w → h'.tb w ≡ GL s w
  to w e a = e ∙ ap s.gl a

  D' : Dues s.lev S'.fr s.gl S'.due s.dk s.dn s.dep h'.tb h'.rp h'.rt
  D' = record {
    rp1 = λ w e. cases w e (λ o. omega (arith, raised.one-rp, ap h'.rp o, due w)) (λ a b. omega (arith, b, h'.D.rp1 w (to w e a)));
    rt0 = λ w e o. cases w e (λ g. omega (arith, raised.one-rt, ap h'.rt g)) (λ a b. h'.D.rt0 w (to w e a) (subst (λ c. (s.dk c ≡ 0) ⊎ (s.dk c ≡ 4)) a o));
    rt1 = λ w e o c. cases w e (λ g. omega (arith, raised.one-rt, ap h'.rt g)) (λ a b. h'.D.rt1 w (to w e a) (omega (arith, ap s.dk a)) (omega (arith, ap s.gl a)));
    rt2 = λ w e o c. cases w e (λ g. omega (arith, raised.one-rt, ap h'.rt g)) (λ a b. h'.D.rt2 w (to w e a) (ap s.dk (sym a) ∙ o) (omega (arith, ap (λ y. s.dep (s.dn y)) a)));
    rt3 = λ w e o c. cases w e (λ g. omega (arith, raised.one-rt, ap h'.rt g)) (λ a b. h'.D.rt3 w (to w e a) (ap s.dk (sym a) ∙ o) (omega (arith, ap (λ y. s.dep (s.dn y)) a)));
  }
    where
      due : (w : ℕ) → S'.due w ≤ 1
      due w = by-eq (s.fr w) (s.fr u) (λ a. omega (arith, bulk-in s.fr (s.fr u) (s.due v) s.due w a, i.ranges.due-le v)) (λ a. omega (arith, bulk-out s.fr (s.fr u) (s.due v) s.due w a, i.ranges.due-le w))

  T' : Tries z s.lev S'.fr s.gl S'.due h'.tb h'.ts s.ot
  T' = record {
    ts0 = λ w e o. cases w e (λ g. omega (arith, raised.two-ts, ap h'.ts g)) (λ a b. h'.T.ts0 w (to w e a) (ap s.gl (sym a) ∙ o));
    ts1 = λ w e o c. cases w e (λ g. omega (arith, raised.two-ts, ap h'.ts g)) (λ a b. h'.T.ts1 w (to w e a) (omega (arith, ap s.gl a)) (sym b ∙ c));
    ts2 = h'.T.ts2;
  }

  pub paid-absorb : Paid p z S' (n + 1)
  paid-absorb = paid-keep h' S' h'.H D' T'
      (record { ts3 = h'.L.ts3; lk1 = λ j w y e a b. h'.L.lk1 j w y e (still w j a) (λ o. b (rejected y j o)); lk2 = h'.L.lk2 })
    where
      still : (w j : ℕ) → upd2 s.mark v k 1 w j ≡ 0 → s.mark w j ≡ 0
      still w j = upd2-elim (λ a. a ≡ 0 → s.mark w j ≡ 0) s.mark v k 1 w j (λ a b o. absurd (omega arith)) (λ d o. o)

      rejected : (w j : ℕ) → s.mark w j ≡ 2 → upd2 s.mark v k 1 w j ≡ 2
      rejected w j o = upd2-elim (λ a. a ≡ 2) s.mark v k 1 w j (λ a b. absurd (omega (arith, basic, at2 s.mark a b))) (λ d. o)
