-- A node without edges wakes: Found and halted, and its fragment is finished (`inv-wake-lone`).
use Rattle.protocol.proofs.Prelude.{ℕ, ◌≤◌, ◌<◌, arith, ◌≡◌, sym, ap, subst, ◌∙◌, ◌≢◌, inl, inr, ⊎_elim}
use Rattle.protocol.proofs.Prelude.{upd, upd-elim, upd_same, upd_other, by-eq}
use Rattle.protocol.proofs.Prelude.{Network, Edge, flip, ProtocolState, Idle, set-st, set-dk, set-halt, woken_up, woken-same}
use Rattle.protocol.proofs.Prelude.{GL, DK, Inf, CoreEnds, Inv, sleep-te, sleep-fc, last-case}
use Rattle.protocol.specs.Fragments.{Ranges, Sleepers}
use Rattle.protocol.specs.Decisions.{Halves, ChangeRoots, Rootings, Finishes}
use Rattle.protocol.specs.Search.{Finds, Pending}
use Rattle.protocol.specs.Traffic.{Tokens, Reports, Owing, Bests}

module _ {p : Network} {s : ProtocolState} (i : Inv p s) {v : ℕ} (idle : Idle s) (below : v < p.N) (asleep : s.st v ≡ 0) (lone : (k u : ℕ) → Edge p k v u → ⊥) where
  -- by `woken-same` waking changes the status alone
  abbrev S'' : ProtocolState
  S'' = set-halt (set-dk (set-st s (upd s.st v 2)) (upd s.dk (s.fr v) 4)) (upd s.halt v 1)

  abbrev S' : ProtocolState
  S' = set-halt (set-dk (woken_up s v) (upd s.dk (s.fr v) 4)) (upd s.halt v 1)

  level : GL s v ≡ 0
  level = (i.sleepers.g6 v asleep).g6g

  -- what has an edge, and who is informed, is another
  other : (k w u : ℕ) → Edge p k w u → v ≢ w
  other k w u e q = lone k u (subst (λ x. Edge p k x u) (sym q) e)

  inf-other : (w : ℕ) → Inf s w → v ≢ w
  inf-other w h q = omega (arith, level, ap (λ x. GL s x) q, h.0)

  -- nothing changes for another
  st-at : (w : ℕ) → v ≢ w → S''.st w ≡ s.st w
  st-at w n = upd_other s.st v 2 w n

  dk-at : (w : ℕ) → v ≢ w → DK S'' w ≡ DK s w
  dk-at w n = upd_other s.dk (s.fr v) 4 (s.fr w) (λ q. n (sym (i.sizes.g4s v w level (sym q))))

  halt-at : (w : ℕ) → v ≢ w → S''.halt w ≡ s.halt w
  halt-at w n = upd_other s.halt v 1 w n

  dk-v : (w : ℕ) → v ≡ w → DK S'' w ≡ 4
  dk-v w q = ap (λ x. DK S'' x) (sym q) ∙ upd_same s.dk (s.fr v) 4

  -- a kind of decision other than "finished" is another's
  dk-old : (d w : ℕ) → d ≢ 4 → DK S'' w ≡ d → (v ≢ w) × (DK s w ≡ d)
  dk-old d w n h = by-eq v w (λ q. absurd (n (sym h ∙ dk-v w q))) (λ m. (m, sym (dk-at w m) ∙ h))

  -- Find or asleep: another
  st-old : (d w : ℕ) → d ≢ 2 → S''.st w ≡ d → (v ≢ w) × (s.st w ≡ d)
  st-old d w n h = by-eq v w (λ q. absurd (n (sym h ∙ ap S''.st (sym q) ∙ upd_same s.st v 2))) (λ m. (m, sym (st-at w m) ∙ h))

  ranges' : Ranges S''.st S''.halt s.due S''.dk s.mark
  ranges' = record {
    st-le = λ w. upd-elim (λ x. x ≤ 2) s.st v 2 w (λ q. omega arith) (λ n. i.ranges.st-le w);
    halt-le = λ w. upd-elim (λ x. x ≤ 1) s.halt v 1 w (λ q. omega arith) (λ n. i.ranges.halt-le w);
    due-le = i.ranges.due-le;
    dk-le = λ a. upd-elim (λ x. x ≤ 4) s.dk (s.fr v) 4 a (λ q. omega arith) (λ n. i.ranges.dk-le a);
    mark-le = i.ranges.mark-le;
  }

  sleepers' : Sleepers p S''.st s.fr s.gl S''.dk s.due s.bw s.be s.ub S''.halt s.mark
  sleepers' = record {
    g6 = λ w h. let o = st-old 0 w (λ z. omega arith) h in let t = i.sleepers.g6 w o.1 in
        record { g6g = t.g6g; g6d = dk-at w o.0 ∙ t.g6d; g6u = t.g6u; g6w = t.g6w; g6e = t.g6e };
    g6m = λ w k h. i.sleepers.g6m w k (st-old 0 w (λ z. omega arith) h).1;
    u1a = λ k w u e h. i.sleepers.u1a k w u e (λ z. h (st-at w (other k w u e) ∙ z));
    g7 = λ k w u e h g. dk-at w (other k w u e) ∙ i.sleepers.g7 k w u e (λ z. h (st-at w (other k w u e) ∙ z)) g;
    g7n = λ w h g n. by-eq v w
        (λ q. (dk-v w q, ap S''.halt (sym q) ∙ upd_same s.halt v 1))
        (λ m. let t = i.sleepers.g7n w (λ z. h (st-at w m ∙ z)) g n in (dk-at w m ∙ t.0, halt-at w m ∙ t.1));
  }

  halves' : Halves p S''.dk s.dn s.de s.fr s.gl s.lev s.ub s.mark
  halves' = record {
    m2 = λ k w u e a b. let t = i.halves.m2 k w u e a b in (dk-at w (other k w u e) ∙ t.0, t.1, t.2);
    d1f = λ w h. i.halves.d1f w (dk-old 3 w (λ z. omega arith) h).1;
    d1e = λ w h. i.halves.d1e w (dk-old 3 w (λ z. omega arith) h).1;
    d1 = λ k z y e h. i.halves.d1 k z y e ((dk-old 3 z (λ z. omega arith) h.0).1, h.1, h.2);
  }

  change_roots' : ChangeRoots p S''.dk s.dn s.de s.fr s.gl s.gc s.lev s.ib s.ub s.bw s.mark
  change_roots' = record {
    d2f = λ w h. i.change_roots.d2f w (dk-old 2 w (λ z. omega arith) h).1;
    d2e = λ w h. i.change_roots.d2e w (dk-old 2 w (λ z. omega arith) h).1;
    d2 = λ k u x e h. i.change_roots.d2 k u x e ((dk-old 2 u (λ z. omega arith) h.0).1, h.1, h.2);
  }

  rootings' : Rootings p S''.dk s.dn s.fr s.gl s.lev s.ib s.ub s.bw s.mark s.oo
  rootings' = record {
    d3f = λ w h. i.rootings.d3f w (dk-old 1 w (λ z. omega arith) h).1;
    d3o = λ w h. i.rootings.d3o w (dk-old 1 w (λ z. omega arith) h).1;
    f5r = λ w h. absurd (omega (arith, idle.2));
    d3 = λ x h. i.rootings.d3 x ((dk-old 1 x (λ z. omega arith) h.0).1, h.1);
  }

  finishes' : Finishes p S''.dk s.fr s.gl s.gc s.lev s.bw S''.halt s.due s.mark
  finishes' = record {
    d4 = λ k w u e h. i.finishes.d4 k w u e (sym (dk-at w (other k w u e)) ∙ h);
    d4i = λ k x y e g h l. i.finishes.d4i k x y e g (sym (dk-at x (other k x y e)) ∙ h) l;
    d5 = λ w h. by-eq v w (λ q. ap s.due (sym q) ∙ (i.sleepers.g6 v asleep).g6u) (λ n. i.finishes.d5 w (λ z. h (dk-at w n ∙ z)));
    d6 = λ w h. by-eq v w (λ q. dk-v w q) (λ n. dk-at w n ∙ i.finishes.d6 w (λ z. h (halt-at w n ∙ z)));
    d6c = λ k w u e h. i.finishes.d6c k w u e (λ z. h (halt-at w (other k w u e) ∙ z));
  }

  finds' : Finds S''.st s.lev s.fr s.gl S''.dk s.due
  finds' = record {
    f1 = λ w h. let o = st-old 1 w (λ z. omega arith) h in let t = i.finds.f1 w o.1 in record { f1i = t.f1i; f1k = dk-at w o.0 ∙ t.f1k; f1u = t.f1u };
    f1d = λ w h d. st-at w (inf-other w h) ∙ i.finds.f1d w h d;
  }

  pending' : Pending S''.st s.te s.fc s.ot s.op
  pending' = record {
    f2 = λ w h. i.pending.f2 w (st-old 1 w (λ z. omega arith) h).1;
    f3t = λ w h. by-eq v w (λ q. ap s.te (sym q) ∙ sleep-te i v asleep) (λ n. i.pending.f3t w (λ z. h (st-at w n ∙ z)));
    f3c = λ w h. by-eq v w (λ q. ap s.fc (sym q) ∙ sleep-fc i v asleep) (λ n. i.pending.f3c w (λ z. h (st-at w n ∙ z)));
    f5t = λ w h. absurd (omega (arith, idle.0));
    f5p = λ w h. absurd (omega (arith, idle.1));
  }

  tokens' : Tokens p S''
  tokens' = record {
    d1c = λ k z y e h. i.tokens.d1c k z y e ((dk-old 3 z (λ z. omega arith) h.0).1, h.1, h.2);
    d1a = λ k z y e h. i.tokens.d1a k z y e ((dk-old 3 z (λ z. omega arith) h.0).1, h.1, h.2);
    d2c = λ k u x e h. i.tokens.d2c k u x e ((dk-old 2 u (λ z. omega arith) h.0).1, h.1, h.2);
    k1 = λ k u x e h. let t = i.tokens.k1 k u x e h in (dk-at u (other k u x e) ∙ t.0, t.1, t.2);
    d3r = λ k x y e h b. i.tokens.d3r k x y e ((dk-old 1 x (λ z. omega arith) h.0).1, h.1) b;
    d4h = λ k x y e g d l h. i.tokens.d4h k x y e g (sym (dk-at x (other k x y e)) ∙ d) l (λ z. h (halt-at x (other k x y e) ∙ z));
    d4r = λ k x y e g d l h. i.tokens.d4r k x y e g (sym (dk-at x (other k x y e)) ∙ d) l (sym (halt-at x (other k x y e)) ∙ h);
    d7 = λ k x y e g d h f. ⊎_elim (λ t. inl t) (λ t. inr (t.0, st-at y (other k y x (flip e)) ∙ t.1, t.2, t.3))
        (i.tokens.d7 k x y e g (dk-old 0 x (λ z. omega arith) d).1 h (sym (st-at x (other k x y e)) ∙ f));
  }

  core : (u w k n : ℕ) → v ≢ u → CoreEnds s u w k n → CoreEnds S'' u w k n
  core u w k n m t = (t.0, dk-at u m ∙ t.1, t.2, st-at u m ∙ t.3, t.4, t.5, t.6)

  reports' : Reports p S''
  reports' = record {
    r1r = i.reports.r1r;
    r1j = i.reports.r1j;
    r1 = λ k u w n e h. let a = other k u w e in let b = other k w u (flip e) in
        ⊎_elim (λ t. inl (t.0, t.1, t.2, st-at u a ∙ t.3, t.4, t.5, st-at w b ∙ t.6, t.7))
        (⊎_elim (λ t. inr (inl (core u w k n a t)))
        (λ t. inr (inr (t.0, t.1, t.2, st-at w b ∙ t.3, t.4, ⊎_elim (λ l. inl l) (λ l. inr (l.0, l.1, dk-at w b ∙ l.2, l.3)) t.5))))
        (i.reports.r1 k u w n e h);
    r1c = λ k u w n e h f d g. core u w k n (other k u w e) (i.reports.r1c k u w n e h f (dk-old 0 w (λ z. omega arith) d).1 g);
  }

  owing' : Owing p S''
  owing' = record {
    f4y = λ k w c e n. let t = i.owing.f4y k w c e n in
        (t.0, t.1, t.2, ⊎_elim (λ o. inl (o.0, ⊎_elim (λ f. inl (st-at c (other k c w (flip e)) ∙ f)) (λ r. inr r) o.1)) (λ o. inr o) t.3);
    f4n = λ k w c e h j n t.
        i.owing.f4n k w c e h j n (⊎_elim (λ o. inl (o.0, ⊎_elim (λ f. inl (sym (st-at c (other k c w (flip e))) ∙ f)) (λ r. inr r) o.1)) (λ o. inr o) t);
  }

  bests' : Bests p S''
  bests' = record {
    b1e = λ w h n d. let t = i.bests.b1e w h n d in (t.0, t.1, t.2, t.3, t.4, t.5, t.6, st-at t.0 (inf-other t.0 t.4) ∙ t.7, t.8);
    b2 = λ k u w e m d l. last-case (λ t. (t.0, t.1, t.2, t.3, ⊎_elim (λ f. inl (st-at t.0 (inf-other t.0 t.2) ∙ f)) (λ r. inr r) t.4, t.5))
        (i.bests.b2 k u w e m (dk-old 0 u (λ z. omega arith) d).1 l);
  }

  found : Inv p S''
  found = record {
    ranges = ranges';
    values = i.values;
    levels = i.levels;
    sizes = i.sizes;
    cores = i.cores;
    sleepers = sleepers';
    markings = i.markings;
    inbounds = i.inbounds;
    halves = halves';
    change_roots = change_roots';
    rootings = rootings';
    finishes = finishes';
    parents = record { t1 = i.parents.t1; t1d = i.parents.t1d; t1p = i.parents.t1p; t1e = i.parents.t1e; t1u = λ w h d. i.parents.t1u w h (sym (dk-at w (inf-other w h)) ∙ d) };
    kids = i.kids;
    finds = finds';
    pending = pending';
    find_counts = i.find_counts;
    tests = i.tests;
    weights = i.weights;
    hush = record {
      g6o = λ k w u e h. i.hush.g6o k w u e (st-old 0 w (λ z. omega arith) h).1;
      g6i = λ k u w e h. i.hush.g6i k u w e (st-old 0 w (λ z. omega arith) h).1;
    };
    tokens = tokens';
    connects = record { c1m = i.connects.c1m; c1 = i.connects.c1 };
    initiates = record { i1 = i.initiates.i1 };
    telling = record { u2 = i.telling.u2; t2i = i.telling.t2i; t4 = i.telling.t4; t4n = i.telling.t4n };
    testing = record { e1 = i.testing.e1; e1w = i.testing.e1w; e2w = i.testing.e2w; e2c = i.testing.e2c; m6t = i.testing.m6t };
    answers = record { a1 = i.answers.a1; j1 = i.answers.j1 };
    reports = reports';
    owing = owing';
    bests = bests';
    ordered = record { q1 = i.ordered.q1 };
  }

  pub inv-wake-lone : Inv p S'
  inv-wake-lone = subst (λ x. Inv p (set-halt (set-dk x (upd s.dk (s.fr v) 4)) (upd s.halt v 1))) (sym (woken-same i v asleep)) found
