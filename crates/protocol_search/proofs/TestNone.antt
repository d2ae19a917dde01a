-- Procedure test with no edge in the state Basic: test edge none, procedure report comes next (`inv-test-none`).
use Rattle.protocol.proofs.Prelude.{ℕ, suc, ◌≤◌, arith, ◌≡◌, refl, sym, ap, subst, ◌∙◌, ◌≢◌, ◌⊎◌, inl, inr, ⊎_elim}
use Rattle.protocol.proofs.Prelude.{upd, upd-elim, upd_other, by-eq}
use Rattle.protocol.proofs.Prelude.{none}
use Rattle.protocol.proofs.Prelude.{Network, Edge, key, rank, flip, edge-some, ProtocolState, set-te, set-ot, set-op}
use Rattle.protocol.proofs.Prelude.{Waits, Inv, flow, inv-asking, flow-open}
use Rattle.protocol.specs.Search.{Pending, Tests}
use Rattle.protocol.specs.Traffic.{Testing, Answers, Bests}

module _ {p : Network} {s : ProtocolState} (i : Inv p s) {v : ℕ} (ot : s.ot ≡ suc v) (op : s.op ≡ 0) (oo : s.oo ≡ 0)
    (none-basic : (k u : ℕ) → Edge p k v u → s.mark v k ≢ 0) where
  abbrev S' : ProtocolState
  S' = set-op (set-ot (set-te s (upd s.te v none)) 0) (suc v)

  find : s.st v ≡ 1
  find = i.pending.f5t v ot

  -- who waits now waited before, and is not v
  pub waits-none : (k w u : ℕ) → Edge p k w u → Waits S' w k → (v ≢ w) × Waits s w k
  waits-none k w u e h = upd-elim (λ x. x ≡ k → (v ≢ w) × Waits s w k) s.te v none w
      (λ q z. absurd (edge-some p e (sym z)))
      (λ n z. (n, (z, λ o. n (omega arith)))) h.0

  -- who waited waits
  pub still : (k w : ℕ) → Waits s w k → Waits S' w k
  still k w h = (upd_other s.te v none w (λ q. h.1 (ot ∙ ap suc q)) ∙ h.0, λ z. omega arith)

  -- a test edge of one who did not wait, or is open: the same as before
  pub idle-te : (k w : ℕ) → (S'.te w ≢ k) ⊎ (S'.ot ≡ suc w) → (s.te w ≢ k) ⊎ (s.ot ≡ suc w)
  idle-te k w (inr z) = absurd (omega arith)
  idle-te k w (inl n) = by-eq v w (λ q. inr (ot ∙ ap suc q)) (λ d. inl (λ z. n (upd_other s.te v none w d ∙ z)))

  pub te-idle : (k w u : ℕ) → Edge p k w u → (s.te w ≢ k) ⊎ (s.ot ≡ suc w) → (S'.te w ≢ k) ⊎ (S'.ot ≡ suc w)
  te-idle k w u e h = inl (upd-elim (λ x. x ≢ k) s.te v none w (λ q z. edge-some p e (sym z))
      (λ n. ⊎_elim (λ d. d) (λ o. absurd (n (omega arith))) h))

  pending' : Pending s.st S'.te s.fc 0 (suc v)
  pending' = record {
    f2 = λ w h. by-eq v w (λ q. inr (inr (inr (ap suc q))))
        (λ n. ⊎_elim (λ c. inl c) (⊎_elim (λ c. inr (inl (λ z. c (sym (upd_other s.te v none w n) ∙ z)))) (⊎_elim (λ c. absurd (n (omega arith))) (λ c. absurd (omega arith)))) (i.pending.f2 w h));
    f3t = λ w n. upd-elim (λ x. x ≡ none) s.te v none w (λ q. refl) (λ d. i.pending.f3t w n);
    f3c = i.pending.f3c;
    f5t = λ w h. absurd (omega arith);
    f5p = λ w h. subst (λ x. s.st x ≡ 1) (omega arith) find;
  }

  tests' : Tests p S'.te s.ib s.mark 0
  tests' = record {
    e2o = λ w. upd-elim (λ x. x ≢ none → (u : ℕ) × Edge p x w u) s.te v none w (λ q n. absurd (n refl)) (λ d n. i.tests.e2o w n);
    e2b = λ k w u j x e h. i.tests.e2b k w u j x e (waits-none k w u e h).1;
    e2r = λ k w u e h. i.tests.e2r k w u e (waits-none k w u e h).1;
    e2i = λ k w u e h b. let t = i.tests.e2i k w u e (waits-none k w u e h).1 b in
        (t.0, upd-elim (λ x. x ≢ k) s.te v none u (λ q z. edge-some p e (sym z)) (λ d. t.1));
    m6 = λ k w u e h z. still k u (i.tests.m6 k w u e h z);
  }

  testing' : Testing p S'
  testing' = record {
    e1 = i.testing.e1;
    e1w = λ k u w l f e h. ⊎_elim (λ t. inl (still k u t.0, t.1, t.2)) (λ t. inr (te-idle k u w e t.0, t.1, still k w t.2, t.3)) (i.testing.e1w k u w l f e h);
    e2w = λ k w u e y z. i.testing.e2w k w u e (waits-none k w u e y).1 (waits-none k u w (flip e) z).1;
    e2c = λ k w u e y z. i.testing.e2c k w u e (waits-none k w u e y).1 (idle-te k u z);
    m6t = i.testing.m6t;
  }

  answers' : Answers p S'
  answers' = record {
    a1 = λ k u w e h. let t = i.answers.a1 k u w e h in record { a1w = still k w (t.a1w); a1m = t.a1m; a1f = t.a1f; a1l = t.a1l };
    j1 = λ k u w e h. let t = i.answers.j1 k u w e h in record { j1w = still k w (t.j1w); j1f = t.j1f; j1m = t.j1m };
  }

  bests' : Bests p S'
  bests' = record {
    b1e = i.bests.b1e;
    b2 = λ k u w e m d g. by-eq v u (λ q. absurd (none-basic k w (subst (λ x. Edge p k x w) (sym q) e) (subst (λ x. s.mark x k ≡ 0) (sym q) m)))
        (λ n. ⊎_elim (λ t. inl t)
        (⊎_elim (λ o. absurd (n (omega arith)))
        (⊎_elim (λ t. inr (inr (inl (subst (λ x. (x ≢ none) × (key p x ≤ rank p k)) (sym (upd_other s.te v none u n)) t)))) (λ t. inr (inr (inr t)))))
        (i.bests.b2 k u w e m d g));
  }

  pub inv-test-none : Inv p S'
  inv-test-none = inv-asking i S'.te 0 (suc v) s.ch pending' tests' (flow-open p s S'.te s.be s.fc 0 (suc v) s.oo (flow i)) testing' answers' bests'
