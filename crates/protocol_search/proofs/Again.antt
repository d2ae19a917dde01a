-- v, which waits on k, takes m from u over k, strikes its mark for k and is to test again: a Reject, and a Test that crossed its own (`inv-again`).
use Rattle.protocol.proofs.Prelude.{ℕ, suc, ◌+◌, ◌≤◌, arith, ◌≡◌, sym, ap, subst, ◌∙◌, ◌≢◌, ◌⊎◌, inl, inr, ⊎_elim}
use Rattle.protocol.proofs.Prelude.{List, ◌∷◌, upd2, by-eq, sum_l}
use Rattle.protocol.proofs.Prelude.{Msg, test}
use Rattle.protocol.proofs.Prelude.{Network, Edge, flip, other-end, ends-irr, ProtocolState, Idle, Strike, set-ch, set-mark, set-ot, remarked, pop}
use Rattle.protocol.proofs.Prelude.{is_t, is_a, is_r, In, pop-in, pop-sum, pop-le, else_same, here-new, at2, none_in, Waits, Inv, waits-find}
use Rattle.protocol.proofs.Prelude.{Plain, bests-same, flow, flow-open, flow-take}
use Rattle.protocol.specs.Search.{Pending, Tests}
use Rattle.protocol.specs.Traffic.{Testing, Answers, Bests}
use Rattle.protocol_search.proofs.Strike.{struck, up1-strike, up2-strike, up0-strike, dn0-strike, dn1-strike, dn2-strike, dn-other-strike, up-both-strike, dn-both-strike, flow-strike, inv-strike}

pub record Repeat (p : Network) (s : ProtocolState) (u v k c : ℕ) (m : Msg) (r : List Msg) : Type 0 where
  pub idle : Idle s
  pub ends : Edge p k u v
  pub took : s.ch u k ≡ m ∷ r
  pub plain : Plain m
  pub strike : Strike s v k c
  pub wait : Waits s v k
  -- k lies inside the fragment; where v is Basic the other end is not Branch, and it waits if it is Basic too
  pub inside : s.fr v ≡ s.fr u
  pub free : s.mark v k ≡ 0 → s.mark u k ≢ 1
  pub asks : s.mark v k ≡ 0 → s.mark u k ≡ 0 → Waits s u k
  -- no Test and no answer from u is left
  pub no_test : sum_l is_t r ≡ 0
  pub no_answer : sum_l is_a r ≡ 0
  -- v's own Test: there is none, or it crosses that of u
  pub own : (sum_l is_t (s.ch v k) ≡ 0) ⊎ (Waits s u k × (c ≡ 2))
  pub crosses : Waits s u k → sum_l is_a (s.ch v k) + sum_l is_t (s.ch v k) ≡ 1

module _ {p : Network} {s : ProtocolState} (i : Inv p s) {u v k c : ℕ} {m : Msg} {r : List Msg} (h : Repeat p s u v k c m r) where
  abbrev c' : ℕ → ℕ → List Msg
  c' = upd2 s.ch u k r

  abbrev m' : ℕ → ℕ → ℕ
  m' = struck p s v k c (h.strike)

  abbrev S' : ProtocolState
  S' = set-ot (remarked (pop s u k r) v k c) (suc v)

  abbrev s₁ : ProtocolState
  s₁ = set-ch s c'

  abbrev s₂ : ProtocolState
  s₂ = set-mark s₁ m'

  back : Edge p k v u
  back = flip (h.ends)

  find : s.st v ≡ 1
  find = waits-find i k v u back (h.wait)

  awake : s.st v ≢ 0
  awake z = omega (arith, find)

  old : {x : Msg} (w j : ℕ) → In x (c' w j) → In x (s.ch w j)
  old w j n = pop-in s.ch u k (h.took) w j n

  rep : (w j : ℕ) → sum_l is_r (c' w j) ≡ sum_l is_r (s.ch w j)
  rep = pop-sum s.ch u k (h.took) is_r (h.plain).no-rep

  -- u's channel over k, seen from any keys that are u and k
  left : (f : Msg → ℕ) → sum_l f r ≡ 0 → (w j : ℕ) → u ≡ w → k ≡ j → sum_l f (c' w j) ≡ 0
  left f z w j a b = ap (sum_l f) (sym (at2 c' a b) ∙ here-new s.ch u k r) ∙ z

  off : (f : Msg → ℕ) (w j : ℕ) → (u ≢ w) ⊎ (k ≢ j) → sum_l f (c' w j) ≡ sum_l f (s.ch w j)
  off f w j n = ap (sum_l f) (else_same s.ch u k r w j n)

  off-end : (f : Msg → ℕ) (j w x : ℕ) → Edge p j w x → v ≢ x → sum_l f (c' w j) ≡ sum_l f (s.ch w j)
  off-end f j w x e n = off f w j (by-eq k j
      (λ b. inl (λ a. n (other-end (h.ends) e a b))) (λ b. inr b))

  -- who waits now waited, and is not v
  waits : (j w : ℕ) → Waits S' w j → (v ≢ w) × Waits s w j
  waits j w a = ((λ z. a.1 (ap suc z)), (a.0, λ o. omega (arith, (h.idle).0)))

  pub still : (j w : ℕ) → v ≢ w → Waits s w j → Waits S' w j
  still j w n a = (a.0, λ o. n (omega arith))

  on-k : (j w : ℕ) → v ≡ w → Waits s w j → k ≡ j
  on-k j w q a = sym (h.wait).0 ∙ ap s.te q ∙ a.0

  pending' : Pending s.st s.te s.fc (suc v) s.op
  pending' = record {
    f2 = λ w a. by-eq v w (λ q. inr (inr (inl (ap suc q))))
        (λ n. ⊎_elim (λ b. inl b) (⊎_elim (λ b. inr (inl b)) (⊎_elim (λ b. absurd (omega (arith, (h.idle).0))) (λ b. inr (inr (inr b))))) (i.pending.f2 w a));
    f3t = i.pending.f3t;
    f3c = i.pending.f3c;
    f5t = λ w a. subst (λ x. s.st x ≡ 1) (omega arith) find;
    f5p = i.pending.f5p;
  }

  tests' : Tests p s.te s.ib m' (suc v)
  tests' = record {
    e2o = i.tests.e2o;
    e2b = λ j w x a y e b f g. i.tests.e2b j w x a y e (waits j w b).1 f (dn0-strike p s v k c (h.strike) w a g);
    e2r = λ j w x e b z. let t = waits j w b in ⊎_elim (λ o. i.tests.e2r j w x e t.1 o) (λ o. t.0 o.0) (dn2-strike p s v k c (h.strike) w j z);
    e2i = λ j w x e b d. i.tests.e2i j w x e (waits j w b).1 (dn-both-strike p s v k c (h.strike) j w x d);
    m6 = λ j w x e a b.
        let z = dn0-strike p s v k c (h.strike) x j b in
        let n = dn-other-strike p s v k c (h.strike) x j b in
        ⊎_elim (λ o. let t = i.tests.m6 j w x e o z in still j x (λ q. ⊎_elim (λ f. f q) (λ f. f (on-k j x q t)) n) t)
        (λ o.
        let y = other-end back e o.0 o.1 in
        subst (λ a. Waits S' a j) y
        (subst (λ a. Waits S' u a) o.1 (still k u (λ q. ends-irr p back q) (h.asks o.2 (ap (λ a. s.mark a k) y ∙ ap (s.mark x) o.1 ∙ z)))))
        (dn2-strike p s v k c (h.strike) w j a);
  }

  testing' : Testing p S'
  testing' = record {
    e1 = λ j w x l f e n. i.testing.e1 j w x l f e (old w j n);
    e1w = λ j w x l f e n. ⊎_elim
        (λ t. by-eq v w (λ q. own-test j w x l f e n q (on-k j w q t.0))
        (λ d. inl (still j w d t.0, fresh j w d t.1, λ z. up1-strike p s v k c (h.strike) x j (t.2 (dn1-strike p s v k c (h.strike) w j z)))))
        (λ t. inr (
          ⊎_elim (λ o. inl o) (λ o. absurd (omega (arith, (h.idle).0))) t.0,
          up2-strike p s v k c (h.strike) w j t.1,
          still j x (λ q. gone j w x l f e q (on-k j x q t.2) n) t.2,
          t.3,
        ))
        (i.testing.e1w j w x l f e (old w j n));
    e2w = λ j w x e a b. let y = waits j w a in let z = waits j x b in
        omega (arith, i.testing.e2w j w x e y.1 z.1, off-end is_t j w x e z.0, off-end is_a j x w (flip e) y.0);
    e2c = λ j w x e a b. let y = waits j w a in by-eq v x
        (λ q. by-eq k j (λ z. crossing j w x e q z y.1)
        (λ z. omega (arith, i.testing.e2c j w x e y.1 (inl (λ o. z (sym (h.wait).0 ∙ ap s.te q ∙ o))), off is_t w j (inr z), off is_a x j (inr z), off is_t x j (inr z))))
        (λ n. omega (
          arith,
          i.testing.e2c j w x e y.1 (⊎_elim (λ o. inl o) (λ o. absurd (n (omega arith))) b),
          off-end is_t j w x e n,
          off-end is_a j x w (flip e) y.0,
          off-end is_t j x w (flip e) y.0,
        ));
    m6t = λ j w x e a b. let z = dn0-strike p s v k c (h.strike) x j b in
        ⊎_elim (λ o. omega (arith, i.testing.m6t j w x e o z, pop-le s.ch u k (h.took) is_t x j))
        (λ o. left is_t (h.no_test) x j (other-end back e o.0 o.1) o.1) (dn2-strike p s v k c (h.strike) w j a);
  }
    where
      -- another's mark is not struck
      fresh : (j w : ℕ) → v ≢ w → s.mark w j ≢ 2 → m' w j ≢ 2
      fresh j w d n z = ⊎_elim (λ o. n o) (λ o. d o.0) (dn2-strike p s v k c (h.strike) w j z)

      -- v's own Test has crossed
      own-test : (j w x l f : ℕ) → Edge p j w x → In (test l f) (c' w j) → v ≡ w → k ≡ j
          → (Waits S' w j × (m' w j ≢ 2) × (m' w j ≡ 1 → m' x j ≡ 1)) ⊎ (((s.te w ≢ j) ⊎ (S'.ot ≡ suc w)) × (m' w j ≡ 2) × Waits S' x j × (s.fr w ≡ s.fr x))
      own-test j w x l f e n a b = ⊎_elim
          (λ z. absurd (omega (arith, none_in is_t z (subst (λ y. In (test l f) y) (sym (at2 s.ch a b)) (old w j n)))))
          (λ t. let y = other-end back e a b in inr (
            inr (ap suc a),
            sym (at2 m' a b) ∙ here-new s.mark v k c ∙ t.1,
            subst (λ d. Waits S' d j) y (subst (λ d. Waits S' u d) b (still k u (λ q. ends-irr p back q) t.0)),
            ap s.fr (sym a) ∙ h.inside ∙ ap s.fr y,
          ))
          (h.own)

      -- no Test from u is left
      gone : (j w x l f : ℕ) → Edge p j w x → v ≡ x → k ≡ j → In (test l f) (c' w j) → ⊥
      gone j w x l f e a b n = omega (arith, none_in is_t (left is_t (h.no_test) w j (other-end back (flip e) a b) b) n)

      -- u waits across k: v's Test has crossed, or u has its answer
      crossing : (j w x : ℕ) → Edge p j w x → v ≡ x → k ≡ j → Waits s w j → sum_l is_t (c' w j) + sum_l is_a (c' x j) + sum_l is_t (c' x j) ≡ 1
      crossing j w x e a b t =
          let y = other-end back (flip e) a b in
          let d : u ≢ x = λ q. ends-irr p back (a ∙ sym q) in
          omega (
            arith,
            left is_t (h.no_test) w j y b,
            off is_a x j (inl d),
            off is_t x j (inl d),
            ap (λ l. sum_l is_a l) (at2 s.ch a b),
            ap (λ l. sum_l is_t l) (at2 s.ch a b),
            h.crosses (subst (λ q. Waits s q k) (sym y) (subst (λ q. Waits s w q) (sym b) t)),
          )

  answers' : Answers p S'
  answers' = record {
    a1 = λ j w x e n. let t = i.answers.a1 j w x e (old w j n) in let d = mine j w x e (t.a1w) n (omega arith) in
        record { a1w = still j x d (t.a1w); a1m = up0-strike p s v k c (h.strike) x j (inl d) (t.a1m); a1f = t.a1f; a1l = t.a1l };
    j1 = λ j w x e n. let t = i.answers.j1 j w x e (old w j n) in let d = mine j w x e (t.j1w) n (omega arith) in
        record { j1w = still j x d (t.j1w); j1f = t.j1f; j1m = λ z. up2-strike p s v k c (h.strike) w j (t.j1m (dn0-strike p s v k c (h.strike) x j z)) };
  }
    where
      -- no answer to v is left
      mine : {y : Msg} (j w x : ℕ) → Edge p j w x → Waits s x j → In y (c' w j) → 1 ≤ is_a y → v ≢ x
      mine j w x e t n o q =
          let b = on-k j x q t in
          omega (arith, none_in is_a (left is_a (h.no_answer) w j (other-end back (flip e) q b) b) n)

  bests' : Bests p S'
  bests' = record {
    b1e = λ w a n d. let t = o.b1e w a n d in (t.0, t.1, up-both-strike p s v k c (h.strike) (s.be w) w t.0 t.2, t.3, t.4, t.5, t.6, t.7, t.8);
    b2 = λ j w x e a d g. ⊎_elim (λ t. inl t) (⊎_elim (λ t. absurd (omega (arith, (h.idle).0))) (λ t. inr (inr t))) (o.b2 j w x e (dn0-strike p s v k c (h.strike) w j a) d g);
  }
    where
      o : Bests p s₁
      o = bests-same p s c' rep i.bests

  pub inv-again : Inv p S'
  inv-again = inv-strike i back (h.strike) awake (h.inside) (h.free) (suc v) c' pending' tests'
      (flow-open p s₂ s.te s.be s.fc (suc v) s.op s.oo (flow-strike p s₁ v k c (h.strike) (flow-take p s u k (h.took) (h.plain) (flow i))))
      testing' answers' bests'
