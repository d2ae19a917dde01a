-- Report w from u at v over v's in-branch k, v not Find, w not later than v's best: nothing but the Report goes (`inv-core-nothing`).
use Rattle.protocol.proofs.Prelude.{ℕ, ◌≤◌, ◌<◌, arith, ◌≡◌, refl, sym, ap, subst, ◌∙◌, ◌≢◌, ◌⊎◌, inl, inr, ⊎_elim, by-eq}
use Rattle.protocol.proofs.Prelude.{List, ◌∷◌, upd2, sum_l, Msg, none, report}
use Rattle.protocol.proofs.Prelude.{Network, Edge, key, flip, ends-two, other-end, ends-irr, key-none, key-edge, rank_lt, rank-inj, ProtocolState, Idle, pop}
use Rattle.protocol.proofs.Prelude.{is_r, arg1, kinds, In, else_same, pop-in, in-pop, pop-le, pop-all}
use Rattle.protocol.proofs.Prelude.{GC, DK, Inf, Jn, Outst, Counting, CoreEnds, Inv, inf-cases, joined-level, up-other, reports-same, take-alike, inv-passing, outst-ch, counting-ch, last-case}
use Rattle.protocol.specs.Traffic.{Tokens, Owing, Bests}
use Rattle.protocol_core.proofs.Late.{Kept, late-report, late-kept}
use Rattle.protocol_core.proofs.Core as C

module _ {p : Network} {s : ProtocolState} (i : Inv p s) {u v k w : ℕ} {r : List Msg} (idle : Idle s) (ends : Edge p k u v) (q : s.ch u k ≡ report w ∷ r)
    (ib : s.ib v ≡ k) (found : s.st v ≢ 1) (le : key p w ≤ key p (s.bw v)) (some : (w ≢ none) ⊎ (s.bw v ≢ none)) where
  abbrev S' : ProtocolState
  S' = pop s u k r

  abbrev c' : ℕ → ℕ → List Msg
  c' = upd2 s.ch u k r

  others : Kept p S'
  others = late-kept i q (late-report w) s.bw s.be s.fc s.halt s.dk s.dn s.owe s.op s.oo

  -- w is an edge
  pub w-some : w ≢ none
  w-some z = ⊎_elim (λ n. n z) (λ n. let l = i.values.w1w v n in omega (arith, key-none p, ap (key p) z, key-edge p (s.bw v) l, rank_lt p (s.bw v) l)) some

  -- the ends of the core never have the same best weight: its inner end has one side
  pub report-earlier : CoreEnds s u v k w → key p w < key p (s.bw v)
  report-earlier c = by-eq (key p w) (key p (s.bw v)) (λ z. absurd (equal z)) (λ n. omega arith)
    where
      iu : Inf s u
      iu = C.inf-u i ends q idle found c

      iv : Inf s v
      iv = C.inf-v i ends q idle found c

      bu : s.bw u ≡ w
      bu = C.best-u i ends q idle found c

      equal : key p w ≡ key p (s.bw v) → ⊥
      equal z =
          let lw = i.reports.r1r k u v w ends (C.report-in i ends q) w-some in
          let n : s.bw v ≢ none = λ o. omega (arith, ap (key p) o, key-none p, key-edge p w lw, rank_lt p w lw) in
          let lv = i.values.w1w v n in
          let e : w ≡ s.bw v = rank-inj p w (s.bw v) lw lv (omega (arith, key-edge p w lw, key-edge p (s.bw v) lv)) in
          let a = i.weights.b1 u iu (λ o. w-some (sym bu ∙ o)) in
          let b = i.weights.b1 v iv n in
          let x : a.0 ≡ b.0 = inner (s.bw u) a.0 a.1 b.0 b.1 a.2 (subst (λ j. Edge p j b.0 b.1) (sym (bu ∙ e)) b.2) a.3 b.4 in
          ends-irr p ends (sym (i.parents.t1d u iu (C.ib-u i ends q idle found c ∙ sym (C.core-u i ends q idle found c))).1
          ∙ sym a.7 ∙ ap s.side x ∙ b.7 ∙ (i.parents.t1d v iv (C.ib-v i ends q idle found c ∙ sym (C.core-v i ends q idle found c))).1)
        where
          inner : (j x y x' y' : ℕ) → Edge p j x y → Edge p j x' y' → s.fr x ≡ s.fr u → s.fr y' ≢ s.fr v → x ≡ x'
          inner j x y x' y' e f g h = ⊎_elim (λ t. t.0) (λ t. absurd (h (ap s.fr (sym t.0) ∙ g ∙ C.report-inside i ends q))) (ends-two e f)

  -- at an undecided core it is a core end's
  pub at-core : GC s v ≡ k → DK s v ≡ 0 → CoreEnds s u v k w
  at-core g d = inf-cases i v
      (λ h. i.reports.r1c k u v w ends (C.report-in i ends q) h d g)
      (λ l. absurd ((i.kids.t4u k v u (flip ends) jn g l).t4i ib))
      (λ z. absurd (omega (arith, joined-level i k v u (flip ends) jn)))
    where
      jn : Jn s k v u
      jn = let t = C.report-joined i ends q in (t.1, t.0)

  -- v's own Report waits then
  pub own-waits : CoreEnds s u v k w → 1 ≤ sum_l is_r (s.ch v k)
  own-waits c = ⊎_elim (λ t. t) (λ t. absurd (omega (arith, t.2, le, ap (key p) (C.best-u i ends q idle found c))))
      (i.tokens.d7 k v u (flip ends) (C.core-v i ends q idle found c) (C.core-undecided i ends q idle found c) (C.inf-v i ends q idle found c) (C.found-v i ends q idle found c))

  -- the channels but that one are as they were
  off : (x j : ℕ) → (u ≢ x) ⊎ (k ≢ j) → c' x j ≡ s.ch x j
  off x j n = else_same s.ch u k r x j n

  split : {C : Type 0} (x j : ℕ) → (u ≡ x → k ≡ j → C) → (c' x j ≡ s.ch x j → C) → C
  split x j y n = by-eq u x (λ a. by-eq k j (λ b. y a b) (λ d. n (off x j (inr d)))) (λ d. n (off x j (inl d)))

  not-head : {x : Msg} → x ≢ report w → (a j : ℕ) → In x (s.ch a j) → In x (c' a j)
  not-head n a j o = in-pop s.ch u k q a j n o

  tokens' : Tokens p S'
  tokens' = record {
    d1c = λ j z y e t. not-head (kinds (λ a. omega arith)) z j (i.tokens.d1c j z y e t);
    d1a = λ j z y e t. pop-all s.ch u k q z j (i.tokens.d1a j z y e t);
    d2c = λ j a x e t. not-head (kinds (λ z. omega arith)) a j (i.tokens.d2c j a x e t);
    k1 = λ j a x e n. i.tokens.k1 j a x e (pop-in s.ch u k q a j n);
    d3r = λ j x y e t b. omega (arith, pop-le s.ch u k q is_r y j, i.tokens.d3r j x y e t b);
    d4h = λ j x y e g d l t n. i.tokens.d4h j x y e g d l t (pop-in s.ch u k q y j n);
    d4r = λ j x y e g d l t. not-head (λ z. w-some (sym (ap arg1 z))) y j (i.tokens.d4r j x y e g d l t);
    d7 = λ j x y e g d h f. split x j
        (λ a b. inr (from-u j x y e a b g d))
        (λ o. ⊎_elim (λ t. inl (subst (λ l. 1 ≤ sum_l is_r l) (sym o) t))
        (λ t. split y j (λ a b. absurd (to-v j x y e a b g d t.2)) (λ z. inr (t.0, t.1, t.2, subst (λ l. 1 ≤ sum_l is_r l) (sym z) t.3)))
        (i.tokens.d7 j x y e g d h f));
  }
    where
      -- x is u: the other end's own Report waits
      from-u : (j x y : ℕ) → Edge p j x y → u ≡ x → k ≡ j → GC s x ≡ j → DK s x ≡ 0 → Inf s y × (s.st y ≡ 2) × (key p (s.bw x) < key p (s.bw y)) × (1 ≤ sum_l is_r (c' y j))
      from-u j x y e a b g d =
          let f = C.report-inside i ends q in
          let c = at-core (sym (ap s.gc f) ∙ ap (λ z. GC s z) a ∙ g ∙ sym b) (sym (ap s.dk f) ∙ ap (λ z. DK s z) a ∙ d) in
          subst (λ y. Inf s y × (s.st y ≡ 2) × (key p (s.bw x) < key p (s.bw y)) × (1 ≤ sum_l is_r (c' y j))) (other-end ends e a b) (
            C.inf-v i ends q idle found c,
            C.found-v i ends q idle found c,
            omega (arith, report-earlier c, ap (key p) (sym (ap s.bw a) ∙ C.best-u i ends q idle found c)),
            subst (λ n. 1 ≤ sum_l is_r (c' v n)) b (subst (λ l. 1 ≤ sum_l is_r l) (sym (off v k (inl (ends-irr p ends)))) (own-waits c)),
          )

      -- y is u: its best is not the later one
      to-v : (j x y : ℕ) → Edge p j x y → u ≡ y → k ≡ j → GC s x ≡ j → DK s x ≡ 0 → key p (s.bw x) < key p (s.bw y) → ⊥
      to-v j x y e a b g d l =
          let z = other-end ends (flip e) a b in
          let c = at-core (ap (λ n. GC s n) z ∙ g ∙ sym b) (ap (λ n. DK s n) z ∙ d) in
          omega (arith, le, ap (λ n. key p (s.bw n)) z, ap (key p) (sym (ap s.bw a) ∙ C.best-u i ends q idle found c))

  owing' : Owing p S'
  owing' = record {
    f4y = λ j a c e n. let t = i.owing.f4y j a c e n in (t.0, t.1, t.2, outst j a c e t.2 t.3);
    f4n = λ j a c e h b n o. i.owing.f4n j a c e h b n (outst-ch S' s.ch c j (λ l. omega (arith, pop-le s.ch u k q is_r c j)) o);
  }
    where
      -- nobody is counted over the in-branch
      outst : (j a c : ℕ) → Edge p j a c → s.ib a ≢ j → Outst s c j → Outst S' c j
      outst j a c e n o = split c j
          (λ x y. absurd (n (sym (ap s.ib (other-end ends (flip e) x y)) ∙ ib ∙ y)))
          (λ z. outst-ch s c' c j (λ r. subst (λ l. 1 ≤ sum_l is_r l) (sym z) r) o)

  bests' : Bests p S'
  bests' = record {
    b1e = λ a h n d. let t = i.bests.b1e a h n d in
        (t.0, t.1, t.2, t.3, t.4, t.5, t.6, t.7, omega (arith, pop-le s.ch u k q is_r t.0 (s.be a), t.8));
    b2 = λ j a b e m d g. last-case (λ t. (t.0, t.1, t.2, t.3, live t.0 t.2 t.4, t.5)) (i.bests.b2 j a b e m d g);
  }
    where
      -- a core end counts without its Report
      live : (x : ℕ) → Inf s x → Counting s x → Counting S' x
      live x h = counting-ch s c' x (λ l. split x (s.ib x)
          (λ a b. by-eq (s.ib x) (GC s x) (λ g. inr (inl g))
          (λ n. let e = subst (λ j. Edge p j x v) b (subst (λ z. Edge p k z v) a ends) in absurd (up-other i (s.ib x) x v e h refl (λ g. n (sym g)) (ib ∙ b))))
          (λ z. inr (inr (subst (λ l. 1 ≤ sum_l is_r l) (sym z) l))))

  pub inv-core-nothing : Inv p S'
  inv-core-nothing = inv-passing i c' (record {
    hush = others.hush;
    tokens = tokens';
    connects = others.connects;
    initiates = others.initiates;
    telling = others.telling;
    reports = reports-same p s c' (take-alike p s u k q refl) i.reports;
    owing = owing';
    ordered = others.ordered;
  }) others.testing others.answers bests'
