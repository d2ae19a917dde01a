-- Report none from u at v over v's in-branch k, v not Find with best none: v halts, and the fragment is finished (`inv-core-halt`).
use Rattle.protocol.proofs.Prelude.{ℕ, ◌≤◌, arith, ◌≡◌, refl, sym, ap, subst, ◌∙◌, ◌≢◌, inl, inr, ⊎_elim, by-eq}
use Rattle.protocol.proofs.Prelude.{List, ◌∷◌, upd, upd-elim, upd_same, upd_other, upd2, Msg, none, report}
use Rattle.protocol.proofs.Prelude.{Network, Edge, key, flip, same-edge, ends-irr, ProtocolState, Idle, pop, set-halt, set-dk}
use Rattle.protocol.proofs.Prelude.{is_r, In, else_same, pop-in, pop-bef, none_in, some-report}
use Rattle.protocol.proofs.Prelude.{GL, GC, DK, Inf, CoreEnds, Spent, Inv, joined-level, decided-find, decided-report, no-root}
use Rattle.protocol_core.proofs.Late.{late-report}
use Rattle.protocol_core.proofs.Core as C
use Rattle.protocol_core.proofs.Rule.{FragmentDone, Ruling, inv-rule}

-- the fragment of the core end v is finished, or about to be; u is the other end, c' are the channels, S' the state afterwards
record Ending (p : Network) (s : ProtocolState) (u v k : ℕ) (c' : ℕ → ℕ → List Msg) (S' : ProtocolState) : Type 0 where
  core : GC s v ≡ k
  fresh : DK s v ≢ 3
  changing : DK s v ≢ 2
  -- nobody is Find or due, nothing is Basic, both ends are informed and found nothing
  no-find : (x : ℕ) → s.fr x ≡ s.fr v → s.st x ≢ 1
  no_due : (x : ℕ) → s.fr x ≡ s.fr v → s.due x ≡ 0
  tight : (j x y : ℕ) → Edge p j x y → s.fr x ≡ s.fr v → s.mark x j ≢ 0
  end-u : Inf s u × (s.bw u ≡ none)
  end-v : Inf s v × (s.bw v ≡ none)
  -- u has halted, or v's Report of none waits, and not both
  halt-no : s.halt u ≢ 0 → ¬ In (report none) (s.ch v k)
  halt-yes : s.halt u ≡ 0 → In (report none) (s.ch v k)
  -- every Report that is left is spent
  spent : (j a b n : ℕ) → Edge p j a b → s.fr a ≡ s.fr v → In (report n) (c' a j) → Spent p S' a b j n

module _ {p : Network} {s : ProtocolState} (i : Inv p s) {u v k w : ℕ} {r : List Msg} (idle : Idle s) (ends : Edge p k u v) (q : s.ch u k ≡ report w ∷ r)
    (ib : s.ib v ≡ k) (found : s.st v ≢ 1) (wn : w ≡ none) (bn : s.bw v ≡ none) where
  abbrev S' : ProtocolState
  S' = set-halt (set-dk (pop s u k r) (upd s.dk (s.fr v) 4)) (upd s.halt v 1)

  abbrev c' : ℕ → ℕ → List Msg
  c' = upd2 s.ch u k r

  inside : s.fr u ≡ s.fr v
  inside = C.report-inside i ends q

  dk-in : (x : ℕ) → s.fr x ≡ s.fr v → DK S' x ≡ 4
  dk-in x e = ap S'.dk e ∙ upd_same s.dk (s.fr v) 4

  -- what is spent already stays so
  still : (j a b n : ℕ) → Edge p j a b → s.fr a ≡ s.fr v → In (report n) (c' a j) → Spent p s a b j n → Spent p S' a b j n
  still j a b n e f o t = (
    t.0,
    t.1,
    t.2,
    t.3,
    λ m z. t.4 m (pop-bef s.ch u k q a j z),
    ⊎_elim (λ l. inl l) (λ l. inr (l.0, l.1, dk-in b (sym (i.markings.m3 j a b e (i.reports.r1j j a b n e (pop-in s.ch u k q a j o))) ∙ f), l.3)) t.5,
  )

  -- the fragment is undecided: v's own Report waits, and says none
  ending-core : CoreEnds s u v k w → Ending p s u v k c' S'
  ending-core c = record {
    core = C.core-v i ends q idle found c;
    fresh = λ z. omega (arith, C.core-undecided i ends q idle found c);
    changing = λ z. omega (arith, C.core-undecided i ends q idle found c);
    no-find = C.none-find i ends q idle found c;
    no_due = C.none-due i ends q idle found c;
    tight = λ j x y e f m. let t = C.basic-bound i ends q idle found c x j y f e m in t.2 (⊎_elim (λ z. ap s.bw z ∙ bu) (λ z. ap s.bw z ∙ bn) t.1);
    end-u = (C.inf-u i ends q idle found c, bu);
    end-v = (C.inf-v i ends q idle found c, bn);
    halt-no = λ n. absurd (omega (arith, i.finishes.d6 u n, c.1));
    halt-yes = λ z. own;
    spent = λ j a b n e f o. ⊎_elim
        (λ t. subst (λ x. Spent p S' x b j n) (sym t.0) (subst (λ x. Spent p S' v x j n) (sym t.1) (subst (λ x. Spent p S' v u x n) (sym t.2) (own-spent n t.3))))
        (still j a b n e f o)
        (C.report-left i ends q idle found c j a b n e f o);
  }
    where
      bu : s.bw u ≡ none
      bu = C.best-u i ends q idle found c ∙ wn

      own : In (report none) (s.ch v k)
      own =
          let l = ⊎_elim (λ t. t) (λ t. absurd (omega (arith, t.2, ap (key p) bu, ap (key p) bn)))
          (i.tokens.d7 k v u (flip ends) (C.core-v i ends q idle found c) (C.core-undecided i ends q idle found c) (C.inf-v i ends q idle found c) (C.found-v i ends q idle found c)) in
          let o = some-report (s.ch v k) l in
          let b = (i.reports.r1c k v u o.0 (flip ends) o.1 (C.inf-u i ends q idle found c) c.1 (C.core-u i ends q idle found c)).4 in
          subst (λ n. In (report n) (s.ch v k)) (sym b ∙ bn) o.1

      own-spent : (n : ℕ) → s.bw v ≡ n → Spent p S' v u k n
      own-spent n z =
          let t = C.own-spent i ends q idle found c S'.dk n (inr (sym z ∙ bn, bu, dk-in u inside, C.core-u i ends q idle found c)) in
          (t.0, t.1, t.2, t.3, λ m b. t.4 m (pop-bef s.ch u k q v k b), t.5)

  -- the fragment is finished already
  ending-spent : Spent p s u v k w → Ending p s u v k c' S'
  ending-spent t = record {
    core = over.1;
    fresh = λ z. omega (arith, over.0);
    changing = λ z. omega (arith, over.0);
    no-find = λ x e. decided-find i x (dk-of x e);
    no_due = λ x e. i.finishes.d5 x (dk-of x e);
    tight = λ j x y e f. i.finishes.d4 j x y e (ap s.dk f ∙ over.0);
    end-u = i.finishes.d4i k u v ends (ap s.gc inside ∙ over.1) (ap s.dk inside ∙ over.0) level-u;
    end-v = i.finishes.d4i k v u (flip ends) over.1 over.0 (omega (arith, ap s.gl inside, level-u));
    halt-no = i.tokens.d4h k u v ends (ap s.gc inside ∙ over.1) (ap s.dk inside ∙ over.0) level-u;
    halt-yes = i.tokens.d4r k u v ends (ap s.gc inside ∙ over.1) (ap s.dk inside ∙ over.0) level-u;
    spent = λ j a b n e f o.
        let l = pop-in s.ch u k q a j o in
        still j a b n e f o (decided-report i j a b n e (dk-of b (sym (i.markings.m3 j a b e (i.reports.r1j j a b n e l)) ∙ f)) l);
  }
    where
      over : (DK s v ≡ 4) × (GC s v ≡ k)
      over = ⊎_elim (λ l. absurd (omega (arith, ap (key p) wn, ap (key p) bn))) (λ l. (l.2, l.3)) t.5

      dk-of : (x : ℕ) → s.fr x ≡ s.fr v → DK s x ≢ 0
      dk-of x e z = omega (arith, ap s.dk e, over.0)

      level-u : 1 ≤ GL s u
      level-u = joined-level i k u v ends (C.report-joined i ends q)

  ending : Ending p s u v k c' S'
  ending = ⊎_elim ending-core ending-spent (C.core-or-spent i ends q found)

  -- v halts, nobody else
  halt-off : (x : ℕ) → v ≢ x → S'.halt x ≡ s.halt x
  halt-off x n = upd_other s.halt v 1 x n

  -- a core end of the fragment is u or v
  at-end : (P : ℕ → ℕ → ℕ → Type 0) (j x y : ℕ) → Edge p j x y → s.fr x ≡ s.fr v → GC s x ≡ j → P k u v → P k v u → P j x y
  at-end P j x y e f g a b =
      let z : j ≡ k = sym g ∙ ap s.gc f ∙ ending.core in
      subst (λ n. P n x y) (sym z) (⊎_elim
      (λ t. subst (λ n. P k n y) (sym t.0) (subst (λ n. P k u n) (sym t.1) a))
      (λ t. subst (λ n. P k n y) (sym t.0) (subst (λ n. P k v n) (sym t.1) b))
      (same-edge e ends z))

  v≢u : v ≢ u
  v≢u = ends-irr p (flip ends)

  own-off : c' v k ≡ s.ch v k
  own-off = else_same s.ch u k r v k (inl (λ z. v≢u (sym z)))

  done : FragmentDone p s v S'.halt c'
  done = record {
    tight = ending.tight;
    nothing = λ j x y e f g. at-end (λ j x y. Inf s x × (s.bw x ≡ none)) j x y e f g ending.end-u ending.end-v;
    halted = λ j x y e f. upd-elim (λ a. a ≢ 0 → (z : ℕ) × Edge p (GC s x) x z) s.halt v 1 x
        (λ z n. (u, subst (λ a. Edge p (GC s a) a u) z (subst (λ a. Edge p a v u) (sym ending.core) (flip ends))))
        (λ d n. i.finishes.d6c j x y e n);
    halt-no = λ j x y e f g. at-end (λ j x y. S'.halt x ≢ 0 → ¬ In (report none) (c' y j)) j x y e f g
        (λ n o. ending.halt-no (λ z. n (halt-off u v≢u ∙ z)) (subst (λ l. In (report none) l) own-off o))
        (λ n o. omega (arith, none_in is_r (C.silent i ends q) o));
    halt-yes = λ j x y e f g. at-end (λ j x y. S'.halt x ≡ 0 → In (report none) (c' y j)) j x y e f g
        (λ z. subst (λ l. In (report none) l) (sym own-off) (ending.halt-yes (sym (halt-off u v≢u) ∙ z)))
        (λ z. absurd (omega (arith, upd_same s.halt v 1)));
  }

  no-root-left : (x : ℕ) → DK S' x ≢ 1
  no-root-left x z = by-eq (s.fr v) (s.fr x)
      (λ e. omega (arith, dk-in x (sym e)))
      (λ n. no-root i x idle.2 (sym (upd_other s.dk (s.fr v) 4 (s.fr x) n) ∙ z))

  ruling : Ruling p s u v k r 4 s.dn S'.halt s.oo
  ruling = record {
    inside = inside;
    level = ending.end-v.0.0;
    fresh = ending.fresh;
    no-find = ending.no-find;
    no_due = ending.no_due;
    dn-off = λ x n. refl;
    halt-off = λ x n. halt-off x (λ z. n (ap s.fr z));
    halt-le = λ x. upd-elim (λ a. a ≤ 1) s.halt v 1 x (λ z. omega arith) (λ n. i.ranges.halt-le x);
    verdict = inr (refl, done);
    rootings = record {
      d3f = λ x z. absurd (no-root-left x z);
      d3o = λ x z. absurd (no-root-left x z);
      f5r = λ x z. absurd (omega (arith, idle.2));
      d3 = λ x t. absurd (no-root-left x t.0);
    };
    no-report = λ j x y e t z. absurd (no-root-left x t.0);
    no-token = λ j x y e f o. ending.changing (sym (ap s.dk f) ∙ (i.tokens.k1 j x y e (pop-in s.ch u k q x j o)).0);
    spent = ending.spent;
  }

  pub inv-core-halt : Inv p S'
  inv-core-halt = inv-rule i q (late-report w) ruling
