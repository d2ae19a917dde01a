-- Connect from u at v over the core k, of v's own level: v answers by Initiate of the next level, with k as identity, Find (`inv-core-reply`).
use Rattle.protocol.proofs.Prelude.{ℕ, ◌+◌, ◌≤◌, ◌<◌, arith, ◌≡◌, refl, sym, ap, subst, ◌∙◌, ◌≢◌, ◌⊎◌, inl, inr, ⊎_elim}
use Rattle.protocol.proofs.Prelude.{List, ◌∷◌, by-eq, sum_l}
use Rattle.protocol.proofs.Prelude.{Msg, connect, initiate, report}
use Rattle.protocol.proofs.Prelude.{Network, Edge, joins-lt, flip, other-end, ends-two, ProtocolState, Idle, send_over, pop}
use Rattle.protocol.proofs.Prelude.{is_c, is_i, is_t, is_a, is_r, is_k, In}
use Rattle.protocol.proofs.Prelude.{GL, GC, Inf, Jn, Half, Inv, mark-awake, in_sum}
use Rattle.protocol.proofs.Prelude.{connects-same, answers-same, testing-same, around-same, reports-same, owing-same, bests-same, inv-passing}
use Rattle.protocol.specs.Decisions.{HalfOk}
use Rattle.protocol.specs.Search.{LowOk}
use Rattle.protocol.specs.Traffic.{InitOk, Tokens, Initiates, Telling, Reports}
use Rattle.protocol_tell.proofs.Laws.{initiate-at, init-eq}
use Rattle.protocol_tell.proofs.Reply as Y
use Rattle.protocol_tell.proofs.CoreMarks as M

module _ {p : Network} {s : ProtocolState} (i : Inv p s) {u v k l : ℕ} {r : List Msg} (idle : Idle s) (ends : Edge p k u v) (awake : s.st v ≢ 0) (q : s.ch u k ≡ connect l ∷ r)
    (low : s.lev v ≤ l) (taken : s.mark v k ≢ 0) where
  abbrev S' : ProtocolState
  S' = send_over (pop s u k r) v k (initiate (s.lev v + 1) k 1)

  abbrev c' : ℕ → ℕ → List Msg
  c' = Y.replied i ends q (s.lev v + 1) k 1

  abbrev head : In (connect l) (s.ch u k)
  head = Y.calling i ends q (s.lev v + 1) k 1

  -- ---- the edge is the core, its ends are not informed yet

  abbrev mark-u : s.mark u k ≡ 1
  mark-u = M.mark-u i idle ends awake q low taken

  abbrev mark-v : s.mark v k ≡ 1
  mark-v = M.mark-v i idle ends awake q low taken

  joined : Jn s k u v
  joined = (mark-u, mark-v)

  inside : s.fr u ≡ s.fr v
  inside = i.markings.m3 k u v ends joined

  core : GC s u ≡ k
  core = (i.connects.c1 k u v l ends head mark-v).0

  level : l + 1 ≡ GL s u
  level = (i.connects.c1 k u v l ends head mark-v).1

  pub level-v : s.lev v ≡ l
  level-v = (i.connects.c1 k u v l ends head mark-v).2

  next : s.lev v + 1 ≡ GL s u
  next = omega (arith, level, level-v)

  -- u's Connect was there: u has not been told
  pub untold : (s.lev u < GL s u) × (¬ In (initiate (GL s u) k 1) (s.ch v k))
  untold = i.telling.t4n k u v ends joined core (in_sum is_c head)

  pub low-u : LowOk s.lev s.fr s.gl s.ib s.ub s.due k u
  low-u = i.kids.t4u k u v ends joined core untold.0

  pub low-v : LowOk s.lev s.fr s.gl s.ib s.ub s.due k v
  low-v = i.kids.t4u k v u (flip ends) (mark-v, mark-u) (sym (ap s.gc inside) ∙ core) (omega (arith, level, level-v, ap s.gl inside))

  pub no-init : (n g y : ℕ) → ¬ In (initiate n g y) (s.ch v k)
  no-init n g y h =
      let t = i.initiates.i1 k v u n g y (flip ends) h in
      let e : n ≡ GL s u = omega (arith, t.i1l, t.i1g, low-u.t4l) in
      untold.1 (subst (λ a. In (initiate a k 1) (s.ch v k)) e
      (subst (λ a. In (initiate n a 1) (s.ch v k)) (t.i1c e ∙ core) (subst (λ a. In (initiate n g a) (s.ch v k)) (t.i1d e ∙ low-u.t4d) h)))

  pub low-at : (w x : ℕ) → Edge p k w x → LowOk s.lev s.fr s.gl s.ib s.ub s.due k w
  low-at w x e = ⊎_elim (λ t. subst (λ a. LowOk s.lev s.fr s.gl s.ib s.ub s.due k a) t.0 low-u)
      (λ t. subst (λ a. LowOk s.lev s.fr s.gl s.ib s.ub s.due k a) t.1 low-v) (ends-two ends e)

  -- no Report is on the core: who would have sent it is not informed, and nobody's in-branch is the core
  pub no-report : (j w x n : ℕ) → Edge p j w x → In (report n) (s.ch w j) → k ≢ j
  no-report j w x n e h z =
      let d = subst (λ a. Edge p a w x) (sym z) e in
      let a = low-at w x d in
      let b = low-at x w (flip d) in
      ⊎_elim (λ t. omega (arith, t.0.1, a.t4l)) (⊎_elim (λ t. omega (arith, t.2.1, a.t4l)) (λ t. b.t4i (t.0 ∙ sym z))) (i.reports.r1 j w x n e h)

  -- ---- the new channels

  old : {y : Msg} (g : Msg → ℕ) → g (initiate (s.lev v + 1) k 1) ≡ 0 → 1 ≤ g y → (w j : ℕ) → In y (c' w j) → In y (s.ch w j)
  old = Y.old-reply i ends q (s.lev v + 1) k 1

  kept : {y : Msg} (g : Msg → ℕ) → g (connect l) ≡ 0 → 1 ≤ g y → (w j : ℕ) → In y (s.ch w j) → In y (c' w j)
  kept = Y.kept-reply i ends q (s.lev v + 1) k 1

  same : (g : Msg → ℕ) → g (initiate (s.lev v + 1) k 1) ≡ 0 → g (connect l) ≡ 0 → (w j : ℕ) → sum_l g (c' w j) ≡ sum_l g (s.ch w j)
  same = Y.same-reply i ends q (s.lev v + 1) k 1

  -- no end of k is half on it, and k is inbound for both
  whole : (w x : ℕ) → Edge p k w x → ¬ Half s w k
  whole w x e h = ⊎_elim (λ t. omega (arith, d.d1y, mark-v, ap (λ a. s.mark a k) t.1)) (λ t. omega (arith, d.d1y, mark-u, ap (λ a. s.mark a k) t.0)) (ends-two ends e)
    where
      d : HalfOk p s.fr s.gl s.lev s.ub s.mark k w x
      d = i.halves.d1 k w x e h

  tokens' : Tokens p S'
  tokens' = record {
    d1c = λ j z y e h. Y.hold i ends q (s.lev v + 1) k 1 z j (inr (λ d. whole z y (subst (λ a. Edge p a z y) (sym d) e) (subst (λ a. Half s z a) (sym d) h))) (i.tokens.d1c j z y e h);
    d1a = λ j z y e h. Y.all-reply i ends q (s.lev v + 1) k 1 z j (λ b d. whole z y (subst (λ a. Edge p a z y) (sym d) e) (subst (λ a. Half s z a) (sym d) h)) (i.tokens.d1a j z y e h);
    d2c = λ j w x e h. kept is_k refl (omega arith) w j (i.tokens.d2c j w x e h);
    k1 = λ j w x e h. i.tokens.k1 j w x e (old is_k refl (omega arith) w j h);
    d3r = λ j x y e h b. same is_r refl refl y j ∙ i.tokens.d3r j x y e h b;
    d4h = λ j x y e g d n h o. i.tokens.d4h j x y e g d n h (old is_r refl (omega arith) y j o);
    d4r = λ j x y e g d n h. kept is_r refl (omega arith) y j (i.tokens.d4r j x y e g d n h);
    d7 = λ j x y e g d h f. ⊎_elim (λ t. inl (omega (arith, same is_r refl refl x j)))
        (λ t. inr (t.0, t.1, t.2, omega (arith, t.3, same is_r refl refl y j))) (i.tokens.d7 j x y e g d h f);
  }

  fresh : InitOk p s.lev s.fr s.gl s.gc s.ub s.due s.mark k v u (s.lev v + 1) k 1
  fresh = record {
    i1j = (mark-v, mark-u);
    i1u = low-u.t4b;
    i1l = omega (arith, low-u.t4l, next);
    i1g = omega (arith, next);
    i1f = joins-lt ends;
    i1i = λ a b e. ⊎_elim (λ t. ap s.fr (sym t.0)) (λ t. ap s.fr (sym t.1) ∙ sym inside) (ends-two ends e);
    i1c = λ z. sym core;
    i1d = λ z. sym low-u.t4d;
    i1s = λ z n. absurd (n core);
    i1z = λ z. absurd (omega (arith, next));
  }

  initiates' : Initiates p S'
  initiates' = record {
    i1 = λ j w x a f b e h. ⊎_elim (λ o. i.initiates.i1 j w x a f b e o)
        (λ t. initiate-at (λ n m y. InitOk p s.lev s.fr s.gl s.gc s.ub s.due s.mark n m y) t.1 t.0 (other-end (flip ends) e t.0 t.1) t.2 fresh)
        (Y.was i ends q (s.lev v + 1) k 1 w j h);
  }

  telling' : Telling p S'
  telling' = record {
    u2 = λ j w c e b n. i.telling.u2 j w c e b n ∙ sym (Y.far-reply i ends q (s.lev v + 1) k 1 (s.lev c) w j (inr (λ z. n ((low-at w c (subst (λ a. Edge p a w c) (sym z) e)).t4b ∙ z))));
    t2i = λ j w c e b h n d. kept is_i refl (omega arith) w j (i.telling.t2i j w c e b h n d);
    t4 = λ j x y e b g. by-eq u x
        (λ a. by-eq k j
        (λ z. let o = other-end ends e a z in
        inr (inl (initiate-at (λ n m h c f d. In (initiate c f d) (S'.ch m n)) z o a (told x j (sym a) (sym z)) (Y.reply-in i ends q (s.lev v + 1) k 1))))
        (λ z. stays j x y e b g (inr z)))
        (λ a. stays j x y e b g (inl a));
    t4n = λ j x y e b g n.
        let d = Y.elsewhere i ends q (s.lev v + 1) k 1 x j n in
        let t = i.telling.t4n j x y e b g (omega (arith, Y.connects i ends q (s.lev v + 1) k 1 x j d)) in
        (t.0, λ o. ⊎_elim t.1 (λ h. ⊎_elim (λ a. a (other-end (flip ends) (flip e) h.0 h.1)) (λ a. a h.1) d) (Y.was i ends q (s.lev v + 1) k 1 y j o));
  }
    where
      told : (x j : ℕ) → x ≡ u → j ≡ k → initiate (GL s x) j 1 ≡ initiate (s.lev v + 1) k 1
      told x j a z = init-eq (ap (λ n. GL s n) a ∙ sym next) z refl

      stays : (j x y : ℕ) → Edge p j x y → Jn s j x y → GC s x ≡ j → (u ≢ x) ⊎ (k ≢ j) → (1 ≤ sum_l is_c (c' x j)) ⊎ (In (initiate (GL s x) j 1) (c' y j) ⊎ Inf s x)
      stays j x y e b g n = ⊎_elim (λ t. inl (omega (arith, Y.connects i ends q (s.lev v + 1) k 1 x j n)))
          (⊎_elim (λ t. inr (inl (kept is_i refl (omega arith) y j t))) (λ t. inr (inr t))) (i.telling.t4 j x y e b g)

  reports' : Reports p S'
  reports' = reports-same p s c'
      (λ j w x n e h. let d = no-report j w x n e (old is_r refl (omega arith) w j h) in around-same (Y.off-reply i ends q (s.lev v + 1) k 1 w j (inr d) (inr d)) h) i.reports

  pub inv-core-reply : Inv p S'
  inv-core-reply = inv-passing i c' (record {
    hush = Y.hush-reply i ends q (s.lev v + 1) k 1 awake (mark-awake i u k (λ z. omega (arith, mark-u)));
    tokens = tokens';
    connects = connects-same p s c' (λ w j n h. old is_c refl (omega arith) w j h) i.connects;
    initiates = initiates';
    telling = telling';
    reports = reports';
    owing = owing-same p s c' (same is_r refl refl) i.owing;
    ordered = Y.ordered-reply i ends q (s.lev v + 1) k 1 no-init;
  })
      (testing-same p s c' (λ w j n f h. old is_t refl (omega arith) w j h) (same is_t refl refl) (same is_a refl refl) i.testing)
      (answers-same p s c' (λ w j h. old is_a refl (omega arith) w j h) (λ w j h. old is_a refl (omega arith) w j h) i.answers)
      (bests-same p s c' (same is_r refl refl) i.bests)
