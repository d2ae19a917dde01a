-- A put-back keeps the invariant: the head m of the channel from u over k, which v would put back, goes to a later place (`inv-back`).
use Rattle.protocol.proofs.Prelude.{ℕ, ◌≤◌, arith, ◌≡◌, refl, sym, subst, ◌∙◌, ◌≢◌, inl, inr, ⊎_elim}
use Rattle.protocol.proofs.Prelude.{List, [], ◌∷◌, ◌++◌, upd2-elim, sum_l}
use Rattle.protocol.proofs.Prelude.{Msg, connect, initiate, test, accept, reject, report, change}
use Rattle.protocol.proofs.Prelude.{Network, Edge, ProtocolState, Idle, Blocked, pop}
use Rattle.protocol.proofs.Prelude.{is_c, is_i, is_ci, is_t, is_a, is_r, Only, Fits, top, rot-top, fits-test, fits-report}
use Rattle.protocol.proofs.Prelude.{In, Bef, bef-behind, all_in, pop-head, rot, rot-in, in-rot, rot-bef, rot-sum, rot-all}
use Rattle.protocol.proofs.Prelude.{GL, Inv, half_at, up-other, kinds, none_in, at2, in-nil, Alike, owing-same, bests-same, connects-same, initiates-same, answers-same, testing-same, reports-same, inv-passing}
use Rattle.protocol.specs.Traffic.{Tokens, Telling, Ordered}

-- what is put back is no Initiate
pub not-initiate : (s : ProtocolState) (v k : ℕ) (m : Msg) → Blocked s v k m → is_i m ≡ 0
not-initiate s v k (connect l) h = refl
not-initiate s v k (initiate l f x) h = absurd h
not-initiate s v k (test l f) h = refl
not-initiate s v k accept h = refl
not-initiate s v k reject h = refl
not-initiate s v k (report w) h = refl
not-initiate s v k change h = refl

module _ {p : Network} {s : ProtocolState} (i : Inv p s) {u v k : ℕ} {m : Msg} (a b : List Msg) (idle : Idle s) (ends : Edge p k u v) (awake : s.st v ≢ 0)
    (q : s.ch u k ≡ m ∷ (a ++ b)) (blocked : Blocked s v k m) where
  abbrev S' : ProtocolState
  S' = pop s u k (a ++ (m ∷ b))

  abbrev c' : ℕ → ℕ → List Msg
  c' = rot s.ch u k a b q

  old : {x : Msg} (w j : ℕ) → In x (c' w j) → In x (s.ch w j)
  old w j h = rot-in s.ch u k a b q w j h

  new : {x : Msg} (w j : ℕ) → In x (s.ch w j) → In x (c' w j)
  new w j h = in-rot s.ch u k a b q w j h

  same : (f : Msg → ℕ) (w j : ℕ) → sum_l f (c' w j) ≡ sum_l f (s.ch w j)
  same f w j = rot-sum s.ch u k a b q f w j

  -- the level at the far end
  far : (n w j : ℕ) → top n (c' w j) ≡ top n (s.ch w j)
  far = rot-top s.ch u k m (not-initiate s v k m blocked) a b q

  -- a blocked Connect is alone but for answers
  alone : (l : ℕ) (x : Msg) → s.lev v ≤ l → s.mark v k ≡ 0 → In (connect l) (s.ch u k) → In x (s.ch u k) → Only (GL s u) x
  alone l x h z n o = all_in (i.tokens.d1a k u v ends (half_at i k u v ends (i.connects.c1m k u v l ends n) z)) o

  -- what may stand behind m may stand before it
  turn : (y x : Msg) → Blocked s v k y → In y (s.ch u k) → In x (s.ch u k) → Fits y x → Fits x y
  turn (connect l) (connect n) h d o f = absurd (omega arith)
  turn (connect l) accept h d o f = refl
  turn (connect l) reject h d o f = refl
  turn (connect l) (initiate n g z) h d o f = absurd (alone l (initiate n g z) h.0 h.1 d o)
  turn (connect l) (test n g) h d o f = absurd (alone l (test n g) h.0 h.1 d o)
  turn (connect l) (report w) h d o f = absurd (alone l (report w) h.0 h.1 d o)
  turn (connect l) change h d o f = absurd (alone l change h.0 h.1 d o)
  turn (test l g) x h d o f = fits-test l g x f
  turn (report w) x h d o f = fits-report w x f
  turn (initiate l g z) x h d o f = absurd h
  turn accept x h d o f = absurd h
  turn reject x h d o f = absurd h
  turn change x h d o f = absurd h

  -- m behind a Report is neither Connect nor Initiate
  behind : (y : Msg) (w : ℕ) → Blocked s v k y → In y (s.ch u k) → In (report w) (s.ch u k) → is_ci y ≡ 0
  behind (connect l) w h d o = absurd (alone l (report w) h.0 h.1 d o)
  behind (initiate l f x) w h d o = absurd h
  behind (test l f) w h d o = refl
  behind accept w h d o = refl
  behind reject w h d o = refl
  behind (report x) w h d o = refl
  behind change w h d o = refl

  -- a blocked Report is a core end's, and nothing else is with it
  free : (y : Msg) (w : ℕ) → Blocked s v k y → In y (s.ch u k) → report w ≡ y → sum_l is_ci (s.ch u k) ≡ 0
  free (report w) z h d e = ⊎_elim
      (λ t. absurd (up-other i k u v ends t.0 t.1 t.2 h.0))
      (⊎_elim
      (λ t. ⊎_elim (λ r. r.1) (λ r. absurd (omega (arith, r.0, (i.finds.f1 v h.1).f1i.1))) t.6)
      (λ t. absurd (omega (arith, t.3, h.1))))
      (i.reports.r1 k u v w ends d)
  free (connect l) z h d e = absurd (kinds (λ n. omega arith) e)
  free (test l f) z h d e = absurd (kinds (λ n. omega arith) e)
  free (initiate l f x) z h d e = absurd h
  free accept z h d e = absurd h
  free reject z h d e = absurd h
  free change z h d e = absurd h

  head : In m (s.ch u k)
  head = pop-head s.ch u k q

  alike : Alike p s c'
  alike j w v n e o = record {
    was = old w j o;
    call-sum = same is_ci w j;
    in-init = λ l f x h. new w j h;
    behind = λ y h. ⊎_elim (λ o. inl o)
        (λ t. inr (subst (λ z. is_ci z ≡ 0) (sym t.2) (behind m n blocked head (at w j t.0 t.1 (bef-behind t.3)))))
        (rot-bef s.ch u k a b q w j h);
    ahead = λ y h. ⊎_elim (λ o. inl o)
        (λ t. inr (none_in is_ci (free m n blocked head t.2) (at w j t.0 t.1 (bef-behind t.3))))
        (rot-bef s.ch u k a b q w j h);
  }
    where
      at : {x : Msg} (w j : ℕ) → u ≡ w → k ≡ j → In x (s.ch w j) → In x (s.ch u k)
      at {x} w j e f h = subst (λ l. In x l) (sym (at2 s.ch e f)) h

  silent : (w j : ℕ) → s.ch w j ≡ [] → c' w j ≡ []
  silent w j h = upd2-elim (λ l. l ≡ []) s.ch u k (a ++ (m ∷ b)) w j
      (λ e f. absurd (in-nil (subst (λ l. In m l) (at2 s.ch e f ∙ h) head))) (λ d. h)

  tokens' : Tokens p S'
  tokens' = record {
    d1c = λ k z y e h. new z k (i.tokens.d1c k z y e h);
    d1a = λ j z y e h. rot-all s.ch u k a b q z j (i.tokens.d1a j z y e h);
    d2c = λ k u x e h. new u k (i.tokens.d2c k u x e h);
    k1 = λ k u x e h. i.tokens.k1 k u x e (old u k h);
    d3r = λ k x y e h r. same is_r y k ∙ i.tokens.d3r k x y e h r;
    d4h = λ k x y e g d l h n. i.tokens.d4h k x y e g d l h (old y k n);
    d4r = λ k x y e g d l h. new y k (i.tokens.d4r k x y e g d l h);
    d7 = λ k x y e g d h f. ⊎_elim (λ t. inl (omega (arith, same is_r x k))) (λ t. inr (t.0, t.1, t.2, omega (arith, t.3, same is_r y k))) (i.tokens.d7 k x y e g d h f);
  }

  telling' : Telling p S'
  telling' = record {
    u2 = λ k v c e j n. i.telling.u2 k v c e j n ∙ sym (far (s.lev c) v k);
    t2i = λ k v c e j h n l. new v k (i.telling.t2i k v c e j h n l);
    t4 = λ k x y e j g. ⊎_elim (λ t. inl (omega (arith, same is_c x k))) (λ r. inr (⊎_elim (λ t. inl (new y k t)) (λ t. inr t) r)) (i.telling.t4 k x y e j g);
    t4n = λ k x y e j g n. let t = i.telling.t4n k x y e j g (omega (arith, same is_c x k)) in (t.0, λ o. t.1 (old y k o));
  }

  ordered' : Ordered p S'
  ordered' = record {
    q1 = λ j w z x y e h. ⊎_elim (λ o. i.ordered.q1 j w z x y e o)
        (λ t. let o = subst (λ l. Bef m x l) (sym (at2 s.ch t.0 t.1)) t.3 in
        subst (λ r. Fits x r) (sym t.2) (turn m x blocked head (bef-behind o) (i.ordered.q1 k u v m x ends o)))
        (rot-bef s.ch u k a b q w j h);
  }

  pub inv-back : Inv p S'
  inv-back = inv-passing i c' (record {
    hush = record { g6o = λ k v u e z. silent v k (i.hush.g6o k v u e z); g6i = λ j w x e z. rot-all s.ch u k a b q w j (i.hush.g6i j w x e z) };
    tokens = tokens';
    connects = connects-same p s c' (λ w j l h. old w j h) i.connects;
    initiates = initiates-same p s c' (λ w j l f x h. old w j h) i.initiates;
    telling = telling';
    reports = reports-same p s c' alike i.reports;
    owing = owing-same p s c' (same is_r) i.owing;
    ordered = ordered';
  })
      (testing-same p s c' (λ w j l f h. old w j h) (same is_t) (same is_a) i.testing)
      (answers-same p s c' (λ w j h. old w j h) (λ w j h. old w j h) i.answers)
      (bests-same p s c' (same is_r) i.bests)
