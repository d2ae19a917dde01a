-- The Connect at the head of the channel from u over k is taken, and v answers it by Initiate (a, f, x) over k: the channels (`reply-in`, `same-reply`,
-- `order-reply`).
use Rattle.protocol.proofs.Prelude.{ℕ, ◌≤◌, arith, ◌≡◌, refl, sym, ap, subst, ◌∙◌, ◌≢◌, ◌⊎◌, inl, inr, ⊎_elim}
use Rattle.protocol.proofs.Prelude.{List, [], ◌∷◌, upd2, by-eq, All, sum_l}
use Rattle.protocol.proofs.Prelude.{Msg, connect, initiate}
use Rattle.protocol.proofs.Prelude.{Network, Edge, flip, other-end, ProtocolState, set-ch}
use Rattle.protocol.proofs.Prelude.{is_c, Fits, top, top-app, pop-top}
use Rattle.protocol.proofs.Prelude.{In, Bef, in-nil, at2, else_same, here-new, pop-head, pop-in, in-pop, pop-bef, pop-sum, pop-all}
use Rattle.protocol.proofs.Prelude.{snoc, snoc-elim, snoc-in, in-snoc2, in-new, snoc-bef, snoc-sum, snoc-else, snoc-all}
use Rattle.protocol.proofs.Prelude.{Inv, rest-none, fits-initiate}
use Rattle.protocol.specs.Traffic.{Hush, Ordered}

module _ {p : Network} {s : ProtocolState} (i : Inv p s) {u v k l : ℕ} {r : List Msg} (ends : Edge p k u v) (q : s.ch u k ≡ connect l ∷ r) (a f x : ℕ) where
  abbrev reply : Msg
  reply = initiate a f x

  abbrev c₁ : ℕ → ℕ → List Msg
  c₁ = upd2 s.ch u k r

  abbrev pub replied : ℕ → ℕ → List Msg
  replied = snoc c₁ v k reply

  pub calling : In (connect l) (s.ch u k)
  calling = pop-head s.ch u k q

  -- what is there now was there, or is the Initiate
  pub was : {y : Msg} (w j : ℕ) → In y (replied w j) → In y (s.ch w j) ⊎ ((v ≡ w) × (k ≡ j) × (y ≡ reply))
  was w j h = ⊎_elim (λ o. inl (pop-in s.ch u k q w j o)) (λ t. inr t) (snoc-in c₁ v k reply w j h)

  -- other kinds come and go with neither
  pub old-reply : {y : Msg} (g : Msg → ℕ) → g reply ≡ 0 → 1 ≤ g y → (w j : ℕ) → In y (replied w j) → In y (s.ch w j)
  old-reply g z o w j h = ⊎_elim (λ t. t) (λ t. absurd (omega (arith, ap g t.2))) (was w j h)

  pub kept-reply : {y : Msg} (g : Msg → ℕ) → g (connect l) ≡ 0 → 1 ≤ g y → (w j : ℕ) → In y (s.ch w j) → In y (replied w j)
  kept-reply g z o w j h = in-snoc2 c₁ v k reply w j (in-pop s.ch u k q w j (λ e. omega (arith, ap g e)) h)

  pub same-reply : (g : Msg → ℕ) → g reply ≡ 0 → g (connect l) ≡ 0 → (w j : ℕ) → sum_l g (replied w j) ≡ sum_l g (s.ch w j)
  same-reply g y z w j = snoc-sum c₁ v k reply g y w j ∙ pop-sum s.ch u k q g z w j

  pub reply-in : In reply (replied v k)
  reply-in = in-new c₁ v k reply

  -- on other channels everything stays
  pub hold : {y : Msg} (w j : ℕ) → (u ≢ w) ⊎ (k ≢ j) → In y (s.ch w j) → In y (replied w j)
  hold {y} w j n h = in-snoc2 c₁ v k reply w j (subst (λ m. In y m) (sym (else_same s.ch u k r w j n)) h)

  pub off-reply : (w j : ℕ) → (u ≢ w) ⊎ (k ≢ j) → (v ≢ w) ⊎ (k ≢ j) → replied w j ≡ s.ch w j
  off-reply w j n m = snoc-else c₁ v k reply w j m ∙ else_same s.ch u k r w j n

  -- Connects: that one is gone, and it was the only one there
  none_left : sum_l is_c (replied u k) ≡ 0
  none_left = snoc-sum c₁ v k reply is_c refl u k ∙ ap (sum_l is_c) (here-new s.ch u k r) ∙ rest-none i is_c ends q (λ n h. h)

  pub connects : (w j : ℕ) → (u ≢ w) ⊎ (k ≢ j) → sum_l is_c (replied w j) ≡ sum_l is_c (s.ch w j)
  connects w j n = snoc-sum c₁ v k reply is_c refl w j ∙ ap (sum_l is_c) (else_same s.ch u k r w j n)

  pub elsewhere : (w j : ℕ) → 1 ≤ sum_l is_c (replied w j) → (u ≢ w) ⊎ (k ≢ j)
  elsewhere w j h = by-eq u w (λ y. by-eq k j (λ z. absurd (omega (arith, none_left, ap (sum_l is_c) (at2 replied y z)))) (λ z. inr z)) (λ y. inl y)

  -- the level at the far end
  pub far-reply : (n w j : ℕ) → (v ≢ w) ⊎ (k ≢ j) → top n (replied w j) ≡ top n (s.ch w j)
  far-reply n w j d = ap (top n) (snoc-else c₁ v k reply w j d) ∙ pop-top s.ch u k (connect l) refl q n w j

  pub far-here : (n : ℕ) → top n (replied v k) ≡ a
  far-here n = snoc-elim c₁ v k reply (λ m. top n m ≡ a) v k (λ y z. top-app n a f x (c₁ v k)) (λ d. absurd (⊎_elim (λ h. h refl) (λ h. h refl) d))

  pub order-reply : {y z : Msg} (w j : ℕ) → Bef y z (replied w j) → Bef y z (s.ch w j) ⊎ ((v ≡ w) × (k ≡ j) × (z ≡ reply) × In y (s.ch w j))
  order-reply w j h = ⊎_elim (λ o. inl (pop-bef s.ch u k q w j o)) (λ t. inr (t.0, t.1, t.2, pop-in s.ch u k q w j t.3)) (snoc-bef c₁ v k reply w j h)

  pub all-reply : {P : Msg → Type 0} (w j : ℕ) → (v ≡ w → k ≡ j → P reply) → All P (s.ch w j) → All P (replied w j)
  all-reply w j g h = snoc-all c₁ v k reply w j g (pop-all s.ch u k q w j h)

  -- ---- clauses

  pub hush-reply : s.st v ≢ 0 → s.st u ≢ 0 → Hush p (set-ch s replied)
  hush-reply m n = record {
    g6o = λ j w y e z. off-reply w j (silent w j (i.hush.g6o j w y e z)) (inl (λ d. m (ap s.st d ∙ z))) ∙ i.hush.g6o j w y e z;
    g6i = λ j w y e z. all-reply w j
        (λ b c. absurd (n (ap s.st (other-end (flip ends) e b c) ∙ z))) (i.hush.g6i j w y e z);
  }
    where
      silent : (w j : ℕ) → s.ch w j ≡ [] → (u ≢ w) ⊎ (k ≢ j)
      silent w j h = by-eq u w (λ y. by-eq k j (λ z. absurd (in-nil (subst (λ m. In (connect l) m) (at2 s.ch y z ∙ h) calling))) (λ z. inr z)) (λ y. inl y)

  -- where no Initiate was on the way back
  pub ordered-reply : ((n g y : ℕ) → ¬ In (initiate n g y) (s.ch v k)) → Ordered p (set-ch s replied)
  ordered-reply none = record {
    q1 = λ j w y m n e b. ⊎_elim (λ o. i.ordered.q1 j w y m n e o)
        (λ t. subst (λ z. Fits m z) (sym t.2) (fits-initiate a f x m
        (λ b c d z. absurd (none b c d (subst (λ h. In (initiate b c d) h) (sym (at2 s.ch t.0 t.1)) (subst (λ h. In h (s.ch w j)) z t.3))))))
        (order-reply w j b);
  }
