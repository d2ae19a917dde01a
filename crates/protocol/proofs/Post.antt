-- A Test or an answer m is sent by v over k: what stays of the clauses that do not speak of those (`flow-post`).
use Rattle.std.specs.Prelude.{ℕ, ◌≤◌, ◌≡◌, ◌≢◌, List}
use Rattle.std.proofs.Common.{arith, sym, ap, subst, ◌∙◌, inl, inr, ⊎_elim}
use Rattle.base.specs.Pool.{sum_l}
use Rattle.format_message.specs.Msg.{Msg}
use Rattle.protocol.specs.Network.{Network, Edge}
use Rattle.protocol.specs.State.{ProtocolState, set-ch}
use Rattle.protocol.specs.Kind.{is_c, is_i, is_ci, is_r, is_k, Only, Rouse, Fits, call-parts}
use Rattle.protocol.specs.Chan.{In, at2, snoc, snoc_old, in-snoc2, snoc-bef, snoc-sum, snoc-all, snoc-else}
use Rattle.protocol.proofs.Lemmas.{snoc-top}
use Rattle.protocol.specs.Notion.{GL, Half}
use Rattle.protocol.proofs.Same.{Alike, connects-same, initiates-same, owing-same, reports-same}
use Rattle.protocol.proofs.Take.{Plain}
use Rattle.protocol.specs.Traffic.{Hush, Tokens, Telling, Ordered}
use Rattle.protocol.proofs.Flow.{Flow}

-- m is neither Connect nor Initiate
pub post-telling : (p : Network) (s : ProtocolState) (v k : ℕ) (m : Msg) → is_ci m ≡ 0 → Telling p s → Telling p (set-ch s (snoc s.ch v k m))
post-telling p s v k m h o = record {
  u2 = λ j w c e b n. o.u2 j w c e b n ∙ sym (snoc-top s.ch v k m no-init (s.lev c) w j);
  t2i = λ j w c e b t n l. in-snoc2 s.ch v k m w j (o.t2i j w c e b t n l);
  t4 = λ j x y e b g. ⊎_elim (λ t. inl (omega (arith, same x j))) (⊎_elim (λ t. inr (inl (in-snoc2 s.ch v k m y j t))) (λ t. inr (inr t))) (o.t4 j x y e b g);
  t4n = λ j x y e b g n. let t = o.t4n j x y e b g (omega (arith, same x j)) in
      (t.0, λ z. t.1 (snoc_old s.ch v k m y j (λ q. omega (arith, ap is_i q, no-init)) z));
}
  where
    no-init : is_i m ≡ 0
    no-init = omega (arith, call-parts m)

    same : (w j : ℕ) → sum_l is_c (snoc s.ch v k m w j) ≡ sum_l is_c (s.ch w j)
    same = snoc-sum s.ch v k m is_c (omega (arith, call-parts m))

module _ (p : Network) (s : ProtocolState) (v k : ℕ) {m : Msg} (h : Plain m) where
  abbrev posted : ℕ → ℕ → List Msg
  posted = snoc s.ch v k m

  -- those of the other kinds were there
  pub post-before : {x : Msg} (f : Msg → ℕ) → f m ≡ 0 → 1 ≤ f x → (w j : ℕ) → In x (posted w j) → In x (s.ch w j)
  post-before f z o w j n = snoc_old s.ch v k m w j (λ e. omega (arith, ap f e)) n

  post-alike : Alike p s posted
  post-alike j a b w e n = record {
    was = post-before is_r (h.no-rep) (omega arith) a j n;
    call-sum = snoc-sum s.ch v k m is_ci (h.no_call) a j;
    in-init = λ l f x o. in-snoc2 s.ch v k m a j o;
    behind = λ x o. ⊎_elim (λ o. inl o) (λ t. inr (subst (λ x. is_ci x ≡ 0) (sym t.2) (h.no_call))) (snoc-bef s.ch v k m a j o);
    ahead = λ x o. ⊎_elim (λ o. inl o) (λ t. absurd (omega (arith, ap is_r t.2, h.no-rep))) (snoc-bef s.ch v k m a j o);
  }

  -- v is awake; m may go to a sleeper, or the receiver is awake
  post-hush : s.st v ≢ 0 → ((u : ℕ) → Edge p k v u → s.st u ≡ 0 → Rouse m) → Hush p s → Hush p (set-ch s posted)
  post-hush a g o = record {
    g6o = λ j w x e z. snoc-else s.ch v k m w j (inl (λ q. a (ap s.st q ∙ z))) ∙ o.g6o j w x e z;
    g6i = λ j w x e z. snoc-all s.ch v k m w j (λ b c. g x (subst (λ y. Edge p y v x) (sym c) (subst (λ y. Edge p j y x) (sym b) e)) z) (o.g6i j w x e z);
  }

  -- m may go over a half edge, or k is none
  post-tokens : (Half s v k → Only (GL s v) m) → Tokens p s → Tokens p (set-ch s posted)
  post-tokens g o = record {
    d1c = λ j z y e t. in-snoc2 s.ch v k m z j (o.d1c j z y e t);
    d1a = λ j z y e t. snoc-all s.ch v k m z j
        (λ b c. subst (λ a. Only (GL s a) m) b (g (subst (λ a. Half s a k) (sym b) (subst (λ a. Half s z a) (sym c) t)))) (o.d1a j z y e t);
    d2c = λ j w x e t. in-snoc2 s.ch v k m w j (o.d2c j w x e t);
    k1 = λ j w x e n. o.k1 j w x e (post-before is_k (h.no_change) (omega arith) w j n);
    d3r = λ j x y e t b. same y j ∙ o.d3r j x y e t b;
    d4h = λ j x y e a d l t n. o.d4h j x y e a d l t (post-before is_r (h.no-rep) (omega arith) y j n);
    d4r = λ j x y e a d l t. in-snoc2 s.ch v k m y j (o.d4r j x y e a d l t);
    d7 = λ j x y e a d t f. ⊎_elim (λ y. inl (omega (arith, same x j))) (λ t. inr (t.0, t.1, t.2, omega (arith, t.3, same y j))) (o.d7 j x y e a d t f);
  }
    where
      same : (w j : ℕ) → sum_l is_r (posted w j) ≡ sum_l is_r (s.ch w j)
      same = snoc-sum s.ch v k m is_r (h.no-rep)

  -- whatever is on the channel may stand before m
  post-ordered : ((x : Msg) → In x (s.ch v k) → Fits x m) → Ordered p s → Ordered p (set-ch s posted)
  post-ordered g o = record {
    q1 = λ j w x a b e t. ⊎_elim (λ y. o.q1 j w x a b e y)
        (λ y. subst (λ n. Fits a n) (sym y.2) (g a (subst (λ l. In a l) (sym (at2 s.ch y.0 y.1)) y.3))) (snoc-bef s.ch v k m w j t);
  }

  pub flow-post : s.st v ≢ 0 → ((u : ℕ) → Edge p k v u → s.st u ≡ 0 → Rouse m) → (Half s v k → Only (GL s v) m) → ((x : Msg) → In x (s.ch v k) → Fits x m)
      → Flow p s → Flow p (set-ch s posted)
  flow-post a b c d o = record {
    hush = post-hush a b o.hush;
    tokens = post-tokens c o.tokens;
    connects = connects-same p s posted (λ w j l n. post-before is_c (omega (arith, h.no_call, call-parts m)) (omega arith) w j n) o.connects;
    initiates = initiates-same p s posted (λ w j l f x n. post-before is_i (omega (arith, h.no_call, call-parts m)) (omega arith) w j n) o.initiates;
    telling = post-telling p s v k m (h.no_call) o.telling;
    reports = reports-same p s posted post-alike o.reports;
    owing = owing-same p s posted (snoc-sum s.ch v k m is_r (h.no-rep)) o.owing;
    ordered = post-ordered d o.ordered;
  }
