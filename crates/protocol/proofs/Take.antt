-- The head m of the channel from u over k is taken, and m is neither Connect nor Initiate: what stays of the clauses that do not speak of m (`flow-take`).
use Rattle.std.specs.Prelude.{ℕ, ◌≤◌, ◌≡◌, refl, List, [], ◌∷◌}
use Rattle.std.proofs.Common.{arith, sym, ap, subst, ◌∙◌, inl, inr, ⊎_elim}
use Rattle.base.specs.Cond.{upd2}
use Rattle.base.proofs.laws.Cond.{upd2-elim}
use Rattle.base.specs.Pool.{sum_l}
use Rattle.format_message.specs.Msg.{Msg, test, accept, reject}
use Rattle.protocol.specs.Network.{Network}
use Rattle.protocol.specs.State.{ProtocolState, set-ch}
use Rattle.protocol.specs.Kind.{is_c, is_i, is_ci, is_r, is_k, call-parts}
use Rattle.protocol.specs.Chan.{In, in-nil, at2, pop-head, pop-in, in-pop, pop-bef, pop-sum, pop-all}
use Rattle.protocol.proofs.Lemmas.{pop-top}
use Rattle.protocol.proofs.Same.{Alike, connects-same, initiates-same, owing-same, reports-same}
use Rattle.protocol.specs.Traffic.{Hush, Tokens, Connects, Initiates, Telling, Ordered}
use Rattle.protocol.proofs.Flow.{Flow}

module _ (p : Network) (s : ProtocolState) (u k : ℕ) {m : Msg} {r : List Msg} (q : s.ch u k ≡ m ∷ r) where
  abbrev taken : ℕ → ℕ → List Msg
  taken = upd2 s.ch u k r

  -- those of the other kinds stay
  kept : {x : Msg} (f : Msg → ℕ) → f m ≡ 0 → 1 ≤ f x → (w j : ℕ) → In x (s.ch w j) → In x (taken w j)
  kept f z o w j n = in-pop s.ch u k q w j (λ e. omega (arith, ap f e)) n

  pub take-hush : Hush p s → Hush p (set-ch s taken)
  take-hush o = record {
    g6o = λ j w x e z. upd2-elim (λ l. l ≡ []) s.ch u k r w j
        (λ a b. absurd (in-nil (subst (λ l. In m l) (at2 s.ch a b ∙ o.g6o j w x e z) (pop-head s.ch u k q)))) (λ d. o.g6o j w x e z);
    g6i = λ j w x e z. pop-all s.ch u k q w j (o.g6i j w x e z);
  }

  pub take-connects : Connects p s → Connects p (set-ch s taken)
  take-connects o = connects-same p s taken (λ w j l n. pop-in s.ch u k q w j n) o

  pub take-initiates : Initiates p s → Initiates p (set-ch s taken)
  take-initiates o = initiates-same p s taken (λ w j l f x n. pop-in s.ch u k q w j n) o

  pub take-ordered : Ordered p s → Ordered p (set-ch s taken)
  take-ordered o = record { q1 = λ j w x a b e t. o.q1 j w x a b e (pop-bef s.ch u k q w j t) }

  -- m is neither Connect nor Initiate
  module _ (h : is_ci m ≡ 0) where
    no-init : is_i m ≡ 0
    no-init = omega (arith, call-parts m)

    pub take-alike : Alike p s taken
    take-alike j a b w e n = record {
      was = pop-in s.ch u k q a j n;
      call-sum = pop-sum s.ch u k q is_ci h a j;
      in-init = λ l f x o. kept is_i no-init (omega arith) a j o;
      behind = λ m o. inl (pop-bef s.ch u k q a j o);
      ahead = λ m o. inl (pop-bef s.ch u k q a j o);
    }

    pub take-telling : Telling p s → Telling p (set-ch s taken)
    take-telling o = record {
      u2 = λ j w c e b n. o.u2 j w c e b n ∙ sym (pop-top s.ch u k m no-init q (s.lev c) w j);
      t2i = λ j w c e b t n l. kept is_i no-init (omega arith) w j (o.t2i j w c e b t n l);
      t4 = λ j x y e b g. ⊎_elim (λ t. inl (omega (arith, same x j)))
          (⊎_elim (λ t. inr (inl (kept is_i no-init (omega arith) y j t))) (λ t. inr (inr t))) (o.t4 j x y e b g);
      t4n = λ j x y e b g n. let t = o.t4n j x y e b g (omega (arith, same x j)) in (t.0, λ z. t.1 (pop-in s.ch u k q y j z));
    }
      where
        same : (w j : ℕ) → sum_l is_c (taken w j) ≡ sum_l is_c (s.ch w j)
        same = pop-sum s.ch u k q is_c (omega (arith, call-parts m))

-- neither Connect, nor Initiate, nor Report, nor Change-root: a Test or an answer
pub record Plain (m : Msg) : Type 0 where
  pub no_call : is_ci m ≡ 0
  pub no-rep : is_r m ≡ 0
  pub no_change : is_k m ≡ 0

pub plain-test : (l f : ℕ) → Plain (test l f)
plain-test l f = record { no_call = refl; no-rep = refl; no_change = refl }

pub plain-accept : Plain accept
plain-accept = record { no_call = refl; no-rep = refl; no_change = refl }

pub plain-reject : Plain reject
plain-reject = record { no_call = refl; no-rep = refl; no_change = refl }

module _ (p : Network) (s : ProtocolState) (u k : ℕ) {m : Msg} {r : List Msg} (q : s.ch u k ≡ m ∷ r) (h : Plain m) where
  abbrev c' : ℕ → ℕ → List Msg
  c' = upd2 s.ch u k r

  take-tokens : Tokens p s → Tokens p (set-ch s c')
  take-tokens o = record {
    d1c = λ j z y e t. kept p s u k q is_c (omega (arith, h.no_call, call-parts m)) (omega arith) z j (o.d1c j z y e t);
    d1a = λ j z y e t. pop-all s.ch u k q z j (o.d1a j z y e t);
    d2c = λ j w x e t. kept p s u k q is_k (h.no_change) (omega arith) w j (o.d2c j w x e t);
    k1 = λ j w x e n. o.k1 j w x e (pop-in s.ch u k q w j n);
    d3r = λ j x y e t b. same y j ∙ o.d3r j x y e t b;
    d4h = λ j x y e g d l t n. o.d4h j x y e g d l t (pop-in s.ch u k q y j n);
    d4r = λ j x y e g d l t. kept p s u k q is_r (h.no-rep) (omega arith) y j (o.d4r j x y e g d l t);
    d7 = λ j x y e g d t f. ⊎_elim (λ y. inl (omega (arith, same x j))) (λ t. inr (t.0, t.1, t.2, omega (arith, t.3, same y j))) (o.d7 j x y e g d t f);
  }
    where
      same : (w j : ℕ) → sum_l is_r (c' w j) ≡ sum_l is_r (s.ch w j)
      same = pop-sum s.ch u k q is_r (h.no-rep)

  pub flow-take : Flow p s → Flow p (set-ch s c')
  flow-take o = record {
    hush = take-hush p s u k q o.hush;
    tokens = take-tokens o.tokens;
    connects = take-connects p s u k q o.connects;
    initiates = take-initiates p s u k q o.initiates;
    telling = take-telling p s u k q (h.no_call) o.telling;
    reports = reports-same p s c' (take-alike p s u k q (h.no_call)) o.reports;
    owing = owing-same p s c' (pop-sum s.ch u k q is_r (h.no-rep)) o.owing;
    ordered = take-ordered p s u k q o.ordered;
  }
