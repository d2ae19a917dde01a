-- A Report or a Change-root m, the head of the channel from u over k, is taken: the clauses on other messages stay,
-- whatever becomes of the tables that they do not read (`late-kept`).
use Rattle.protocol.proofs.Prelude.{ℕ, ◌≡◌, refl, List, ◌∷◌, upd2, Msg, report, change, Network, ProtocolState, pop}
use Rattle.protocol.proofs.Prelude.{set-bw, set-be, set-fc, set-halt, set-dk, set-dn, set-owe, set-op, set-oo, is_ci, is_t, is_a, pop-in, pop-sum}
use Rattle.protocol.proofs.Prelude.{Inv, take-hush, take-connects, take-initiates, take-telling, take-ordered, testing-same}
use Rattle.protocol.specs.Traffic.{Hush, Connects, Initiates, Telling, Testing, Answers, Ordered}

-- neither Connect, nor Initiate, nor Test, nor answer
pub record Late (m : Msg) : Type 0 where
  pub no_call : is_ci m ≡ 0
  pub no_test : is_t m ≡ 0
  pub no-ans : is_a m ≡ 0

pub late-report : (w : ℕ) → Late (report w)
late-report w = record { no_call = refl; no_test = refl; no-ans = refl }

pub late-change : Late change
late-change = record { no_call = refl; no_test = refl; no-ans = refl }

-- the clauses that read neither Reports nor Change-roots
pub record Kept (p : Network) (s : ProtocolState) : Type 0 where
  pub hush : Hush p s
  pub connects : Connects p s
  pub initiates : Initiates p s
  pub telling : Telling p s
  pub testing : Testing p s
  pub answers : Answers p s
  pub ordered : Ordered p s

module _ {p : Network} {s : ProtocolState} (i : Inv p s) {u k : ℕ} {m : Msg} {r : List Msg} (q : s.ch u k ≡ m ∷ r) (h : Late m) where
  -- the new values of the tables
  module _ (bw be fc halt dk dn : ℕ → ℕ) (owe : ℕ → ℕ → ℕ) (op oo : ℕ) where
    abbrev after : ProtocolState
    after = set-oo (set-op (set-owe (set-dn (set-dk (set-halt (set-fc (set-be (set-bw (pop s u k r) bw) be) fc) halt) dk) dn) owe) op) oo

    pub late-kept : Kept p after
    late-kept =
        let g = take-hush p s u k q i.hush in
        let c = take-connects p s u k q i.connects in
        let n = take-initiates p s u k q i.initiates in
        let t = take-telling p s u k q (h.no_call) i.telling in
        let e = testing-same p s (upd2 s.ch u k r) (λ w j l f o. pop-in s.ch u k q w j o) (pop-sum s.ch u k q is_t (h.no_test)) (pop-sum s.ch u k q is_a (h.no-ans)) i.testing in
        let o = take-ordered p s u k q i.ordered in
        record {
          hush = record { g6o = g.g6o; g6i = g.g6i };
          connects = record { c1m = c.c1m; c1 = c.c1 };
          initiates = record { i1 = n.i1 };
          telling = record { u2 = t.u2; t2i = t.t2i; t4 = t.t4; t4n = t.t4n };
          testing = record { e1 = e.e1; e1w = e.e1w; e2w = e.e2w; e2c = e.e2c; m6t = e.m6t };
          answers = record { a1 = λ j a b f y. i.answers.a1 j a b f (pop-in s.ch u k q a j y); j1 = λ j a b f y. i.answers.j1 j a b f (pop-in s.ch u k q a j y) };
          ordered = record { q1 = o.q1 };
        }
