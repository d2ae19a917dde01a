-- The message budget: what may still be sent lies in tables, and each step pays from them. Level z is the last, ⌊log2 N⌋.
-- A node that is about to reach a level brings 5: its Initiate, its Report, a Test with its Accept, and a Change-root or Connect.
use Rattle.protocol.proofs.Prelude.{ℕ, suc, ◌+◌, ◌*◌, ◌≤◌, ◌<◌, arith, ◌≡◌, sym, ap, ◌∙◌, ◌≢◌, ◌⊎◌}
use Rattle.protocol.proofs.Prelude.{List, [], ◌∷◌, eqb, eqb_same, eqb-diff, bit, by-eq, sum, sum_l, Msg, none, connect, initiate, test, accept, reject, report, change}
use Rattle.protocol.proofs.Prelude.{Network, Edge, ProtocolState, is_t, is_a, is_y, top, Awaits}

-- the Tests of level z from w over k
abbrev pub Lt : ℕ → (ℕ → ℕ) → (ℕ → ℕ → List Msg) → ℕ → ℕ → ℕ
Lt z lev ch w k = sum_l is_t (ch w k) * bit (eqb (lev w) z)

-- tb: the level that a node has, or will have once it has served the Initiates on their way to it
pub record Heights (p : Network) (lev ub : ℕ → ℕ) (ch : ℕ → ℕ → List Msg) (tb : ℕ → ℕ) : Type 0 where
  pub tb0 : (v : ℕ) → ub v ≡ none → tb v ≡ lev v
  pub tb1 : (k u v : ℕ) → Edge p k u v → ub v ≡ k → tb v ≡ top (lev v) (ch u k)

-- rp: for the Report; rt: for the Change-root or Connect. Of those who have or will have their fragment's level
pub record Dues (lev fr gl due dk dn dep tb rp rt : ℕ → ℕ) : Type 0 where
  pub rp1 : (v : ℕ) → tb v ≡ gl (fr v) → due v ≤ rp v
  -- undecided or finished, or still to be told, or not above the node that has the token
  pub rt0 : (v : ℕ) → tb v ≡ gl (fr v) → (dk (fr v) ≡ 0) ⊎ (dk (fr v) ≡ 4) → 1 ≤ rt v
  pub rt1 : (v : ℕ) → tb v ≡ gl (fr v) → dk (fr v) ≤ 2 → lev v < gl (fr v) → 1 ≤ rt v
  pub rt2 : (v : ℕ) → tb v ≡ gl (fr v) → dk (fr v) ≡ 1 → dep (dn (fr v)) ≤ dep v → 1 ≤ rt v
  pub rt3 : (v : ℕ) → tb v ≡ gl (fr v) → dk (fr v) ≡ 2 → dep (dn (fr v)) < dep v → 1 ≤ rt v

-- ts: for a Test and its Accept
pub record Tries (z : ℕ) (lev fr gl due tb ts : ℕ → ℕ) (ot : ℕ) : Type 0 where
  -- at the last level it is kept; else while the node has still to search, or procedure test is to be executed
  pub ts0 : (v : ℕ) → tb v ≡ gl (fr v) → gl (fr v) ≡ z → 2 ≤ ts v
  pub ts1 : (v : ℕ) → tb v ≡ gl (fr v) → lev v < gl (fr v) → due v ≡ 1 → 2 ≤ ts v
  pub ts2 : (v : ℕ) → ot ≡ suc v → 2 ≤ ts v

-- lk: for a Test and its Reject over an edge
pub record Links (p : Network) (z : ℕ) (lev te : ℕ → ℕ) (mark : ℕ → ℕ → ℕ) (ch : ℕ → ℕ → List Msg) (ot : ℕ) (ts lk : ℕ → ℕ) : Type 0 where
  -- a node that waits below the last level: its Test is paid, and one more for the Accept
  pub ts3 : (k v u : ℕ) → Edge p k v u → Awaits te ot v k → lev v ≢ z → 2 ≤ ts v + sum_l is_t (ch v k) + 2 * sum_l is_y (ch u k)
  -- an edge that may be rejected; a Test at the last level is paid by its edge
  pub lk1 : (k x y : ℕ) → Edge p k x y → mark x k ≡ 0 → mark y k ≢ 2 → 2 ≤ lk k + Lt z lev ch x k + Lt z lev ch y k
  pub lk2 : (k x y : ℕ) → Edge p k x y → Awaits te ot x k → 1 ≤ sum_l is_t (ch x k) → 2 ≤ lk k + Lt z lev ch x k + Lt z lev ch y k

-- n messages have been sent
pub record Paid (p : Network) (z : ℕ) (s : ProtocolState) (n : ℕ) : Type 0 where
  pub tb : ℕ → ℕ
  pub rp : ℕ → ℕ
  pub ts : ℕ → ℕ
  pub rt : ℕ → ℕ
  pub lk : ℕ → ℕ
  pub H : Heights p s.lev s.ub s.ch tb
  pub D : Dues s.lev s.fr s.gl s.due s.dk s.dn s.dep tb rp rt
  pub T : Tries z s.lev s.fr s.gl s.due tb ts s.ot
  pub L : Links p z s.lev s.te s.mark s.ch s.ot ts lk
  pub bal : n + sum p.N rp + sum p.N ts + sum p.N rt + sum p.g.L lk ≤ 5 * sum p.N tb + p.N + 2 * p.g.L

-- ---- Tests of the last level

module _ (z : ℕ) (lev : ℕ → ℕ) (ch : ℕ → ℕ → List Msg) (w k : ℕ) where
  pub lt-last : lev w ≡ z → Lt z lev ch w k ≡ sum_l is_t (ch w k)
  lt-last e = rw (e, eqb_same z) (omega arith)

  pub lt-else : lev w ≢ z → Lt z lev ch w k ≡ 0
  lt-else n = rw (eqb-diff (lev w) z n) (omega arith)

  pub lt-none : sum_l is_t (ch w k) ≡ 0 → Lt z lev ch w k ≡ 0
  lt-none e = rw e (omega arith)

  pub lt-le : Lt z lev ch w k ≤ sum_l is_t (ch w k)
  lt-le = by-eq (lev w) z (λ e. omega (arith, lt-last e)) (λ n. omega (arith, lt-else n))

  pub lt_same : (c' : ℕ → ℕ → List Msg) → sum_l is_t (c' w k) ≡ sum_l is_t (ch w k) → Lt z lev c' w k ≡ Lt z lev ch w k
  lt_same c' e = ap (λ x. x * bit (eqb (lev w) z)) e

-- an Accept is an answer
pub yes_le : (c : List Msg) → sum_l is_y c ≤ sum_l is_a c
yes_le [] = omega arith
yes_le (connect l ∷ c) = omega (arith, yes_le c)
yes_le (initiate l f x ∷ c) = omega (arith, yes_le c)
yes_le (test l f ∷ c) = omega (arith, yes_le c)
yes_le (accept ∷ c) = omega (arith, yes_le c)
yes_le (reject ∷ c) = omega (arith, yes_le c)
yes_le (report w ∷ c) = omega (arith, yes_le c)
yes_le (change ∷ c) = omega (arith, yes_le c)

-- ---- channels with the same Tests, Accepts and Initiates

pub heights-same : {p : Network} {lev ub tb : ℕ → ℕ} {ch : ℕ → ℕ → List Msg} (c' : ℕ → ℕ → List Msg) → ((n w j : ℕ) → top n (c' w j) ≡ top n (ch w j))
    → Heights p lev ub ch tb → Heights p lev ub c' tb
heights-same {lev} c' same h = record { tb0 = h.tb0; tb1 = λ k u v e q. h.tb1 k u v e q ∙ sym (same (lev v) u k) }

pub links-same : {p : Network} {z ot : ℕ} {lev te ts lk : ℕ → ℕ} {mark : ℕ → ℕ → ℕ} {ch : ℕ → ℕ → List Msg} (c' : ℕ → ℕ → List Msg)
    → ((w j : ℕ) → sum_l is_t (c' w j) ≡ sum_l is_t (ch w j)) → ((w j : ℕ) → sum_l is_y (c' w j) ≡ sum_l is_y (ch w j))
    → Links p z lev te mark ch ot ts lk → Links p z lev te mark c' ot ts lk
links-same {z} {lev} {ch = ch} c' t y l = record {
  ts3 = λ k v u e w n. omega (arith, l.ts3 k v u e w n, t v k, y u k);
  lk1 = λ k a b e m n. omega (arith, l.lk1 k a b e m n, lt a k, lt b k);
  lk2 = λ k a b e w n. omega (arith, l.lk2 k a b e w (omega (arith, t a k)), lt a k, lt b k);
}
  where
    lt : (w j : ℕ) → Lt z lev c' w j ≡ Lt z lev ch w j
    lt w j = ap (λ x. x * bit (eqb (lev w) z)) (t w j)
