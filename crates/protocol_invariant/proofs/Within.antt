-- IN EVERY STATE OF WHICH THE INVARIANT HOLDS: only tree edges are Branch (`only-tree`), all values and messages are within their lists (`inv-within`,
-- `carried`), and no condition of refusal 32 is met (`unrefused`).
use Rattle.protocol.proofs.Prelude.{ℕ, suc, ◌+◌, ◌*◌, ◌≤◌, ◌<◌, arith, ◌≡◌, refl, ◌≢◌, inl, inr, by-eq}
use Rattle.protocol.proofs.Prelude.{true, not, ◌&&◌, eqb, eqb-cases, bit, List, ◌∷◌, upd, upd_same, sum}
use Rattle.protocol.proofs.Prelude.{Msg, none, connect, initiate, test, report, Network, Edge, Tree, up, down, ProtocolState, Idle, Place, copy}
use Rattle.protocol.proofs.Prelude.{Rouse, In, GC, Inv}
use Rattle.std.specs.Prelude.{◌||◌}
use Rattle.base.specs.Log.{log2}
use Rattle.protocol.specs.Step.{absorb, tell}
use Rattle.protocol_invariant.proofs.Step.{inv-step}
use Rattle.protocol_invariant.proofs.Safe.{lev-le, connect-le, initiate-ok, test-ok, count-le, to-sleeper, reply-le, child-count, test-level, report-branch, root-edge}

-- the number of v's own edges
abbrev degree : Network → ℕ → ℕ
degree p v = sum p.g.L (λ k. bit (eqb (p.g.lo k) v || eqb (p.g.hi k) v))

-- the values of the nodes
pub record Within (p : Network) (s : ProtocolState) : Type 0 where
  pub status : (v : ℕ) → s.st v ≤ 2
  pub level : (v : ℕ) → v < p.N → s.lev v ≤ log2 p.N
  -- identity none exactly at level 0, else an edge
  pub no-identity : (v : ℕ) → s.lev v ≡ 0 → s.id v ≡ none
  pub identity : (v : ℕ) → s.lev v ≢ 0 → s.id v < p.g.L
  -- a best weight is an edge or none; best edge, test edge and in-branch are own edges or none
  pub weight : (v : ℕ) → s.bw v ≢ none → s.bw v < p.g.L
  pub best : (v : ℕ) → s.be v ≢ none → (u : ℕ) × Edge p (s.be v) v u
  pub test : (v : ℕ) → s.te v ≢ none → (u : ℕ) × Edge p (s.te v) v u
  pub branch : (v : ℕ) → s.ib v ≢ none → (u : ℕ) × Edge p (s.ib v) v u
  -- the find-count is within the node's edges
  pub count : (v : ℕ) → s.fc v ≤ degree p v
  pub halted : (v : ℕ) → s.halt v ≤ 1
  pub mark : (v k : ℕ) → s.mark v k ≤ 2
  pub marked : (v k : ℕ) → s.mark v k ≢ 0 → (u : ℕ) × Edge p k v u

-- what the messages carry
pub record Carried (p : Network) (s : ProtocolState) : Type 0 where
  pub connect-level : (k u v l : ℕ) → Edge p k u v → In (connect l) (s.ch u k) → l ≤ log2 p.N
  pub initiate-values : (k u v l f x : ℕ) → Edge p k u v → In (initiate l f x) (s.ch u k) → (1 ≤ l) × (l ≤ log2 p.N) × (f < p.g.L) × (x ≤ 1)
  pub test-values : (k u v l f : ℕ) → Edge p k u v → In (test l f) (s.ch u k) → (1 ≤ l) × (l ≤ log2 p.N) × (f < p.g.L)
  pub report-edge : (k u v w : ℕ) → Edge p k u v → In (report w) (s.ch u k) → w ≢ none → w < p.g.L

-- refusal 32, one line for each condition: it is not met
pub record Unrefused (p : Network) (s : ProtocolState) : Type 0 where
  -- "a sleeper serves kind 2, 4, 5, 6 or 7": only Connect and Test are on their way to it
  pub sleeper : (k u v : ℕ) (m : Msg) → Edge p k u v → In m (s.ch u k) → s.st v ≡ 0 → Rouse m
  -- "an Initiate would exceed ⌊log2 N⌋": where a Connect comes over an edge that is not Basic
  pub exceeding : (k u v l : ℕ) → Edge p k u v → In (connect l) (s.ch u k) → s.mark v k ≢ 0 → s.lev v + 1 ≤ log2 p.N
  -- "find-count would leave 0 to the module's links": up by one at a Connect of a lower level, in Find,
  pub absorbing : (k u v l : ℕ) {r : List Msg} → Idle s → Edge p k u v → s.ch u k ≡ connect l ∷ r → l < s.lev v → s.st v ≡ 1 → s.fc v + 1 ≤ degree p v
  -- up by one for each copy at an Initiate with Find,
  pub copying : (k u v l f : ℕ) {r : List Msg} → Idle s → Edge p k u v → s.ch u k ≡ initiate l f 1 ∷ r
      → s.fc v + sum p.g.L (λ j. bit (not (eqb j k) && eqb (s.mark v j) 1)) ≤ degree p v
  -- down by one at a Report over another edge than the in-branch
  pub counting : (k u v w : ℕ) {r : List Msg} → Edge p k u v → s.ch u k ≡ report w ∷ r → s.ib v ≢ k → s.fc v ≢ 0
  -- "the report procedure would send with in-branch none, or the change-root procedure would run with best edge none"
  pub reporting : (v : ℕ) → s.op ≡ suc v → (u : ℕ) × Edge p (s.ib v) v u
  pub rooting : (v : ℕ) → s.oo ≡ suc v → (u : ℕ) × Edge p (s.be v) v u
  -- "a level 0 module would send Test"
  pub testing : (v : ℕ) → s.ot ≡ suc v → 1 ≤ s.lev v

-- a test that finds all own edges
own-all : (p : Network) (v k c : ℕ) → Edge p k v c → (eqb (p.g.lo k) v || eqb (p.g.hi k) v) ≡ true
own-all p v k c (up l e f) = eqb-cases (p.g.lo k) v (λ b. (b || eqb (p.g.hi k) v) ≡ true) (λ q. refl) (λ n. absurd (n e))
own-all p v k c (down l e f) = eqb-cases (p.g.lo k) v (λ b. (b || eqb (p.g.hi k) v) ≡ true) (λ q. refl)
    (λ n. eqb-cases (p.g.hi k) v (λ b. b ≡ true) (λ q. refl) (λ m. absurd (m e)))

within-degree : {p : Network} {s : ProtocolState} → Inv p s → (v : ℕ) → s.fc v ≤ degree p v
within-degree {p} i v = count-le i v (λ k. eqb (p.g.lo k) v || eqb (p.g.hi k) v) (own-all p v)

-- after a Connect of a lower level in Find, and after an Initiate with Find
absorb-count : {p : Network} {s : ProtocolState} → Inv p s → (k u v l : ℕ) {r : List Msg} → Idle s → Edge p k u v → s.ch u k ≡ connect l ∷ r → l < s.lev v → s.st v ≡ 1 → s.fc v + 1 ≤ degree p v
absorb-count {s = s} i k u v l idle e q h f =
    let n : s.st v ≢ 0 = λ z. omega arith in
    omega (arith, within-degree (inv-step (absorb idle e n q h (inl (f, refl))) i) v, upd_same s.fc v (s.fc v + 1))

tell-count : {p : Network} {s : ProtocolState} → Inv p s → (k u v l f d a : ℕ) {r : List Msg} → Idle s → Edge p k u v → s.ch u k ≡ initiate l f 1 ∷ r → Place s u v k d a
    → s.fc v + sum p.g.L (λ j. bit (not (eqb j k) && eqb (s.mark v j) 1)) ≤ degree p v
unfolding copy
tell-count {p} {s} i k u v l f d a idle e q h =
    let n = sum p.g.L (λ j. bit (not (eqb j k) && eqb (s.mark v j) 1)) in
    let c : upd s.fc v (s.fc v + 1 * n) v ≤ degree p v = within-degree (inv-step (tell idle e q (inl (refl, refl, refl)) h) i) v in
    omega (arith, upd_same s.fc v (s.fc v + 1 * n))

module _ {p : Network} {s : ProtocolState} (i : Inv p s) where
  -- ONLY TREE EDGES
  pub only-tree : (v k : ℕ) → s.mark v k ≡ 1 → Tree p k
  only-tree v k m = let t = i.markings.own v k (λ z. omega arith) in i.markings.m5 k v t.0 t.1 m

  pub inv-within : Within p s
  inv-within = record {
    status = i.ranges.st-le;
    level = lev-le i;
    no-identity = i.levels.g3z;
    identity = i.levels.g3r;
    weight = i.values.w1w;
    best = i.values.w1e;
    test = i.tests.e2o;
    branch = i.inbounds.u1r;
    count = within-degree i;
    halted = i.ranges.halt-le;
    mark = i.ranges.mark-le;
    marked = i.markings.own;
  }

  pub carried : Carried p s
  carried = record {
    connect-level = connect-le i;
    initiate-values = initiate-ok i;
    test-values = test-ok i;
    report-edge = i.reports.r1r;
  }

  pub unrefused : Unrefused p s
  unrefused = record {
    sleeper = to-sleeper i;
    exceeding = reply-le i;
    absorbing = absorb-count i;
    copying = λ k u v l f idle e q. by-eq k (GC s v) (λ g. tell-count i k u v l f 0 v idle e q (inl (g, refl, refl)))
        (λ n. tell-count i k u v l f (suc (s.dep u)) (s.side u) idle e q (inr (n, refl, refl)));
    counting = child-count i;
    reporting = report-branch i;
    rooting = root-edge i;
    testing = test-level i;
  }
