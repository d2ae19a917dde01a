-- The node v that is about to turn its inbound edge: a sleeper that wakes, or the node that executes procedure change-root (`turn-sleeper`, `turn-root`).
use Rattle.protocol.proofs.Prelude.{ℕ, suc, ◌≤◌, arith, ◌≡◌, sym, ap, ◌∙◌, ◌≢◌, by-eq}
use Rattle.protocol.proofs.Prelude.{report, Network, Edge, flip, edge-some, ProtocolState, is_r, top, top-none, In, none_in}
use Rattle.protocol.proofs.Prelude.{GL, GC, DK, Inf, Jn, Root, Inv, sleep-lev, sleep-ib, decided-find, core-informed, no-initiate, no-root}
use Rattle.protocol.specs.Decisions.{RootOk}

pub record Turn (p : Network) (s : ProtocolState) (v : ℕ) : Type 0 where
  -- v has its fragment's level
  pub even : s.lev v ≡ GL s v
  -- the fragment is undecided and of level 0, or at its root; no other one is at its root
  pub fresh : DK s v ≤ 1
  pub alone : DK s v ≡ 0 → GL s v ≡ 0
  pub roots : (w : ℕ) → DK s w ≡ 1 → s.fr w ≡ s.fr v
  -- nobody in it is Find or due, nobody but v is asleep
  pub no-find : (w : ℕ) → s.fr w ≡ s.fr v → s.st w ≢ 1
  pub no_due : (w : ℕ) → s.fr w ≡ s.fr v → s.due w ≡ 0
  pub awake : (w : ℕ) → s.fr w ≡ s.fr v → s.st w ≡ 0 → v ≡ w
  -- a joined edge that is inbound for v is so for its other end too, and nothing is to come over it
  pub turns : (j c : ℕ) → Edge p j v c → Jn s j v c → s.ub v ≡ j → (s.ub c ≡ j) × (s.lev v ≡ top (s.lev c) (s.ch v j))
  -- no Report is on its way to v by its in-branch
  pub no-report : (j c n : ℕ) → Edge p j c v → s.ib v ≡ j → ¬ In (report n) (s.ch c j)

module _ {p : Network} {s : ProtocolState} (i : Inv p s) {v : ℕ} where
  pub turn-sleeper : s.oo ≡ 0 → s.st v ≡ 0 → Turn p s v
  turn-sleeper idle z =
      let a = i.sleepers.g6 v z in
      record {
        even = omega (arith, sleep-lev i v z, a.g6g);
        fresh = omega (arith, a.g6d);
        alone = λ d. a.g6g;
        roots = λ w d. absurd (no-root i w idle d);
        no-find = λ w q f. omega (arith, ap s.st (i.sizes.g4s v w (a.g6g) q));
        no_due = λ w q. ap s.due (i.sizes.g4s v w (a.g6g) q) ∙ a.g6u;
        awake = λ w q o. sym (i.sizes.g4s v w (a.g6g) q);
        turns = λ j c e b q. absurd (omega (arith, b.0, i.sleepers.g6m v j z));
        no-report = λ j c n e q. absurd (edge-some p e (sym q ∙ sleep-ib i v z));
      }

  module _ (oo : s.oo ≡ suc v) where
    pub is-root : Root s v
    is-root = i.rootings.f5r v oo

    pub root_ok : RootOk p s.fr s.gl s.lev s.ib s.ub s.bw s.mark v
    root_ok = i.rootings.d3 v is-root

    -- who is in v's fragment is in a decided one
    root-dk : (w : ℕ) → s.fr w ≡ s.fr v → DK s w ≢ 0
    root-dk w q d = omega (arith, ap s.dk q, is-root.0)

    -- the node beyond v's in-branch is informed
    pub root-up : (j c : ℕ) → Edge p j v c → s.ib v ≡ j → Inf s c
    root-up j c e q = by-eq (GC s v) j
        (λ g. let f : s.fr v ≡ s.fr c = i.markings.m3 j v c e (i.inbounds.u1i j v c e q) in
        core-informed i j c v (flip e) (ap s.gc (sym f) ∙ g) (omega (arith, ap s.gl f, (root_ok.d3i).0)) (root-dk c (sym f)))
        (λ g. (i.parents.t1p j v c e (root_ok.d3i) q g).0)

    pub turn-root : Turn p s v
    turn-root = record {
      even = (root_ok.d3i).1;
      fresh = omega (arith, is-root.0);
      alone = λ d. absurd (omega (arith, is-root.0));
      roots = λ w d. sym (i.rootings.d3f w d) ∙ ap s.fr (omega (arith, i.rootings.d3o w d));
      no-find = λ w q. decided-find i w (root-dk w q);
      no_due = λ w q. i.finishes.d5 w (root-dk w q);
      awake = λ w q z. absurd (root-dk w q (i.sleepers.g6 w z).g6d);
      turns = λ j c e b q.
          let r : s.ib v ≡ j = sym (root_ok.d3u) ∙ q in
          let h = root-up j c e r in
          (root_ok.d3v j c e r, even j c e b h ∙ sym (top-none (s.lev c) (s.ch v j) (λ l f x. no-initiate i j v c l f x e h)));
      no-report = λ j c n e q o. omega (arith, none_in is_r (i.tokens.d3r j v c (flip e) is-root q) o);
    }
      where
        even : (j c : ℕ) → Edge p j v c → Jn s j v c → Inf s c → s.lev v ≡ s.lev c
        even j c e b h = (root_ok.d3i).1 ∙ ap s.gl (i.markings.m3 j v c e b) ∙ sym h.1
