-- The decision of kind d that a Report or a Change-root makes v's fragment take: the state afterwards (`ruled`), and what has to hold for it (`Ruling`).
use Rattle.protocol.proofs.Prelude.{ℕ, ◌≤◌, ◌≡◌, ◌≢◌, ◌⊎◌, List, upd, upd2, sum_l, Msg, none, report, change}
use Rattle.protocol.proofs.Prelude.{Network, Edge, ProtocolState, pop, set-halt, set-dk, set-dn, set-oo, is_r, In, GL, GC, DK, Inf, Root, Spent}
use Rattle.protocol.specs.Decisions.{Rootings}

-- the state afterwards
abbrev pub ruled : ProtocolState → ℕ → ℕ → ℕ → List Msg → ℕ → (ℕ → ℕ) → (ℕ → ℕ) → ℕ → ProtocolState
ruled s u v k r d dn halt oo = set-oo (set-halt (set-dn (set-dk (pop s u k r) (upd s.dk (s.fr v) d)) dn) halt) oo

-- v's fragment is finished; c' are the channels
pub record FragmentDone (p : Network) (s : ProtocolState) (v : ℕ) (halt : ℕ → ℕ) (c' : ℕ → ℕ → List Msg) : Type 0 where
  -- nothing is Basic in it, its core ends found nothing
  pub tight : (j x y : ℕ) → Edge p j x y → s.fr x ≡ s.fr v → s.mark x j ≢ 0
  pub nothing : (j x y : ℕ) → Edge p j x y → s.fr x ≡ s.fr v → GC s x ≡ j → Inf s x × (s.bw x ≡ none)
  -- who has halted is a core end; a core end has halted, or its partner's Report waits, and not both
  pub halted : (j x y : ℕ) → Edge p j x y → s.fr x ≡ s.fr v → halt x ≢ 0 → (z : ℕ) × Edge p (GC s x) x z
  pub halt-no : (j x y : ℕ) → Edge p j x y → s.fr x ≡ s.fr v → GC s x ≡ j → halt x ≢ 0 → ¬ In (report none) (c' y j)
  pub halt-yes : (j x y : ℕ) → Edge p j x y → s.fr x ≡ s.fr v → GC s x ≡ j → halt x ≡ 0 → In (report none) (c' y j)

pub record Ruling (p : Network) (s : ProtocolState) (u v k : ℕ) (r : List Msg) (d : ℕ) (dn halt : ℕ → ℕ) (oo : ℕ) : Type 0 where
  pub inside : s.fr u ≡ s.fr v
  pub level : 1 ≤ GL s v
  pub fresh : DK s v ≢ 3
  -- nobody in the fragment is Find or due
  pub no-find : (x : ℕ) → s.fr x ≡ s.fr v → s.st x ≢ 1
  pub no_due : (x : ℕ) → s.fr x ≡ s.fr v → s.due x ≡ 0
  -- other fragments keep their decisions and who has halted
  pub dn-off : (x : ℕ) → s.fr v ≢ s.fr x → dn (s.fr x) ≡ s.dn (s.fr x)
  pub halt-off : (x : ℕ) → s.fr v ≢ s.fr x → halt x ≡ s.halt x
  pub halt-le : (x : ℕ) → halt x ≤ 1
  -- the new decision
  pub verdict : ((d ≡ 1) × ((x : ℕ) → s.fr x ≡ s.fr v → halt x ≡ 0)) ⊎ ((d ≡ 4) × FragmentDone p s v halt (upd2 s.ch u k r))
  pub rootings : Rootings p (upd s.dk (s.fr v) d) dn s.fr s.gl s.lev s.ib s.ub s.bw s.mark oo
  pub no-report : (j x y : ℕ) → Edge p j x y → Root (ruled s u v k r d dn halt oo) x → s.ib x ≡ j → sum_l is_r (upd2 s.ch u k r y j) ≡ 0
  -- no Change-root is left in it, and every Report in it is spent
  pub no-token : (j x y : ℕ) → Edge p j x y → s.fr x ≡ s.fr v → ¬ In change (upd2 s.ch u k r x j)
  pub spent : (j a b n : ℕ) → Edge p j a b → s.fr a ≡ s.fr v → In (report n) (upd2 s.ch u k r a j) → Spent p (ruled s u v k r d dn halt oo) a b j n
