-- What has to hold where a Report or a Change-root from u over k makes v execute procedure change-root (`RootReady`).
use Rattle.protocol.proofs.Prelude.{ℕ, ◌≡◌, ◌≢◌, List, upd2, sum_l, Msg, none, report, change}
use Rattle.protocol.proofs.Prelude.{Network, Edge, key, ProtocolState, is_r, In, DK, Inf, Bounds, Spent}

pub record RootReady (p : Network) (s : ProtocolState) (u v k : ℕ) (r : List Msg) : Type 0 where
  pub ends : Edge p k u v
  pub inside : s.fr u ≡ s.fr v
  -- v is informed, k is its in-branch and inbound for both ends
  pub inf : Inf s v
  pub ib : s.ib v ≡ k
  pub ub-v : s.ub v ≡ k
  pub ub-u : s.ub u ≡ k
  -- v's best weight is not later than any edge that is Basic in the fragment
  pub some : s.bw v ≢ none
  pub bounds : Bounds p s (key p (s.bw v)) v
  -- the fragment is neither half nor finished, nobody in it is Find or due
  pub fresh : DK s v ≢ 3
  pub unfinished : DK s v ≢ 4
  pub no-find : (x : ℕ) → s.fr x ≡ s.fr v → s.st x ≢ 1
  pub no_due : (x : ℕ) → s.fr x ≡ s.fr v → s.due x ≡ 0
  -- no Report is left on the way to v, no Change-root in the fragment, and every Report in it is spent
  pub silent : sum_l is_r (upd2 s.ch u k r u k) ≡ 0
  pub no-token : (j x y : ℕ) → Edge p j x y → s.fr x ≡ s.fr v → ¬ In change (upd2 s.ch u k r x j)
  pub spent : (j a b n : ℕ) → Edge p j a b → s.fr a ≡ s.fr v → In (report n) (upd2 s.ch u k r a j) → Spent p s a b j n
