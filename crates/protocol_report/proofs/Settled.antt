-- Procedure report at v, which waits for nothing: nobody owes v a Report (`no-owe`).
use Rattle.protocol.proofs.Prelude.{ℕ, suc, ◌<◌, arith, ◌≡◌, le-sum, none, Network, Edge, ProtocolState, Inv}

module _ {p : Network} {s : ProtocolState} (i : Inv p s) {v k u : ℕ} (ot : s.ot ≡ 0) (op : s.op ≡ suc v) (oo : s.oo ≡ 0) (ends : Edge p k v u)
    (ib : s.ib v ≡ k) (fc : s.fc v ≡ 0) (te : s.te v ≡ none) where
  -- a node that owes v its Report would be counted
  pub no-owe : (j : ℕ) → j < p.g.L → s.owe v j ≡ 0
  no-owe j l = omega (arith, le-sum p.g.L j (s.owe v) l, i.find_counts.f4 v)
