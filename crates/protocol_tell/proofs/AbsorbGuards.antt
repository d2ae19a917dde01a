-- The guards of the step in which v absorbs the fragment of u over k (`Absorbs`).
use Rattle.protocol.proofs.Prelude.{ℕ, ◌<◌, ◌≡◌, ◌≢◌, List, ◌∷◌, Msg, connect, Network, Edge, ProtocolState, Idle, Flag}

pub record Absorbs (p : Network) (s : ProtocolState) (u v k l x : ℕ) (r : List Msg) : Type 0 where
  pub idle : Idle s
  pub ends : Edge p k u v
  pub awake : s.st v ≢ 0
  pub q : s.ch u k ≡ connect l ∷ r
  pub lower : l < s.lev v
  pub flag : Flag s v x
