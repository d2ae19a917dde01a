-- A stuck state (`Stuck`): no response is under way, and every message would be put back by an awake receiver.
use Rattle.protocol.proofs.Prelude.{ℕ, ◌≢◌, Msg, Network, Edge, ProtocolState, Idle, Blocked, In}

-- every message has an awake receiver that would put it back
pub record Stuck (p : Network) (s : ProtocolState) : Type 0 where
  pub idle : Idle s
  pub back : (k u v : ℕ) (m : Msg) → Edge p k u v → In m (s.ch u k) → (s.st v ≢ 0) × Blocked s v k m
