-- Report w from u at v over v's in-branch k, v not Find, w later than v's best: it is a core end's (`core-later`), v's best weight an edge (`some-later`).
use Rattle.protocol.proofs.Prelude.{ℕ, ◌<◌, arith, ◌≡◌, ap, ◌≢◌, ⊎_elim, List, ◌∷◌, Msg, none, report}
use Rattle.protocol.proofs.Prelude.{Network, Edge, key, key-none, ProtocolState, Idle, CoreEnds, Inv}
use Rattle.protocol_core.proofs.Core as C

module _ {p : Network} {s : ProtocolState} (i : Inv p s) {u v k w : ℕ} {r : List Msg} (idle : Idle s) (ends : Edge p k u v) (q : s.ch u k ≡ report w ∷ r)
    (ib : s.ib v ≡ k) (found : s.st v ≢ 1) (later : key p (s.bw v) < key p w) where
  -- it is a core end's: a spent one is earlier than v's best
  pub core-later : CoreEnds s u v k w
  core-later = ⊎_elim (λ t. t)
      (λ t. absurd (⊎_elim (λ l. omega arith) (λ l. omega (arith, ap (key p) l.0, ap (key p) l.1)) t.5))
      (C.core-or-spent i ends q found)

  -- v's best weight is an edge
  pub some-later : s.bw v ≢ none
  some-later z = omega (arith, C.weight-le i ends q, ap (key p) z, key-none p)
