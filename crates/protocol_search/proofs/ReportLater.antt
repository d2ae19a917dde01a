-- Procedure report while v still waits for a Report or an answer: nothing but the open flag changes (`inv-report-later`).
use Rattle.protocol.proofs.Prelude.{ℕ, suc, arith, ◌≡◌, subst, ◌≢◌, ◌⊎◌, inl, inr, ⊎_elim, by-eq}
use Rattle.protocol.proofs.Prelude.{none, Network, ProtocolState, set-op, Inv, flow, inv-asking, flow-open}

module _ {p : Network} {s : ProtocolState} (i : Inv p s) {v : ℕ} (ot : s.ot ≡ 0) (op : s.op ≡ suc v) (oo : s.oo ≡ 0) (busy : (s.fc v ≢ 0) ⊎ (s.te v ≢ none)) where
  abbrev S' : ProtocolState
  S' = set-op s 0

  waits : (w : ℕ) → s.st w ≡ 1 → (s.fc w ≢ 0) ⊎ ((s.te w ≢ none) ⊎ ((s.ot ≡ suc w) ⊎ (0 ≡ suc w)))
  waits w h = by-eq v w (λ q. subst (λ x. (s.fc x ≢ 0) ⊎ ((s.te x ≢ none) ⊎ ((s.ot ≡ suc x) ⊎ (0 ≡ suc x)))) q (⊎_elim (λ n. inl n) (λ n. inr (inl n)) busy))
      (λ n. ⊎_elim (λ c. inl c) (⊎_elim (λ c. inr (inl c)) (⊎_elim (λ c. inr (inr (inl c))) (λ c. absurd (n (omega arith))))) (i.pending.f2 w h))

  pub inv-report-later : Inv p S'
  inv-report-later = inv-asking i s.te s.ot 0 s.ch
      (record { f2 = waits; f3t = i.pending.f3t; f3c = i.pending.f3c; f5t = i.pending.f5t; f5p = λ w h. absurd (omega arith) }) i.tests
      (flow-open p s s.te s.be s.fc s.ot 0 s.oo (flow i))
      (record { e1 = i.testing.e1; e1w = i.testing.e1w; e2w = i.testing.e2w; e2c = i.testing.e2c; m6t = i.testing.m6t })
      (record { a1 = i.answers.a1; j1 = i.answers.j1 })
      (record { b1e = i.bests.b1e; b2 = i.bests.b2 })
