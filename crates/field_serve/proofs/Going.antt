-- Turns one after the other that may rest, in lent arrays: what the code's loops keep (`Going`), and one law for each outcome of a turn (`goes-rest`,
-- `goes-on`, `goes-off`, `goes_over`).
use Prim.Native.Nat.{ℕ, ◌+◌, ◌≤◌, ◌<◌}
use mathlib.Core.Path.{◌≡◌, refl, sym, ap, ◌∙◌}
use mathlib.Core.Logic.{◌≢◌}
use mathlib.Core.Bool.{Bool, true, false}
use mathlib.Core.List.{List}
use lib.ListN.{length}
use Rattle.base.specs.Loop.{After, Ran, runs}
use Rattle.base.proofs.laws.Loop.{went, runs-rest, runs_taken, runs-refused, runs_done}
use Rattle.plan.specs.Links.{Plan}
use Rattle.field.specs.State.{State}
use Rattle.field_words.specs.Hands.{lent_state}
use Rattle.field_check.specs.Ready.{Ready}
use Rattle.field_serve.specs.Lent.{Done, Advances, Runs}

-- s is what the last turn left: k turns of g are taken, and none found rest
abbrev pub Going : (State → Bool) → (Plan → ℕ → State → After State) → Plan → List ℕ → List ℕ → List ℕ → Done → ℕ → Done → List ℕ → List ℕ → List ℕ → Type 0
Going rest g p cells₀ marks₀ lent₀ b k s cells marks lent =
    (s.refusal ≡ 0) × (length lent ≡ length lent₀) × Runs (λ p. runs rest k (g p)) p cells₀ marks₀ lent₀ b k s cells marks lent

module _ (rest : State → Bool) (g : Plan → ℕ → State → After State) (p : Plan) (cells₀ marks₀ lent₀ : List ℕ) (b : Done) where
  abbrev start : State
  start = lent_state cells₀ marks₀ lent₀ b.waiting b.sent

  pub not-gone : Ready p cells₀ marks₀ lent₀ b.waiting b.sent → b.refusal ≡ 0 → Going rest g p cells₀ marks₀ lent₀ b 0 b cells₀ marks₀ lent₀
  unfolding runs
  not-gone r e = (e, refl, record { is = ap (λ (a : ℕ). record { done = 0; refusal = a; state = start }) e; ready = r })

  module _ (k : ℕ) {s : Done} {cells marks lent : List ℕ} (t : Going rest g p cells₀ marks₀ lent₀ b k s cells marks lent) where
    were : runs rest k (g p) start ≡ went k (lent_state cells marks lent s.waiting s.sent)
    were = sym t.2.is ∙ ap (λ (a : ℕ). record { done = k; refusal = a; state = lent_state cells marks lent s.waiting s.sent }) t.0

    still : {r : Ran State} → r ≡ went k (lent_state cells marks lent s.waiting s.sent) → record { done = k; refusal = s.refusal; state = lent_state cells marks lent s.waiting s.sent } ≡ r
    still e = ap (λ (a : ℕ). record { done = k; refusal = a; state = lent_state cells marks lent s.waiting s.sent }) t.0 ∙ sym e

    pub goes_over : (m : ℕ) → m ≤ k → k ≤ m → Runs (λ p. runs rest m (g p)) p cells₀ marks₀ lent₀ b k s cells marks lent
    goes_over m l r = record { is = still (runs_done rest (g p) m k start _ were l r); ready = t.2.ready }

    pub goes-rest : (m : ℕ) → k ≤ m → rest (lent_state cells marks lent s.waiting s.sent) ≡ true → Runs (λ p. runs rest m (g p)) p cells₀ marks₀ lent₀ b k s cells marks lent
    goes-rest m l h = record { is = still (runs-rest rest (g p) k start _ were m l h); ready = t.2.ready }

    -- z is what the next turn left
    module _ (more : rest (lent_state cells marks lent s.waiting s.sent) ≡ false) {z : Done} {cells' marks' lent' : List ℕ}
        (x : Advances (λ p. g p k) p cells marks lent s z cells' marks' lent') where
      pub goes-on : length lent' ≡ length lent → z.refusal ≡ 0 → Going rest g p cells₀ marks₀ lent₀ b (k + 1) z cells' marks' lent'
      goes-on e h = (
        h,
        e ∙ t.1,
        record {
          is = ap (λ (a : ℕ). record { done = k + 1; refusal = a; state = lent_state cells' marks' lent' z.waiting z.sent }) h ∙ sym (runs_taken rest (g p) k start _ were _ x.is more h);
          ready = x.ready;
        },
      )

      pub goes-off : (m : ℕ) → k < m → z.refusal ≢ 0 → Runs (λ p. runs rest m (g p)) p cells₀ marks₀ lent₀ b k z cells' marks' lent'
      goes-off m l h = record { is = sym (runs-refused rest (g p) k start _ were _ x.is more m l h); ready = x.ready }
