-- Hand-overs one after the other in lent words: what the code's loops keep (`Handed`), and one law for each outcome of a turn (`handed-on`, `handed-off`,
-- `handed-all`).
use Prim.Native.Nat.{ℕ, ◌+◌, ◌≤◌, ◌<◌}
use native.Mathlib.Omega.{arith}
use mathlib.Core.Path.{◌≡◌, refl, sym, ap, ◌∙◌}
use mathlib.Core.Logic.{◌≢◌}
use mathlib.Core.List.{List}
use lib.ListN.{length}
use Rattle.base.specs.Loop.{After, loop}
use Rattle.base.proofs.laws.Loop.{loop-zero, loop-taken, loop-refused}
use Rattle.field.specs.State.{State}
use Rattle.field_words.specs.Laid.{Laid}
use Rattle.field_words.specs.Hands.{lent_state, Hands}

-- the same under another name
pub hands-as : {g h : State → After State} {n refusal : ℕ} {lent lent' : List ℕ} → Hands g n lent refusal lent'
    → ((cells marks : List ℕ) (sent : ℕ) → g (lent_state cells marks lent n sent) ≡ h (lent_state cells marks lent n sent))
    → Hands h n lent refusal lent'
hands-as x e = record { is = λ cells marks sent. x.is cells marks sent ∙ e cells marks sent; laid = x.laid }

-- k turns of g are taken
abbrev pub Handed : (ℕ → State → After State) → ℕ → List ℕ → ℕ → List ℕ → Type 0
Handed g n lent₀ k lent = (length lent ≡ length lent₀) × Hands (loop k g) n lent₀ 0 lent

module _ (g : ℕ → State → After State) (n : ℕ) (lent₀ : List ℕ) where
  pub none-handed : Laid lent₀ n → Handed g n lent₀ 0 lent₀
  none-handed l = (refl, record { is = λ cells marks sent. sym (loop-zero g _); laid = l })

  module _ (k : ℕ) {lent : List ℕ} (t : Handed g n lent₀ k lent) where
    pub handed-all : (m : ℕ) → m ≤ k → k ≤ m → Hands (loop m g) n lent₀ 0 lent
    handed-all m l r = hands-as t.1 (λ cells marks sent. ap (λ (i : ℕ). loop i g (lent_state cells marks lent₀ n sent)) (omega arith))

    -- the next turn answered a
    module _ {a : ℕ} {lent' : List ℕ} (x : Hands (g k) n lent a lent') where
      pub handed-on : length lent' ≡ length lent → a ≡ 0 → Handed g n lent₀ (k + 1) lent'
      handed-on e h = (
        e ∙ t.0,
        record {
          is = λ cells marks sent. sym (loop-taken g k _ _ _ (sym (t.1.is cells marks sent)) (x.is cells marks sent) h);
          laid = x.laid;
        },
      )

      pub handed-off : (m : ℕ) → k < m → a ≢ 0 → Hands (loop m g) n lent₀ a lent'
      handed-off m l h = record {
        is = λ cells marks sent. sym (loop-refused g k _ _ _ (sym (t.1.is cells marks sent)) (x.is cells marks sent) m l h);
        laid = x.laid;
      }
