-- Turns one after the other in lent arrays: what the code's loops keep (`Turned`), and one law for each outcome of a turn (`turn_on`, `turn-off`,
-- `turns-over`).
use Prim.Native.Nat.{ℕ, ◌+◌, ◌≤◌, ◌<◌}
use native.Mathlib.Omega.{arith}
use mathlib.Core.Path.{◌≡◌, refl, sym, ap, subst, ◌∙◌}
use mathlib.Core.Logic.{◌≢◌}
use mathlib.Core.List.{List}
use lib.ListN.{length}
use Rattle.base.specs.Loop.{After, taken_to, loop}
use Rattle.base.proofs.laws.Loop.{loop-zero, loop-taken, loop-refused}
use Rattle.plan.specs.Links.{Plan}
use Rattle.field.specs.declared.Field.{Field}
use Rattle.field.specs.State.{State}
use Rattle.field_words.specs.Hands.{lent_state}
use Rattle.field_check.specs.Ready.{Ready}
use Rattle.field_serve.specs.Lent.{Done, standing, ended, Advances, Moves}

-- the same step under another name
pub advances-as : {g h : Plan → State → After State} {p : Plan} {cells marks lent cells' marks' lent' : List ℕ} {b d : Done}
    → Advances g p cells marks lent b d cells' marks' lent' → g p (lent_state cells marks lent b.waiting b.sent) ≡ h p (lent_state cells marks lent b.waiting b.sent)
    → Advances h p cells marks lent b d cells' marks' lent'
advances-as x e = record { is = x.is ∙ e; ready = x.ready }

pub moves-as : {g h : Plan → State → After State} {f f' : Field} {lent lent' : List ℕ} {n n' refusal : ℕ} → Moves g f lent n refusal f' lent' n'
    → g f.plan (lent_state f.cells f.marks lent n f.sent) ≡ h f.plan (lent_state f.cells f.marks lent n f.sent) → Moves h f lent n refusal f' lent' n'
moves-as x e = record { advances = advances-as x.advances e; plan = x.plan }

-- the same at an equal plan
pub moves-at : {g : Plan → State → After State} {f f' : Field} {lent lent' : List ℕ} {n n' refusal : ℕ} → Moves g f lent n refusal f' lent' n' → {p : Plan} → f.plan ≡ p
    → Advances g p f.cells f.marks lent (standing n f) (ended refusal n' f') f'.cells f'.marks lent' × (f'.plan ≡ p)
moves-at {g} {f} {f'} {lent} {lent'} {n} {n'} {refusal} x e =
    (subst (λ (q : Plan). Advances g q f.cells f.marks lent (standing n f) (ended refusal n' f') f'.cells f'.marks lent') e x.advances, x.plan ∙ e)

-- s is what the last turn left: k turns of g are taken
abbrev pub Turned : (Plan → ℕ → State → After State) → Plan → List ℕ → List ℕ → List ℕ → Done → ℕ → Done → List ℕ → List ℕ → List ℕ → Type 0
Turned g p cells₀ marks₀ lent₀ b k s cells marks lent =
    (s.refusal ≡ 0) × (length lent ≡ length lent₀) × Advances (λ p. loop k (g p)) p cells₀ marks₀ lent₀ b s cells marks lent

module _ (g : Plan → ℕ → State → After State) (p : Plan) (cells₀ marks₀ lent₀ : List ℕ) (b : Done) where
  abbrev start : State
  start = lent_state cells₀ marks₀ lent₀ b.waiting b.sent

  pub no-turn : Ready p cells₀ marks₀ lent₀ b.waiting b.sent → b.refusal ≡ 0 → Turned g p cells₀ marks₀ lent₀ b 0 b cells₀ marks₀ lent₀
  no-turn r e = (e, refl, record { is = ap (λ (a : ℕ). record { refusal = a; state = start }) e ∙ sym (loop-zero (g p) start); ready = r })

  module _ (k : ℕ) {s : Done} {cells marks lent : List ℕ} (t : Turned g p cells₀ marks₀ lent₀ b k s cells marks lent) where
    were : loop k (g p) start ≡ taken_to (lent_state cells marks lent s.waiting s.sent)
    were = sym t.2.is ∙ ap (λ (a : ℕ). record { refusal = a; state = lent_state cells marks lent s.waiting s.sent }) t.0

    pub turns-over : (m : ℕ) → m ≤ k → k ≤ m → Advances (λ p. loop m (g p)) p cells₀ marks₀ lent₀ b s cells marks lent
    turns-over m l r = record { is = t.2.is ∙ ap (λ (i : ℕ). loop i (g p) start) (omega arith); ready = t.2.ready }

    -- z is what the next turn left
    module _ {z : Done} {cells' marks' lent' : List ℕ} (x : Advances (λ p. g p k) p cells marks lent s z cells' marks' lent') where
      pub turn_on : length lent' ≡ length lent → z.refusal ≡ 0 → Turned g p cells₀ marks₀ lent₀ b (k + 1) z cells' marks' lent'
      turn_on e h = (
        h,
        e ∙ t.1,
        record {
          is = ap (λ (a : ℕ). record { refusal = a; state = lent_state cells' marks' lent' z.waiting z.sent }) h ∙ sym (loop-taken (g p) k start _ _ were x.is h);
          ready = x.ready;
        },
      )

      pub turn-off : (m : ℕ) → k < m → z.refusal ≢ 0 → Advances (λ p. loop m (g p)) p cells₀ marks₀ lent₀ b z cells' marks' lent'
      turn-off m l h = record { is = sym (loop-refused (g p) k start _ _ were x.is m l h); ready = x.ready }
