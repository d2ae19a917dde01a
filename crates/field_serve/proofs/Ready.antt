-- A field that passed 31 passes it after each step: steps may follow one another (`stays`, `advances`, `hands`).
use Prim.Native.Nat.{ℕ}
use native.Mathlib.Omega.{arith}
use mathlib.Core.Path.{◌≡◌, sym, ap, subst}
use mathlib.Core.List.{List}
use lib.ListN.{length}
use Rattle.base.specs.Loop.{After, refused_by}
use Rattle.plan.specs.Links.{Plan}
use Rattle.field.specs.State.{State}
use Rattle.field.specs.Step.{wake, hand, serve, step}
use Rattle.field_laws.proofs.Keeps.{Sound, step_keeps}
use Rattle.field_words.specs.Laid.{Laid}
use Rattle.field_words.specs.Hands.{lent_state, Hands}
use Rattle.field_check.specs.Ready.{Ready}
use Rattle.field_serve.specs.Lent.{Done, Advances}

module _ (p : Plan) (cells marks lent : List ℕ) (b : Done) (r : Ready p cells marks lent b.waiting b.sent) where
  abbrev before : State
  before = lent_state cells marks lent b.waiting b.sent

  -- a refused step alters nothing
  pub stays : (g : Plan → State → After State) (refusal : ℕ) → g p before ≡ refused_by refusal before
      → {d : Done} → d ≡ record { refusal = refusal; waiting = b.waiting; sent = b.sent } → Advances g p cells marks lent b d cells marks lent
  stays g refusal e q = rw q (record { is = sym e; ready = r })

  -- g leaves a sound state
  pub advances : (g : Plan → State → After State) → Sound p (g p before).state → {d : Done} {cells' marks' lent' : List ℕ}
      → record { refusal = d.refusal; state = lent_state cells' marks' lent' d.waiting d.sent } ≡ g p before → Laid lent' d.waiting → length lent' ≡ length lent
      → Advances g p cells marks lent b d cells' marks' lent'
  advances g h e l k = record {
    is = e;
    ready = record {
      plan = r.plan;
      whole = r.whole;
      laid = l;
      room = omega (arith, r.room);
      sound = subst (Sound p) (sym (ap (λ (a : After State). a.state) e)) h;
    };
  }

  -- hand-overs change the words alone
  pub hands : (g : Plan → State → After State) → Sound p (g p before).state → {a : ℕ} {lent' : List ℕ} → Hands (g p) b.waiting lent a lent' → length lent' ≡ length lent
      → {d : Done} → d ≡ record { refusal = a; waiting = b.waiting; sent = b.sent } → Advances g p cells marks lent b d cells marks lent'
  hands g h x k q = rw q (advances g h (x.is cells marks b.sent) x.laid k)

  -- each kind of step leaves one
  pub wake-sound : (v : ℕ) → Sound p (wake p v before).state
  unfolding step
  wake-sound v = step_keeps p r.plan before r.sound 1 v

  pub hand-sound : (d : ℕ) → Sound p (hand p d before).state
  unfolding step
  hand-sound d = step_keeps p r.plan before r.sound 2 d

  pub serve-sound : (v : ℕ) → Sound p (serve p v before).state
  unfolding step
  serve-sound v = step_keeps p r.plan before r.sound 3 v
