-- What the code wrote is the verdict carried out (`out-refused`, `out-placed`), and with it the step that was decided (`executable`, `out-advances`).
use Prim.Native.Nat.{ℕ, ◌+◌, ◌≤◌}
use native.Mathlib.Omega.{arith}
use mathlib.Core.Path.{◌≡◌, refl, sym, ap, ◌∙◌}
use mathlib.Core.Logic.{◌≢◌}
use mathlib.Core.List.{List, ◌++◌}
use lib.ListN.{length, take}
use lib.Seq.{length-take-le}
use borrow.Author.Tests.{ne_eqb}
use Rattle.std.specs.Prelude.{Err}
use Rattle.refusal.specs.declared.Refusal.{Refusal}
use Rattle.refusal.specs.Number.{numbered}
use Rattle.refusal.proofs.laws.Number.{positive}
use Rattle.field.specs.declared.Field.{Field}
use Rattle.base.specs.Limits.{max_words}
use Rattle.base.specs.Loop.{After, taken_to}
use Rattle.base.proofs.laws.Ceiling.{ceiling-most}
use Rattle.plan.specs.Links.{Plan, modules_of, links_of}
use Rattle.node.specs.Work.{Work}
use Rattle.node_response.specs.Response.{answer_of}
use Rattle.field.specs.State.{State, put_node, posted, placed}
use Rattle.field.specs.Step.{without, back_of}
use Rattle.field_laws.proofs.Keeps.{Sound}
use Rattle.field_cells.specs.Marks.{mark_put}
use Rattle.field_cells.proofs.Marks.{mark-put}
use Rattle.field_place.specs.Posted.{sends_by}
use Rattle.field_words.specs.Hands.{lent_state}
use Rattle.field_check.specs.Ready.{Ready}
use Rattle.field_verdict.specs.Verdict.{Verdict, verdict_of, work_in, outcome, Decided}
use Rattle.field_verdict.proofs.Decided.{decided-own}
use Rattle.field_serve.specs.Holds.{Holds}
use Rattle.field_serve.specs.Lent.{Done, Advances, Executable, CarriedOut, Moves}
use Rattle.field_serve.proofs.Holds.{holds_on}
use Rattle.field_serve.proofs.Ready.{advances}

taken_is : (w : Work) (p : Plan) (v : ℕ) (s : State) (y : Verdict) → y.refusal ≡ 0
    → outcome w p v s y ≡ taken_to (placed p v w s (without y.at s.words) (back_of w y.word))
taken_is w p v s y e = rw e

state-is : {a b c d e f : List ℕ} {g h : ℕ} → a ≡ b → c ≡ d → e ≡ f → g ≡ h
    → ◌≡◌ {A = State} (record { cells = a; marks = c; words = e; sent = g }) (record { cells = b; marks = d; words = f; sent = h })
state-is p q r s = cc

module _ (p : Plan) (cells marks lent : List ℕ) (b : Done) (v : ℕ) (y : Verdict) where
  abbrev before : State
  before = lent_state cells marks lent b.waiting b.sent

  abbrev work : Work
  work = work_in p v before y

  module _ (x : Executable p cells marks lent b v y) where
    -- a refusal alters nothing
    pub out-refused : y.refusal ≢ 0 → {d : Done} → d ≡ record { refusal = y.refusal; waiting = b.waiting; sent = b.sent } → CarriedOut p v y cells marks lent b d cells marks lent
    out-refused n q = rw q (record { is = rw (ne_eqb y.refusal 0 n); laid = x.ready.laid })

    module _ (h : y.refusal ≡ 0) where
      -- the messages fit behind the words that wait, and the sent count stays small
      pub out-fits : b.waiting + y.sends ≤ length lent
      out-fits = omega (arith, (x.can h).room, x.ready.sound.fits.waiting, length-take-le b.waiting lent x.ready.laid.within, x.ready.room)

      pub out-counts : b.sent + y.sends ≤ max_words
      out-counts = omega (arith, (x.can h).room, ceiling-most (modules_of p) (links_of p) x.ready.plan.modules_ok x.ready.plan.links_ok)

      pub out-placed : {cells' marks' mid last : List ℕ} {l k size : ℕ} → cells' ≡ put_node cells v y.response.node → marks' ≡ mark_put p marks v y.response.newmark
          → Holds mid l size (without y.at (take b.waiting lent) ++ posted p v (sends_by p marks v y.word y.response))
          → ((w : Work) → w.answer ≡ answer_of y.response.answer → Holds last k (length mid) (take l mid ++ back_of w y.word))
          → {d : Done} → d ≡ record { refusal = 0; waiting = k; sent = b.sent + y.sends } → CarriedOut p v y cells marks lent b d cells' marks' last
      out-placed e1 e2 t k q = rw q (record {
        is = ap taken_to (state-is e1 (e2 ∙ mark-put p x.ready.plan marks v x.ready.sound.sized.marks y.response.newmark) (holds_on _ t (k work refl)).waits
            (ap (λ (c : ℕ). b.sent + c) (x.can h).count))
            ∙ sym (taken_is work p v before y h);
        laid = (k work refl).laid;
      })

  -- the verdict on step g
  module _ (r : Ready p cells marks lent b.waiting b.sent) (g : Plan → State → After State) {w : Work} (t : Decided (g p before) w p v before y) where
    pub executable : Executable p cells marks lent b v y
    executable = record { ready = r; can = (decided-own t).can }

    pub out-advances : Sound p (g p before).state → {d : Done} {cells' marks' lent' : List ℕ} → CarriedOut p v y cells marks lent b d cells' marks' lent'
        → length lent' ≡ length lent → Advances g p cells marks lent b d cells' marks' lent'
    out-advances h o = advances p cells marks lent b r g h (o.is ∙ sym (decided-own t).is) o.laid

-- a step that was refused: nothing is altered
module _ (f : Field) (lent : List ℕ) (n v : ℕ) (r : Ready f.plan f.cells f.marks lent n f.sent) (g : Plan → State → After State) {w : Work} (x : Refusal)
    (t : Decided (g f.plan (lent_state f.cells f.marks lent n f.sent)) w f.plan v (lent_state f.cells f.marks lent n f.sent) (verdict_of (Err x))) where
  pub refused-moves : Moves g f lent n (numbered x) f lent n
  refused-moves = record { advances = record { is = sym (t.is ∙ rw (ne_eqb (numbered x) 0 (positive x))); ready = r }; plan = refl }
