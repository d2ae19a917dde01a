-- A field that passes 31 is ready for steps (`ready`).
use Prim.Native.Nat.{ℕ, ◌≤◌}
use native.Mathlib.Omega.{arith}
use mathlib.Core.Path.{◌≡◌, sym, ap, subst, ◌∙◌}
use Rattle.std.specs.Prelude.{Result, Ok, Err, IfOk}
use Rattle.field_check.specs.declared.NoField.{NoField}
use mathlib.Core.Bool.{◌&&◌, and-eq-true_iff}
use mathlib.Core.List.{List}
use lib.ListN.{length}
use lib.Dec.{eqb, leb}
use borrow.Author.Tests.{leb-true}
use Rattle.plan.specs.Refusal.{plan_refusal}
use Rattle.base.specs.Limits.{max_ends}
use Rattle.plan.specs.Links.{plan_size}
use Rattle.field.specs.declared.Field.{Field}
use Rattle.field.specs.Edges.{ceiling_of}
use Rattle.field.specs.State.{CELLS}
use Rattle.field.specs.Valid.{zero_after, fits}
use Rattle.field.specs.Held.{Held, layout, valid}
use Rattle.field.specs.Held as H
use Rattle.field_laws.proofs.Keeps.{Sound}
use Rattle.field_laws.proofs.Laid.{Live, live-plan, live-sound, held_same}
use Rattle.field_check.specs.Checked.{check_of}
use Rattle.field_check.proofs.Words.{within}
use Rattle.field_check.specs.Ready.{Ready}
use Rattle.field_check.proofs.Admitted.{passes, admitted-waiting, words-waiting, starts}

-- the arrays of a field have room for every plan
pub record Full (f : Field) : Type 0 where
  pub plan : length f.plan ≡ plan_size
  pub cells : length f.cells ≡ CELLS
  pub marks : length f.marks ≡ max_ends

module _ (f : Field) (lent : List ℕ) (n : ℕ) (full : Full f) (e : Ok n ≡ check_of (record { field = f; words = lent })) where
  abbrev h : Held
  h = record { field = f; words = lent }

  live : Live h
  live = record { cells = omega (arith, full.cells); marks = omega (arith, full.marks); valid = passes f lent e }

  enough-words : ceiling_of f.plan ≤ length lent
  unfolding valid
  enough-words =
      let a = (and-eq-true_iff (eqb (plan_refusal f.plan) 0 && leb (ceiling_of f.plan) (length lent) && zero_after lent) (fits f.plan (H.state_of h))).0 (passes f lent e) in
      let b = (and-eq-true_iff (eqb (plan_refusal f.plan) 0 && leb (ceiling_of f.plan) (length lent)) (zero_after lent)).0 a.0 in
      leb-true _ _ ((and-eq-true_iff (eqb (plan_refusal f.plan) 0) (leb (ceiling_of f.plan) (length lent))).0 b.0).1

  pub ready : Ready f.plan f.cells f.marks lent n f.sent
  ready = record {
    plan = live-plan h live;
    whole = full.plan;
    laid = record {
      within = within lent n (admitted-waiting f lent e);
      zeros = sym (ap (layout (length lent)) (words-waiting f lent e) ∙ ap (λ (x : Held). x.words) (held_same h live.valid));
    };
    room = enough-words;
    sound = subst (Sound f.plan) (sym (starts f lent e)) (live-sound h live);
  }

-- the same of what the check answers
pub ready-if : (f : Field) (lent : List ℕ) (full : Full f) (r : Result ℕ NoField) → r ≡ check_of (record { field = f; words = lent })
    → IfOk r (λ n. Ready f.plan f.cells f.marks lent n f.sent)
ready-if f lent full (Ok n) e = ready f lent n full e
ready-if f lent full (Err r) e = tt
