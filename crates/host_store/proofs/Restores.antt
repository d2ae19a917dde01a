-- Restoring by its outcomes: `restore-missing`, `restore-few`, `restore-done`.
use Prim.Native.Nat.{ℕ, ◌≤◌, ◌<◌}
use native.Mathlib.Omega.{arith}
use mathlib.Core.Path.{◌≡◌, refl, sym, ap, ◌∙◌}
use mathlib.Core.Logic.{◌≢◌}
use mathlib.Core.List.{List}
use lib.ListN.{length}
use borrow.Author.Tests.{ne_eqb, lt-ltb, le-ltb}
use Rattle.base.specs.Loop.{taken_to}
use Rattle.field.specs.declared.Field.{Field}
use Rattle.field.specs.Edges.{ceiling_of}
use Rattle.field.specs.Held.{layout, not_set_up}
use Rattle.store.specs.Calls.{find_refusal, find_point, point_of, restore_refusal, restore_point}
use Rattle.store.proofs.laws.Outcomes.{find-refusal}

module _ (name s lent : List ℕ) where
  -- refused by n
  refused_as : (n : ℕ) → n ≢ 0 → restore_refusal name s lent ≡ n → not_set_up n lent ≡ restore_point name s lent
  unfolding restore_point
  refused_as n d q = sym (rw (q, ne_eqb n 0 d) refl)

  pub restore-missing : (r : ℕ) → r ≡ (find_point name s).refusal → r ≢ 0 → not_set_up r lent ≡ restore_point name s lent
  unfolding restore_refusal
  restore-missing r e d = refused_as r d (rw (sym (find-refusal name s) ∙ sym e, ne_eqb r 0 d))

  module _ (z : (find_point name s).refusal ≡ 0) (p : List ℕ) (e : p ≡ (point_of name s).field.plan) where
    abbrev found : find_refusal name s ≡ 0
    found = sym (find-refusal name s) ∙ z

    pub restore-few : length lent < ceiling_of p → not_set_up 21 lent ≡ restore_point name s lent
    unfolding restore_refusal
    restore-few l = refused_as 21 (λ y. omega arith) (rw (found, lt-ltb (length lent) (ceiling_of (point_of name s).field.plan) (omega (arith, l, ap ceiling_of e))))

    pub restore-done : ceiling_of p ≤ length lent → (f : Field) (words : List ℕ) → f ≡ (point_of name s).field → words ≡ layout (length lent) (point_of name s).words
        → taken_to (record { field = f; words = words }) ≡ restore_point name s lent
    unfolding restore_point restore_refusal
    restore-done l f words g w = rw (g, w) (sym (rw (found, le-ltb (length lent) (ceiling_of (point_of name s).field.plan) (omega (arith, l, ap ceiling_of e))) refl))
