-- A refused restore alters neither field nor words (`restore-alters-nothing`).
use Rattle.std.specs.Prelude.{ℕ, ◌≡◌, refl, ◌≢◌, List}
use Rattle.base.proofs.laws.Cond.{eqb-diff, by-eq}
use Rattle.field.specs.Held.{Held}
use Rattle.store.specs.Calls.{restore_refusal, restore_point}
use Rattle.library_field.specs.Lent.{made_into}
use Rattle.library_store.specs.Lent.{restore_into}

pub restore-alters-nothing : (name s : List ℕ) (h : Held) → (restore_into name s h).refusal ≢ 0 → (restore_into name s h).state ≡ h
unfolding made_into restore_point
restore-alters-nothing name s h n = by-eq (restore_refusal name s h.words) 0
    (λ z. absurd (n (rw z refl)))
    (λ d. rw (eqb-diff _ 0 d) (rw (eqb-diff _ 0 d) refl))
