-- What a restore that is taken leaves (`restore-taken`), and which numbers the calls on a store can answer (`save-answers`, `find-answers`, `restore-answers`).
use Rattle.std.specs.Prelude.{ℕ, ◌≤◌, ◌≡◌, refl, ◌⊎◌, true, cond, not, ◌&&◌, List, length, ltb}
use Rattle.std.proofs.Common.{arith, sym, ◌∙◌, inl, inr, ltb-false}
use Rattle.base.specs.Refuse.{or_else}
use Rattle.base.proofs.laws.Cond.{eqb-cases, cond_has}
use Rattle.base.proofs.laws.Refuse.{or_else-zero, first_refusal-zero}
use Rattle.field.specs.Edges.{ceiling_of}
use Rattle.field.specs.Held.{Held, layout, valid}
use Rattle.store.specs.Records.{joined}
use Rattle.store.specs.Names.{name_fits, holds}
use Rattle.store.specs.Calls.{store_fits, saved, save_refusal, save_point, find_refusal, find_point, point_of, restore_refusal, restore_point}
use Rattle.store.proofs.laws.Outcomes.{find-refusal, restore-refusal}

-- 76, 77 and 21 did not apply
pub record RestoreTaken (name s lent : List ℕ) : Type 0 where
  pub found : find_refusal name s ≡ 0
  pub room : ceiling_of (point_of name s).field.plan ≤ length lent
  pub left : (restore_point name s lent).state ≡ record { field = (point_of name s).field; words = layout (length lent) (point_of name s).words }

pub restore-taken : (name s lent : List ℕ) → (restore_point name s lent).refusal ≡ 0 → RestoreTaken name s lent
unfolding restore_point restore_refusal
restore-taken name s lent z =
    let r : restore_refusal name s lent ≡ 0 = sym (restore-refusal name s lent) ∙ z in
    let f = first_refusal-zero (find_refusal name s) r in
    let g = or_else-zero (ltb (length lent) (ceiling_of (point_of name s).field.plan)) 20 f.1 in
    record { found = f.0; room = ltb-false _ _ g.0; left = rw r refl }

-- THE NUMBERS

abbrev Within : ℕ → ℕ → Type 0
Within last r = (r ≡ 0) ⊎ ((76 ≤ r) × (r ≤ last))

pub save-answers : (name : List ℕ) (h : Held) (s : List ℕ) → valid h ≡ true → Within 78 (save_point name h s).refusal
unfolding save_point save_refusal
save-answers name h s v = rw v
    (cond_has (Within 78) (not (store_fits s)) 76 _ (inr (omega arith, omega arith))
    (cond_has (Within 78) (not (name_fits name)) 77 _ (inr (omega arith, omega arith))
    (cond_has (Within 78) (ltb (length s) (length (joined (saved name h s)))) 78 _ (inr (omega arith, omega arith)) (inl refl))))

finds-within : (name s : List ℕ) → Within 77 (find_refusal name s)
unfolding find_refusal
finds-within name s =
    cond_has (Within 77) (not (store_fits s)) 76 _ (inr (omega arith, omega arith))
    (cond_has (Within 77) (not (name_fits name && holds name s)) 77 _ (inr (omega arith, omega arith)) (inl refl))

pub find-answers : (name s : List ℕ) → Within 77 (find_point name s).refusal
find-answers name s = rw (find-refusal name s) (finds-within name s)

pub restore-answers : (name s lent : List ℕ) → ((restore_point name s lent).refusal ≡ 0) ⊎ ((76 ≤ (restore_point name s lent).refusal) × ((restore_point name s lent).refusal ≤ 77))
    ⊎ ((restore_point name s lent).refusal ≡ 21)
unfolding restore_refusal
restore-answers name s lent = rw (restore-refusal name s lent)
    (eqb-cases (find_refusal name s) 0 (λ b. Answers (cond b few (find_refusal name s)))
    (λ e. cond_has Answers (ltb (length lent) (ceiling_of (point_of name s).field.plan)) 21 _ (inr (inr refl)) (inl refl))
    (λ n. widen (finds-within name s)))
  where
    Answers : ℕ → Type 0
    Answers r = (r ≡ 0) ⊎ ((76 ≤ r) × (r ≤ 77)) ⊎ (r ≡ 21)

    few : ℕ
    few = or_else (ltb (length lent) (ceiling_of (point_of name s).field.plan)) 21 0

    widen : {r : ℕ} → Within 77 r → Answers r
    widen (inl e) = inl e
    widen (inr h) = inr (inl h)
