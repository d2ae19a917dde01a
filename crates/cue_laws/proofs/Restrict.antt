-- Records of which some are made blank: those of the first n modules that a test leaves out (`restrict`). Its entries: `restrict-in`, `restrict-out`, `restrict-past`; a
-- list with the same entries is the same (`restrict-is`).
use Prim.Native.Nat.{ℕ, zero, suc, ◌+◌, ◌≤◌, ◌<◌}
use Rattle.std.proofs.Common.{add-zero, zero-add, arith, sym, ◌∙◌, ext_get_or, lt-ltb, le-ltb}
use Rattle.std.specs.Prelude.{◌≡◌, Bool, true, false, length, ltb}
use Rattle.std.proofs.Math.Path.{refl, ap}
use Rattle.std.proofs.Math.Bool.{cond}
use mathlib.Core.List.{List, [], ◌∷◌}
use Rattle.base.proofs.laws.Cond.{bool_cases, ltb-cases}
use Rattle.cue.specs.declared.Cue.{Cue}
use Rattle.cue.specs.Record.{unheard, record_of}

-- the records from module i on
restrict_from : (ℕ → Bool) → ℕ → List Cue → List Cue
restrict_from X i [] = []
restrict_from X i (c ∷ cues) = cond (X i) c unheard ∷ restrict_from X (suc i) cues

pub restrict : ℕ → (ℕ → Bool) → List Cue → List Cue
restrict n X cues = restrict_from (λ v. cond (ltb v n) (X v) true) 0 cues

module _ (X : ℕ → Bool) where
  length_from : (i : ℕ) (cues : List Cue) → length (restrict_from X i cues) ≡ length cues
  unfolding restrict_from
  length_from i [] = refl
  length_from i (c ∷ cues) = ap suc (length_from (suc i) cues)

  from_at : (i : ℕ) (cues : List Cue) (v : ℕ) → record_of (restrict_from X i cues) v ≡ cond (X (i + v)) (record_of cues v) unheard
  unfolding restrict_from
  from_at i [] v = bool_cases (X (i + v)) (λ e. rw e) (λ e. rw e)
  from_at i (c ∷ cues) zero = ap (λ j. cond (X j) c unheard) (sym (add-zero i))
  from_at i (c ∷ cues) (suc v) = from_at (suc i) cues v ∙ ap (λ j. cond (X j) (record_of cues v) unheard) (omega arith)

module _ (n : ℕ) (X : ℕ → Bool) (cues : List Cue) where
  pub length-restrict : length (restrict n X cues) ≡ length cues
  unfolding restrict
  length-restrict = length_from (λ v. cond (ltb v n) (X v) true) 0 cues

  restrict-at : (v : ℕ) → record_of (restrict n X cues) v ≡ cond (cond (ltb v n) (X v) true) (record_of cues v) unheard
  unfolding restrict
  restrict-at v = from_at (λ w. cond (ltb w n) (X w) true) 0 cues v ∙ ap (λ j. cond (cond (ltb j n) (X j) true) (record_of cues v) unheard) (zero-add v)

  pub restrict-in : (v : ℕ) → X v ≡ true → record_of (restrict n X cues) v ≡ record_of cues v
  restrict-in v x = restrict-at v ∙ bool_cases (ltb v n) (λ e. rw (e, x)) (λ e. rw e)

  pub restrict-out : (v : ℕ) → v < n → X v ≡ false → record_of (restrict n X cues) v ≡ unheard
  restrict-out v l x = restrict-at v ∙ rw (lt-ltb v n l, x)

  pub restrict-past : (v : ℕ) → n ≤ v → record_of (restrict n X cues) v ≡ record_of cues v
  restrict-past v l = restrict-at v ∙ rw (le-ltb v n l)

  -- what is blank may be left out
  pub restrict-blank : (v : ℕ) → record_of cues v ≡ unheard → record_of (restrict n X cues) v ≡ unheard
  restrict-blank v e = restrict-at v ∙ rw e (bool_cases (cond (ltb v n) (X v) true) (λ b. rw b) (λ b. rw b))

  pub restrict-is : (l : List Cue) → length l ≡ length cues → ((v : ℕ) → v < n → record_of l v ≡ record_of (restrict n X cues) v)
      → ((v : ℕ) → n ≤ v → record_of l v ≡ record_of cues v) → l ≡ restrict n X cues
  restrict-is l e f g = ext_get_or unheard l (restrict n X cues) (e ∙ sym length-restrict)
      (λ v m. ltb-cases v n (λ b. record_of l v ≡ record_of (restrict n X cues) v) (f v) (λ b. g v b ∙ sym (restrict-past v b)))

pub restrict-like : (n : ℕ) (X Y : ℕ → Bool) (cues : List Cue) (v : ℕ) → X v ≡ Y v → record_of (restrict n X cues) v ≡ record_of (restrict n Y cues) v
restrict-like n X Y cues v e = restrict-at n X cues v ∙ ap (λ b. cond (cond (ltb v n) b true) (record_of cues v) unheard) e ∙ sym (restrict-at n Y cues v)
