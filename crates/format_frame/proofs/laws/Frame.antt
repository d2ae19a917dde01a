-- What each test of a frame settles, for the check (`by_size` to `taken`, `accepted`), the reader (`read-refused`, `read_taken`) and the writer
-- (`write-unlisted`, `write-short`, `write_done`).
use Rattle.std.specs.Prelude.{ℕ, ◌/◌, ◌%◌, ◌≡◌, refl, List, true, false, length, get_or, set, eqb}
use Rattle.std.proofs.Math.Bool.{and-eq-true_iff}
use borrow.Author.Tests.{eq-eqb, ne_eqb, eqb-true, not-false}
use Rattle.base.proofs.laws.Refuse.{or_else-zero}
use Rattle.format_int16.specs.Int16.{at16}
use Rattle.format_message.specs.Listed.{listed}
use Rattle.format_frame.specs.Frame.{frame_bytes, frame_refusal, frame_read, frame_write_refusal, frame_written}
use Rattle.format_frame.proofs.laws.Six.{six}

-- the refusal, test by test
module _ (s : List ℕ) where
  pub by_size : (length s ≡ 6 → ⊥) → frame_refusal s ≡ 61
  unfolding frame_refusal
  by_size n = simp (ne_eqb (length s) 6 n)

  module _ (p : length s ≡ 6) where
    pub by-version : (get_or s 0 0 ≡ 1 → ⊥) → frame_refusal s ≡ 62
    unfolding frame_refusal
    by-version n = simp (eq-eqb (length s) 6 p, ne_eqb (get_or s 0 0) 1 n)

    module _ (v : get_or s 0 0 ≡ 1) where
      pub by_length : (at16 s 1 ≡ 3 → ⊥) → frame_refusal s ≡ 62
      unfolding frame_refusal
      by_length n = simp (eq-eqb (length s) 6 p, eq-eqb (get_or s 0 0) 1 v, ne_eqb (at16 s 1) 3 n)

      module _ (l : at16 s 1 ≡ 3) where
        pub by-list : listed (get_or s 3 0) (at16 s 4) ≡ false → frame_refusal s ≡ 63
        unfolding frame_refusal
        by-list e = simp (eq-eqb (length s) 6 p, eq-eqb (get_or s 0 0) 1 v, eq-eqb (at16 s 1) 3 l, e)

        pub taken : listed (get_or s 3 0) (at16 s 4) ≡ true → frame_refusal s ≡ 0
        unfolding frame_refusal
        taken e = simp (eq-eqb (length s) 6 p, eq-eqb (get_or s 0 0) 1 v, eq-eqb (at16 s 1) 3 l, e)

-- what a taken frame is
pub record FrameOk (s : List ℕ) : Type 0 where
  pub size : length s ≡ 6
  pub version : get_or s 0 0 ≡ 1
  pub rest : at16 s 1 ≡ 3
  pub holds : listed (get_or s 3 0) (at16 s 4) ≡ true

pub frame-ok : (s : List ℕ) → frame_refusal s ≡ 0 → FrameOk s
unfolding frame_refusal
frame-ok s e =
    let f61 = or_else-zero _ 60 e in
    let f62 = or_else-zero _ 61 f61.1 in
    let f63 = or_else-zero _ 62 f62.1 in
    let both = (and-eq-true_iff (eqb (get_or s 0 0) 1) (eqb (at16 s 1) 3)).0 (not-false _ f62.0) in
    record {
      size = eqb-true _ _ (not-false _ f61.0);
      version = eqb-true _ _ both.0;
      rest = eqb-true _ _ both.1;
      holds = not-false _ f63.0;
    }

-- the reader's two answers
module _ (s : List ℕ) where
  pub read-refused : (frame_refusal s ≡ 0 → ⊥) → frame_read s ≡ record { refusal = frame_refusal s; header = 0; carried = 0 }
  unfolding frame_read
  read-refused n = simp (ne_eqb (frame_refusal s) 0 n)

  pub frame-read-taken : frame_refusal s ≡ 0 → frame_read s ≡ record { refusal = 0; header = get_or s 3 0; carried = at16 s 4 }
  unfolding frame_read
  frame-read-taken e = simp (eq-eqb (frame_refusal s) 0 e)

-- the writer's three answers
module _ (h c : ℕ) (out : List ℕ) where
  pub write-unlisted : listed h c ≡ false → frame_written h c out ≡ record { refusal = 63; state = out }
  unfolding frame_written frame_write_refusal
  write-unlisted e = simp e

  module _ (l : listed h c ≡ true) where
    pub write-short : (length out ≡ 6 → ⊥) → frame_written h c out ≡ record { refusal = 64; state = out }
    unfolding frame_written frame_write_refusal
    write-short n = simp (l, ne_eqb (length out) 6 n)

    pub write_done : length out ≡ 6 → frame_written h c out ≡ record { refusal = 0; state = frame_bytes h c }
    unfolding frame_written frame_write_refusal
    write_done p = simp (l, eq-eqb (length out) 6 p)

-- six bytes, overwritten one after the other
pub filled : (h c : ℕ) (s : List ℕ) → length s ≡ 6 → set (set (set (set (set (set s 0 1) 1 0) 2 3) 3 h) 4 (c / 256)) 5 (c % 256) ≡ frame_bytes h c
filled h c =
    six (λ s. set (set (set (set (set (set s 0 1) 1 0) 2 3) 3 h) 4 (c / 256)) 5 (c % 256) ≡ frame_bytes h c) (λ x₀ x₁ x₂ x₃ x₄ x₅. refl)
