-- Two texts put one after the other are one (`put_two`); what a page holds afterwards (`put_whole`, `put_front`), how far it moves
-- (`put-length`, `put-place`).
use Rattle.std.specs.Prelude.{ℕ, suc, ◌+◌, ◌≤◌, ◌<◌, ◌≡◌, cond, length, get_or, take, drop, set}
use Rattle.std.proofs.Common.{arith, add-one, add-zero, sym, ap, ◌∙◌, length-set, length-append, drop-cons, take_at, length-take-le, lt-ltb, le-ltb}
use Rattle.std.proofs.Math.Path.{refl}
use mathlib.Core.List.{List, [], ◌∷◌, ◌++◌}
use Rattle.std.proofs.lemmas.List.Edits.{sets, sets-eq}
use Rattle.base.proofs.laws.Cond.{ltb-cases}
use Rattle.format_text.specs.Put.{Page, page, byte_on, put}

module _ (p : Page) where
  pub put-none : put p [] ≡ p
  unfolding put
  put-none = refl

  pub put_byte : (c : ℕ) (t : List ℕ) → p.place < length p.bytes → put p (c ∷ t) ≡ put (byte_on p c) t
  unfolding put
  put_byte c t l = simp (lt-ltb _ _ l)

  pub put-end : (t : List ℕ) → length p.bytes ≤ p.place → put p t ≡ p
  unfolding put
  put-end [] l = refl
  put-end (c ∷ t) l = simp (le-ltb _ _ l)

-- one turn of a loop over the text
pub put-turn : (at : ℕ) (b s : List ℕ) (i : ℕ) → i < length s → at < length b
    → put (page at b) (drop i s) ≡ put (page (at + 1) (set b at (get_or s i 0))) (drop (i + 1) s)
put-turn at b s i l m = rw (add-one i, add-one at, drop-cons s i 0 l) (put_byte (page at b) _ _ m)

-- by cases whether there is room
by-room {κ} : (P : Page → Type κ) (p : Page) (c : ℕ) (t : List ℕ) → P (put (byte_on p c) t) → P p → P (put p (c ∷ t))
unfolding put
by-room P p c t y n = ltb-cases p.place (length p.bytes) (λ x. P (cond x (put (byte_on p c) t) p)) (λ _. y) (λ _. n)

-- two texts one after the other are one text
pub put_two : (p : Page) (s t : List ℕ) → put (put p s) t ≡ put p (s ++ t)
unfolding put
put_two p [] t = refl
put_two p (c ∷ s) t = ltb-cases p.place (length p.bytes) (λ x. put (cond x (put (byte_on p c) s) p) t ≡ cond x (put (byte_on p c) (s ++ t)) p)
    (λ l. put_two (byte_on p c) s t) (λ l. put-end p t l)

-- what one call put, and then what the next put on what that one left
pub put_on : (p : Page) (s t : List ℕ) {q r : Page} → q ≡ put p s → r ≡ put q t → r ≡ put p (s ++ t)
put_on p s t e f = f ∙ ap (λ q. put q t) e ∙ put_two p s t

-- the buffer is as long as before, and the place moves on by no more than the text is long
pub put-length : (p : Page) (t : List ℕ) → length (put p t).bytes ≡ length p.bytes
unfolding put
put-length p [] = refl
put-length p (c ∷ t) = by-room (λ q. length q.bytes ≡ length p.bytes) p c t (put-length (byte_on p c) t ∙ length-set p.bytes p.place c) refl

pub put-place : (p : Page) (t : List ℕ) → (put p t).place ≤ p.place + length t
unfolding put
put-place p [] = omega arith
put-place p (c ∷ t) = by-room (λ q. q.place ≤ p.place + length (c ∷ t)) p c t (omega (arith, put-place (byte_on p c) t)) (omega arith)

-- a text that fits stands whole in its place, and all else is kept
stored : (at : ℕ) (b t : List ℕ) → at + length t ≤ length b → put (page at b) t ≡ page (at + length t) (sets b at t)
unfolding put
stored at b [] l = ap (λ n. page n b) (sym (add-zero at))
stored at b (c ∷ t) l =
    let e : suc at + length t ≡ at + suc (length t) = omega arith in
    rw (lt-ltb at (length b) (omega arith)) (stored (suc at) (set b at c) t (rw (length-set b at c) (omega arith)) ∙ ap (λ n. page n (sets (set b at c) (suc at) t)) e)

module _ (at : ℕ) (b t : List ℕ) (fits : at + length t ≤ length b) where
  pub put_whole : put (page at b) t ≡ page (at + length t) (take at b ++ t ++ drop (at + length t) b)
  put_whole = stored at b t fits ∙ ap (page (at + length t)) (sets-eq t b at fits)

  -- read back from the front: what stood before the place, and the text
  pub put_front : take (put (page at b) t).place (put (page at b) t).bytes ≡ take at b ++ t
  put_front = rw put_whole (take_at (take at b ++ t) (drop (at + length t) b) (at + length t)
      (length-append (take at b) t ∙ ap (λ n. n + length t) (length-take-le at b (omega arith))))

-- A buffer that is long enough has the text whole, from its front.
module _ (b t : List ℕ) (fits : length t ≤ length b) (at : ℕ) (b' : List ℕ) (e : page at b' ≡ put (page 0 b) t) where
  pub whole-text : take at b' ≡ t
  whole-text = ap (λ (p : Page). take p.place p.bytes) e ∙ put_front 0 b t (omega arith)
