-- The text of what came is the text of the whole input, where there was room for enough bytes: as a list (`of-input`), and as it is put into a
-- buffer and read back (`input-told`).
use Rattle.std.specs.Prelude.{ℕ, ◌≤◌, ◌≡◌, List, length, take}
use Rattle.std.proofs.Common.{arith, sym, ap, ◌∙◌, length-take, take_all}
use Rattle.base.specs.Limits.{AllBytes}
use Rattle.format_text.specs.declared.Intake.{Intake}
use Rattle.format_text.specs.Put.{page, put}
use Rattle.format_text.proofs.laws.Put.{whole-text}
use Rattle.format_text.specs.Input.{room_of, count_of, OfInput}

-- n bytes are enough: what comes behind them makes no difference
abbrev pub Enough : (List ℕ → List ℕ) → ℕ → Type 0
Enough told n = (m : ℕ) → n ≤ m → (s : List ℕ) → AllBytes s → told (take m s) ≡ told s

module _ {told : List ℕ → List ℕ} (space : List ℕ) (i : Intake) where
  -- what came is such an input
  pub of-read : {text : List ℕ} → count_of i ≤ room_of i → AllBytes (take (count_of i) space) → OfInput told space i text
      → text ≡ told (take (count_of i) space)
  of-read l b o = o (take (count_of i) space) b (take_all (room_of i) (take (count_of i) space) (omega (arith, length-take (count_of i) space)))

  -- the text of what came is that of the input, where there was room for enough bytes
  pub of-input : {n : ℕ} → Enough told n → n ≤ room_of i → {count : ℕ} → count ≡ count_of i → {given : List ℕ} → given ≡ take count space
      → {text : List ℕ} → text ≡ told given → OfInput told space i text
  of-input law enough k e t s b r = t ∙ ap told (e ∙ ap (λ n. take n space) k ∙ sym r) ∙ law (room_of i) enough s b

  -- for a program: put into a buffer that has room for every text, and read back from its front
  pub input-told : {n : ℕ} → Enough told n → n ≤ room_of i → {count : ℕ} → count ≡ count_of i → {given : List ℕ} → given ≡ take count space
      → (b : List ℕ) → ((s : List ℕ) → length (told s) ≤ length b) → {end : ℕ} {b' : List ℕ} → page end b' ≡ put (page 0 b) (told given)
      → {text : List ℕ} → text ≡ take end b' → OfInput told space i text
  input-told law enough k {given} e b fits {end} {b'} f t = of-input law enough k e (t ∙ whole-text b (told given) (fits given) end b' f)
