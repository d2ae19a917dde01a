-- Words and their bytes determine each other (`words-there`, `words_back`), and how long they are (`length-words`).
use Rattle.std.specs.Prelude.{ℕ, zero, suc, ◌+◌, ◌*◌, ◌/◌, ◌%◌, ◌<◌, ◌≡◌, refl, List, [], ◌∷◌, ◌++◌, length, drop}
use Rattle.std.proofs.Common.{arith, sym, ap, ap₂, ◌∙◌, take-append-drop, length-append, length-drop, get_or-drop}
use Rattle.base.specs.Limits.{AllBytes}
use Rattle.base.specs.Pool.{All, nil, con}
use Rattle.base.proofs.laws.Pool.{All-app}
use Rattle.base.proofs.laws.Keep.{no_length}
use Rattle.base.specs.Table.{tabulate}
use Rattle.base.proofs.laws.Table.{tabulate-ext}
use Rattle.format_wide.specs.Wide.{at64, bytes64}
use Rattle.format_wide.proofs.laws.Wide.{eight-back, at64-behind, at64-drop, first-eight, eight-bytes}
use Rattle.store.specs.Layout.{word_bytes}
use Rattle.store.specs.Reading.{words_in}

pub length-words : (ws : List ℕ) → length (word_bytes ws) ≡ 8 * length ws
unfolding word_bytes
length-words [] = refl
length-words (w ∷ ws) = omega (arith, length-append (bytes64 w) (word_bytes ws), length-words ws)

-- what fits in 64 bits is bytes
pub words-bytes : {ws : List ℕ} → All (λ w. w < 18446744073709551616) ws → All (λ b. b < 256) (word_bytes ws)
unfolding word_bytes
words-bytes nil = nil
words-bytes (con {x} h t) = All-app (eight-bytes x h) (words-bytes t)

-- written, then read
each_word : (ws : List ℕ) → tabulate (length ws) (λ i. at64 (word_bytes ws) (8 * i)) ≡ ws
unfolding word_bytes tabulate
each_word [] = refl
each_word (w ∷ ws) =
    ap₂ (λ (x : ℕ) (xs : List ℕ). x ∷ xs) (eight-back w (word_bytes ws))
    (tabulate-ext (length ws) (λ i. at64 (bytes64 w ++ word_bytes ws) (8 * suc i)) (λ i. at64 (word_bytes ws) (8 * i))
    (λ i l. ap (at64 (bytes64 w ++ word_bytes ws)) (let e : 8 * suc i ≡ 8 + 8 * i = omega arith in e) ∙ at64-behind (bytes64 w) (word_bytes ws) (8 * i))
    ∙ each_word ws)

pub words-there : (ws : List ℕ) → words_in (word_bytes ws) ≡ ws
words-there ws = ap (λ n. tabulate n (λ i. at64 (word_bytes ws) (8 * i))) (let e : length (word_bytes ws) / 8 ≡ length ws = omega (arith, length-words ws) in e) ∙ each_word ws

-- read, then written
each-byte : (n : ℕ) (s : List ℕ) → length s ≡ 8 * n → AllBytes s → word_bytes (tabulate n (λ i. at64 s (8 * i))) ≡ s
unfolding word_bytes tabulate
each-byte zero s l b = sym (no_length s l)
each-byte (suc n) s l b =
    ap₂ (λ (x y : List ℕ). x ++ y) (first-eight s (omega arith) b)
    (ap word_bytes (tabulate-ext n (λ i. at64 s (8 * suc i)) (λ i. at64 (drop 8 s) (8 * i)) (λ i m. ap (at64 s) (let e : 8 * suc i ≡ 8 + 8 * i = omega arith in e) ∙ sym (at64-drop 8 s (8 * i))))
    ∙ each-byte n (drop 8 s) (omega (arith, length-drop 8 s)) (λ i. rw (get_or-drop 8 s i 0) (b (8 + i))))
    ∙ take-append-drop 8 s

pub words_back : (s : List ℕ) → length s % 8 ≡ 0 → AllBytes s → word_bytes (words_in s) ≡ s
words_back s z b = each-byte (length s / 8) s (omega arith) b
