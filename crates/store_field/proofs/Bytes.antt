-- Bytes written behind others (`sets-on`): words' one by one (`word_on`); words read one by one (`read-on`); a part that is put back (`part-back`).
use Prim.Native.Nat.{ℕ, zero, suc, ◌+◌, ◌*◌, ◌-◌, ◌≤◌, ◌<◌}
use native.Mathlib.Numerals.{add-one}
use native.Mathlib.Omega.{arith}
use mathlib.Core.Path.{◌≡◌, refl, sym, ap, ap₂, ◌∙◌}
use mathlib.Core.List.{List, [], ◌∷◌, ◌++◌, append-nil}
use lib.ListN.{length, get_or, set, take, drop, length-drop, drop_of_length-le}
use lib.Seq.{sets, take-suc, take_all, length-take-le}
use Rattle.base.specs.Table.{tabulate}
use Rattle.base.proofs.laws.Table.{length-tabulate, tabulate-next}
use Rattle.base.proofs.laws.Sets.{sets-append}
use Rattle.format_wide.specs.Wide.{bytes64, put64}
use Rattle.store.specs.Layout.{word_bytes}
use Rattle.store_laws.proofs.Words.{length-words}

pub sets-on : (s t : List ℕ) (a b : ℕ) (xs ys : List ℕ) → b ≡ a + length xs → t ≡ sets s a xs → sets t b ys ≡ sets s a (xs ++ ys)
sets-on s t a b xs ys e h = ap₂ (λ (n : ℕ) l. sets l n ys) e h ∙ sets-append s a xs ys

-- WORDS

word_bytes-append : (vs ws : List ℕ) → word_bytes (vs ++ ws) ≡ word_bytes vs ++ word_bytes ws
unfolding word_bytes
word_bytes-append [] ws = refl
word_bytes-append (v ∷ vs) ws = rw (word_bytes-append vs ws)

pub word-start : (s : List ℕ) → s ≡ sets s 0 (word_bytes [])
unfolding word_bytes
word-start s = refl

one_word : (w : ℕ) → bytes64 w ≡ word_bytes (w ∷ [])
unfolding word_bytes
one_word w = refl

pub word_on : (s t ws : List ℕ) (i : ℕ) → i < length ws → t ≡ sets s 0 (word_bytes (take i ws)) → put64 t (8 * i) (get_or ws i 0) ≡ sets s 0 (word_bytes (take (i + 1) ws))
word_on s t ws i l h =
    let e : 8 * i ≡ 0 + length (word_bytes (take i ws)) = omega (arith, length-words (take i ws), length-take-le i ws (omega arith)) in
    sets-on s t 0 (8 * i) (word_bytes (take i ws)) (bytes64 (get_or ws i 0)) e h
    ∙ ap (sets s 0) (ap (λ l. word_bytes (take i ws) ++ l) (one_word (get_or ws i 0)) ∙ sym (word_bytes-append (take i ws) (get_or ws i 0 ∷ []))
    ∙ ap word_bytes (sym (take-suc ws i 0 l) ∙ ap (λ (n : ℕ). take n ws) (sym (add-one i))))

pub read-start : (f : ℕ → ℕ) (s : List ℕ) → s ≡ sets s 0 (tabulate 0 f)
unfolding tabulate
read-start f s = refl

pub read-on : (f : ℕ → ℕ) (s t : List ℕ) (i x : ℕ) → x ≡ f i → t ≡ sets s 0 (tabulate i f) → set t i x ≡ sets s 0 (tabulate (i + 1) f)
read-on f s t i x e h = rw (add-one i, tabulate-next i f, e)
    (sets-on s t 0 i (tabulate i f) (f i ∷ []) (let n : i ≡ 0 + length (tabulate i f) = omega (arith, length-tabulate i f) in n) h)

-- A PART

sets-cons : (x : ℕ) (s : List ℕ) (a : ℕ) (bs : List ℕ) → sets (x ∷ s) (suc a) bs ≡ x ∷ sets s a bs
sets-cons x s a [] = refl
sets-cons x s a (b ∷ bs) = sets-cons x (set s a b) (suc a) bs

sets-part : (s : List ℕ) (a : ℕ) (bs : List ℕ) → a ≤ length s → sets s a bs ≡ take a s ++ sets (drop a s) 0 bs
sets-part s zero bs l = refl
sets-part [] (suc a) bs l = absurd (omega arith)
sets-part (x ∷ s) (suc a) bs l = sets-cons x s a bs ∙ ap (λ r. x ∷ r) (sets-part s a bs (omega arith))

-- what is lent, and what stands then where it was lent from
pub part-lent : (s : List ℕ) (a : ℕ) → take (length s - a) (drop a s) ≡ drop a s
part-lent s a = take_all (length s - a) (drop a s) (omega (arith, length-drop a s))

pub part-back : (s y : List ℕ) (a : ℕ) (bs : List ℕ) → a ≤ length s → y ≡ sets (take (length s - a) (drop a s)) 0 bs
    → take a s ++ (y ++ drop (length s - a) (drop a s)) ≡ sets s a bs
part-back s y a bs l e =
    ap (λ r. take a s ++ r) (ap₂ (λ q r. q ++ r) (e ∙ ap (λ q. sets q 0 bs) (part-lent s a)) (drop_of_length-le (drop a s) {i = length s - a} (omega (arith, length-drop a s))) ∙ append-nil _)
    ∙ sym (sets-part s a bs l)
