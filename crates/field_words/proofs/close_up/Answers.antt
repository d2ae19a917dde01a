-- field_words::close_up: the words are turned by one place, and the last of them becomes zero (`turned`).
use Rattle.std.proofs.Common.{ℕ, ◌<◌, ◌≡◌, ◌-◌, List, [], ◌∷◌, ◌++◌, length, take, drop, set, refl, ap, ◌∙◌, length-append, arith}
use Rattle.std.proofs.lemmas.List.{set_at}
use Rattle.field_words.proofs.close_up.Goals as goal

turned : (t : List ℕ) → 0 < length t → set (drop 1 t ++ take 1 t) (length (drop 1 t ++ take 1 t) - 1) 0 ≡ drop 1 t ++ (0 ∷ [])
turned [] h = absurd (omega arith)
turned (x ∷ t) h =
    let e : length (t ++ (x ∷ [])) - 1 ≡ length t = omega (arith, length-append t (x ∷ [])) in
    ap (λ (k : ℕ). set (t ++ (x ∷ [])) k 0) e ∙ set_at t x [] 0 (length t) refl

pub returns : goal.returns
returns c = rw c.rotate_left.ensures.after (turned c.args.t.now c.requires)
