-- Words put behind those that wait, one after the other (`holds`, `holds-one`, `holds_on`).
use Prim.Native.Nat.{ℕ, ◌+◌, ◌≤◌, ◌<◌}
use native.Mathlib.Omega.{arith}
use mathlib.Core.Path.{◌≡◌, refl, sym, ap, ◌∙◌}
use mathlib.Core.List.{List, [], ◌∷◌, ◌++◌, append-nil}
use lib.ListN.{length, take, length-append}
use lib.Seq.{length-take-le}
use Rattle.field.specs.Held.{layout}
use Rattle.field_words.specs.Laid.{Laid}
use Rattle.field_words.proofs.Laid.{layout-length, waits, laid}
use Rattle.field_serve.specs.Holds.{Holds}

-- these words laid out in m lent ones
pub holds-laid : (lent : List ℕ) (n m : ℕ) (ws : List ℕ) → lent ≡ layout m ws → length ws ≡ n → n ≤ m → Holds lent n m ws
holds-laid lent n m ws e l h = record { waits = waits lent m ws n e l; laid = laid lent m ws n e l h; size = ap length e ∙ layout-length m ws (omega arith) }

pub holds-count : {lent : List ℕ} {n m : ℕ} {ws : List ℕ} → Holds lent n m ws → n ≡ length ws
holds-count {lent} {n} h = sym (length-take-le n lent h.laid.within) ∙ ap length h.waits

module _ (lent : List ℕ) (n : ℕ) (h : Laid lent n) where
  -- nothing more
  pub holds_same : (ws : List ℕ) → ws ≡ [] → Holds lent n (length lent) (take n lent ++ ws)
  holds_same ws e = record { waits = rw e (sym (append-nil (take n lent))); laid = h; size = refl }

  -- one word more
  pub holds-one : (w : ℕ) (ws last : List ℕ) → n < length lent → w ∷ [] ≡ ws → last ≡ layout (length lent) (take n lent ++ (w ∷ [])) → Holds last (n + 1) (length lent) (take n lent ++ ws)
  holds-one w ws last l e q =
      rw (← e) (holds-laid last (n + 1) (length lent) (take n lent ++ (w ∷ [])) q (omega (arith, length-append (take n lent) (w ∷ []), length-take-le n lent h.within)) (omega arith))

-- some words, then some more
pub holds_on : {mid last : List ℕ} {r t m : ℕ} {ws : List ℕ} (us : List ℕ)
    → Holds mid r m ws → Holds last t (length mid) (take r mid ++ us) → Holds last t m (ws ++ us)
holds_on us p q = record { waits = q.waits ∙ ap (λ (l : List ℕ). l ++ us) p.waits; laid = q.laid; size = q.size ∙ p.size }
