-- Whether a node becomes known, by the tests (`reaches-yes`, `reaches-no`, `reaches-old`, and back, `reaches-both`); if it does not, the arrays keep
-- (`unreached`).
use Rattle.std.specs.Prelude.{ℕ, ◌≡◌, refl, ◌≢◌, Bool, true, false, List, get_or, eqb}
use Rattle.std.proofs.Common.{◌∙◌, eqb-true, ne_eqb}
use Rattle.std.proofs.Math.Bool.{and-eq-true_iff, and-false}
use Rattle.base.proofs.laws.Cond.{eqb_same}
use Rattle.path_search.specs.Spread.{far, reaches, Reached}

pub reaches-both : (hops : List ℕ) (a b h : ℕ) → reaches hops a b h ≡ true → (get_or hops a 0 ≡ h) × (get_or hops b 0 ≡ far)
reaches-both hops a b h r = let t = (and-eq-true_iff (eqb (get_or hops a 0) h) (eqb (get_or hops b 0) far)).0 r in (eqb-true _ _ t.0, eqb-true _ _ t.1)

pub reaches-yes : (hops : List ℕ) (a b h : ℕ) → get_or hops a 0 ≡ h → get_or hops b 0 ≡ far → reaches hops a b h ≡ true
reaches-yes hops a b h e f = rw (e, f, eqb_same h)

pub reaches-no : (hops : List ℕ) (a b h : ℕ) → get_or hops a 0 ≢ h → reaches hops a b h ≡ false
reaches-no hops a b h n = rw (ne_eqb (get_or hops a 0) h n)

pub reaches-old : (hops : List ℕ) (a b h : ℕ) → get_or hops b 0 ≢ far → reaches hops a b h ≡ false
reaches-old hops a b h n = rw (ne_eqb (get_or hops b 0) far n) (and-false (eqb (get_or hops a 0) h))

pub unreached : (hops by : List ℕ) (a b k h : ℕ) {hops' by' : List ℕ} {r : Bool} → Reached hops by a b k h hops' by' r → r ≡ false → (hops' ≡ hops) × (by' ≡ by)
unreached hops by a b k h x f = (x.1 ∙ rw f refl, x.2 ∙ rw f refl)
