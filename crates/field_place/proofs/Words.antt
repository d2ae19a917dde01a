-- Words written from a place on, one lot after the other (`posted-none`, `posted-one`, `posted-then`).
use Prim.Native.Nat.{ℕ, ◌+◌}
use native.Mathlib.Nat.{add-zero}
use native.Mathlib.Omega.{arith}
use mathlib.Core.Path.{◌≡◌, refl, sym, ap, ap₂, ◌∙◌}
use mathlib.Core.List.{List, [], ◌∷◌, ◌++◌}
use lib.ListN.{length, set, length-append}
use lib.Seq.{sets, length-sets}
use Rattle.base.proofs.laws.Sets.{sets-append}
use Rattle.field_place.specs.Posted.{Posted}

pub posted-none : (lent : List ℕ) (n : ℕ) → Posted lent lent n n []
posted-none lent n = record { is = refl; many = sym (add-zero n) }

pub posted-one : (lent : List ℕ) (n w : ℕ) → Posted lent (set lent n w) n (n + 1) (w ∷ [])
posted-one lent n w = record { is = refl; many = refl }

pub posted-length : {lent after : List ℕ} {n r : ℕ} {ws : List ℕ} → Posted lent after n r ws → length after ≡ length lent
posted-length {lent} {n = n} {ws = ws} d = ap length d.is ∙ length-sets lent n ws

pub posted-then : {lent mid after : List ℕ} {n m r : ℕ} {ws us : List ℕ} → Posted lent mid n m ws → Posted mid after m r us → Posted lent after n r (ws ++ us)
posted-then {lent} {n = n} {ws = ws} {us = us} d f = record {
  is = f.is ∙ ap₂ (λ (l : List ℕ) (i : ℕ). sets l i us) d.is d.many ∙ sets-append lent n ws us;
  many = omega (arith, f.many, d.many, length-append ws us);
}
