-- Laws for the steps that send Initiates: of the one at a place (`initiate-at`, `init-eq`), of the copies (`fan-here`, `fill_here`).
use Rattle.protocol.proofs.Prelude.{ℕ, arith, ◌≡◌, refl, sym, ap, subst, ◌∙◌, inl, inr, List, Msg, initiate}
use Rattle.protocol.proofs.Prelude.{Graph, Joins, arg1, arg2, arg3, Bool, true, false, ◌≢◌}
use Rattle.protocol.proofs.Prelude.{◌⊎◌, [], ◌∷◌, ◌++◌, fan, fan-elim, fill_edges, fill-elim}

pub ends-at : {g : Graph} {j v w y : ℕ} → v ≡ w → Joins g j w y → Joins g j v y
ends-at {g} {j} {y} e h = subst (λ n. Joins g j n y) (sym e) h

pub init-eq : {a b f c x d : ℕ} → a ≡ b → f ≡ c → x ≡ d → initiate a f x ≡ initiate b c d
init-eq {a} {b} {f} {c} {x} {d} p q r = ap (λ n. initiate n f x) p ∙ ap (λ n. initiate b n x) q ∙ ap (λ n. initiate b c n) r

-- what holds of an edge k from v to u, and of an Initiate (a, f, x) on it, holds of equals
pub three {κ} : (P : ℕ → ℕ → ℕ → Type κ) {k j v w u z : ℕ} → k ≡ j → v ≡ w → u ≡ z → P k v u → P j w z
three P {k} {j} {v} {w} {u} {z} o y n h = subst (λ m. P j w m) n (subst (λ m. P j m u) y (subst (λ m. P m v u) o h))

pub initiate-at {κ} : (P : ℕ → ℕ → ℕ → ℕ → ℕ → ℕ → Type κ) {k j v w u z a b f c x d : ℕ} → k ≡ j → v ≡ w → u ≡ z → initiate b c d ≡ initiate a f x
    → P k v u a f x → P j w z b c d
initiate-at P {k} {j} {v} {w} {u} {z} {a} {b} {f} {c} {x} {d} o y n e h =
    three (λ m g e. P j w z m g e) (sym (ap arg1 e)) (sym (ap arg2 e)) (sym (ap arg3 e)) (three (λ m g e. P m g e a f x) o y n h)

-- what is sent, and what is filled in, where v sends a copy
module _ (v : ℕ) (f : ℕ → Bool) (j : ℕ) (h : f j ≡ true) where
  clash : (v ≢ v) ⊎ (f j ≡ false) → ⊥
  clash (inl n) = n refl
  clash (inr e) = let z : ◌≡◌ {A = ℕ} 0 1 = absurd-bool (sym h ∙ e) in omega arith
    where
      absurd-bool : true ≡ false → ◌≡◌ {A = ℕ} 0 1
      absurd-bool q = cc

  pub fan-here : (c : ℕ → ℕ → List Msg) (m : Msg) → fan c v f m v j ≡ c v j ++ (m ∷ [])
  fan-here c m = fan-elim (λ l. l ≡ c v j ++ (m ∷ [])) c v f m v j (λ a b. refl) (λ n. absurd (clash n))

  pub fill_here : (t : ℕ → ℕ → ℕ) (x : ℕ) → fill_edges t v f x v j ≡ x
  fill_here t x = fill-elim (λ y. y ≡ x) t v f x v j (λ a b. refl) (λ n. absurd (clash n))
