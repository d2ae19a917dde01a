-- v takes the Test of u over k and sends an answer m: one Test less from u, one answer more from v (`tests-answer`, `even`, `crossed`).
use Rattle.protocol.proofs.Prelude.{ℕ, suc, ◌+◌, arith, ◌≡◌, refl, sym, ap, ◌∙◌, ◌≢◌, ◌⊎◌, inl, inr, ⊎_elim}
use Rattle.protocol.proofs.Prelude.{List, ◌∷◌, upd2, by-eq, sum_l, Msg, test, Network, Edge, flip, other-end, ProtocolState, Idle, is_t, is_a}
use Rattle.protocol.proofs.Prelude.{pop-sum, pop-here, else_same, snoc, snoc-sum, snoc-here, snoc-else}

module _ (p : Network) (s : ProtocolState) {u v k l f : ℕ} {r : List Msg} (ends : Edge p k u v) (q : s.ch u k ≡ test l f ∷ r) (m : Msg) (no_test : is_t m ≡ 0) (answer : is_a m ≡ 1) where
  abbrev c₁ : ℕ → ℕ → List Msg
  c₁ = upd2 s.ch u k r

  abbrev c' : ℕ → ℕ → List Msg
  c' = snoc c₁ v k m

  pub tests-answer : (w j : ℕ) → (u ≢ w) ⊎ (k ≢ j) → sum_l is_t (c' w j) ≡ sum_l is_t (s.ch w j)
  tests-answer w j n = snoc-sum c₁ v k m is_t no_test w j ∙ ap (sum_l is_t) (else_same s.ch u k r w j n)

  pub tests-here : sum_l is_t (s.ch u k) ≡ 1 + sum_l is_t (c' u k)
  tests-here = omega (arith, pop-here s.ch u k q is_t, snoc-sum c₁ v k m is_t no_test u k)

  answers : (w j : ℕ) → (v ≢ w) ⊎ (k ≢ j) → sum_l is_a (c' w j) ≡ sum_l is_a (s.ch w j)
  answers w j n = ap (sum_l is_a) (snoc-else c₁ v k m w j n) ∙ pop-sum s.ch u k q is_a refl w j

  pub answers-here : sum_l is_a (c' v k) ≡ sum_l is_a (s.ch v k) + 1
  answers-here = omega (arith, snoc-here c₁ v k m is_a, pop-sum s.ch u k q is_a refl v k)

  -- who waits has as much: u has the answer for its Test
  pub even : (j w x : ℕ) → Edge p j w x → sum_l is_t (c' w j) + sum_l is_a (c' x j) ≡ sum_l is_t (s.ch w j) + sum_l is_a (s.ch x j)
  even j w x e = by-eq k j
      (λ z. by-eq u w
      (λ y. let n = other-end ends e y z in
      omega (
        arith,
        tests-here,
        answers-here,
        ap (λ a. sum_l is_t (c' a j)) y,
        ap (λ a. sum_l is_t (c' u a)) z,
        ap (λ a. sum_l is_t (s.ch a j)) y,
        ap (λ a. sum_l is_t (s.ch u a)) z,
        ap (λ a. sum_l is_a (c' a j)) n,
        ap (λ a. sum_l is_a (c' v a)) z,
        ap (λ a. sum_l is_a (s.ch a j)) n,
        ap (λ a. sum_l is_a (s.ch v a)) z,
      ))
      (λ y. let n : v ≢ x = λ o. y (other-end (flip ends) (flip e) o z) in
      omega (arith, tests-answer w j (inl y), answers x j (inl n))))
      (λ z. omega (arith, tests-answer w j (inr z), answers x j (inr z)))

  -- no Test of one who does not wait on k is touched: u waits there
  pub crossed : Idle s → s.te u ≡ k → (j x : ℕ) → (s.te x ≢ j) ⊎ (s.ot ≡ suc x) → sum_l is_t (c' x j) ≡ sum_l is_t (s.ch x j)
  crossed idle e j x b = tests-answer x j (by-eq u x (λ y. inr (λ z. ⊎_elim (λ n. n (ap s.te (sym y) ∙ e ∙ z)) (λ o. omega (arith, idle.0)) b)) (λ y. inl y))
