-- What the search over the own edges finds, where the edges are in a strict order without ties (`first`).
use Prim.Native.Nat.{ℕ, zero, suc, ◌<◌, ◌≤◌}
use native.Mathlib.Omega.{arith}
use Rattle.std.proofs.Common.{not-suc-le-zero, sym, subst, ◌∙◌, inr, ⊎_elim}
use Rattle.std.specs.Prelude.{◌≡◌, ◌≢◌, ◌⊎◌, Bool, true, false, ◌&&◌}
use Rattle.std.proofs.Math.Path.{refl}
use Rattle.std.proofs.Math.Logic.{inl}
use Rattle.std.proofs.lemmas.Bool.{false≢true}
use borrow.Author.Tests.{ne_eqb}
use Rattle.base.proofs.laws.Cond.{bool_cases, by-eq}
use Rattle.base.proofs.laws.Search.{lt-suc-cases}
use Rattle.base.specs.None.{none, before_by}
use Rattle.node.specs.Work.{Own, before, earliest}

-- k is an own edge below n for which f holds, and the earliest of these
pub record Earliest (o : Own) (f : ℕ → Bool) (n k : ℕ) : Type 0 where
  pub below : k < n
  pub mine : o.own k ≡ true
  pub holds : f k ≡ true
  pub least : (i : ℕ) → i < n → o.own i ≡ true → f i ≡ true → i ≢ k → o.earlier k i ≡ true

-- there is no such edge
pub record Empty (o : Own) (f : ℕ → Bool) (n k : ℕ) : Type 0 where
  pub is : k ≡ none
  pub nothing : (i : ℕ) → i < n → o.own i ≡ true → f i ≡ true → ⊥

both : (a b : Bool) → a ≡ true → b ≡ true → (a && b) ≡ true
both a b p q = rw (p, q)

parts : (a b : Bool) → (a && b) ≡ true → (a ≡ true) × (b ≡ true)
parts true b e = (refl, e)
parts false b e = absurd (false≢true e)

module _ (o : Own) where
  pub before-none : (a : ℕ) → a ≢ none → before o a none ≡ true
  unfolding before_by
  before-none a h = simp (ne_eqb _ _ h)

  pub before-edges : (a b : ℕ) → a ≢ none → b ≢ none → before o a b ≡ o.earlier a b
  unfolding before_by
  before-edges a b h k = simp (ne_eqb _ _ h, ne_eqb _ _ k)

  pub none_before : (b : ℕ) → before o none b ≡ false
  unfolding before_by
  none_before b = refl

  module _ (f : ℕ → Bool) (n : ℕ) where
    -- a turn of the search, by its three tests
    pub earliest-skips : (o.own n && f n) ≡ false → earliest o f (suc n) ≡ earliest o f n
    unfolding earliest
    earliest-skips h = simp h

    pub earliest-keeps : before o n (earliest o f n) ≡ false → earliest o f (suc n) ≡ earliest o f n
    unfolding earliest
    earliest-keeps h = bool_cases (o.own n && f n) (λ e. simp (e, h)) (λ e. simp e)

    pub earliest-takes : (o.own n && f n) ≡ true → before o n (earliest o f n) ≡ true → earliest o f (suc n) ≡ n
    unfolding earliest
    earliest-takes h b = simp (h, b)

module _ (o : Own) (f : ℕ → Bool)
    (trans : (a b c : ℕ) → o.earlier a b ≡ true → o.earlier b c ≡ true → o.earlier a c ≡ true)
    (total : (a b : ℕ) → a < o.edges → b < o.edges → a ≢ b → (o.earlier a b ≡ true) ⊎ (o.earlier b a ≡ true))
    (small : o.edges ≤ none) where
  -- FIRST: the search up to n finds the earliest, or none where there is none
  pub first : (n : ℕ) → n ≤ o.edges → Empty o f n (earliest o f n) ⊎ Earliest o f n (earliest o f n)
  unfolding earliest
  first zero l = inl (record { is = refl; nothing = λ i h. absurd (not-suc-le-zero h) })
  first (suc n) l = bool_cases (o.own n && f n) (λ h. turn h (first n (omega arith))) (λ h. rw (earliest-skips o f n h) (skip h (first n (omega arith))))
    where
      ne : n ≢ none
      ne e = omega arith

      -- n does not count
      skip : (o.own n && f n) ≡ false → Empty o f n (earliest o f n) ⊎ Earliest o f n (earliest o f n) → Empty o f (suc n) (earliest o f n) ⊎ Earliest o f (suc n) (earliest o f n)
      skip h (inl e) =
          inl (record { is = e.is; nothing = λ i b m p. lt-suc-cases i n b (λ q. false≢true (sym h ∙ both (o.own n) (f n) (subst (λ x. o.own x ≡ true) q m) (subst (λ x. f x ≡ true) q p))) (λ b'. e.nothing i b' m p) })
      skip h (inr e) =
          inr (record {
            below = omega (arith, e.below);
            mine = e.mine;
            holds = e.holds;
            least = λ i b m p d. lt-suc-cases i n b (λ q. absurd (false≢true (sym h ∙ both (o.own n) (f n) (subst (λ x. o.own x ≡ true) q m) (subst (λ x. f x ≡ true) q p)))) (λ b'. e.least i b' m p d);
          })

      -- n is the earliest so far
      new : (own : o.own n ≡ true) (h : f n ≡ true) → ((i : ℕ) → i < n → o.own i ≡ true → f i ≡ true → o.earlier n i ≡ true) → Earliest o f (suc n) n
      new own h all =
          record { below = omega arith; mine = own; holds = h; least = λ i b m p d. lt-suc-cases i n b (λ q. absurd (d q)) (λ b'. all i b' m p) }

      turn : (o.own n && f n) ≡ true → Empty o f n (earliest o f n) ⊎ Earliest o f n (earliest o f n) → Empty o f (suc n) (earliest o f (suc n)) ⊎ Earliest o f (suc n) (earliest o f (suc n))
      turn h (inl e) =
          rw (earliest-takes o f n h (rw e.is (before-none o n ne)))
          (inr (new (parts (o.own n) (f n) h).0 (parts (o.own n) (f n) h).1 (λ i b m p. absurd (e.nothing i b m p))))
      turn h (inr e) =
          bool_cases (o.earlier n (earliest o f n))
          (λ b. rw (earliest-takes o f n h (before-edges o n (earliest o f n) ne out ∙ b)) (inr (new (parts (o.own n) (f n) h).0 (parts (o.own n) (f n) h).1 (ahead b))))
          (λ b. rw (earliest-keeps o f n (before-edges o n (earliest o f n) ne out ∙ b)) (inr (record { below = omega (arith, e.below); mine = e.mine; holds = e.holds; least = behind b })))
        where
          out : earliest o f n ≢ none
          out q = omega (arith, e.below)

          ahead : o.earlier n (earliest o f n) ≡ true → (i : ℕ) → i < n → o.own i ≡ true → f i ≡ true → o.earlier n i ≡ true
          ahead b i l' m p = by-eq i (earliest o f n) (λ q. rw q b) (λ d. trans n (earliest o f n) i b (e.least i l' m p d))

          behind : o.earlier n (earliest o f n) ≡ false → (i : ℕ) → i < suc n → o.own i ≡ true → f i ≡ true → i ≢ earliest o f n → o.earlier (earliest o f n) i ≡ true
          behind b i l' m p d =
              lt-suc-cases i n l'
              (λ q. rw q (⊎_elim (λ t. absurd (false≢true (sym b ∙ t))) (λ t. t) (total n (earliest o f n) (omega arith) (omega (arith, e.below)) (λ z. omega (arith, e.below)))))
              (λ b'. e.least i b' m p d)
