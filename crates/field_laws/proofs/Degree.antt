-- A module of an accepted plan has fewer links than there are modules: each leads to another module, and no two to the same one (`degree-below`).
use Rattle.std.specs.Prelude.{ℕ, ◌≤◌, ◌<◌, ◌≡◌, refl, ◌≢◌, ◌⊎◌, Bool, true, cond, ◌&&◌, eqb}
use Rattle.std.proofs.Common.{arith, sym, subst, ◌∙◌, inl, inr, ⊎_elim, eqb-true}
use Rattle.std.proofs.Math.Bool.{and-eq-true_iff}
use Rattle.base.specs.Cond.{bit}
use Rattle.base.proofs.laws.Cond.{bool_cases, eqb-cases}
use Rattle.base.specs.Sum.{sum}
use Rattle.base.proofs.laws.Sum.{sum_lt, sum-eq, sum-zero, sum-const, sum-swap, sum_one, sum-at-most-one}
use Rattle.plan.specs.Links.{Plan, modules_of, links_of, lower_of, higher_of}
use Rattle.plan.proofs.laws.Accepted.{Accepted}
use Rattle.plan.proofs.laws.Pairs.{same-pair}
use Rattle.node.specs.Work.{any_edge, degree}
use Rattle.node.proofs.laws.Count.{number-sum}
use Rattle.field.specs.Edges.{is_own, own_of}
use Rattle.field_laws.proofs.Places.{own-end}

module _ (p : Plan) (a : Accepted p) (v : ℕ) where
  -- the module at the other end of link k
  abbrev other : ℕ → ℕ
  other k = cond (eqb (lower_of p k) v) (higher_of p k) (lower_of p k)

  -- v's link k leads to u
  abbrev LeadsTo : ℕ → ℕ → Type 0
  LeadsTo k u = ((lower_of p k ≡ v) × (higher_of p k ≡ u)) ⊎ ((higher_of p k ≡ v) × (lower_of p k ≡ u))

  leads : (k : ℕ) → is_own p v k ≡ true → LeadsTo k (other k)
  leads k o = eqb-cases (lower_of p k) v (λ b. LeadsTo k (cond b (higher_of p k) (lower_of p k)))
      (λ e. inl (e, refl))
      (λ n. inr (⊎_elim (λ e. absurd (n e)) (λ h. h.1) (own-end p v k o), refl))

  -- u is another module ..
  led : (k u : ℕ) → k < links_of p → LeadsTo k u → (u < modules_of p) × (u ≢ v)
  led k u l (inl h) = let x = a.each k l in (omega (arith, h.1, x.inside), λ e. omega (arith, h.0, h.1, x.ordered))
  led k u l (inr h) = let x = a.each k l in (omega (arith, h.1, x.ordered, x.inside), λ e. omega (arith, h.0, h.1, x.ordered))

  -- .. to which no other link leads
  alone : (j k u : ℕ) → j < links_of p → k < links_of p → LeadsTo j u → LeadsTo k u → j ≡ k
  alone j k u lj lk (inl h) (inl i) = same-pair p a j k lj lk (h.0 ∙ sym i.0) (h.1 ∙ sym i.1)
  alone j k u lj lk (inr h) (inr i) = same-pair p a j k lj lk (h.1 ∙ sym i.1) (h.0 ∙ sym i.0)
  alone j k u lj lk (inl h) (inr i) = absurd (omega (arith, h.0, h.1, i.0, i.1, (a.each j lj).ordered, (a.each k lk).ordered))
  alone j k u lj lk (inr h) (inl i) = absurd (omega (arith, h.0, h.1, i.0, i.1, (a.each j lj).ordered, (a.each k lk).ordered))

  abbrev goes : ℕ → ℕ → Bool
  goes k u = is_own p v k && eqb (other k) u

  goes-there : (k u : ℕ) → goes k u ≡ true → LeadsTo k u
  goes-there k u e =
      let t = (and-eq-true_iff (is_own p v k) (eqb (other k) u)).0 e in subst (LeadsTo k) (eqb-true (other k) u t.1) (leads k t.0)

  -- links by the module that they lead to: one at the most, and none to v itself
  one_each : (u : ℕ) → sum (links_of p) (λ k. bit (goes k u)) ≤ 1
  one_each u = sum-at-most-one (links_of p) (λ k. goes k u) (λ j k lj lk e f. alone j k u lj lk (goes-there j u e) (goes-there k u f))

  none-home : sum (links_of p) (λ k. bit (goes k v)) ≡ 0
  none-home = sum-zero (links_of p) (λ k. bit (goes k v)) (λ k l. bool_cases (goes k v) (λ e. absurd ((led k v l (goes-there k v e)).1 refl)) (λ e. rw e))

  -- an own link leads to one module, another to none
  one_end : (k : ℕ) → k < links_of p → bit (is_own p v k && any_edge k) ≡ sum (modules_of p) (λ u. bit (goes k u))
  one_end k l = bool_cases (is_own p v k)
      (λ o. rw o (sym (sum_one (modules_of p) (other k) (led k (other k) l (leads k o)).0)))
      (λ o. rw o (sym (sum-zero (modules_of p) (λ u. 0) (λ u m. refl))))

  pub degree-below : v < modules_of p → degree (own_of p v) < modules_of p
  degree-below l =
      omega (
        arith,
        number-sum (own_of p v) any_edge (links_of p),
        sum-eq (links_of p) (λ k. bit (is_own p v k && any_edge k)) (λ k. sum (modules_of p) (λ u. bit (goes k u))) one_end,
        sum-swap (links_of p) (modules_of p) (λ k u. bit (goes k u)),
        sum_lt (modules_of p) v (λ u. sum (links_of p) (λ k. bit (goes k u))) (λ u. 1) l (λ u m. one_each u) (omega (arith, none-home)),
        sum-const (modules_of p) 1,
      )
