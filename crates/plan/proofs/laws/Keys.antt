-- What an order by a key says (`keyed`, `key-same`, `key-other`); a strict order stays one behind a key (`key_order`).
use Rattle.std.specs.Prelude.{ℕ, ◌<◌, ◌≤◌, ◌≡◌, refl, ◌≢◌, ◌⊎◌, Bool, true, false, ◌&&◌, ◌||◌, eqb, ltb}
use Rattle.std.proofs.Common.{arith, sym, ◌∙◌, inl, inr, ltb-true, lt-ltb, le-ltb, eq-eqb, ne_eqb}
use Rattle.std.proofs.lemmas.Bool.{false≢true}
use Rattle.base.proofs.laws.Cond.{bool_cases, ltb-cases, eqb-cases, by-eq}
use Rattle.graph.specs.Order.{Order}
use Rattle.plan.specs.Keys.{by_key}

-- what such an order says
module _ (key : ℕ → ℕ) (next : ℕ → ℕ → Bool) where
  pub record Keyed (a b : ℕ) : Type 0 where
    pub first : key a ≤ key b
    pub tie : key a ≡ key b → next a b ≡ true

  pub keyed : (a b : ℕ) → by_key key next a b ≡ true → Keyed a b
  keyed a b = ltb-cases (key a) (key b) (λ t. t || (eqb (key a) (key b) && next a b) ≡ true → Keyed a b)
      (λ h e. record { first = omega arith; tie = λ q. absurd (omega arith) })
      (λ h. eqb-cases (key a) (key b) (λ t. (t && next a b) ≡ true → Keyed a b)
      (λ q e. record { first = omega arith; tie = λ r. e })
      (λ d e. absurd (false≢true e)))

  pub keyed-back : (a b : ℕ) → Keyed a b → by_key key next a b ≡ true
  keyed-back a b l = ltb-cases (key a) (key b) (λ t. t || (eqb (key a) (key b) && next a b) ≡ true)
      (λ h. refl)
      (λ h. let q : key a ≡ key b = omega (arith, l.first) in rw (eq-eqb (key a) (key b) q) (l.tie q))

  -- as it is tested: the keys decide, or what follows
  pub key-same : (a b : ℕ) → key a ≡ key b → by_key key next a b ≡ next a b
  key-same a b e = rw (le-ltb (key a) (key b) (omega arith), eq-eqb (key a) (key b) e)

  pub key-other : (a b : ℕ) → key a ≢ key b → by_key key next a b ≡ ltb (key a) (key b)
  key-other a b d = rw (ne_eqb (key a) (key b) d) (bool_cases (ltb (key a) (key b)) (λ e. rw e) (λ e. rw e))

pub less : (a b : ℕ) → a ≢ b → (ltb a b ≡ true) ⊎ (ltb b a ≡ true)
less a b d = ltb-cases a b (λ t. (t ≡ true) ⊎ (ltb b a ≡ true)) (λ h. inl refl) (λ h. inr (lt-ltb b a (omega arith)))

-- a strict order stays one behind a key
abbrev pub key_order : {L : ℕ} → (ℕ → ℕ) → Order L → Order L
key_order {L} key o = record { earlier = by_key key (o.earlier); irrefl = irrefl; trans = trans; total = total }
  where
    irrefl : (a : ℕ) → by_key key (o.earlier) a a ≡ false
    irrefl a = key-same key (o.earlier) a a refl ∙ o.irrefl a

    trans : (a b c : ℕ) → by_key key (o.earlier) a b ≡ true → by_key key (o.earlier) b c ≡ true → by_key key (o.earlier) a c ≡ true
    trans a b c e f =
        let l = keyed key (o.earlier) a b e in
        let m = keyed key (o.earlier) b c f in
        keyed-back key (o.earlier) a c
        (record {
          first = omega (arith, l.first, m.first);
          tie = λ q. o.trans a b c (l.tie (omega (arith, l.first, m.first))) (m.tie (omega (arith, l.first, m.first)));
        })

    total : (a b : ℕ) → a < L → b < L → a ≢ b → (by_key key (o.earlier) a b ≡ true) ⊎ (by_key key (o.earlier) b a ≡ true)
    total a b la lb d = by-eq (key a) (key b)
        (λ e. rw (key-same key (o.earlier) a b e, key-same key (o.earlier) b a (sym e)) (o.total a b la lb d))
        (λ n. rw (key-other key (o.earlier) a b n, key-other key (o.earlier) b a (λ e. n (sym e))) (less (key a) (key b) n))

-- the order of numbers
abbrev pub number_order : {L : ℕ} → Order L
number_order = record { earlier = ltb; irrefl = λ a. le-ltb a a (omega arith); trans = λ a b c e f. lt-ltb a c (omega (arith, ltb-true a b e, ltb-true b c f)); total = λ a b la lb d. less a b d }
