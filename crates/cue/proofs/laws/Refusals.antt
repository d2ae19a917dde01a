-- The refusals of the two calls: each number where its condition holds and none before it does (`field-31`, `field-71` with `start-field` and `delivery-field`;
-- `start-72`, `start-73`; `delivery-few`, `delivery-73`, `delivery-42`), and what it tells that none applies (`start-facts`, `delivery-facts`).
use Rattle.std.specs.Prelude.{ℕ, ◌*◌, ◌≤◌, ◌<◌, ◌≡◌, ◌≢◌, true, false, ◌||◌, List, ltb, leb}
use Rattle.std.proofs.Common.{sym, ◌∙◌, true≢false}
use Rattle.std.proofs.Math.Bool.{not}
use borrow.Author.Tests.{ne_eqb, leb-false, ltb-false, not-false, lt-ltb, le-ltb, le-leb, lt-leb}
use Rattle.base.proofs.laws.Cond.{bool_cases, by-eq}
use Rattle.base.proofs.laws.Refuse.{or_else-zero, or-false}
use Rattle.plan.specs.Links.{Plan, modules_of, links_of}
use Rattle.plan.specs.Refusal.{plan_refusal}
use Rattle.plan.proofs.laws.Accepted.{Accepted, accepted}
use Rattle.field.specs.Held.{Held, valid}
use Rattle.cue.specs.declared.Cue.{Cue}
use Rattle.cue.specs.Calls.{branches_agree, left_by_sending, field_refusal, start_refusal, delivery_refusal}

-- 31 and 71 let the field pass
pub record FieldReady (h : Held) : Type 0 where
  pub admitted : valid h ≡ true
  pub agreed : branches_agree h.field.plan h.field.marks ≡ true

-- so do 72 and 73 a start, where so many records are lent
pub record StartTaken (h : Held) (lent sender : ℕ) : Type 0 where
  pub ready : FieldReady h
  pub below : sender < modules_of h.field.plan
  pub enough : modules_of h.field.plan ≤ lent

-- and 73 and 42 a delivery
pub record DeliveryTaken (h : Held) (lent : ℕ) (cues : List Cue) (d : ℕ) : Type 0 where
  pub ready : FieldReady h
  pub enough : modules_of h.field.plan ≤ lent
  pub left : left_by_sending h.field.plan cues ≡ true
  pub below : d < 2 * links_of h.field.plan

module _ (h : Held) where
  abbrev p : Plan
  p = h.field.plan

  -- a field that passes 31 has a plan that is taken
  pub valid-plan-taken : valid h ≡ true → plan_refusal p ≡ 0
  unfolding valid
  valid-plan-taken v = by-eq (plan_refusal p) 0 (λ z. z) (λ n. absurd (true≢false (sym v ∙ simp (ne_eqb (plan_refusal p) 0 n))))

  pub valid-accepted : valid h ≡ true → Accepted p
  valid-accepted v = accepted p (valid-plan-taken v)

  pub ready-accepted : FieldReady h → Accepted p
  ready-accepted r = valid-accepted r.admitted

  -- 31 AND 71, whatever follows

  pub field-31 : (rest : ℕ) → valid h ≡ false → field_refusal h rest ≡ 31
  field-31 rest v = rw v

  pub field-71 : (rest : ℕ) → valid h ≡ true → branches_agree p h.field.marks ≡ false → field_refusal h rest ≡ 71
  field-71 rest v a = rw (v, a)

  pub field-goes-on : (rest : ℕ) → FieldReady h → field_refusal h rest ≡ rest
  field-goes-on rest r = rw (r.admitted, r.agreed)

  pub field-ready : (rest : ℕ) → field_refusal h rest ≡ 0 → FieldReady h × (rest ≡ 0)
  field-ready rest e =
      let f31 = or_else-zero (not (valid h)) 30 e in
      let f71 = or_else-zero (not (branches_agree p h.field.marks)) 70 f31.1 in
      (record { admitted = not-false _ f31.0; agreed = not-false _ f71.0 }, f71.1)

  field-refused : (rest : ℕ) → field_refusal h 0 ≢ 0 → field_refusal h rest ≡ field_refusal h 0
  field-refused rest n = bool_cases (valid h)
      (λ v. bool_cases (branches_agree p h.field.marks)
      (λ a. absurd (n (field-goes-on 0 (record { admitted = v; agreed = a }))))
      (λ a. field-71 rest v a ∙ sym (field-71 0 v a)))
      (λ v. field-31 rest v ∙ sym (field-31 0 v))

  -- A START

  module _ (lent sender : ℕ) where
    pub start-field : field_refusal h 0 ≢ 0 → start_refusal h lent sender ≡ field_refusal h 0
    unfolding start_refusal
    start-field n = field-refused _ n

    module _ (r : FieldReady h) where
      pub start-72 : modules_of p ≤ sender → start_refusal h lent sender ≡ 72
      unfolding start_refusal
      start-72 l = rw (r.admitted, r.agreed, le-leb (modules_of p) sender l)

      pub start-73 : sender < modules_of p → lent < modules_of p → start_refusal h lent sender ≡ 73
      unfolding start_refusal
      start-73 s l = rw (r.admitted, r.agreed, lt-leb (modules_of p) sender s, lt-ltb lent (modules_of p) l)

    pub facts-start : StartTaken h lent sender → start_refusal h lent sender ≡ 0
    unfolding start_refusal
    facts-start s = rw (s.ready.admitted, s.ready.agreed, lt-leb (modules_of p) sender s.below, le-ltb lent (modules_of p) s.enough)

    pub start-facts : start_refusal h lent sender ≡ 0 → StartTaken h lent sender
    unfolding start_refusal
    start-facts e =
        let f = field-ready _ e in
        let f72 = or_else-zero (leb (modules_of p) sender) 71 f.1 in
        let f73 = or_else-zero (ltb lent (modules_of p)) 72 f72.1 in
        record { ready = f.0; below = leb-false _ _ f72.0; enough = ltb-false _ _ f73.0 }

  -- A DELIVERY

  module _ (lent : ℕ) (cues : List Cue) (d : ℕ) where
    pub delivery-field : field_refusal h 0 ≢ 0 → delivery_refusal h lent cues d ≡ field_refusal h 0
    unfolding delivery_refusal
    delivery-field n = field-refused _ n

    module _ (r : FieldReady h) where
      -- fewer records than N
      pub delivery-few : lent < modules_of p → delivery_refusal h lent cues d ≡ 73
      unfolding delivery_refusal
      delivery-few l = rw (r.admitted, r.agreed, lt-ltb lent (modules_of p) l)

      module _ (e : modules_of p ≤ lent) where
        -- records that no sending leaves
        pub delivery-73 : left_by_sending p cues ≡ false → delivery_refusal h lent cues d ≡ 73
        unfolding delivery_refusal
        delivery-73 b = rw (r.admitted, r.agreed, le-ltb lent (modules_of p) e, b)

        pub delivery-42 : left_by_sending p cues ≡ true → 2 * links_of p ≤ d → delivery_refusal h lent cues d ≡ 42
        unfolding delivery_refusal
        delivery-42 b l = rw (r.admitted, r.agreed, le-ltb lent (modules_of p) e, b, le-leb (2 * links_of p) d l)

    pub facts-delivery : DeliveryTaken h lent cues d → delivery_refusal h lent cues d ≡ 0
    unfolding delivery_refusal
    facts-delivery t =
        rw (t.ready.admitted, t.ready.agreed, le-ltb lent (modules_of p) t.enough, t.left, lt-leb (2 * links_of p) d t.below)

    pub delivery-facts : delivery_refusal h lent cues d ≡ 0 → DeliveryTaken h lent cues d
    unfolding delivery_refusal
    delivery-facts e =
        let f = field-ready _ e in
        let f73 = or_else-zero (ltb lent (modules_of p) || not (left_by_sending p cues)) 72 f.1 in
        let f42 = or_else-zero (leb (2 * links_of p) d) 41 f73.1 in
        let few = or-false (ltb lent (modules_of p)) (not (left_by_sending p cues)) f73.0 in
        record { ready = f.0; enough = ltb-false _ _ few.0; left = not-false _ few.1; below = leb-false _ _ f42.0 }
