-- Writing what the verdict says is the call (`opening-starts`, `hearing-delivers`); a start never fills more records than are lent (`count_fits`).
use Rattle.std.specs.Prelude.{ℕ, zero, suc, ◌≤◌, ◌<◌, refl, ◌≢◌, true, false, List, [], ◌∷◌, ◌++◌, take, replicate}
use Rattle.std.proofs.Common.{arith, not-suc-le-zero, sym, ◌∙◌, ne_eqb}
use Rattle.std.proofs.Math.Path.{◌≡◌, ap}
use Rattle.std.proofs.Math.Bool.{cond}
use Rattle.std.proofs.Math.ListN.{length, set, drop}
use Rattle.std.proofs.lemmas.List.{get_or-replicate}
use Rattle.std.proofs.Math.Seq.{set_out}
use Rattle.base.specs.Limits.{max_modules}
use Rattle.base.specs.Loop.{After}
use Rattle.base.proofs.laws.Cond.{bool_cases, eqb-cases, by-eq}
use Rattle.plan.specs.Links.{Plan, modules_of}
use Rattle.plan.proofs.laws.Accepted.{Accepted}
use Rattle.field.specs.Edges.{link_of, from, dest}
use Rattle.field.specs.Held.{Held, valid}
use Rattle.cue.specs.declared.Cue.{Cue}
use Rattle.cue.specs.Delivery.{Refused, Idle, Heard}
use Rattle.cue.specs.Record.{unheard, record_of, sender_record, heard_record, begun_cues}
use Rattle.cue.specs.Copies.{waits_on}
use Rattle.cue.specs.Calls.{start_refusal, start_cue, delivery_refusal, Delivered, deliver_cue}
use Rattle.cue.proofs.laws.Refusals.{valid-accepted, ready-accepted, start-facts, delivery-facts}
use Rattle.cue.proofs.laws.Calls.{delivery-keeps, delivery-heard, delivery-idle}
use Rattle.field_laws.proofs.Places.{from-below}
use Rattle.cue_check.proofs.laws.Within.{left-agrees, waits-agrees}
use Rattle.cue_verdict.specs.Verdict.{Opening, Hearing, opening, arriving, hearing, loaded}

-- A START

module _ (h : Held) (lent sender cue : ℕ) where
  pub opening-refused : start_refusal h lent sender ≢ 0
      → opening h lent sender cue ≡ record { refusal = start_refusal h lent sender; count = 0; at = lent; found = sender_record cue }
  unfolding opening
  opening-refused n = rw (ne_eqb (start_refusal h lent sender) 0 n)

  pub opening-goes : start_refusal h lent sender ≡ 0
      → opening h lent sender cue ≡ record { refusal = 0; count = modules_of h.field.plan; at = sender; found = sender_record cue }
  unfolding opening
  opening-goes z = rw z

module _ (h : Held) (cues : List Cue) (sender cue : ℕ) where
  abbrev r : ℕ
  r = start_refusal h (length cues) sender

  abbrev taken : Opening
  taken = record { refusal = 0; count = modules_of h.field.plan; at = sender; found = sender_record cue }

  abbrev refused : Opening
  refused = record { refusal = r; count = 0; at = length cues; found = sender_record cue }

  pub opening-starts : let o = opening h (length cues) sender cue in
      record { refusal = o.refusal; state = set (replicate o.count unheard ++ drop o.count cues) o.at o.found } ≡ start_cue h cues sender cue
  unfolding opening start_cue
  opening-starts = eqb-cases r 0
      (λ b. let o = cond b taken refused in
      ◌≡◌ {A = After (List Cue)} (record { refusal = o.refusal; state = set (replicate o.count unheard ++ drop o.count cues) o.at o.found })
      (record { refusal = r; state = cond b (begun_cues (modules_of h.field.plan) sender cue cues) cues }))
      (λ e. ap (λ n. record { refusal = n; state = begun_cues (modules_of h.field.plan) sender cue cues }) (sym e))
      (λ n. ap (λ l. record { refusal = r; state = l }) (set_out cues (length cues) (sender_record cue) (omega arith)))

  pub count_fits : (opening h (length cues) sender cue).count ≤ length cues
  unfolding opening
  count_fits = eqb-cases r 0 (λ b. (cond b taken refused).count ≤ length cues)
      (λ e. (start-facts h (length cues) sender e).enough)
      (λ n. omega arith)

-- A DELIVERY

-- below the row's length, the row holds what was lent, and unheard records behind it
row_same : (n : ℕ) (cues : List Cue) (i : ℕ) → i < n → record_of (take n cues ++ drop (length cues) (replicate n unheard)) i ≡ record_of cues i
row_same zero cues i l = absurd (not-suc-le-zero l)
row_same (suc n) [] i l = get_or-replicate (suc n) i unheard unheard l
row_same (suc n) (c ∷ cues) zero l = refl
row_same (suc n) (c ∷ cues) (suc i) l = row_same n cues i (omega arith)

-- the verdict and the call, for each outcome
module _ (h : Held) (lent : ℕ) (row : List Cue) (d : ℕ) where
  pub hearing-refused : delivery_refusal h lent row d ≢ 0 → hearing h lent row d ≡ record { answer = Refused (delivery_refusal h lent row d); at = lent; found = unheard }
  unfolding hearing
  hearing-refused n = rw (ne_eqb (delivery_refusal h lent row d) 0 n)

  pub hearing-goes : delivery_refusal h lent row d ≡ 0 → hearing h lent row d ≡ arriving h.field.plan lent row d
  unfolding hearing
  hearing-goes z = rw z

module _ (p : Plan) (lent : ℕ) (row : List Cue) (d : ℕ) where
  pub by_copy : waits_on p row d ≡ true → arriving p lent row d ≡ record { answer = Heard; at = dest p d; found = heard_record (record_of row (from p d)) (link_of d) }
  unfolding arriving
  by_copy w = rw w

  pub by-none : waits_on p row d ≡ false → arriving p lent row d ≡ record { answer = Idle; at = lent; found = unheard }
  unfolding arriving
  by-none w = rw w

-- the verdict on a row that agrees with the records of the plan's modules
module _ (h : Held) (cues row : List Cue) (d : ℕ)
    (agrees : Accepted h.field.plan → (v : ℕ) → v < modules_of h.field.plan → record_of row v ≡ record_of cues v) where
  abbrev p : Plan
  p = h.field.plan

  abbrev written : Hearing → Delivered
  written x = record { answer = x.answer; cues = set cues x.at x.found }

  row-refusal : delivery_refusal h (length cues) row d ≡ delivery_refusal h (length cues) cues d
  unfolding delivery_refusal
  row-refusal = bool_cases (valid h)
      (λ v. let a = valid-accepted h v in rw (left-agrees p a row cues (agrees a)))
      (λ f. rw f)

  unchanged : (c : Cue) → set cues (length cues) c ≡ cues
  unchanged c = set_out cues (length cues) c (omega arith)

  row-refused : delivery_refusal h (length cues) cues d ≢ 0 → written (hearing h (length cues) row d) ≡ deliver_cue h cues d
  row-refused n =
      ap written (hearing-refused h (length cues) row d (λ e. n (sym row-refusal ∙ e)))
      ∙ rw (row-refusal, unchanged unheard) (sym (delivery-keeps h cues d n))

  row-taken : delivery_refusal h (length cues) cues d ≡ 0 → written (hearing h (length cues) row d) ≡ deliver_cue h cues d
  row-taken z =
      let t = delivery-facts h (length cues) cues d z in
      let a = ready-accepted h t.ready in
      let w = waits-agrees p a row cues (agrees a) d t.below in
      bool_cases (waits_on p cues d)
      (λ y. ap written (hearing-goes h (length cues) row d (row-refusal ∙ z) ∙ by_copy p (length cues) row d (w ∙ y))
      ∙ rw (agrees a (from p d) (from-below p a d t.below)) (sym (delivery-heard h cues d z y)))
      (λ f. ap written (hearing-goes h (length cues) row d (row-refusal ∙ z) ∙ by-none p (length cues) row d (w ∙ f))
      ∙ rw (unchanged unheard) (sym (delivery-idle h cues d z f)))

  row-delivers : written (hearing h (length cues) row d) ≡ deliver_cue h cues d
  row-delivers = by-eq (delivery_refusal h (length cues) cues d) 0 row-taken row-refused

pub hearing-delivers : (h : Held) (cues : List Cue) (d : ℕ) → let x = hearing h (length cues) (loaded cues) d in
    record { answer = x.answer; cues = set cues x.at x.found } ≡ deliver_cue h cues d
hearing-delivers h cues d = row-delivers h cues (loaded cues) d (λ a v l. row_same max_modules cues v (omega (arith, a.modules_ok)))
