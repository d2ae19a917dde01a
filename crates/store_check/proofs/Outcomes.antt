-- Whether a record passes, by the outcomes of the tests: a law for each `false` (`bad-`), and the last questions (`last_fits`).
use Prim.Native.Nat.{ℕ, suc, ◌-◌, ◌/◌, ◌%◌, ◌≤◌, ◌<◌}
use native.Mathlib.Omega.{arith}
use mathlib.Core.Path.{◌≡◌, refl, sym, ap, ap₂, subst, ◌∙◌}
use mathlib.Core.Logic.{◌≢◌}
use mathlib.Core.Bool.{Bool, true, false, cond, not, ◌&&◌, true≢false}
use mathlib.Core.List.{List, [], ◌∷◌, map}
use lib.ListN.{length, take, replicate, length-drop}
use lib.Seq.{sets, take_all}
use lib.Dec.{eqb, eqb-suc-suc, eqb-zero-suc}
use borrow.Author.Tests.{eq-eqb, eqb-true, le-leb}
use Rattle.base.specs.Limits.{max_words}
use Rattle.base.specs.Pool.{All}
use Rattle.base.proofs.laws.Cond.{bool_cases, eqb-cases}
use Rattle.plan.specs.Links.{Plan}
use Rattle.plan.specs.Refusal.{plan_refusal}
use Rattle.plan_file.specs.Reading.{read_refusal}
use Rattle.plan_file.proofs.laws.RoundTrip.{read-accepted}
use Rattle.field.specs.declared.Field.{Field}
use Rattle.field.specs.Edges.{ceiling_of}
use Rattle.field.specs.Valid.{all_of, waiting_in, fits}
use Rattle.field.specs.Held.{layout, held_from, valid}
use Rattle.field_laws.proofs.Laid.{waited-back, waiting-nonzero, laid-length, layout-zeros}
use Rattle.field_check.specs.Checked.{state_in}
use Rattle.field_check.proofs.Outcomes.{valid-fits}
use Rattle.field_check.proofs.Words.{take-waiting, front}
use Rattle.store.specs.Names.{name_fits, name_in}
use Rattle.store.specs.Reading.{plan_bytes, plan_in, behind_plan, numbers_size, words_part, held_in, filled_up, record_fits}
use Rattle.store_laws.proofs.ReadBack.{record-ok}
use Rattle.store_field.specs.Parts.{cut_mark}
use Rattle.store_field.proofs.laws.Cut.{fits_cut}
use Rattle.store_check.specs.Seen.{PlanRead, WordsThere}
use Rattle.store_check.proofs.laws.Fitting.{words-room}
use Rattle.store_check.proofs.laws.Zeros.{set_front}
use Rattle.store_check.proofs.Parts.{seen-ceiling, words_count}

-- ONE LAW FOR EACH `false`

module _ (r : List ℕ) where
  refuted : (record_fits r ≡ true → ⊥) → false ≡ record_fits r
  refuted n = bool_cases (record_fits r) (λ t. absurd (n t)) (λ f. sym f)

  pub bad-name : name_fits (name_in r) ≡ false → false ≡ record_fits r
  bad-name e = refuted (λ fit. true≢false (sym (record-ok r fit).name ∙ e))

  pub bad-plan : read_refusal (plan_bytes r) ≢ 0 → false ≡ record_fits r
  bad-plan d = refuted (λ fit. d (record-ok r fit).plan)

  module _ (n len : ℕ) (k : n ≡ numbers_size r) (e : len ≡ length (behind_plan r)) where
    pub bad-numbers : len < n → false ≡ record_fits r
    bad-numbers l = refuted (λ fit. omega (arith, (record-ok r fit).numbers))

    words_size : length (words_part r) ≡ len - n
    words_size = length-drop (numbers_size r) (behind_plan r) ∙ ap₂ ◌-◌ (sym e) (sym k)

    pub bad-words : (len - n) % 8 ≢ 0 → false ≡ record_fits r
    bad-words d = refuted (λ fit. d (ap (λ x. x % 8) (sym words_size) ∙ (record-ok r fit).whole))

    pub bad-count : (p : Plan) → p ≡ plan_in r → ceiling_of p < (len - n) / 8 → false ≡ record_fits r
    unfolding held_in
    bad-count p q l = refuted (λ fit. omega (arith, words-room r fit, words_count r, ap (λ x. x / 8) words_size, ap ceiling_of q))

    pub sizes-there : (p : Plan) → PlanRead r p → n ≤ len → (len - n) % 8 ≡ 0 → (len - n) / 8 ≤ ceiling_of p → WordsThere r p
    sizes-there p h l w q = record {
      numbers = record { read = h; room = omega arith };
      whole = ap (λ x. x % 8) words_size ∙ w;
      enough = omega (arith, words_count r, ap (λ x. x / 8) words_size);
    }

-- THE LAST QUESTIONS

-- a word 0: fewer words wait than there are
waiting-all : (ws : List ℕ) → eqb (length (waiting_in ws)) (length ws) ≡ all_of (λ w. not (eqb w 0)) ws
unfolding waiting_in all_of
waiting-all [] = refl
waiting-all (w ∷ ws) = eqb-cases w 0
    (λ b. eqb (length (cond b [] (w ∷ waiting_in ws))) (suc (length ws)) ≡ (not b && all_of (λ w. not (eqb w 0)) ws))
    (λ e. eqb-zero-suc (length ws))
    (λ n. eqb-suc-suc (length (waiting_in ws)) (length ws) ∙ waiting-all ws)

-- what is asked second matters where the first holds
and-where : (a : Bool) {b c : Bool} → (a ≡ true → b ≡ c) → (a && b) ≡ (a && c)
and-where true e = e refl
and-where false e = refl

module _ (r : List ℕ) (p : Plan) (h : WordsThere r p) (name : name_fits (name_in r) ≡ true) where
  abbrev ws : List ℕ
  ws = (held_in r).words

  abbrev m : ℕ
  m = ceiling_of p

  abbrev f : Field
  f = (held_in r).field

  -- all before them is seen
  questions-left : record_fits r ≡ (all_of (λ w. not (eqb w 0)) ws && valid (filled_up (held_in r)))
  unfolding record_fits
  questions-left =
      rw (
        name,
        eq-eqb (read_refusal (plan_bytes r)) 0 h.numbers.read.taken,
        le-leb (numbers_size r) (length (behind_plan r)) h.numbers.room,
        eq-eqb (length (words_part r) % 8) 0 h.whole,
      )
      refl

  plan-is : p ≡ (held_in r).field.plan
  unfolding held_in
  plan-is = h.numbers.read.is

  plan-taken : plan_refusal p ≡ 0
  plan-taken = ap plan_refusal h.numbers.read.is ∙ read-accepted (plan_bytes r) h.numbers.read.taken

  filled : valid (held_from p f.cells f.marks f.sent (layout m ws)) ≡ valid (filled_up (held_in r))
  filled = ap (λ q. valid (held_from q f.cells f.marks f.sent (layout (ceiling_of q) ws))) plan-is

  -- where no word is 0, all of them wait, and of 31 the state is left to ask
  module _ (t : all_of (λ w. not (eqb w 0)) ws ≡ true) where
    all-wait : waiting_in ws ≡ ws
    all-wait = sym (take-waiting ws) ∙ take_all (length (waiting_in ws)) ws (omega (arith, eqb-true (length (waiting_in ws)) (length ws) (waiting-all ws ∙ t)))

    nonzero : All (λ x. x ≢ 0) ws
    nonzero = subst (All (λ x. x ≢ 0)) all-wait (waiting-nonzero ws)

    state-left : fits p (state_in f.cells f.marks (waiting_in ws) f.sent) ≡ valid (filled_up (held_in r))
    state-left =
        ap (λ (l : List ℕ). fits p (state_in f.cells f.marks l f.sent)) (all-wait ∙ sym (waited-back (m - length ws) nonzero))
        ∙ sym (valid-fits (held_from p f.cells f.marks f.sent (layout m ws)) plan-taken (omega (arith, laid-length m ws h.enough)) (layout-zeros m ws h.enough nonzero))
        ∙ filled

  -- what was read, and what is found of it
  module _ (cells marks words : List ℕ) (sent : ℕ) (cells_are : cells ≡ (held_in r).field.cells) (marks_are : marks ≡ map cut_mark (held_in r).field.marks)
      (sent_is : sent ≡ (held_in r).field.sent) (words_are : words ≡ sets (replicate max_words 0) 0 ws) (n : ℕ) (n_is : n ≡ length (held_in r).words) where
    front-is : take n words ≡ ws
    front-is = rw (n_is, words_are) (set_front max_words ws (omega (arith, h.enough, seen-ceiling h.numbers.read)))

    module _ (w : ℕ) (w_is : w ≡ length (waiting_in (take n words))) where
      counts : eqb w n ≡ all_of (λ w. not (eqb w 0)) ws
      counts = ap₂ eqb (w_is ∙ ap (λ (l : List ℕ). length (waiting_in l)) front-is) n_is ∙ waiting-all ws

      state-is : fits p (state_in cells marks (take w (take n words)) sent) ≡ fits p (state_in f.cells f.marks (waiting_in ws) f.sent)
      state-is = rw (cells_are, marks_are, sent_is, front (take n words) w w_is ∙ ap waiting_in front-is) (fits_cut p f.cells f.marks (waiting_in ws) f.sent)

      pub last_fits : (ok : Bool) → ok ≡ fits p (state_in cells marks (take w (take n words)) sent) → (eqb w n && ok) ≡ record_fits r
      last_fits ok q = ap₂ ◌&&◌ counts (q ∙ state-is) ∙ and-where (all_of (λ w. not (eqb w 0)) ws) state-left ∙ sym questions-left
