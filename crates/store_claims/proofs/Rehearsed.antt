-- A CONSOLE'S REHEARSALS (`rehearsals`): over setups, calls, saves, finds and restores the field is what the calls of its past leave from its setup, and demand
-- 3's claim holds of it.
use Rattle.std.specs.Prelude.{ℕ, ◌≡◌, refl, ◌≢◌, Bool, cond, not, replicate, ltb}
use Rattle.std.proofs.Math.Path.{sym, ap, subst}
use Rattle.std.proofs.Common.{◌∙◌, inl, inr, ⊎_elim, eq-eqb, ne_eqb}
use Rattle.std.proofs.Math.Bool.{true, false, true≢false, and-eq-true_iff}
use mathlib.Core.List.{List, [], ◌∷◌, ◌++◌}
use Rattle.std.proofs.Math.ListN.{length}
use Rattle.std.proofs.lemmas.List.{length-replicate}
use Rattle.base.specs.Cond.{upd}
use Rattle.base.proofs.laws.Cond.{bool_cases, eqb-cases, by-eq}
use Rattle.base.specs.Loop.{After, taken_to}
use Rattle.base.specs.Refuse.{or_else, first_refusal}
use Rattle.base.specs.Pool.{All, nil, con}
use Rattle.base.specs.Test.{same_list}
use Rattle.plan.specs.Links.{Plan}
use Rattle.plan.proofs.laws.Numbers.{plan-number}
use Rattle.plan.specs.Refusal.{plan_refusal}
use Rattle.plan.specs.Trimmed.{trimmed}
use Rattle.field.specs.Edges.{ceiling_of}
use Rattle.field.specs.Held.{Held, fresh, set_up, not_set_up}
use Rattle.field_calls.specs.Call.{Call, does, after, answers}
use Rattle.field_calls.specs.Demand.{Allowed, Claim}
use Rattle.field_laws.proofs.Laid.{Live}
use Rattle.field_laws.proofs.After.{started, after-live, after-plan}
use Rattle.demand.proofs.Demand.{demand3}
use Rattle.store.specs.Names.{name_fits, shown_part}
use Rattle.store.specs.Layout.{record_bytes}
use Rattle.store.specs.Calls.{store_fits, save_point, restore_point}
use Rattle.store.specs.Console.{Console, Act, sets_up, calls, saves, finds, restores, acts, Past, Point, Ledger, is_point, was_saved, past_of, noted, known, holds_after, noted_after, all_known, act_answers, MayAnswer, JudgedBy, first_note, Rehearsals}
use Rattle.store_laws.proofs.Tidy.{setup-live}
use Rattle.store_records.specs.Named.{same-equal, equal-same}
use Rattle.store_claims.proofs.Outcomes.{save-answers, find-answers, restore-answers}
use Rattle.store_claims.proofs.Saves.{save-passed, save-refused, saved-shown, others-shown, taken-saves}
use Rattle.store_claims.proofs.Back.{after_both, answers-both, after-words, restored-whole, restore-ready}

-- SETUP IN OTHER WORDS OF THE SAME NUMBER

abbrev setup_refusal : Plan → List ℕ → ℕ
setup_refusal p lent = first_refusal (plan_refusal p) (or_else (ltb (length lent) (ceiling_of p)) 21 0)

setup-refusal : (p : Plan) (lent : List ℕ) → (set_up p lent).refusal ≡ setup_refusal p lent
unfolding set_up
setup-refusal p lent = eqb-cases (plan_refusal p) 0 (λ x. (cond (not x) (not_set_up (plan_refusal p) lent) (rest (ltb (length lent) (ceiling_of p)))).refusal ≡ cond x few (plan_refusal p))
    (λ e. bool_cases (ltb (length lent) (ceiling_of p)) (λ t. rw t refl) (λ t. rw t refl))
    (λ n. refl)
  where
    few : ℕ
    few = or_else (ltb (length lent) (ceiling_of p)) 21 0

    rest : Bool → After Held
    rest t = cond t (not_set_up 21 lent) (taken_to (record { field = fresh (trimmed p); words = replicate (length lent) 0 }))

module _ (p : Plan) (a b : List ℕ) (e : length a ≡ length b) where
  same-refusal : (set_up p a).refusal ≡ (set_up p b).refusal
  same-refusal = setup-refusal p a ∙ ap (λ n. first_refusal (plan_refusal p) (or_else (ltb n (ceiling_of p)) 21 0)) e ∙ sym (setup-refusal p b)

  same-setup : (set_up p a).refusal ≡ 0 → (set_up p a).state ≡ (set_up p b).state
  same-setup z =
      (started p a z).is ∙ ap (λ n. record { field = fresh (trimmed p); words = replicate n 0 }) e
      ∙ sym (started p b (sym same-refusal ∙ z)).is

setup-answers : (p : Plan) (lent : List ℕ) → MayAnswer (sets_up p) (set_up p lent).refusal
setup-answers p lent = rw (setup-refusal p lent)
    (eqb-cases (plan_refusal p) 0 (λ x. MayAnswer (sets_up p) (cond x few (plan_refusal p)))
    (λ e. bool_cases (ltb (length lent) (ceiling_of p)) (λ t. inr (inr (rw t refl))) (λ t. inl (rw t refl)))
    (λ n. ⊎_elim inl (λ h. inr (inl h)) (plan-number p)))
  where
    few : ℕ
    few = or_else (ltb (length lent) (ceiling_of p)) 21 0

-- the last of a list of answers
all-last : {A : Type 0} {P : A → Type 0} {x : A} (l : List A) → All P (l ++ (x ∷ [])) → P x
all-last [] (con h t) = h
all-last (y ∷ l) (con h t) = all-last l t

-- WHAT IS KEPT

-- what the calls of a past leave
abbrev left_by : List ℕ → Past → Held
left_by lent x = after x.calls (set_up x.plan lent).state

-- a past that began with a taken setup
abbrev Began : List ℕ → Past → Type 0
Began lent x = (set_up x.plan lent).refusal ≡ 0

-- the record of this name in this store is that of the past noted for it
record PointKept (lent s : List ℕ) (name : List ℕ) (x : Past) : Type 0 where
  began : Began lent x
  shows : shown_part name s ≡ record_bytes name (left_by lent x)
  fits : store_fits s ≡ true
  named : name_fits name ≡ true

record Kept (lent : List ℕ) (c : Console) (b : Ledger) : Type 0 where
  began : Began lent b.now
  held : c.held ≡ left_by lent b.now
  points : (i : ℕ) (name : List ℕ) → was_saved i name b.points ≡ true → PointKept lent (c.stores i) name (past_of i name b.now b.points)

-- where there is a point, its past does not depend on the one that is held
past-any : (i : ℕ) (name : List ℕ) (x y : Past) (l : List Point) → was_saved i name l ≡ true → past_of i name x l ≡ past_of i name y l
unfolding was_saved past_of
past-any i name x y [] e = absurd (true≢false (sym e))
past-any i name x y (q ∷ l) e = bool_cases (is_point i name q) (λ t. rw t refl) (λ t. rw t (past-any i name x y l (rw t at e)))

-- what a past leaves is live, in as many words
module _ (lent : List ℕ) (x : Past) (z : Began lent x) where
  past-live : Live (left_by lent x)
  past-live = after-live x.calls _ (setup-live x.plan lent z)

  past_words : length (left_by lent x).words ≡ length lent
  past_words =
      after-words x.calls _ (setup-live x.plan lent z)
      ∙ ap (λ (h : Held). length h.words) (started x.plan lent z).is ∙ length-replicate {A = ℕ} (length lent) 0

module _ {lent : List ℕ} {c : Console} {b : Ledger} (k : Kept lent c b) where
  live_now : Live c.held
  live_now = subst Live (sym k.held) (past-live lent b.now k.began)

  words-now : length c.held.words ≡ length lent
  words-now = ap (λ (h : Held). length h.words) k.held ∙ past_words lent b.now k.began

  -- another field is held, of a past that began: the points stay
  holds-now : (h : Held) (x : Past) → Began lent x → h ≡ left_by lent x → Kept lent (record { held = h; stores = c.stores }) (record { now = x; points = b.points })
  holds-now h x g e = record {
    began = g;
    held = e;
    points = λ i name w. subst (PointKept lent (c.stores i) name) (past-any i name b.now x b.points w) (k.points i name w);
  }

  -- A SETUP
  set-kept : (p : Plan) → Kept lent (acts (sets_up p) c).state (noted (sets_up p) (acts (sets_up p) c).refusal b)
  unfolding acts noted after
  set-kept p = by-eq (set_up p c.held.words).refusal 0
      (λ z. rw z (holds-now (set_up p c.held.words).state (record { plan = p; calls = [] }) (sym (same-refusal p c.held.words lent words-now) ∙ z) (same-setup p c.held.words lent words-now z)))
      (λ n. rw (ne_eqb _ 0 n) k)

  -- A CALL
  call_kept : (x : Call) → Kept lent (acts (calls x) c).state (noted (calls x) (acts (calls x) c).refusal b)
  unfolding acts noted after
  call_kept x = holds-now (does x c.held).state (record { plan = b.now.plan; calls = b.now.calls ++ (x ∷ []) }) k.began
      (ap (λ h. (does x h).state) k.held ∙ sym (after_both b.now.calls (x ∷ []) (set_up b.now.plan lent).state))

  call-answers : (x : Call) → Allowed x (does x c.held).refusal
  unfolding answers
  call-answers x =
      let p = b.now.plan in
      let start = (set_up p lent).state in
      let all = (demand3 p lent k.began (b.now.calls ++ (x ∷ []))).refusals in
      rw k.held (all-last (answers b.now.calls start) (subst (All (λ a. Allowed a.call a.refusal)) (answers-both b.now.calls (x ∷ []) start) all))

  -- A RESTORE
  restore-kept : (i : ℕ) (name : List ℕ) → known (restores i name) (acts (restores i name) c).refusal b ≡ true
      → Kept lent (acts (restores i name) c).state (noted (restores i name) (acts (restores i name) c).refusal b)
  unfolding acts noted known
  restore-kept i name w = by-eq (restore_point name (c.stores i) c.held.words).refusal 0
      (λ z.
      let x = past_of i name b.now b.points in
      let q = k.points i name (rw z at w) in
      let n : length c.held.words ≡ length (left_by lent x).words = words-now ∙ sym (past_words lent x q.began) in
      rw z (holds-now (restore_point name (c.stores i) c.held.words).state x q.began
      (restored-whole x.plan lent q.began x.calls name (c.stores i) c.held.words q.shows z n)))
      (λ n. rw (ne_eqb _ 0 n) k)

  -- A SAVE
  module _ (i : ℕ) (name : List ℕ) where
    abbrev old : List ℕ
    old = c.stores i

    abbrev saving : After (List ℕ)
    saving = save_point name c.held old

    abbrev point : Point
    point = record { store = i; name = name; past = b.now }

    module _ (z : saving.refusal ≡ 0) where
      left-good : name_fits name ≡ true
      unfolding save_point
      left-good = (save-passed name c.held old z).good

      left-whole : store_fits saving.state ≡ true
      left-whole = (taken-saves name c.held old z).fits

      point-kept : (j : ℕ) (other : List ℕ) → was_saved j other (point ∷ b.points) ≡ true
          → PointKept lent (upd c.stores i saving.state j) other (past_of j other b.now (point ∷ b.points))
      unfolding upd was_saved past_of
      point-kept j other w = by-eq i j
          (λ e. bool_cases (same_list name other)
          (λ t. rw (eq-eqb i j e, t)
          (subst (λ m. PointKept lent saving.state m b.now) (same-equal name other t)
          (record { began = k.began; shows = saved-shown name c.held old z ∙ ap (record_bytes name) k.held; fits = left-whole; named = left-good })))
          (λ t. rw (eq-eqb i j e, t) (still j other t e (rw (eq-eqb i j e, t) at w))))
          (λ n. rw (ne_eqb i j n) (k.points j other (rw (ne_eqb i j n) at w)))
        where
          still : (j : ℕ) (other : List ℕ) → same_list name other ≡ false → i ≡ j → was_saved j other b.points ≡ true → PointKept lent saving.state other (past_of j other b.now b.points)
          still j other t e v =
              let q = k.points j other v in
              record { began = q.began; shows = others-shown name c.held old z other (λ q. true≢false (sym (equal-same (sym q)) ∙ t)) ∙ ap (λ n. shown_part other (c.stores n)) e ∙ q.shows; fits = left-whole; named = q.named }

    -- a refused save leaves every store as it was
    untouched : (j : ℕ) → c.stores j ≡ upd c.stores i old j
    unfolding upd
    untouched j = by-eq i j (λ e. rw (eq-eqb i j e) (ap c.stores (sym e))) (λ n. rw (ne_eqb i j n) refl)

    kept-save : saving.refusal ≢ 0 → saving.state ≡ old
    unfolding save_point
    kept-save n = save-refused name c.held old n

    save-kept : Kept lent (acts (saves i name) c).state (noted (saves i name) (acts (saves i name) c).refusal b)
    unfolding acts noted
    save-kept = by-eq saving.refusal 0
        (λ z. rw z (record { began = k.began; held = k.held; points = point-kept z }))
        (λ n. rw (ne_eqb _ 0 n, kept-save n) (record {
          began = k.began;
          held = k.held;
          points = λ j other w. subst (λ s. PointKept lent s other (past_of j other b.now b.points)) (untouched j) (k.points j other w);
        }))

  -- ANY ACT
  act-kept : (a : Act) → known a (acts a c).refusal b ≡ true → Kept lent (acts a c).state (noted a (acts a c).refusal b)
  unfolding acts noted
  act-kept (sets_up p) w = set-kept p
  act-kept (calls x) w = call_kept x
  act-kept (saves i name) w = save-kept i name
  act-kept (finds i name) w = k
  act-kept (restores i name) w = restore-kept i name w

  act-answers : (a : Act) → MayAnswer a (acts a c).refusal
  unfolding acts
  act-answers (sets_up p) = setup-answers p c.held.words
  act-answers (calls x) = call-answers x
  act-answers (saves i name) = save-answers name c.held (c.stores i) live_now.valid
  act-answers (finds i name) = find-answers name (c.stores i)
  act-answers (restores i name) = restore-answers name (c.stores i) c.held.words

-- EVERY LIST

module _ (lent : List ℕ) where
  list-kept : (l : List Act) (c : Console) (b : Ledger) → Kept lent c b → all_known l c b ≡ true → Kept lent (holds_after l c) (noted_after l c b)
  unfolding holds_after noted_after all_known
  list-kept [] c b k w = k
  list-kept (a ∷ l) c b k w =
      let h = (and-eq-true_iff (known a (acts a c).refusal b) (all_known l (acts a c).state (noted a (acts a c).refusal b))).0 w in
      list-kept l (acts a c).state (noted a (acts a c).refusal b) (act-kept k a h.0) h.1

  list-answers : (l : List Act) (c : Console) (b : Ledger) → Kept lent c b → all_known l c b ≡ true → All (λ x. MayAnswer x.act x.refusal) (act_answers l c)
  unfolding act_answers all_known
  list-answers [] c b k w = nil
  list-answers (a ∷ l) c b k w =
      let h = (and-eq-true_iff (known a (acts a c).refusal b) (all_known l (acts a c).state (noted a (acts a c).refusal b))).0 w in
      con (act-answers k a) (list-answers l (acts a c).state (noted a (acts a c).refusal b) (act-kept k a h.0) h.1)

  judged-now : (c : Console) (b : Ledger) → Kept lent c b → JudgedBy lent c.held b.now
  judged-now c b k =
      let x = b.now in
      let start = (set_up x.plan lent).state in
      let own : c.held.field.plan ≡ trimmed x.plan = ap (λ (h : Held). h.field.plan) k.held ∙ after-plan x.calls start (setup-live x.plan lent k.began) ∙ ap (λ (h : Held). h.field.plan) (started x.plan lent k.began).is in
      record { set = k.began; is = k.held; claim = subst (λ q. Claim q start x.calls) (sym own) (demand3 x.plan lent k.began x.calls) }

  -- a name that was saved is there, and its plan has room
  ready-now : (c : Console) (b : Ledger) → Kept lent c b → (i : ℕ) (name : List ℕ) → was_saved i name b.points ≡ true → (acts (restores i name) c).refusal ≡ 0
  unfolding acts
  ready-now c b k i name w =
      let x = past_of i name b.now b.points in
      let q = k.points i name w in
      restore-ready x.plan lent q.began x.calls name (c.stores i) c.held.words q.shows q.fits q.named (words-now k ∙ sym (past_words lent x q.began))

-- at the first setup
first-kept : (p : Plan) (c : Console) → (acts (sets_up p) c).refusal ≡ 0 → Kept c.held.words (acts (sets_up p) c).state (first_note p)
unfolding acts after was_saved
first-kept p c z = rw z (record { began = z; held = refl; points = λ i name w. absurd (true≢false (sym w)) })

-- THE CLAIM
pub rehearsals : Rehearsals
rehearsals p c z l w =
    let k = first-kept p c z in
    let d = (acts (sets_up p) c).state in
    record {
      judged = judged-now c.held.words _ _ (list-kept c.held.words l d (first_note p) k w);
      answered = list-answers c.held.words l d (first_note p) k w;
      ready = ready-now c.held.words _ _ (list-kept c.held.words l d (first_note p) k w);
    }
