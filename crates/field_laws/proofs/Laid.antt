-- The lent words and the field: waiting words are laid out and read back (`layout-back`, `layout-zeros`), a call on what the host holds is the call on its
-- state (`does-state`), and a field that passes 31 passes it ever after (`does-live`). A refused call alters nothing (`refused-alters-nothing`). A step given
-- alone that is taken, on any field and words (`alone-took`, `alone-left`, `alone-plan`, `step_back`).
use Rattle.std.specs.Prelude.{ℕ, zero, suc, ◌-◌, ◌≤◌, ◌≡◌, ◌≢◌, true, false, not, List, [], ◌∷◌, ◌++◌, length, drop, replicate, eqb, leb}
use Rattle.std.proofs.Common.{arith, sym, ◌∙◌, length-append, eqb-true, leb-true, eq-eqb, ne_eqb}
use Rattle.std.proofs.Math.Path.{refl, ap, ap₂}
use Rattle.std.proofs.Math.Bool.{cond, ◌&&◌, and-eq-true_iff}
use Rattle.std.proofs.lemmas.List.{length-replicate}
use Rattle.std.proofs.Math.Seq.{drop-append_seam}
use Rattle.base.proofs.laws.Cond.{bool_cases, eqb-cases, eqb-diff}
use Rattle.base.specs.Limits.{max_ends}
use Rattle.base.specs.Loop.{After}
use Rattle.base.specs.Pool.{All, nil, con}
use Rattle.base.proofs.laws.Pool.{All-map, All-app, All-one, All-here, All-rest}
use Rattle.base.proofs.laws.Keep.{first_out}
use Rattle.format_message.specs.Header.{header_of, carried_of}
use Rattle.format_word.proofs.laws.Word.{packed-nonzero, over-nonzero}
use Rattle.node.specs.Work.{Send}
use Rattle.plan.specs.Refusal.{plan_refusal}
use Rattle.plan.proofs.laws.Accepted.{Accepted, accepted}
use Rattle.plan.specs.Links.{Plan}
use Rattle.field.specs.Edges.{end_of, ceiling_of}
use Rattle.field.specs.State.{State, CELLS, posted}
use Rattle.field.specs.Step.{wake_work, serve_work, step}
use Rattle.field.specs.Valid.{all_of, waiting_in, zero_after, fits}
use Rattle.field.specs.Held.{Held, layout, state_of, held_of, valid, step_alone}
use Rattle.field.proofs.laws.Step.{alone-31, alone-step}
use Rattle.field_calls.specs.Schedule.{schedule_refusal, schedule_run}
use Rattle.field_calls.specs.Call.{Call, one, run, rounds, refused_run, laid_back, run_bytes, run_rounds, does}
use Rattle.field_laws.proofs.Cases.{StepOutcome, took, kept, FieldStep, wake-step, hand-step, serve-step, step-outcome, took_it}
use Rattle.field_laws.proofs.Fits.{word-nonzero, fits-facts, facts-fits}
use Rattle.field_laws.proofs.Keeps.{Sound, back-all, SameLengths, step_keeps, step-lengths}
use Rattle.field_laws.proofs.Trace.{on_state, call-keeps}

-- ---- words laid out

pub waiting-zeros : (k : ℕ) → waiting_in (replicate k 0) ≡ []
unfolding waiting_in
waiting-zeros zero = refl
waiting-zeros (suc k) = refl

-- words that are not 0 are read back ..
pub waited-back : (n : ℕ) {l : List ℕ} → All (λ x. x ≢ 0) l → waiting_in (l ++ replicate n 0) ≡ l
unfolding waiting_in
waited-back n nil = waiting-zeros n
waited-back n (con {x} {xs} h t) = rw (eqb-diff x 0 h) (ap (λ r. x ∷ r) (waited-back n t))

-- (and words that wait are not 0)
pub waiting-nonzero : (l : List ℕ) → All (λ x. x ≢ 0) (waiting_in l)
unfolding waiting_in
waiting-nonzero [] = nil
waiting-nonzero (x ∷ l) = eqb-cases x 0 (λ b. All (λ y. y ≢ 0) (cond b [] (x ∷ waiting_in l))) (λ e. nil) (λ n. con n (waiting-nonzero l))

pub zeros-all : (k : ℕ) → all_of (λ x. eqb x 0) (replicate k 0) ≡ true
unfolding all_of
zeros-all zero = refl
zeros-all (suc k) = zeros-all k

pub all-zeros : (l : List ℕ) → all_of (λ x. eqb x 0) l ≡ true → l ≡ replicate (length l) 0
unfolding all_of
all-zeros [] e = refl
all-zeros (x ∷ l) e = let h = (and-eq-true_iff (eqb x 0) (all_of (λ y. eqb y 0) l)).0 e in ap₂ ◌∷◌ (eqb-true x 0 h.0) (all-zeros l h.1)

waiting-front : (l : List ℕ) → waiting_in l ++ drop (length (waiting_in l)) l ≡ l
unfolding waiting_in
waiting-front [] = refl
waiting-front (x ∷ l) = eqb-cases x 0 (λ b. cond b [] (x ∷ waiting_in l) ++ drop (length (cond b [] (x ∷ waiting_in l))) (x ∷ l) ≡ x ∷ l)
    (λ e. refl) (λ n. ap (λ r. x ∷ r) (waiting-front l))

-- .. and lent words that are 0 behind the waiting ones are the layout of these
pub layout-back : (lent : List ℕ) → zero_after lent ≡ true → layout (length lent) (waiting_in lent) ≡ lent
layout-back lent e =
    let r = drop (length (waiting_in lent)) lent in
    let n : length lent - length (waiting_in lent) ≡ length r = omega (arith, ap length (waiting-front lent), length-append (waiting_in lent) r) in
    ap (λ x. waiting_in lent ++ x) (ap (λ k. replicate k 0) n ∙ sym (all-zeros r e)) ∙ waiting-front lent

module _ (n : ℕ) (words : List ℕ) (l : length words ≤ n) where
  pub laid-length : length (layout n words) ≡ n
  laid-length = omega (arith, length-append words (replicate (n - length words) 0), length-replicate {A = ℕ} (n - length words) 0)

  pub layout-zeros : All (λ x. x ≢ 0) words → zero_after (layout n words) ≡ true
  layout-zeros h = rw (waited-back (n - length words) h) (ap (all_of (λ x. eqb x 0)) (drop-append_seam words (replicate (n - length words) 0)) ∙ zeros-all (n - length words))

-- ---- a step given alone, on any field and words

-- a step leaves no word that is 0
module _ (p : Plan) where
  posted-nonzero : (v : ℕ) (l : List Send) → All (λ x. x ≢ 0) (posted p v l)
  posted-nonzero v [] = nil
  posted-nonzero v (x ∷ l) = con (packed-nonzero (header_of x.msg) (carried_of x.msg) (end_of p v x.edge) 0) (posted-nonzero v l)

  step-nonzero : (s : State) {kind number : ℕ} {s' : State} → All (λ x. x ≢ 0) s.words → FieldStep p s kind number s' → All (λ x. x ≢ 0) s'.words
  step-nonzero s a (wake-step {v} h) = rw h.responds.is (All-app (All-app a (posted-nonzero v (wake_work p v s).sends)) nil)
  step-nonzero s a (hand-step h) = let o = first_out h.first in rw h.is (All-app (All-rest o a) (All-one (over-nonzero h.word (All-here o a))))
  step-nonzero s a (serve-step {v} h) =
      let o = first_out h.first in
      let w = serve_work p v h.word s in
      rw h.responds.is (All-app (All-app (All-rest o a) (posted-nonzero v w.sends)) (back-all w h.word (All-here o a)))

-- so what it leaves is read back from where it is laid, no matter how the field was made
pub step_back : (h : Held) {kind number : ℕ} {s : State} → FieldStep h.field.plan (state_of h) kind number s → waiting_in (held_of h s).words ≡ s.words
step_back h {s} t = waited-back (length h.words - length s.words) (step-nonzero h.field.plan (state_of h) (waiting-nonzero h.words) t)

-- what 31 checks
pub valid-parts : (h : Held) → valid h ≡ true
    → (plan_refusal h.field.plan ≡ 0) × (leb (ceiling_of h.field.plan) (length h.words) ≡ true) × (zero_after h.words ≡ true) × (fits h.field.plan (state_of h) ≡ true)
unfolding valid
valid-parts h e =
    let p = h.field.plan in
    let a = (and-eq-true_iff (eqb (plan_refusal p) 0 && leb (ceiling_of p) (length h.words) && zero_after h.words) (fits p (state_of h))).0 e in
    let b = (and-eq-true_iff (eqb (plan_refusal p) 0 && leb (ceiling_of p) (length h.words)) (zero_after h.words)).0 a.0 in
    let c = (and-eq-true_iff (eqb (plan_refusal p) 0) (leb (ceiling_of p) (length h.words))).0 b.0 in
    (eqb-true _ _ c.0, c.1, b.1, a.1)

-- nothing changed, nothing altered
pub held_same : (h : Held) → valid h ≡ true → held_of h (state_of h) ≡ h
held_same h v = ap (λ w. record { field = h.field; words = w }) (layout-back h.words (valid-parts h v).2)

module _ (kind number : ℕ) (h : Held) where
  abbrev step_here : After State
  step_here = step h.field.plan kind number (state_of h)

  module _ (e : (step_alone kind number h).refusal ≡ 0) where
    -- 31 let the field pass
    passed : valid h ≡ true
    passed = bool_cases (valid h) (λ v. v) (λ v. absurd (omega (arith, e, ap (λ a. a.refusal) (alone-31 kind number h v))))

    pub alone-plan : Accepted h.field.plan
    alone-plan = accepted h.field.plan (valid-parts h passed).0

    -- taken alone, the step was taken in the field's state ..
    pub alone-took : FieldStep h.field.plan (state_of h) kind number step_here.state
    alone-took = took_it (step-outcome h.field.plan (state_of h) kind number) (ap (λ a. a.refusal) (alone-step kind number h passed) ∙ e)

    -- .. and what that left is laid out again
    pub alone-left : (step_alone kind number h).state ≡ held_of h step_here.state
    alone-left = sym (ap (λ a. a.state) (alone-step kind number h passed))

-- ---- what a host holds

-- the arrays of a field hold 192 modules and 600 links; and 31 does not apply
pub record Live (h : Held) : Type 0 where
  pub cells : CELLS ≤ length h.field.cells
  pub marks : max_ends ≤ length h.field.marks
  pub valid : valid h ≡ true

module _ (h : Held) (i : Live h) where
  abbrev pub plan : Plan
  plan = h.field.plan

  checks : (plan_refusal plan ≡ 0) × (leb (ceiling_of plan) (length h.words) ≡ true) × (zero_after h.words ≡ true) × (fits plan (state_of h) ≡ true)
  checks = valid-parts h i.valid

  pub live-plan : Accepted plan
  live-plan = accepted plan checks.0

  pub live-sound : Sound plan (state_of h)
  live-sound = record {
    sized = record {
      cells = omega (arith, i.cells, live-plan.modules_ok);
      marks = omega (arith, i.marks, live-plan.links_ok);
    };
    fits = fits-facts plan (state_of h) checks.3;
  }

  -- a sound state put back is read again, and is valid
  module _ (s : State) (sound : Sound plan s) (alike : SameLengths (state_of h) s) where
    nonzero : All (λ x. x ≢ 0) s.words
    nonzero = All-map (λ x e. word-nonzero plan x e) sound.fits.words

    short : length s.words ≤ length h.words
    short = omega (arith, sound.fits.waiting, sound.fits.ceiling, leb-true (ceiling_of plan) (length h.words) checks.1)

    pub state-back : state_of (held_of h s) ≡ s
    state-back = ap (λ w. record { cells = s.cells; marks = s.marks; words = w; sent = s.sent }) (waited-back (length h.words - length s.words) nonzero)

    pub held-live : Live (held_of h s)
    unfolding valid
    held-live = record {
      cells = omega (arith, alike.cells, i.cells);
      marks = omega (arith, alike.marks, i.marks);
      valid =
          ap₂ ◌&&◌
          (ap₂ ◌&&◌ (ap₂ ◌&&◌ (eq-eqb _ _ checks.0) (ap (leb (ceiling_of plan)) (laid-length (length h.words) s.words short) ∙ checks.1))
          (layout-zeros (length h.words) s.words short nonzero))
          (ap (fits plan) state-back ∙ facts-fits plan s sound.fits);
    }

  -- THE LAW: a call on a field that passes 31 is the call on its state
  pub does-state : (c : Call) → does c h ≡ laid_back h (on_state plan c (state_of h))
  unfolding does step_alone run_bytes run_rounds on_state
  does-state (one kind number) = rw i.valid refl
  does-state (run bytes) = rw i.valid (eqb-cases (schedule_refusal bytes) 0
      (λ b. cond (not b) (refused_run (schedule_refusal bytes) h) (laid_back h (schedule_run plan bytes (state_of h)))
      ≡ laid_back h (cond b (schedule_run plan bytes (state_of h)) (record { done = 0; refusal = schedule_refusal bytes; state = state_of h })))
      (λ e. refl)
      (λ n. ap (refused_run (schedule_refusal bytes)) (sym (held_same h i.valid))))
  does-state (rounds limit) = rw i.valid refl

  left : (c : Call) → Sound plan (on_state plan c (state_of h)).state × SameLengths (state_of h) (on_state plan c (state_of h)).state
  left c = call-keeps plan (λ x. Sound plan x × SameLengths (state_of h) x)
      (λ kind number x k. (
        step_keeps plan live-plan x k.0 kind number,
        let a = step-lengths plan x kind number in record { cells = a.cells ∙ k.1.cells; marks = a.marks ∙ k.1.marks },
      ))
      c (state_of h) (live-sound, record { cells = refl; marks = refl })

  -- so a run checks 31 once, and 31 never applies later
  pub does-live : (c : Call) → Live (does c h).state
  does-live c = rw (does-state c) (held-live (on_state plan c (state_of h)).state (left c).0 (left c).1)

  pub state-of-does : (c : Call) → state_of (does c h).state ≡ (on_state plan c (state_of h)).state
  state-of-does c = rw (does-state c) (state-back (on_state plan c (state_of h)).state (left c).0 (left c).1)

  pub plan-of-does : (c : Call) → (does c h).state.field.plan ≡ plan
  plan-of-does c = rw (does-state c) refl

  pub refusal-of-does : (c : Call) → (does c h).refusal ≡ (on_state plan c (state_of h)).refusal
  refusal-of-does c = rw (does-state c) refl

  -- demand 1: a step that is refused alters neither field nor words
  pub refused-alters-nothing : (kind number : ℕ) → (step_alone kind number h).refusal ≢ 0 → (step_alone kind number h).state ≡ h
  unfolding step_alone
  refused-alters-nothing kind number = rw i.valid (go (step-outcome plan (state_of h) kind number))
    where
      go : {a : After State} → StepOutcome (state_of h) (FieldStep plan (state_of h) kind number) a → a.refusal ≢ 0 → held_of h a.state ≡ h
      go (took t) n = absurd (n refl)
      go (kept r t) n = held_same h i.valid

-- the same of a field that 31 refuses, whatever its arrays
pub invalid-alters-nothing : (h : Held) (c : Call) → valid h ≡ false → does c h ≡ refused_run 31 h
unfolding does step_alone run_bytes run_rounds
invalid-alters-nothing h (one kind number) e = rw e refl
invalid-alters-nothing h (run bytes) e = rw e refl
invalid-alters-nothing h (rounds limit) e = rw e refl

-- the same of a schedule that 51 to 54 refuse
pub schedule-alters-nothing : (h : Held) (bytes : List ℕ) → schedule_refusal bytes ≢ 0 → (does (run bytes) h).state ≡ h
unfolding does run_bytes
schedule-alters-nothing h bytes n = bool_cases (valid h) (λ e. rw (e, ne_eqb (schedule_refusal bytes) 0 n) refl) (λ e. rw e refl)
