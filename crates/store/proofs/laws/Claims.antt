-- What the claims of a restore and of a console alone tell. One call before the save and one since the restore: `then_is`, `then-answer`,
-- `then_same`. A console: its marks (`rehearsed-branches`), its sent count (`rehearsed-sent`), what no act answered (`rehearsed-answers`), what comes back (`rehearsed-ready`).
use Rattle.std.specs.Prelude.{ℕ, ◌≤◌, ◌≡◌, true, List, [], ◌∷◌, length}
use Rattle.std.proofs.Math.Path.{sym}
use Rattle.std.proofs.Common.{ap, subst, ◌∙◌}
use Rattle.base.specs.Pool.{All}
use Rattle.base.proofs.laws.Pool.{All-map}
use Rattle.plan.specs.Links.{Plan}
use Rattle.node.specs.Work.{BRANCH}
use Rattle.field.specs.State.{mark_at}
use Rattle.field.specs.Held.{Held, state_of, set_up}
use Rattle.field_calls.specs.Call.{Call, does, after, Answer, answers}
use Rattle.field_calls.specs.Demand.{TreeLink}
use Rattle.field_calls.specs.Trail.{trail, messages_sent}
use Rattle.store.specs.Names.{shown_part}
use Rattle.store.specs.Layout.{record_bytes}
use Rattle.store.specs.Calls.{restore_point}
use Rattle.store.specs.Claims.{laid_in, GoesOn, ComesBack}
use Rattle.store.specs.Console.{Console, Act, sets_up, restores, acts, Past, was_saved, holds_after, noted_after, all_known, act_answers, first_note, Rehearsals}
use Rattle.store.proofs.laws.Acts.{never-answered}

-- ---- a restore

-- the second of two answers
second : List Answer → ℕ
second [] = 0
second (a ∷ []) = 0
second (a ∷ b ∷ l) = b.refusal

module _ (back : ComesBack) (p : Plan) (lent : List ℕ) (z : (set_up p lent).refusal ≡ 0) (x y : Call) (name s words : List ℕ) where
  abbrev start : Held
  start = (set_up p lent).state

  abbrev restored : Held
  restored = (restore_point name s words).state

  module _ (e : shown_part name s ≡ record_bytes name (does x start).state) (r : (restore_point name s words).refusal ≡ 0) where
    on : GoesOn start restored (x ∷ []) (y ∷ [])
    unfolding after
    on = back p lent z (x ∷ []) (y ∷ []) name s words e r

    pub then_is : (does y restored).state ≡ laid_in (length restored.words) (does y (does x start).state).state
    unfolding after
    then_is = on.is

    pub then-answer : (does y restored).refusal ≡ (does y (does x start).state).refusal
    unfolding answers second
    then-answer = sym (ap second on.answered)

    pub then_same : length restored.words ≡ length start.words → (does y restored).state ≡ (does y (does x start).state).state
    unfolding after
    then_same = on.same

-- ---- a console

module _ (all : Rehearsals) (p : Plan) (c : Console) (z : (acts (sets_up p) c).refusal ≡ 0) (l : List Act) (k : all_known l (acts (sets_up p) c).state (first_note p) ≡ true) where
  abbrev held : Held
  held = (holds_after l (acts (sets_up p) c).state).held

  abbrev now : Past
  now = (noted_after l (acts (sets_up p) c).state (first_note p)).now

  abbrev begun : Held
  begun = (set_up now.plan c.held.words).state

  is : held ≡ after now.calls begun
  is = (all p c z l k).judged.is

  -- every link that a module marks branch is in the tree
  pub rehearsed-branches : (v d : ℕ) → mark_at held.field.plan (state_of held) v d ≡ BRANCH → TreeLink held.field.plan d
  rehearsed-branches v d e = (all p c z l k).judged.claim.branches v d (subst (λ h. mark_at held.field.plan (state_of h) v d ≡ BRANCH) is e)

  -- the sent count is that of the messages that the calls of its past sent
  pub rehearsed-sent : held.field.sent ≡ messages_sent held.field.plan (trail now.calls begun)
  rehearsed-sent = ap (λ (h : Held). h.field.sent) is ∙ (all p c z l k).judged.claim.exact

  pub rehearsed-answers : All (λ a. ¬ ((31 ≤ a.refusal) × (a.refusal ≤ 33))) (act_answers l (acts (sets_up p) c).state)
  rehearsed-answers = All-map (λ a h w. never-answered a.act a.refusal w.0 w.1 h) (all p c z l k).answered

  -- every name that was saved comes back
  pub rehearsed-ready : (i : ℕ) (name : List ℕ) → was_saved i name (noted_after l (acts (sets_up p) c).state (first_note p)).points ≡ true
      → (acts (restores i name) (holds_after l (acts (sets_up p) c).state)).refusal ≡ 0
  rehearsed-ready = (all p c z l k).ready
