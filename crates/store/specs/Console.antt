-- A console with one field, its words and its stores: setups, calls, saves, finds and restores one after the other, and by which setup and list of calls the
-- field that it then holds is judged.
use Rattle.std.specs.Prelude.{ℕ, ◌≤◌, ◌≡◌, ◌⊎◌, Bool, true, false, cond, not, ◌&&◌, ◌||◌, List, [], ◌∷◌, ◌++◌, eqb}
use Rattle.base.specs.Cond.{upd}
use Rattle.base.specs.Loop.{After}
use Rattle.base.specs.Pool.{All}
use Rattle.base.specs.Test.{same_list}
use Rattle.plan.specs.Links.{Plan}
use Rattle.field.specs.Held.{Held, set_up}
use Rattle.field_calls.specs.Call.{Call, does, after}
use Rattle.field_calls.specs.Demand.{Allowed, Claim}
use Rattle.store.specs.Calls.{save_point, find_point, restore_point}

pub record Console : Type 0 where
  pub held : Held
  -- by number
  pub stores : ℕ → List ℕ

-- what it does: sets a plan up in its words, makes a call on its field, saves it in a store under a name, finds a name there, restores it
pub data Act : Type 0 where
  sets_up : Plan → Act
  calls : Call → Act
  saves : ℕ → List ℕ → Act
  finds : ℕ → List ℕ → Act
  restores : ℕ → List ℕ → Act

-- what a setup or restore answers; refused, the field and words stay, as they do from C (by value a host gets a field of zeros, and drops it)
abbrev pub held_by : After Held → Console → After Console
held_by a c = record { refusal = a.refusal; state = cond (eqb a.refusal 0) (record { held = a.state; stores = c.stores }) c }

unfoldable pub acts : Act → Console → After Console
acts (sets_up p) c = held_by (set_up p c.held.words) c
acts (calls x) c = record { refusal = (does x c.held).refusal; state = record { held = (does x c.held).state; stores = c.stores } }
acts (saves i name) c =
    let a = save_point name c.held (c.stores i) in
    record { refusal = a.refusal; state = record { held = c.held; stores = upd c.stores i a.state } }
acts (finds i name) c = record { refusal = (find_point name (c.stores i)).refusal; state = c }
acts (restores i name) c = held_by (restore_point name (c.stores i) c.held.words) c

-- by what a field is judged (its history): the plan of its setup, and the calls since
pub record Past : Type 0 where
  pub plan : Plan
  pub calls : List Call

-- a save that was taken, with the past that the field had then
pub record Point : Type 0 where
  pub store : ℕ
  pub name : List ℕ
  pub past : Past

-- the past of the field that is held; the saves, the latest first
pub record Ledger : Type 0 where
  pub now : Past
  pub points : List Point

abbrev pub is_point : ℕ → List ℕ → Point → Bool
is_point i name x = eqb x.store i && same_list x.name name

-- a save in this store under this name was taken
unfoldable pub was_saved : ℕ → List ℕ → List Point → Bool
was_saved i name [] = false
was_saved i name (x ∷ l) = is_point i name x || was_saved i name l

-- the past of the latest of these; `now` where there is none
unfoldable pub past_of : ℕ → List ℕ → Past → List Point → Past
past_of i name now [] = now
past_of i name now (x ∷ l) = cond (is_point i name x) x.past (past_of i name now l)

-- what is noted of an act that answered r
unfoldable pub noted : Act → ℕ → Ledger → Ledger
noted (sets_up p) r b = cond (eqb r 0) (record { now = record { plan = p; calls = [] }; points = b.points }) b
noted (calls x) r b = record { now = record { plan = b.now.plan; calls = b.now.calls ++ (x ∷ []) }; points = b.points }
noted (saves i name) r b = cond (eqb r 0) (record { now = b.now; points = record { store = i; name = name; past = b.now } ∷ b.points }) b
noted (finds i name) r b = b
-- "the steps up to the save that was restored and those since"
noted (restores i name) r b = cond (eqb r 0) (record { now = past_of i name b.now b.points; points = b.points }) b

-- "where every name restored was saved in the list"
unfoldable pub known : Act → ℕ → Ledger → Bool
known (sets_up p) r b = true
known (calls x) r b = true
known (saves i name) r b = true
known (finds i name) r b = true
known (restores i name) r b = not (eqb r 0) || was_saved i name b.points

-- over a list of acts: what the console holds then, what is noted, whether every name restored was saved, what was answered
unfoldable pub holds_after : List Act → Console → Console
holds_after [] c = c
holds_after (a ∷ l) c = holds_after l (acts a c).state

unfoldable pub noted_after : List Act → Console → Ledger → Ledger
noted_after [] c b = b
noted_after (a ∷ l) c b = noted_after l (acts a c).state (noted a (acts a c).refusal b)

unfoldable pub all_known : List Act → Console → Ledger → Bool
all_known [] c b = true
all_known (a ∷ l) c b = known a (acts a c).refusal b && all_known l (acts a c).state (noted a (acts a c).refusal b)

pub record ActAnswer : Type 0 where
  pub act : Act
  pub refusal : ℕ

unfoldable pub act_answers : List Act → Console → List ActAnswer
act_answers [] c = []
act_answers (a ∷ l) c = record { act = a; refusal = (acts a c).refusal } ∷ act_answers l (acts a c).state

-- "Besides its own numbers, 76, 77, 78 and 21 can occur; 31, 32, 33 cannot." (0 is no refusal.)
abbrev pub MayAnswer : Act → ℕ → Type 0
MayAnswer (sets_up p) r = (r ≡ 0) ⊎ ((14 ≤ r) × (r ≤ 18)) ⊎ (r ≡ 21)
MayAnswer (calls x) r = Allowed x r
MayAnswer (saves i name) r = (r ≡ 0) ⊎ ((76 ≤ r) × (r ≤ 78))
MayAnswer (finds i name) r = (r ≡ 0) ⊎ ((76 ≤ r) × (r ≤ 77))
MayAnswer (restores i name) r = (r ≡ 0) ⊎ ((76 ≤ r) × (r ≤ 77)) ⊎ (r ≡ 21)

-- what is said of the console's field, by its past, in these words
pub record JudgedBy (words : List ℕ) (h : Held) (x : Past) : Type 0 where
  pub set : (set_up x.plan words).refusal ≡ 0
  -- the field and its words are what the calls leave from that setup ..
  pub is : h ≡ after x.calls (set_up x.plan words).state
  -- .. and demand 3's claim holds of them, "for the plan that the field then holds"
  pub claim : Claim h.field.plan (set_up x.plan words).state x.calls

-- the console begins with a setup that is taken; whatever its words and stores held before
abbrev pub first_note : Plan → Ledger
first_note p = record { now = record { plan = p; calls = [] }; points = [] }

pub record Rehearsed (p : Plan) (c : Console) (l : List Act) : Type 0 where
  pub judged : JudgedBy c.held.words (holds_after l (acts (sets_up p) c).state).held (noted_after l (acts (sets_up p) c).state (first_note p)).now
  pub answered : All (λ a. MayAnswer a.act a.refusal) (act_answers l (acts (sets_up p) c).state)
  -- "and brought back later": a name that was saved in the list is not refused
  pub ready : (i : ℕ) (name : List ℕ) → was_saved i name (noted_after l (acts (sets_up p) c).state (first_note p)).points ≡ true
      → (acts (restores i name) (holds_after l (acts (sets_up p) c).state)).refusal ≡ 0

abbrev pub Rehearsals : Type 0
Rehearsals = (p : Plan) (c : Console) → (acts (sets_up p) c).refusal ≡ 0 → (l : List Act) → all_known l (acts (sets_up p) c).state (first_note p) ≡ true → Rehearsed p c l
