-- A step on a field in lent arrays: what it asks of them and what it leaves there.
use Rattle.std.specs.Prelude.{ℕ, ◌≡◌, List}
use Rattle.base.specs.Loop.{After, Ran}
use Rattle.plan.specs.Links.{Plan}
use Rattle.field.specs.State.{State}
use Rattle.field_words.specs.Laid.{Laid}
use Rattle.field_words.specs.Hands.{lent_state}
use Rattle.field_check.specs.Ready.{Ready}
use Rattle.field_verdict.specs.Verdict.{Verdict, work_in, Carries, outcome}
use Rattle.field.specs.declared.Field.{Field}

-- what a step answers and leaves: the refusal's number or 0, the words that wait and the sent count afterwards
pub record Done : Type 0 where
  pub refusal : ℕ
  pub waiting : ℕ
  pub sent : ℕ

-- where n words wait: nothing refused yet, and refused by this number or 0
abbrev pub standing : ℕ → Field → Done
standing n f = record { refusal = 0; waiting = n; sent = f.sent }

abbrev pub ended : ℕ → ℕ → Field → Done
ended refusal n f = record { refusal = refusal; waiting = n; sent = f.sent }

-- what step g of plan p answers and leaves in lent arrays, which are ready for the next step; b is what the step before left
pub record Advances (g : Plan → State → After State) (p : Plan) (cells marks lent : List ℕ) (b d : Done) (cells' marks' lent' : List ℕ) : Type 0 where
  pub is : record { refusal = d.refusal; state = lent_state cells' marks' lent' d.waiting d.sent } ≡ g p (lent_state cells marks lent b.waiting b.sent)
  pub ready : Ready p cells' marks' lent' d.waiting d.sent

-- the same of a run g, `done` of whose turns are done
pub record Runs (g : Plan → State → Ran State) (p : Plan) (cells marks lent : List ℕ) (b : Done) (done : ℕ) (d : Done) (cells' marks' lent' : List ℕ) : Type 0 where
  pub is : record { done = done; refusal = d.refusal; state = lent_state cells' marks' lent' d.waiting d.sent } ≡ g p (lent_state cells marks lent b.waiting b.sent)
  pub ready : Ready p cells' marks' lent' d.waiting d.sent

-- verdict y on module v is a refusal, or its response can be carried out in lent arrays
pub record Executable (p : Plan) (cells marks lent : List ℕ) (b : Done) (v : ℕ) (y : Verdict) : Type 0 where
  pub ready : Ready p cells marks lent b.waiting b.sent
  pub can : let s = lent_state cells marks lent b.waiting b.sent in y.refusal ≡ 0 → Carries (work_in p v s y) p v s y

-- what that answers and leaves
pub record CarriedOut (p : Plan) (v : ℕ) (y : Verdict) (cells marks lent : List ℕ) (b d : Done) (cells' marks' lent' : List ℕ) : Type 0 where
  pub is : let s = lent_state cells marks lent b.waiting b.sent in
      record { refusal = d.refusal; state = lent_state cells' marks' lent' d.waiting d.sent } ≡ outcome (work_in p v s y) p v s y
  pub laid : Laid lent' d.waiting

-- Step g of a field in lent words, n of which wait, and what it leaves: the refusal's number or 0, and the same plan.
pub record Moves (g : Plan → State → After State) (f : Field) (lent : List ℕ) (n refusal : ℕ) (f' : Field) (lent' : List ℕ) (n' : ℕ) : Type 0 where
  pub advances : Advances g f.plan f.cells f.marks lent (standing n f) (ended refusal n' f') f'.cells f'.marks lent'
  pub plan : f'.plan ≡ f.plan

-- the same of a run
pub record MovesOn (g : Plan → State → Ran State) (f : Field) (lent : List ℕ) (n done refusal : ℕ) (f' : Field) (lent' : List ℕ) (n' : ℕ) : Type 0 where
  pub runs : Runs g f.plan f.cells f.marks lent (standing n f) done (ended refusal n' f') f'.cells f'.marks lent'
  pub plan : f'.plan ≡ f.plan
