-- Turns one after the other on a state, each of which is taken or refused: ONE loop for every run, its last turn outermost.
use Rattle.std.specs.Prelude.{ℕ, zero, suc, Bool, cond, not, ◌&&◌, List, [], ◌++◌, eqb}

-- what a turn answers, the refusal's number or 0 for taken, and what it leaves
pub record After (S : Type 0) : Type 0 where
  pub refusal : ℕ
  pub state : S

-- turns done, the refusal that ended them or 0, and what they leave
pub record Ran (S : Type 0) : Type 0 where
  pub done : ℕ
  pub refusal : ℕ
  pub state : S

module _ {S : Type 0} where
  abbrev pub taken_to : S → After S
  taken_to x = record { refusal = 0; state = x }

  -- "A refused call alters no field": x is what it was given
  abbrev pub refused_by : ℕ → S → After S
  refused_by number x = record { refusal = number; state = x }

  -- a call that answers r, on x: what it leaves where that is 0
  abbrev pub answering : ℕ → S → S → After S
  answering r x left = record { refusal = r; state = cond (eqb r 0) left x }

  -- g on what a leaves, unless a was refused
  unfoldable pub then : After S → (S → After S) → After S
  then a g = cond (eqb a.refusal 0) (g a.state) a

  -- turns 0 to n - 1, up to the first that is refused
  unfoldable pub loop : ℕ → (ℕ → S → After S) → S → After S
  loop zero g x = taken_to x
  loop (suc n) g x = then (loop n g x) (g n)

  -- one turn more, counted if it is taken
  abbrev pub counted_turn : ℕ → After S → Ran S
  counted_turn done a = record { done = cond (eqb a.refusal 0) (suc done) done; refusal = a.refusal; state = a.state }

  -- turns 0 to n - 1, up to the first that is refused or before which `rest` holds
  unfoldable pub runs : (S → Bool) → ℕ → (ℕ → S → After S) → S → Ran S
  runs rest zero g x = record { done = 0; refusal = 0; state = x }
  runs rest (suc n) g x =
      let r = runs rest n g x in
      cond (eqb r.refusal 0 && not (rest r.state)) (counted_turn r.done (g n r.state)) r

  -- Turn k tells the list `t k x` of what it does from state x (for example, the steps that it takes).

  -- all that the turns of `loop n g x` tell, in order, up to the one that is refused
  unfoldable pub loop_trace : {E : Type 0} → ℕ → (ℕ → S → After S) → (ℕ → S → List E) → S → List E
  loop_trace zero g t x = []
  loop_trace (suc n) g t x = loop_trace n g t x ++ cond (eqb (loop n g x).refusal 0) (t n (loop n g x).state) []

  -- the same for the turns of `runs rest n g x`
  unfoldable pub runs_trace : {E : Type 0} → (S → Bool) → ℕ → (ℕ → S → After S) → (ℕ → S → List E) → S → List E
  runs_trace rest zero g t x = []
  runs_trace rest (suc n) g t x =
      let r = runs rest n g x in
      runs_trace rest n g t x ++ cond (eqb r.refusal 0 && not (rest r.state)) (t n r.state) []
