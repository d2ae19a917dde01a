-- Rounds (synchronous rounds), and a run of them.
use Rattle.std.specs.Prelude.{ℕ, ◌*◌, Bool, length, eqb}
use Rattle.base.specs.Keep.{many}
use Rattle.base.specs.Loop.{After, Ran, then, loop, runs}
use Rattle.plan.specs.Links.{Plan, modules_of, links_of}
use Rattle.field.specs.State.{State}
use Rattle.field.specs.Step.{in_air, in_queue, hand, serve}

-- "A round hands over all that each directed link holds, in number order,"
unfoldable pub hand_turn : Plan → ℕ → State → After State
hand_turn p d s = loop (many (in_air d) s.words) (λ j. hand p d) s

abbrev pub hand_phase : Plan → State → After State
hand_phase p s = loop (2 * links_of p) (hand_turn p) s

-- "then lets each module in number order serve as many as its queue then held."
unfoldable pub serve_turn : Plan → ℕ → State → After State
serve_turn p v s = loop (many (in_queue p v) s.words) (λ j. serve p v) s

abbrev pub serve_phase : Plan → State → After State
serve_phase p s = loop (modules_of p) (serve_turn p) s

unfoldable pub round : Plan → State → After State
round p s = then (hand_phase p s) (serve_phase p)

-- "At rest means no word waits."
abbrev pub at_rest : State → Bool
at_rest s = eqb (length s.words) 0

-- "A run of rounds gets a 16-bit limit, stops at rest, at the limit or at a refused step, and answers rounds completed and that refusal or none.
-- A round is completed once its last module had its turn; rest ends a run only between rounds."
abbrev pub rounds_run : Plan → ℕ → State → Ran State
rounds_run p limit s = runs at_rest limit (λ i. round p) s
