-- The steps that a list of calls takes, each with the state it was taken in; the messages sent and consumed and the modules woken in them.
use Rattle.std.specs.Prelude.{ℕ, ◌*◌, ◌<◌, ◌≢◌, Bool, cond, not, ◌&&◌, ◌||◌, length, get_or, eqb}
use mathlib.Core.List.{List, [], ◌∷◌, ◌++◌, map, flat_map}
use Rattle.base.specs.Cond.{bit}
use Rattle.base.specs.Loop.{loop_trace, runs_trace}
use Rattle.base.specs.Pool.{sum_l}
use Rattle.format_message.specs.Header.{kind_at, header_of, carried_of}
use Rattle.format_word.specs.Word.{header_in, carried_in, link_in}
use Rattle.node.specs.Work.{Send, ASLEEP, BACK}
use Rattle.field.specs.State.{State, node_at, posted}
use Rattle.field.specs.Step.{place, in_air, in_queue, wake_work, serve_work, hand, serve, WAKE, HAND, SERVE, step}
use Rattle.field.specs.Held.{Held, state_of, valid}
use Rattle.field_calls.specs.Schedule.{schedule_refusal, steps_in, kind_of, number_of, step_at, never}
use Rattle.base.specs.Keep.{many}
use Rattle.plan.specs.Links.{Plan, modules_of, links_of}
use Rattle.field.specs.Edges.{end_of}
use Rattle.field_calls.specs.Rounds.{hand_turn, hand_phase, serve_turn, round, at_rest}
use Rattle.field_calls.specs.Call.{Call, one, run, rounds, does}

-- a step that was taken, in a state
pub record Taken : Type 0 where
  pub kind : ℕ
  pub number : ℕ
  pub at : State

abbrev pub step_taken : ℕ → ℕ → State → Taken
step_taken kind number s = record { kind = kind; number = number; at = s }

-- the step itself where it is taken, nothing where it is refused
unfoldable pub if_taken : Plan → ℕ → ℕ → State → List Taken
if_taken p kind number s = cond (eqb (step p kind number s).refusal 0) (step_taken kind number s ∷ []) []

-- the steps of a round, in the shape of `round`
unfoldable pub hand_turn_steps : Plan → ℕ → State → List Taken
hand_turn_steps p d s = loop_trace (many (in_air d) s.words) (λ j. hand p d) (λ j. if_taken p HAND d) s

unfoldable pub serve_turn_steps : Plan → ℕ → State → List Taken
serve_turn_steps p v s = loop_trace (many (in_queue p v) s.words) (λ j. serve p v) (λ j. if_taken p SERVE v) s

unfoldable pub round_steps : Plan → State → List Taken
round_steps p s =
    loop_trace (2 * links_of p) (hand_turn p) (hand_turn_steps p) s
    ++ cond (eqb (hand_phase p s).refusal 0) (loop_trace (modules_of p) (serve_turn p) (serve_turn_steps p) (hand_phase p s).state) []

-- the steps that a call takes in a field that 31 does not refuse
unfoldable pub steps_of : Plan → Call → State → List Taken
steps_of p (one kind number) s = if_taken p kind number s
steps_of p (run bytes) s =
    cond (eqb (schedule_refusal bytes) 0)
    (runs_trace never (steps_in bytes) (step_at p bytes) (λ i. if_taken p (kind_of bytes i) (number_of bytes i)) s)
    []
steps_of p (rounds limit) s = runs_trace at_rest limit (λ i. round p) (λ i. round_steps p) s

-- the steps that a list of calls takes, in order
unfoldable pub trail : List Call → Held → List Taken
trail [] h = []
trail (c ∷ cs) h = cond (valid h) (steps_of h.field.plan c (state_of h)) [] ++ trail cs (does c h).state

-- the word that a service takes
abbrev pub served_word : Plan → ℕ → State → ℕ
served_word p v s = get_or s.words (place (in_queue p v) s.words) 0

-- a message: the directed link that it goes by, its header byte and its carried number
pub record Message : Type 0 where
  pub link : ℕ
  pub header : ℕ
  pub carried : ℕ

-- what module v sends; what a word carries, handed over or not
abbrev pub sent_by : Plan → ℕ → Send → Message
sent_by p v x = record { link = end_of p v x.edge; header = header_of x.msg; carried = carried_of x.msg }

abbrev pub carried_by : ℕ → Message
carried_by w = record { link = link_in w; header = header_in w; carried = carried_in w }

abbrev pub same_message : Message → Message → Bool
same_message m n = eqb m.link n.link && eqb m.header n.header && eqb m.carried n.carried

-- how often m is among them
abbrev pub times_in : Message → List Message → ℕ
times_in m l = sum_l (λ n. bit (same_message m n)) l

-- the sends of the response to a step
unfoldable pub sends_at : Plan → Taken → List Send
sends_at p t =
    cond (eqb t.kind WAKE) (wake_work p t.number t.at).sends
    (cond (eqb t.kind SERVE) (serve_work p t.number (served_word p t.number t.at) t.at).sends [])

-- the words of these, not handed over yet
abbrev pub posted_at : Plan → Taken → List ℕ
posted_at p t = posted p t.number (sends_at p t)

-- "Messages sent are the sends of the responses to the steps taken, in runs too; a put-back is no send."
abbrev pub sent_in : Plan → List Taken → List Message
sent_in p l = flat_map (λ t. map (sent_by p t.number) (sends_at p t)) l

abbrev pub messages_sent : Plan → List Taken → ℕ
messages_sent p l = length (sent_in p l)

-- the word that a step consumes: the one taken by "a service that does not put it back", else none
unfoldable pub consumed_at : Plan → Taken → List ℕ
consumed_at p t =
    let x = served_word p t.number t.at in
    cond (eqb t.kind SERVE && not (eqb (serve_work p t.number x t.at).answer BACK)) (x ∷ []) []

-- the messages consumed
abbrev pub consumed_in : Plan → List Taken → List Message
consumed_in p l = map carried_by (flat_map (consumed_at p) l)

-- "A module is woken by a wake step that is taken, or by serving a Connect or Test asleep." kind: the message's, 1 Connect, 3 Test
unfoldable pub wakes_one : Plan → Taken → Bool
wakes_one p t =
    let kind = kind_at (header_in (served_word p t.number t.at)) in
    eqb t.kind WAKE || (eqb t.kind SERVE && eqb (node_at t.at t.number).status ASLEEP && (eqb kind 1 || eqb kind 3))

-- module v of the plan is awake
pub record Awake (p : Plan) (s : State) (v : ℕ) : Type 0 where
  pub within : v < modules_of p
  pub awake : (node_at s v).status ≢ ASLEEP

-- the modules woken, in order
unfoldable pub woken_in : Plan → List Taken → List ℕ
woken_in p [] = []
woken_in p (t ∷ l) = cond (wakes_one p t) (t.number ∷ woken_in p l) (woken_in p l)
