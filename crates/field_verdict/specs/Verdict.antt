-- What a step of a module comes to, decided before anything is written.
use Rattle.std.specs.Prelude.{ℕ, Result, Ok, Err, ◌+◌, ◌≤◌, ◌<◌, ◌≡◌, ◌≢◌, ◌⊎◌, length, IfSome}
use Rattle.base.specs.Limits.{max_modules}
use Rattle.base.specs.Loop.{After, answering}
use Rattle.format_message.proofs.laws.Means.{Means}
use Rattle.format_word.specs.Word.{header_in, carried_in, link_in}
use Rattle.plan.specs.Links.{Plan}
use Rattle.node.specs.Work.{Work, BACK, setup}
use Rattle.node_response.specs.declared.Response.{Response}
use Rattle.node_response.specs.Response.{answer_of, work_of, begun}
use Rattle.node_joining.specs.Copies.{copies_in}
use Rattle.field.specs.Edges.{own_of, link_of, ceiling_of}
use Rattle.field.specs.State.{State, mark_at, msg_in, placed}
use Rattle.field.specs.Step.{without, back_of}
use Rattle.field_place.specs.Posted.{PacketOk}
use Rattle.refusal.specs.declared.Refusal.{Refusal}
use Rattle.refusal.specs.Number.{numbered}
use Rattle.field_verdict.specs.declared.Verdict as D

-- what is decided on a step: the refusal's number, or 0 and what the step does
pub record Verdict : Type 0 where
  pub refusal : ℕ
  pub at : ℕ
  pub word : ℕ
  pub sends : ℕ
  pub response : Response

-- the same from the code's answer; what stands beside a refusal says nothing
abbrev pub verdict_of : Result D.Verdict Refusal → Verdict
verdict_of (Ok d) = record { refusal = 0; at = d.at; word = d.word; sends = d.sends; response = d.response }
verdict_of (Err r) = record { refusal = numbered r; at = 0; word = 0; sends = 0; response = begun setup }

-- the response to word x that a says
abbrev pub work_by : Plan → ℕ → ℕ → Response → State → Work
work_by p v x a s = work_of (mark_at p s v) (copies_in (own_of p v) (link_of (link_in x)) (msg_in x) (mark_at p s v)) a

-- the response that verdict d holds
abbrev pub work_in : Plan → ℕ → State → Verdict → Work
work_in p v s d = work_by p v d.word d.response s

-- response a of module v, to word x at place i of n, can be carried out unless 32 or 33 refuses it
pub record Feasible (v n i x : ℕ) (a : Response) : Type 0 where
  pub node : v < max_modules
  pub says : Means (header_in x) (carried_in x) (msg_in x)
  pub served : (i < n) ⊎ (answer_of a.answer ≢ BACK)
  pub first : IfSome a.first PacketOk
  pub second : IfSome a.second PacketOk

-- verdict d holds module v's response w, which can be carried out in state s
pub record Carries (w : Work) (p : Plan) (v : ℕ) (s : State) (d : Verdict) : Type 0 where
  pub work : work_in p v s d ≡ w
  pub count : d.sends ≡ length w.sends
  pub room : s.sent + d.sends ≤ ceiling_of p
  pub feasible : Feasible v (length s.words) d.at d.word d.response

-- what a step answers and leaves where d decides it: refused, or w placed
abbrev pub outcome : Work → Plan → ℕ → State → Verdict → After State
outcome w p v s d = answering d.refusal s (placed p v w s (without d.at s.words) (back_of w d.word))

-- a is that outcome, and w can be carried out where d is no refusal
pub record Decided (a : After State) (w : Work) (p : Plan) (v : ℕ) (s : State) (d : Verdict) : Type 0 where
  pub is : a ≡ outcome w p v s d
  pub can : d.refusal ≡ 0 → Carries w p v s d
