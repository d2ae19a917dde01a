-- How a step is decided: the served word as the rules get it, the response to it, and what comes of that.
use Rattle.std.specs.Prelude.{ℕ, ◌≡◌, List, length}
use Rattle.base.specs.Loop.{After}
use Rattle.format_message.specs.NodeMessage.{as_msg}
use Rattle.format_word.specs.Word.{link_in}
use Rattle.plan.specs.Links.{Plan}
use Rattle.node_response.specs.declared.Packet.{Packet}
use Rattle.node_response.specs.declared.Response.{Response}
use Rattle.field.specs.Edges.{link_of}
use Rattle.field.specs.State.{State, msg_in}
use Rattle.field.specs.Step.{without, carry_out, back_of, serve_work}
use Rattle.field_check.specs.Checked.{state_in}
use Rattle.field_verdict.specs.Verdict.{Verdict, work_by, Feasible, Decided}

-- packet k is what a served word is to the rules
pub record Received (x : ℕ) (k : Packet) : Type 0 where
  pub edge : k.edge ≡ link_of (link_in x)
  pub says : as_msg k.message ≡ msg_in x

-- in place of a served word where there is none: a Change-root by link 0
abbrev pub no_word : ℕ
no_word = 16776967

-- a is module v's response to word x, whatever words wait
pub record Responds (p : Plan) (v x : ℕ) (cells marks : List ℕ) (a : Response) : Type 0 where
  pub is : (words : List ℕ) (sent : ℕ) → let s = state_in cells marks words sent in work_by p v x a s ≡ serve_work p v x s

-- it is carried out in state s; i past the last word: none is served
abbrev pub carry_out_by : Plan → ℕ → ℕ → ℕ → Response → State → After State
carry_out_by p v i x a s = let w = work_by p v x a s in carry_out p v w s (without i s.words) (back_of w x)

-- d decides on it, whatever else is in the field
pub record Judged (p : Plan) (marks : List ℕ) (sent v i x : ℕ) (a : Response) (d : Verdict) : Type 0 where
  pub decides : (cells words : List ℕ) → Feasible v (length words) i x a
      → let s = state_in cells marks words sent in Decided (carry_out_by p v i x a s) (work_by p v x a s) p v s d
