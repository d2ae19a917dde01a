-- What a response that is worked out by value says, as a response of the rules.
use Rattle.std.specs.Prelude.{ℕ, ◌≡◌, Bool, false, cond, List, [], ◌∷◌, ◌++◌, Option, Some, None, IfSome}
use Rattle.format_message.specs.Msg.{Msg}
use Rattle.format_message.specs.declared.NodeMessage.{NodeMessage}
use Rattle.format_message.specs.NodeMessage.{as_msg}
use Rattle.node.specs.declared.Node.{Node}
use Rattle.node.specs.Work.{Send, Work, send, TAKEN, BACK, REFUSED}
use Rattle.node_edges.specs.Own.{marked}
use Rattle.node_response.specs.declared.NodeAnswer.{NodeAnswer}
use Rattle.node_response.specs.declared.NodeAnswer.TheVariants.{Taken, Back, Refused}
use Rattle.node_response.specs.declared.Packet.{Packet}
use Rattle.node_response.specs.declared.Response.{Response}

-- the number of what it answers
abbrev pub answer_of : NodeAnswer → ℕ
answer_of Taken = TAKEN
answer_of Back = BACK
answer_of Refused = REFUSED

-- the message that a packet says
abbrev pub packet_msg : Packet → Msg
packet_msg x = as_msg x.message

-- the packet that says a message
abbrev pub packet_for : ℕ → NodeMessage → Packet
packet_for e m = record { edge = e; message = m }

-- what a packet sends, where there is one
abbrev pub packet_sends : Option Packet → List Send
packet_sends None = []
packet_sends (Some x) = record { edge = x.edge; msg = as_msg x.message } ∷ []

-- the copies that go out, of those that would
abbrev pub copies_of : Bool → List Send → List Send
copies_of c cs = cond c cs []

-- the response in the rules' terms, for marks m before the response, where cs are the copies of the served message
abbrev pub work_of : (ℕ → ℕ) → List Send → Response → Work
work_of m cs a =
    record {
      answer = answer_of a.answer;
      node = a.node;
      mark = marked m a.newmark;
      sends = copies_of a.copies cs ++ (packet_sends a.first ++ packet_sends a.second);
    }

-- both messages are written as their kind is
pub record Formed (a : Response) : Type 0 where
  pub first : IfSome a.first (λ x. packet_for x.edge x.message ≡ x)
  pub second : IfSome a.second (λ x. packet_for x.edge x.message ≡ x)

-- r is a after f, for marks m before the response and copies cs
pub record Does (m : ℕ → ℕ) (cs : List Send) (f : Work → Work) (a r : Response) : Type 0 where
  pub work : work_of m cs r ≡ f (work_of m cs a)

-- r is a after saying x
pub record Says (m : ℕ → ℕ) (cs : List Send) (x : Packet) (a r : Response) : Type 0 where
  pub does : (e : ℕ) (msg : NodeMessage) → x ≡ packet_for e msg → Does m cs (send e (as_msg msg)) a r
  pub room : a.first ≡ None → r.second ≡ None

-- nothing done yet
abbrev pub begun : Node → Response
begun n = record { answer = Taken; node = n; newmark = None; copies = false; first = None; second = None }
