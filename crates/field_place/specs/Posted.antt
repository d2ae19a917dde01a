-- What a response leaves in the lent words.
use Rattle.std.specs.Prelude.{ℕ, ◌+◌, ◌<◌, ◌≡◌, Bool, ◌&&◌, List, ◌++◌, length, take}
use Rattle.std.proofs.lemmas.List.Edits.{sets}
use Rattle.base.specs.Limits.{max_links}
use Rattle.format_message.specs.Listed.{Listed}
use Rattle.format_message.specs.NodeMessage.{as_msg}
use Rattle.format_word.specs.Word.{link_in}
use Rattle.plan.specs.Links.{Plan, links_of}
use Rattle.node.specs.Work.{Send, on_each, branches}
use Rattle.node_response.specs.declared.Packet.{Packet}
use Rattle.node_response.specs.declared.Response.{Response}
use Rattle.node_response.specs.Response.{packet_sends, copies_of}
use Rattle.field.specs.Edges.{is_own, own_of, marks_in, link_of}
use Rattle.field.specs.State.{msg_in, posted}
use Rattle.field.specs.Held.{layout}
use Rattle.field_words.specs.Laid.{Laid}

-- link k gets a copy of the message that v had as word x: "for all i ≠ j such that SE(i) = Branch"
abbrev pub copy_test : Plan → List ℕ → ℕ → ℕ → ℕ → Bool
copy_test p marks v x = branches (link_of (link_in x)) (marks_in p marks v)

abbrev pub copied_at : Plan → List ℕ → ℕ → ℕ → ℕ → Bool
copied_at p marks v x k = is_own p v k && copy_test p marks v x k

-- the copies for the links below k
abbrev pub copies_to : Plan → List ℕ → ℕ → ℕ → ℕ → List Send
copies_to p marks v x k = on_each (own_of p v) (copy_test p marks v x) (msg_in x) k

-- all sends of the response a to word x
abbrev pub sends_by : Plan → List ℕ → ℕ → ℕ → Response → List Send
sends_by p marks v x a = copies_of a.copies (copies_to p marks v x (links_of p)) ++ (packet_sends a.first ++ packet_sends a.second)

-- `words` written from place n on, r the place behind them; all else keeps
pub record Posted (before after : List ℕ) (n r : ℕ) (words : List ℕ) : Type 0 where
  pub is : after ≡ sets before n words
  pub many : r ≡ n + length words

-- "A send goes to the end": the same where zeros lay behind the n words that waited
pub record AtEnd (before after : List ℕ) (n r : ℕ) (words : List ℕ) : Type 0 where
  pub is : after ≡ layout (length before) (take n before ++ words)
  pub many : r ≡ n + length words

-- module v's sends at the end, r words then wait
pub record Put (p : Plan) (v : ℕ) (sends : List Send) (before : List ℕ) (n : ℕ) (after : List ℕ) (r : ℕ) : Type 0 where
  pub same : length after ≡ length before
  pub laid : Laid after r
  pub words : AtEnd before after n r (posted p v sends)

-- a listed message on a link
pub record PacketOk (x : Packet) : Type 0 where
  pub edge : x.edge < max_links
  pub listed : Listed (as_msg x.message)
