-- An Initiate's copies, where m are the node's marks.
use Rattle.std.specs.Prelude.{ℕ, List}
use Rattle.format_message.specs.Msg.{Msg}
use Rattle.node.specs.Work.{Own, Send, on_each, branches}

-- "for all i ≠ j such that SE(i) = Branch": the message on each, by rising edge number
abbrev pub copies_in : Own → ℕ → Msg → (ℕ → ℕ) → List Send
copies_in o j msg m = on_each o (branches j m) msg (o.edges)
