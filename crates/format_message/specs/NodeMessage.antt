-- The message that the code's message says.
use Rattle.base.specs.Cond.{bit}
use Rattle.format_message.specs.Msg.{Msg, connect, initiate, test, accept, reject, report, change}
use Rattle.format_message.specs.declared.NodeMessage.{NodeMessage}
use Rattle.format_message.specs.declared.NodeMessage.TheVariants.{Connect, Initiate, Test, Accept, Reject, Report, ChangeRoot}

abbrev pub as_msg : NodeMessage → Msg
as_msg (Connect l) = connect l
as_msg (Initiate l i f) = initiate l i (bit f)
as_msg (Test l i) = test l i
as_msg Accept = accept
as_msg Reject = reject
as_msg (Report w) = report w
as_msg ChangeRoot = change
