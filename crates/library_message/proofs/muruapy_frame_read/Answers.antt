-- library_message::muruapy_frame_read: by `frame-read-into` where the bytes were taken, else by `frame-alters-nothing`.
use Rattle.std.proofs.Common.{arith}
use Rattle.refusal.proofs.laws.Number.{positive}
use Rattle.library_message.proofs.laws.Lent.{frame-read-into, frame-alters-nothing}
use Rattle.library_message.proofs.muruapy_frame_read.Goals as goal

pub returns-in-Ok : goal.returns-in-Ok
returns-in-Ok c = grind (arith, frame-read-into)

pub returns-in-Err : goal.returns-in-Err
returns-in-Err c = grind (arith, frame-alters-nothing, positive)
