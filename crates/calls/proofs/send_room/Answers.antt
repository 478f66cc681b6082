-- `calls::send_room` meets its contract: a message to send takes none or four.
use mathlib.Core.Path.{sym, ap}
use native.Mathlib.Omega.{arith}
use lib.ListN.{length}
use Rattle.calls.proofs.SlotLaws.{no-send, send-size}
use Rattle.calls.proofs.send_room.Goals as goal

pub returns-in-Nothing : goal.returns-in-Nothing
returns-in-Nothing c = (sym (ap length (no-send _ c.in-Nothing.is)), omega arith)

pub returns-in_default : goal.returns-in_default
returns-in_default c = (sym (send-size _ c.in_default.not-Nothing), omega arith)
