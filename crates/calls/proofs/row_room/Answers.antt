-- `calls::row_room` meets its contract: a row takes none or five.
use mathlib.Core.Path.{sym, ap}
use native.Mathlib.Omega.{arith}
use lib.ListN.{length}
use Rattle.calls.proofs.SlotLaws.{no_row, row-size}
use Rattle.calls.proofs.row_room.Goals as goal

pub returns-in-Nothing : goal.returns-in-Nothing
returns-in-Nothing c = (λ at size. sym (ap length (no_row at size _ c.in-Nothing.is)), omega arith)

pub returns-in_default : goal.returns-in_default
returns-in_default c = (λ at size. sym (row-size at size _ c.in_default.not-Nothing), omega arith)
