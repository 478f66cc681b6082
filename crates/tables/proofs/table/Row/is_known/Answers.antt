-- `tables::table::Row::is_known` meets its contract: there is no other row. Assumes nothing.
use Rattle.std.proofs.Common.{arith}
use Rattle.tables.specs.Line.{is_known}
use Rattle.tables.proofs.table.Row.is_known.Goals as goal

pub returns-in_default : goal.returns-in_default
unfolding is_known
returns-in_default c = grind arith
