-- `tables::table::Row::is_required` meets its contract: there is no other row. Assumes nothing.
use Rattle.std.proofs.Common.{arith}
use Rattle.tables.specs.Line.{is_required}
use Rattle.tables.proofs.table.Row.is_required.Goals as goal

pub returns-in_default : goal.returns-in_default
unfolding is_required
returns-in_default c = grind arith
