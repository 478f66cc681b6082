-- `tables::table::sequence_reset` meets its contract: each arm gives its line, and the last what no line names. Assumes nothing.
use mathlib.Core.Path.{refl}
use Rattle.tables.specs.Tables.{sequence_reset}
use Rattle.tables.proofs.Absent.{row-absent, not-among, positions}
use Rattle.tables.proofs.table.sequence_reset.Goals as goal

pub returns-in_default : goal.returns-in_default
unfolding sequence_reset
returns-in_default c =
    let p = c.args.position in
    row-absent p (positions sequence_reset) (not-among p (positions sequence_reset) Unit c.in_default.in_default-own.rest) sequence_reset refl
