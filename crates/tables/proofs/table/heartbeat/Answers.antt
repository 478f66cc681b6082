-- `tables::table::heartbeat` meets its contract: each arm gives its line, and the last what no line names. Assumes nothing.
use mathlib.Core.Path.{refl}
use Rattle.tables.specs.Tables.{heartbeat}
use Rattle.tables.proofs.Absent.{row-absent, not-among, positions}
use Rattle.tables.proofs.table.heartbeat.Goals as goal

pub returns-in_default : goal.returns-in_default
unfolding heartbeat
returns-in_default c =
    let p = c.args.position in
    row-absent p (positions heartbeat) (not-among p (positions heartbeat) Unit c.in_default.in_default-own.rest) heartbeat refl
