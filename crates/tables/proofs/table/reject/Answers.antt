-- `tables::table::reject` meets its contract: each arm gives its line, and the last what no line names. Assumes nothing.
use mathlib.Core.Path.{refl}
use Rattle.tables.specs.Tables.{reject}
use Rattle.tables.proofs.Absent.{row-absent, not-among, positions}
use Rattle.tables.proofs.table.reject.Goals as goal

pub returns-in_default : goal.returns-in_default
unfolding reject
returns-in_default c =
    let p = c.args.position in
    row-absent p (positions reject) (not-among p (positions reject) Unit c.in_default.in_default-own.rest) reject refl
