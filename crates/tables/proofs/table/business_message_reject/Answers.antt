-- `tables::table::business_message_reject` meets its contract: each arm gives its line, and the last what no line names. Assumes nothing.
use mathlib.Core.Path.{refl}
use Rattle.tables.specs.Tables.{business_message_reject}
use Rattle.tables.proofs.Absent.{row-absent, not-among, positions}
use Rattle.tables.proofs.table.business_message_reject.Goals as goal

pub returns-in_default : goal.returns-in_default
unfolding business_message_reject
returns-in_default c =
    let p = c.args.position in
    row-absent p (positions business_message_reject) (not-among p (positions business_message_reject) Unit c.in_default.in_default-own.rest) business_message_reject refl
