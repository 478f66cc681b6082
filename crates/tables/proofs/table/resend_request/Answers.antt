-- `tables::table::resend_request` meets its contract: each arm gives its line, and the last what no line names. Assumes nothing.
use mathlib.Core.Path.{refl}
use Rattle.tables.specs.Tables.{resend_request}
use Rattle.tables.proofs.Absent.{row-absent, not-among, positions}
use Rattle.tables.proofs.table.resend_request.Goals as goal

pub returns-in_default : goal.returns-in_default
unfolding resend_request
returns-in_default c =
    let p = c.args.position in
    row-absent p (positions resend_request) (not-among p (positions resend_request) Unit c.in_default.in_default-own.rest) resend_request refl
