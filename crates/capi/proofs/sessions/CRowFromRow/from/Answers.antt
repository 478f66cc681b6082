-- `capi::sessions::CRowFromRow::from` meets its contract.
use Rattle.capi.specs.Sessions.{shown_row}
use Rattle.capi.proofs.sessions.CRowFromRow.from.Goals as goal

pub returns : goal.returns
unfolding shown_row
returns c = simp (c.last_of.ensures, c.first_of.ensures, c.sort_number.ensures)
