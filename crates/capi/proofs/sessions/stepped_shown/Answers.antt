-- `capi::sessions::stepped_shown` meets its contract.
use Rattle.capi.specs.Sessions.{shown_stepped}
use Rattle.capi.proofs.sessions.stepped_shown.Goals as goal

pub returns : goal.returns
unfolding shown_stepped
returns c = simp (c.code_besides.ensures, c.from-4.ensures, c.from-3.ensures, c.from-2.ensures, c.from.ensures, c.code_number.ensures)
