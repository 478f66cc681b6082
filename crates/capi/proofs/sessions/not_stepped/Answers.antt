-- `capi::sessions::not_stepped` meets its contract.
use Rattle.session.specs.State.{first_of, last_of, sort_number}
use Rattle.capi.specs.Sessions.{shown_row}
use Rattle.capi.proofs.sessions.not_stepped.Goals as goal

pub returns : goal.returns
unfolding shown_row sort_number first_of last_of
returns c = λ e. simp (c.from.ensures, c.to_send-2.ensures, c.to_send.ensures, e)
