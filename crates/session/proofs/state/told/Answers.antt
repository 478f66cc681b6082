-- `session::state::told` meets its contract: message by message.
use mathlib.Core.Path.{sym, ap, ◌∙◌}
use Rattle.session.specs.State.{told}
use Rattle.session.proofs.state.told.Goals as goal

pub returns-in-Nothing : goal.returns-in-Nothing
unfolding told
returns-in-Nothing c = c.tells.ensures ∙ ap told (sym c.in-Nothing.is)

pub returns-in-Heartbeat : goal.returns-in-Heartbeat
unfolding told
returns-in-Heartbeat c = c.tells-in-Heartbeat.ensures ∙ ap told (sym c.in-Heartbeat.is)

pub returns-in-Logout : goal.returns-in-Logout
unfolding told
returns-in-Logout c = c.tells-in-Logout.ensures ∙ ap told (sym c.in-Logout.is)

pub returns-in-GapFill : goal.returns-in-GapFill
unfolding told
returns-in-GapFill c = c.tells-in-GapFill.ensures ∙ ap told (sym c.in-GapFill.is)

pub returns-in-ResendRequest : goal.returns-in-ResendRequest
unfolding told
returns-in-ResendRequest c = c.tells-in-ResendRequest.ensures ∙ ap told (sym c.in-ResendRequest.is)
