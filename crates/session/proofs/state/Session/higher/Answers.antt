-- `session::state::Session::higher` meets its contract: rule 7, by the message's content.
use mathlib.Core.Path.{sym, ◌∙◌}
use Rattle.session.specs.Rules.{higher}
use Rattle.session.proofs.CaseLaws.{higher-other}
use Rattle.session.proofs.state.Session.higher.Goals as goal

pub returns-in-ResendRequest : goal.returns-in-ResendRequest
unfolding higher
returns-in-ResendRequest c = simp (c.resend_ahead.ensures, c.in-ResendRequest.is)

pub returns : goal.returns
returns c = c.ask.ensures ∙ sym (higher-other _ _ _ _ c.in_default.not-ResendRequest)
