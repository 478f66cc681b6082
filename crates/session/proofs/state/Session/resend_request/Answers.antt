-- `session::state::Session::resend_request` meets its contract: rule 9, by whether the range is bad.
use mathlib.Core.Path.{sym, ◌∙◌}
use Rattle.session.specs.Rules.{resend_request}
use Rattle.session.proofs.state.Session.resend_request.Goals as goal

pub returns-then-is_bad_range : goal.returns-then-is_bad_range
unfolding resend_request
returns-then-is_bad_range c = simp (c.stop.ensures, sym c.is_bad_range.ensures ∙ c.if-is_bad_range.true)

pub returns : goal.returns
unfolding resend_request
returns c = simp (c.take.ensures, c.fill_end.ensures, sym c.is_bad_range.ensures ∙ c.if-is_bad_range.false)
