-- `session::state::Session::resend_ahead` meets its contract: rule 7, by whether the range is bad.
use mathlib.Core.Path.{sym, ◌∙◌}
use Rattle.session.specs.Rules.{resend_ahead}
use Rattle.session.proofs.state.Session.resend_ahead.Goals as goal

pub returns-then-is_bad_range : goal.returns-then-is_bad_range
unfolding resend_ahead
returns-then-is_bad_range c = simp (c.stop.ensures, sym c.is_bad_range.ensures ∙ c.if-is_bad_range.true)

pub returns : goal.returns
unfolding resend_ahead
returns c = simp (c.ask.ensures, c.fill_end.ensures, sym c.is_bad_range.ensures ∙ c.if-is_bad_range.false)
