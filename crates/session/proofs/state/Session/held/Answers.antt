-- `session::state::Session::held` meets its contract: checked, and then made.
use mathlib.Core.Path.{sym, ◌∙◌}
use Rattle.session.specs.Held.{held}
use Rattle.session.proofs.state.Session.held.Goals as goal

pub returns-then-not-is_held : goal.returns-then-not-is_held
unfolding held
returns-then-not-is_held c = simp (c.not_made.ensures, sym c.is_held.ensures ∙ c.if-not-is_held.true)

pub returns : goal.returns
unfolding held
returns c = simp (c.state_at.ensures, sym c.is_held.ensures ∙ c.if-not-is_held.false)
