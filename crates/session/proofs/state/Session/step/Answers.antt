-- `session::state::Session::step` meets its contract: the state decides.
use mathlib.Core.Path.{sym, ◌∙◌}
use Rattle.session.specs.Day.{step, step_by, step_in}
use Rattle.session.proofs.CaseLaws.{is-down}
use Rattle.session.proofs.state.Session.step.Goals as goal

pub returns-then-eq : goal.returns-then-eq
unfolding step step_by step_in
returns-then-eq c = simp (c.unmoved.ensures, is-down c.args.self.state (sym c.eq.ensures ∙ c.if-eq.true))

pub returns : goal.returns
unfolding step
returns c = simp (c.step_by.ensures, c.read.ensures)
