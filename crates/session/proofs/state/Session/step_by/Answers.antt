-- `session::state::Session::step_by` meets its contract: the state decides.
use mathlib.Core.Path.{sym, ◌∙◌}
use mathlib.Core.Logic.{inl, inr}
use Rattle.session.specs.Day.{step_by, step_in}
use Rattle.session.proofs.CaseLaws.{is-down, not-down}
use Rattle.session.proofs.state.Session.step_by.Goals as goal

pub returns-then-eq : goal.returns-then-eq
unfolding step_by step_in
returns-then-eq c = simp (c.unmoved.ensures, is-down c.args.self.state (sym c.eq.ensures ∙ c.if-eq.true))

pub returns : goal.returns
unfolding step_by step_in
returns c =
    elim (not-down c.args.self.state (sym c.eq.ensures ∙ c.if-eq.false)) [
      | inl e ↦ simp (c.arrived.ensures, c.arrival_by.ensures, e)
      | inr e ↦ simp (c.arrived.ensures, c.arrival_by.ensures, e)
    ]
