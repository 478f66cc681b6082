-- `session::state::Session::ruled` meets its contract: the state, and then rule 1.
use mathlib.Core.Path.{sym, ◌∙◌}
use mathlib.Core.Logic.{inl, inr}
use Rattle.session.specs.Rules.{for_us, ruled, ruled_in}
use Rattle.session.proofs.CaseLaws.{is-down, is-waiting, not-true, not-false, not-down, only-live}
use Rattle.session.proofs.state.Session.ruled.Goals as goal

pub returns-then-eq : goal.returns-then-eq
unfolding ruled ruled_in
returns-then-eq c = simp (c.unmoved.ensures, is-down c.args.self.state (sym c.eq.ensures ∙ c.if-eq.true))

pub returns-then-not-message : goal.returns-then-not-message
unfolding ruled ruled_in for_us
returns-then-not-message c =
    elim (not-down c.args.self.state (sym c.eq.ensures ∙ c.if-eq.false)) [
      | inl e ↦ simp (c.stop.ensures, not-true _ c.if-not-message.true, e)
      | inr e ↦ simp (c.stop.ensures, not-true _ c.if-not-message.true, e)
    ]

pub returns-then-eq-2 : goal.returns-then-eq-2
unfolding ruled ruled_in for_us
returns-then-eq-2 c =
    simp (c.waiting.ensures, not-false _ c.if-not-message.false, is-waiting c.args.self.state (sym c.eq-2.ensures ∙ c.if-eq-2.true))

pub returns : goal.returns
unfolding ruled ruled_in for_us
returns c =
    simp (c.live.ensures, not-false _ c.if-not-message.false, only-live c.args.self.state (sym c.eq.ensures ∙ c.if-eq.false) (sym c.eq-2.ensures ∙ c.if-eq-2.false))
