-- `session::state::Session::own_number` meets its contract: the state, then our number decide.
use mathlib.Core.Path.{sym, ◌∙◌}
use mathlib.Core.Logic.{inl, inr}
use Rattle.session.proofs.CaseLaws.{is-live, not-true, not-false, not-live}
use borrow.Author.Tests.{eq-eqb, ne_eqb}
use Rattle.session.specs.Day.{own_number, own_number_in}
use Rattle.session.proofs.state.Session.own_number.Goals as goal

pub returns-then-ne : goal.returns-then-ne
unfolding own_number own_number_in
returns-then-ne c =
    elim (not-live c.args.self.state (not-true _ (sym c.ne.ensures ∙ c.if-ne.true))) [
      | inl e ↦ simp (c.not_owned.ensures, e)
      | inr e ↦ simp (c.not_owned.ensures, e)
    ]

pub returns-then-number : goal.returns-then-number
unfolding own_number own_number_in
returns-then-number c =
    let up = is-live c.args.self.state (not-false _ (sym c.ne.ensures ∙ c.if-ne.false)) in
    simp (c.not_owned-then-number.ensures, c.drop.ensures, up, eq-eqb _ _ c.if-number.true)

pub returns : goal.returns
unfolding own_number own_number_in
returns c =
    let up = is-live c.args.self.state (not-false _ (sym c.ne.ensures ∙ c.if-ne.false)) in
    simp (c.moved.ensures, up, ne_eqb _ _ c.if-number.false)
