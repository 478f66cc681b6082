-- `session::state::Session::connect` meets its contract: the state, then our number, then the password decide.
use mathlib.Core.Path.{sym, ◌∙◌}
use mathlib.Core.Logic.{inl, inr}
use borrow.Author.Tests.{eq-eqb, ne_eqb}
use Rattle.session.specs.Day.{connect, connect_in}
use Rattle.session.proofs.CaseLaws.{is-down, not-true, not-false, not-down}
use Rattle.session.proofs.state.Session.connect.Goals as goal

pub returns-then-ne : goal.returns-then-ne
unfolding connect connect_in
returns-then-ne c =
    elim (not-down c.args.self.state (not-true _ (sym c.ne.ensures ∙ c.if-ne.true))) [
      | inl e ↦ simp (c.not_connected.ensures, e)
      | inr e ↦ simp (c.not_connected.ensures, e)
    ]

pub returns-then-o : goal.returns-then-o
unfolding connect connect_in
returns-then-o c =
    let up = is-down c.args.self.state (not-false _ (sym c.ne.ensures ∙ c.if-ne.false)) in
    simp (c.not_connected-then-o.ensures, up, eq-eqb _ _ c.if-o.true)

pub returns-then-not-takes_text : goal.returns-then-not-takes_text
unfolding connect connect_in
returns-then-not-takes_text c =
    let up = is-down c.args.self.state (not-false _ (sym c.ne.ensures ∙ c.if-ne.false)) in
    let left = ne_eqb _ _ c.if-o.false in
    simp (
      c.not_connected-then-not-takes_text.ensures,
      up,
      left,
      ← c.sort_of.ensures,
      ← c.width.ensures,
      sym c.takes_text.ensures ∙ c.if-not-takes_text.true,
    )

pub returns : goal.returns
unfolding connect connect_in
returns c =
    let up = is-down c.args.self.state (not-false _ (sym c.ne.ensures ∙ c.if-ne.false)) in
    let number = ne_eqb _ _ c.if-o.false in
    simp (
      c.moved.ensures,
      up,
      number,
      ← c.sort_of.ensures,
      ← c.width.ensures,
      sym c.takes_text.ensures ∙ c.if-not-takes_text.false,
    )
