-- `session::state::Session::due_length` meets its contract: the state, the header and the Comp ID tell.
use mathlib.Core.Path.{sym, ◌∙◌}
use mathlib.Core.Logic.{inl, inr}
use Rattle.session.proofs.CaseLaws.{is-live, not-true, not-false, not-live}
use Rattle.session.specs.Turn.{due_in, due_length}
use Rattle.session.proofs.state.Session.due_length.Goals as goal

pub returns-then-ne : goal.returns-then-ne
unfolding due_length
returns-then-ne c =
    elim (not-live c.args.self.state (not-true _ (sym c.ne.ensures ∙ c.if-ne.true))) [
      | inl e ↦ simp (e)
      | inr e ↦ simp (e)
    ]

pub returns-then-is_due_header-is_ours : goal.returns-then-is_due_header-is_ours
unfolding due_length due_in
returns-then-is_due_header-is_ours c =
    let up = is-live c.args.self.state (not-false _ (sym c.ne.ensures ∙ c.if-ne.false)) in
    simp (up, c.in-Ok.is, sym c.is_due_header.ensures, sym c.is_ours.ensures, c.if-is_due_header-is_ours.true)

pub returns-else-is_due_header-is_ours : goal.returns-else-is_due_header-is_ours
unfolding due_length due_in
returns-else-is_due_header-is_ours c =
    let up = is-live c.args.self.state (not-false _ (sym c.ne.ensures ∙ c.if-ne.false)) in
    simp (up, c.in-Ok.is, sym c.is_due_header.ensures, sym c.is_ours.ensures, c.if-is_due_header-is_ours.false)

pub returns-in-Err : goal.returns-in-Err
unfolding due_length due_in
returns-in-Err c =
    let up = is-live c.args.self.state (not-false _ (sym c.ne.ensures ∙ c.if-ne.false)) in
    simp (up, c.in-Err.is)
