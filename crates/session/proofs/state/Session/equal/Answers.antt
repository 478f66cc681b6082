-- `session::state::Session::equal` meets its contract: rule 9, by the message's content.
use mathlib.Core.Path.{sym, ◌∙◌}
use Rattle.session.specs.Rules.{equal}
use Rattle.session.proofs.CaseLaws.{equal-other}
use Rattle.session.proofs.state.Session.equal.Goals as goal

pub returns-in-Business : goal.returns-in-Business
unfolding equal
returns-in-Business c = simp (c.take.ensures, c.in-Business.is)

pub returns-in-TestRequest : goal.returns-in-TestRequest
unfolding equal
returns-in-TestRequest c = simp (c.test_request.ensures, c.in-TestRequest.is)

pub returns-in-ResendRequest : goal.returns-in-ResendRequest
unfolding equal
returns-in-ResendRequest c = simp (c.resend_request.ensures, c.in-ResendRequest.is)

pub returns-in-GapFill : goal.returns-in-GapFill
unfolding equal
returns-in-GapFill c = simp (c.gap_fill.ensures, c.in-GapFill.is)

pub returns-in_default : goal.returns-in_default
returns-in_default c =
    let d = c.in_default in
    c.take-in_default.ensures ∙ sym (equal-other _ _ _ d.not-Business d.not-TestRequest d.not-ResendRequest d.not-GapFill)
