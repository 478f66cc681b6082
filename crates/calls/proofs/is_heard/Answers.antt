-- `calls::is_heard` meets its contract: variant by variant.
use mathlib.Core.Path.{sym, ap, ◌∙◌}
use Rattle.std.specs.Prelude.{Some}
use Rattle.session.specs.State.{code_number}
use Rattle.calls.specs.Steps.{is_heard}
use Rattle.calls.proofs.CodeLaws.{not-heard, heard-refused, heard-halted}
use Rattle.calls.proofs.is_heard.Goals as goal

pub returns-in-None : goal.returns-in-None
unfolding is_heard code_number
returns-in-None c = sym (ap is_heard c.in-None.is)

pub returns-in-Short : goal.returns-in-Short
returns-in-Short c = sym (ap is_heard (c.in-Some.is ∙ ap Some c.in-Refused.is) ∙ not-heard c.in-Refused.refusal c.in-Short.is)

pub returns-in_default : goal.returns-in_default
returns-in_default c =
    let d = c.in_default in
    sym (ap is_heard (c.in-Some.is ∙ ap Some c.in-Refused.is) ∙ heard-refused c.in-Refused.refusal d.not-Short d.not-BadStart d.not-BadLength d.not-BadSum)

pub returns-in-Halted : goal.returns-in-Halted
returns-in-Halted c = sym (ap is_heard (c.in-Some.is ∙ ap Some c.in-Halted.is) ∙ heard-halted c.in-Halted.field-0)
