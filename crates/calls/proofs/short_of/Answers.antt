-- `calls::short_of` meets its contract: variant by variant.
use mathlib.Core.Path.{sym, ap, ◌∙◌}
use Rattle.std.specs.Prelude.{Some}
use Rattle.message.specs.declared.refusal.Refusal.{Refusal}
use Rattle.message.specs.Refusal.{number_of, besides_of}
use Rattle.session.specs.declared.state.Fault.TheVariants.{Refused}
use Rattle.session.specs.State.{code_number, code_besides}
use Rattle.calls.specs.Steps.{short_of}
use Rattle.calls.proofs.CodeLaws.{not-short, halted-short}
use Rattle.calls.proofs.short_of.Goals as goal

pub returns-in-None : goal.returns-in-None
unfolding short_of code_number
returns-in-None c = sym (ap short_of c.in-None.is)

pub returns-in-Short : goal.returns-in-Short
unfolding short_of code_number code_besides number_of besides_of
returns-in-Short c = sym (ap short_of (c.in-Some.is ∙ ap Some c.in-Refused.is ∙ ap (λ (r : Refusal). Some (Refused r)) c.in-Short.is))

pub returns-in_default : goal.returns-in_default
returns-in_default c = sym (ap short_of (c.in-Some.is ∙ ap Some c.in-Refused.is) ∙ not-short c.in-Refused.refusal c.in_default.not-Short)

pub returns-in-Halted : goal.returns-in-Halted
returns-in-Halted c = sym (ap short_of (c.in-Some.is ∙ ap Some c.in-Halted.is) ∙ halted-short c.in-Halted.field-0)
