-- `line::line::line_of` meets its contract: the day's own refusals, then the interval.
use mathlib.Core.Path.{sym, ◌∙◌}
use borrow.Author.Tests.{eq-eqb, ne_eqb}
use Rattle.line.specs.Line.{line_of}
use Rattle.line.proofs.line.line_of.Goals as goal

pub returns-then-code_number-ne0 : goal.returns-then-code_number-ne0
unfolding line_of
returns-then-code_number-ne0 c = simp (c.not_a_line.ensures, ← c.code_number.ensures, ne_eqb _ 0 c.if-code_number-ne0.true)

pub returns-then-not-is_interval : goal.returns-then-not-is_interval
unfolding line_of
returns-then-not-is_interval c = simp (c.not_a_line-then-not-is_interval.ensures, ← c.code_number.ensures, eq-eqb _ 0 c.if-code_number-ne0.false, sym c.is_interval.ensures ∙ c.if-not-is_interval.true)

pub returns : goal.returns
unfolding line_of
returns c = simp (c.quiet.ensures, ← c.code_number.ensures, eq-eqb _ 0 c.if-code_number-ne0.false, sym c.is_interval.ensures ∙ c.if-not-is_interval.false)
