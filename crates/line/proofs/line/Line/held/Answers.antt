-- `line::line::Line::held` meets its contract: the session, and then the clock and the waits.
use Rattle.line.specs.Line.{held_line}
use Rattle.line.proofs.line.Line.held.Goals as goal

pub returns-then-not-code_number-is_held_line : goal.returns-then-not-code_number-is_held_line
unfolding held_line
returns-then-not-code_number-is_held_line c =
    simp (c.not_a_line.ensures, ← c.state.ensures, ← c.is_live-live.ensures, ← c.code_number.ensures, ← c.is_held_line.ensures, c.if-not-code_number-is_held_line.true)

pub returns : goal.returns
unfolding held_line
returns c =
    simp (← c.state.ensures, ← c.is_live-live.ensures, ← c.code_number.ensures, ← c.is_held_line.ensures, c.if-not-code_number-is_held_line.false)
