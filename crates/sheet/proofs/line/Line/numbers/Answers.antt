-- `sheet::line::Line::numbers` meets its contract.
use Rattle.sheet.specs.Line.{numbers_in, kind_number}
use Rattle.sheet.proofs.line.Line.numbers.Goals as goal

pub returns-in-Logon : goal.returns-in-Logon
unfolding numbers_in kind_number
returns-in-Logon c = simp c.in-Logon.is

pub returns-in-Business : goal.returns-in-Business
unfolding numbers_in kind_number
returns-in-Business c = simp c.in-Business.is

pub returns-in-GapFill : goal.returns-in-GapFill
unfolding numbers_in kind_number
returns-in-GapFill c = simp c.in-GapFill.is

pub returns-in-Reset : goal.returns-in-Reset
unfolding numbers_in kind_number
returns-in-Reset c = simp c.in-Reset.is
