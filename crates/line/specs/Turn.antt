-- Business in its turn, on a line. No call's promise to C cites it: that a step takes it is a law, by which a step may answer it early.
use Rattle.std.specs.Prelude.{ℕ, true, false, cond, List, eqb, Result, None}
use Rattle.message.specs.declared.refusal.Refusal.{Refusal}
use Rattle.message.specs.declared.read.Reading.{Reading}
use Rattle.session.specs.declared.arrival.Due.{Due}
use Rattle.session.specs.declared.state.Row.TheVariants.{Business}
use Rattle.session.specs.declared.state.Send.TheVariants.{Nothing}
use Rattle.session.specs.Turn.{take_due}
use Rattle.line.specs.declared.line.Line.{Line}
use Rattle.line.specs.declared.line.LineDue.{LineDue}
use Rattle.line.specs.declared.line.LineStepped.{LineStepped}
use Rattle.line.specs.Line.{moved_line}

-- of what was read, r: the line that has taken it, and its length; for any other message the line as it was, and 0
unfoldable pub take_due_line : Line → ℕ → List ℕ → Result Reading Refusal → LineDue
take_due_line l t bytes r = let d : Due = take_due l.session bytes r in record {
  line = cond (eqb d.length 0) l (moved_line l t d.session true false);
  length = d.length;
}

-- and what the step answers then: the line, which has taken number e
abbrev pub due_stepped : Line → ℕ → LineStepped
due_stepped l e = record { line = l; answer = record { code = None; first = Nothing; second = Nothing; row = Business e } }
