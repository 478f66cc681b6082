-- `sheet::line::new_from` meets its contract: a number, and the line made of it.
use mathlib.Core.Path.{sym, ◌∙◌}
use Rattle.sheet.specs.Line.{line_of}
use Rattle.sheet.proofs.LineLaws.{new-blind}
use Rattle.sheet.proofs.line.new_from.Goals as goal

pub returns-in_err-new : goal.returns-in_err-new
returns-in_err-new c =
    let a = c.args in
    c.from_residual.ensures ∙ sym (c.in_err-new.ensures (line_of a.kind a.n a.dup) (new-blind a.kind a.n a.dup))

pub returns : goal.returns
returns c =
    let a = c.args in
    c.line_of.ensures ∙ sym (c.in_ok-new.ensures (line_of a.kind a.n a.dup) (new-blind a.kind a.n a.dup))
