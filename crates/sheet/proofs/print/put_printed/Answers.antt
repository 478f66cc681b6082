-- `sheet::print::put_printed` meets its contract.
use mathlib.Core.Path.{ap, ◌∙◌}
use Prim.Native.Nat.{ℕ}
use Rattle.wire.specs.Laying.{laid, laid_answer}
use Rattle.sheet.specs.Print.{line_text, printed}
use Rattle.sheet.proofs.print.put_printed.Goals as goal

pub returns : goal.returns
unfolding printed
returns c =
    let a = c.args in
    let r = a.t.answer in
    let p = c.put_line.ensures in
    let e = c.expected.ensures in
    (p.0 ∙ ap (λ (k : ℕ). laid_answer (line_text r.row k r.first) a.d.now) e, p.1 ∙ ap (λ (k : ℕ). laid (line_text r.row k r.first) a.d.now) e)
