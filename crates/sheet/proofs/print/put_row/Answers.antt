-- `sheet::print::put_row` meets its contract: row by row.
use mathlib.Core.Path.{sym, ap, ◌∙◌}
use native.Mathlib.Omega.{arith}
use mathlib.Core.List.{◌++◌}
use Rattle.wire.specs.Spelled.{spelled}
use Rattle.session.specs.declared.state.Row.{Row}
use Rattle.sheet.specs.Print.{row_name}
use Rattle.sheet.proofs.print.put_row.Goals as goal

pub returns-in-Nothing : goal.returns-in-Nothing
unfolding spelled row_name
returns-in-Nothing c =
    let p = c.put in
    (omega (arith, p.ensures.0), p.ensures.1 ∙ ap (λ (x : Row). spelled "row=" ++ row_name x) (sym c.in-Nothing.is))

pub returns-in-Business : goal.returns-in-Business
unfolding spelled row_name
returns-in-Business c =
    let p = c.put-in-Business in
    (omega (arith, p.ensures.0), p.ensures.1 ∙ ap (λ (x : Row). spelled "row=" ++ row_name x) (sym c.in-Business.is))

pub returns-in-Session : goal.returns-in-Session
unfolding spelled row_name
returns-in-Session c =
    let p = c.put-in-Session in
    (omega (arith, p.ensures.0), p.ensures.1 ∙ ap (λ (x : Row). spelled "row=" ++ row_name x) (sym c.in-Session.is))

pub returns-in-Filled : goal.returns-in-Filled
unfolding spelled row_name
returns-in-Filled c =
    let p = c.put-in-Filled in
    (omega (arith, p.ensures.0), p.ensures.1 ∙ ap (λ (x : Row). spelled "row=" ++ row_name x) (sym c.in-Filled.is))

pub returns-in-Reset : goal.returns-in-Reset
unfolding spelled row_name
returns-in-Reset c =
    let p = c.put-in-Reset in
    (omega (arith, p.ensures.0), p.ensures.1 ∙ ap (λ (x : Row). spelled "row=" ++ row_name x) (sym c.in-Reset.is))
