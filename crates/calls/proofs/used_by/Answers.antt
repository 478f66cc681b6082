-- `calls::used_by` meets its contract: a good message is as long as its Length says, and 1, 2 and 3 have none.
use mathlib.Core.Path.{sym, ◌∙◌}
use native.Mathlib.Omega.{arith}
use Rattle.session.proofs.FrontLaws.{front-good, front-refused, front-most}
use Rattle.session.proofs.StepLaws.{front-within}
use Rattle.calls.proofs.CodeLaws.{low_refusal}
use Rattle.calls.proofs.used_by.Goals as goal

pub returns-in-Ok : goal.returns-in-Ok
returns-in-Ok c =
    let s = c.args.s.now in
    let g = front-good s _ _ (sym c.requires ∙ c.in-Ok.is) in
    (sym g, omega (arith, g, front-within s), omega (arith, g, front-most s))

pub returns-in-Short : goal.returns-in-Short
returns-in-Short c =
    let s = c.args.s.now in
    let g = front-refused s _ (omega (arith, low_refusal c.in-Err.refusal c.in-Short.is)) (sym c.requires ∙ c.in-Err.is) in
    (sym g, omega arith, omega arith)

pub returns-in_default : goal.returns-in_default
returns-in_default c =
    let s = c.args.s.now in
    (c.front_length.ensures, omega (arith, c.front_length.ensures, front-within s), omega (arith, c.front_length.ensures, front-most s))
