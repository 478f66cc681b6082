-- `spelt::put_digits` meets its contract: a number laid in the part behind the first bytes.
use native.Mathlib.Omega.{arith}
use Rattle.spelt.proofs.BehindLaws.{number_behind}
use Rattle.spelt.proofs.put_digits.Goals as goal

pub returns : goal.returns
returns c =
    let p = c.put_number-laid in
    let b = number_behind c.args.d.now c.args.at c.args.n c.requires p.result c.unwrap_or.result p.new.d p.ensures.0 c.unwrap_or.ensures p.ensures.1 in
    (omega arith, b.1)

pub overflow_add-result : goal.overflow_add-result
overflow_add-result c = omega (arith, (returns c).0)
