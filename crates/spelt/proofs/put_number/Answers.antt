-- `spelt::put_number` meets its contract: the digits spelt, laid at once.
use mathlib.Core.Path.{ap, ◌∙◌}
use Prim.Native.Nat.{ℕ}
use mathlib.Core.List.{List}
use Rattle.wire.specs.Laying.{laid, laid_answer}
use Rattle.spelt.proofs.DigitLaws.{twenty-rest}
use Rattle.spelt.proofs.put_number.Goals as goal

pub returns : goal.returns
returns c =
    let a = c.args in
    let s = c.spell-s in
    let p = c.put_bytes in
    let e = twenty-rest s.result.text s.result.from s.ensures.2 ∙ s.ensures.0 in
    (p.ensures.0 ∙ ap (λ (x : List ℕ). laid_answer x a.d.now) e, p.ensures.1 ∙ ap (λ (x : List ℕ). laid x a.d.now) e)
