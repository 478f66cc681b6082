-- `spelt::spell_amount` meets its contract: a minus below 0, and then what the Decimal counts.
use mathlib.Core.Path.{sym, ap, ap₂, ◌∙◌}
use Prim.Native.Nat.{ℕ}
use native.Mathlib.Omega.{arith}
use mathlib.Core.List.{List, ◌++◌}
use lib.IntN.{ℤ, pos, nat_abs}
use lib.ListN.{length-set}
use lib.Seq.{take-suc-set}
use lib.Signed.{lt_z}
use mir.Facts.{to_z-of_z}
use Rattle.spelt.specs.Spelt.{hundred_millionths}
use Rattle.spelt.proofs.AmountLaws.{amount-neg, amount-pos}
use Rattle.spelt.proofs.spell_amount.Goals as goal

pub shape_of-d-then-z-lt0 : goal.shape_of-d-then-z-lt0
shape_of-d-then-z-lt0 c =
    c.put_hundred_millionths.auto.d ∙ length-set c.args.d.now 0 45

pub returns-then-z-lt0 : goal.returns-then-z-lt0
returns-then-z-lt0 c =
    let p = c.put_hundred_millionths in
    let n = c.unsigned_abs-n in
    let z = to_z-of_z c.ranges.z in (
      omega (arith, p.ensures.0),
      p.ensures.1
          ∙ ap₂ (λ (x y : List ℕ). x ++ y) (take-suc-set c.args.d.now 0 45 (omega arith)) (ap hundred_millionths (n.ensures.value ∙ ap nat_abs z))
          ∙ sym (amount-neg c.args.z (ap (λ (x : ℤ). lt_z x (pos 0)) (sym z) ∙ c.if-z-lt0.true)),
    )

pub returns : goal.returns
returns c =
    let p = c.put_hundred_millionths-2 in
    let n = c.unsigned_abs-n in
    let z = to_z-of_z c.ranges.z in (
      omega (arith, p.ensures.0),
      p.ensures.1
          ∙ ap hundred_millionths (n.ensures.value ∙ ap nat_abs z)
          ∙ sym (amount-pos c.args.z (ap (λ (x : ℤ). lt_z x (pos 0)) (sym z) ∙ c.if-z-lt0.false)),
    )
