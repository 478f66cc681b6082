use mathlib.Core.Path.{◌≡◌, refl, sym, ap, ◌∙◌}
use Prim.Native.Nat.{ℕ, ◌≤◌}
use native.Mathlib.Omega.{arith}
use mathlib.Core.List.{◌++◌, append-nil}
use lib.ListN.{length, drop, length-set}
use Rattle.spelt.specs.Spelt.{digits, number_text}
use Rattle.spelt.proofs.DigitLaws.{digit-last, digit-more}
use Rattle.spelt.proofs.spell.Goals as goal

pub loop-i-init : goal.loop-i-init
loop-i-init c = (omega arith, refl, append-nil _)

pub overflow_sub-i : goal.overflow_sub-i
overflow_sub-i c = omega arith

pub bounds-text-i : goal.bounds-text-i
bounds-text-i c = omega arith

pub returns-then-v-lt10 : goal.returns-then-v-lt10
unfolding number_text
returns-then-v-lt10 c =
    let i = c.loop-i.i in
    let h : i ≤ length c.loop-i.text = omega arith in (
      digit-last c.loop-i.text i c.loop-i.v c.digit.result (omega arith) h c.digit.ensures c.if-v-lt10.true ∙ c.loop-i.invariant.2,
      omega arith,
      simp length-set (omega arith),
    )

pub loop-i-smaller : goal.loop-i-smaller
loop-i-smaller c = omega arith

pub loop-i-preserved : goal.loop-i-preserved
loop-i-preserved c =
    let i = c.loop-i.i in
    let h : i ≤ length c.loop-i.text = omega arith in (
      omega arith,
      simp length-set (omega arith),
      digit-more c.loop-i.text i c.loop-i.v c.digit.result (omega arith) h c.digit.ensures c.if-v-lt10.false ∙ c.loop-i.invariant.2,
    )

pub returns : goal.returns
unfolding number_text digits
returns c =
    let i = c.loop-i.i in
    let e : i ≡ 0 = omega arith in
    (sym (ap (λ (k : ℕ). digits k c.loop-i.v ++ drop i c.loop-i.text) e) ∙ c.loop-i.invariant.2, omega arith, c.loop-i.invariant.1)
