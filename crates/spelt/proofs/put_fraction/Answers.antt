use mathlib.Core.Path.{◌≡◌, refl, sym, ap, ◌∙◌}
use Prim.Native.Nat.{ℕ, ◌+◌, ◌-◌, ◌/◌, ◌%◌, ◌^◌, ◌<◌}
use native.Mathlib.Nat.{mod-lt}
use native.Mathlib.Omega.{arith}
use mathlib.Core.List.{List, ◌++◌, append-nil}
use lib.ListN.{set, take, length-set}
use Rattle.spelt.specs.Spelt.{fraction}
use Rattle.spelt.proofs.AmountLaws.{some_left, next_power, next-some, digit-behind, fraction-none}
use Rattle.spelt.proofs.put_fraction.Goals as goal

pub loop-v-init : goal.loop-v-init
loop-v-init c =
    let e : c.args.at + 8 - c.args.at ≡ 8 = omega arith in
    (omega arith, omega arith, refl, rw e, omega arith, rw e)

pub nonzero_div-v : goal.nonzero_div-v
nonzero_div-v c =
    let l = c.loop-v in
    next-some _ l.v l.p l.invariant.3 (omega arith) l.invariant.4

-- a digit is left
left : (at i v p : ℕ) → p ≡ 10 ^ (at + 8 - i) → 0 < v → v < p → i < at + 8
left at i v p e q h =
    let s = some_left _ v p e q h in
    omega arith

pub bounds-d-i : goal.bounds-d-i
bounds-d-i c = omega (arith, left _ _ _ _ c.loop-v.invariant.3 (omega arith) c.loop-v.invariant.4)

pub nonzero_rem-v : goal.nonzero_rem-v
nonzero_rem-v c =
    let l = c.loop-v in
    next-some _ l.v l.p l.invariant.3 (omega arith) l.invariant.4

pub overflow_add-i : goal.overflow_add-i
overflow_add-i c = omega (arith, left _ _ _ _ c.loop-v.invariant.3 (omega arith) c.loop-v.invariant.4)

pub loop-v-smaller : goal.loop-v-smaller
loop-v-smaller c = omega (arith, left _ _ _ _ c.loop-v.invariant.3 (omega arith) c.loop-v.invariant.4)

pub loop-v-preserved : goal.loop-v-preserved
loop-v-preserved c =
    let l = c.loop-v in
    let a = c.args in
    let g = left a.at l.i l.v l.p l.invariant.3 (omega arith) l.invariant.4 in
    let k = a.at + 8 - l.i in
    let m : a.at + 8 - (l.i + 1) ≡ k - 1 = omega arith in
    let q : 0 < l.v = omega arith in (
      omega arith,
      omega arith,
      simp length-set (omega arith),
      next_power k l.v l.p l.invariant.3 q l.invariant.4 ∙ ap (λ (j : ℕ). 10 ^ j) (sym m),
      mod-lt l.v (nonzero_rem-v c),
      ap (λ (j : ℕ). take (l.i + 1) (set l.d l.i c.digit.result) ++ fraction j (l.v % (l.p / 10))) m
          ∙ digit-behind k l.v l.p l.invariant.3 q l.invariant.4 l.d _ l.i c.digit.result (bounds-d-i c) c.digit.ensures l.invariant.5,
    )

pub returns : goal.returns
returns c =
    let l = c.loop-v in
    let k = c.args.at + 8 - l.i in
    let z : l.v ≡ 0 = omega arith in
    (omega arith, sym (ap (λ (x : List ℕ). take l.i l.d ++ x) (ap (fraction k) z ∙ fraction-none k) ∙ append-nil (take l.i l.d)) ∙ l.invariant.5)
