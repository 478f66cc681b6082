use mathlib.Core.Path.{sym, ◌∙◌}
use Prim.Native.Nat.{◌+◌}
use native.Mathlib.Omega.{arith}
use Rattle.fields.proofs.PositionLaws.{next-of}
use Rattle.fields.proofs.SetsLaws.{none-below-zero, unknown-enter, unknown-pass, unknown-hit, unknown-leave, unknown-end}
use Rattle.fields.proofs.sets.search_unknown.Goals as goal

pub loop-i-init : goal.loop-i-init
loop-i-init c = none-below-zero _

pub bounds-map-i : goal.bounds-map-i
bounds-map-i c = omega (arith, c.loop-i-test.true, c.min-i-end.ensures)

pub loop-j-init : goal.loop-j-init
loop-j-init c =
    let x = c.next_bit-j.ensures in
    let y = next-of _ 0 _ x in
    (y.within, y.set, unknown-enter _ _ c.loop-i.i _ x c.loop-i.invariant)

pub returns-then-is_unknown : goal.returns-then-is_unknown
returns-then-is_unknown c =
    let h = c.loop-j-test.true in
    unknown-hit _ _ _ c.loop-j.j (omega arith) h (c.loop-j.invariant.1 h) (sym c.is_unknown.ensures ∙ c.if-is_unknown.true) c.loop-j.invariant.2

pub loop-j-smaller : goal.loop-j-smaller
loop-j-smaller c =
    omega (arith, (next-of _ (c.loop-j.j + 1) _ c.next_bit-j-in-loop-j.ensures).from (omega arith))

pub loop-j-preserved : goal.loop-j-preserved
loop-j-preserved c =
    let x = c.next_bit-j-in-loop-j.ensures in
    let y = next-of _ _ _ x in (
      y.within,
      y.set,
      unknown-pass _ _ _ c.loop-j.j _ x (sym c.is_unknown.ensures ∙ c.if-is_unknown.false) c.loop-j.invariant.2,
    )

pub loop-i-preserved : goal.loop-i-preserved
loop-i-preserved c =
    unknown-leave _ _ _ c.loop-j.j (omega (arith, c.loop-j.invariant.0)) c.loop-j.invariant.2

pub returns : goal.returns
returns c =
    unknown-end _ _ c.loop-i.i (λ u. omega (arith, c.loop-i-test.false, c.min-i-end.ensures)) c.loop-i.invariant
