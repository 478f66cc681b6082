use mathlib.Core.Path.{◌≡◌, sym, subst, ◌∙◌}
use Prim.Native.Nat.{ℕ, ◌+◌, ◌*◌}
use native.Mathlib.Omega.{arith}
use Rattle.tables.specs.Tables.{row_of}
use Rattle.fields.specs.Words.{ClearFrom}
use Rattle.fields.proofs.CheckLaws.{row_within}
use Rattle.fields.proofs.PositionLaws.{later-none, next-of}
use Rattle.fields.proofs.WalkLaws.{sum-within, walk-whole, walk-enter, walk-good, walk-bad, walk-leave, walk_end}
use Rattle.fields.proofs.walk.walk.Goals as goal

pub loop-i-init : goal.loop-i-init
loop-i-init c =
    (omega arith, walk-whole _ _ _)

pub bounds-map-i : goal.bounds-map-i
bounds-map-i c =
    omega (arith, c.loop-i-test.true, c.end_of-end.ensures.inside)

pub loop-j-init : goal.loop-j-init
loop-j-init c =
    let x = c.next_bit-j.ensures in
    let y = next-of _ 0 _ x in (
      y.within,
      y.set,
      c.loop-i.invariant.0,
      walk-enter (row_of _) _ 256 _ c.loop-i.i _ _ _ (omega (arith, c.loop-i-test.true, c.end_of-end.ensures.within)) x c.loop-i.invariant.1,
    )

pub slice_bounds-rest-count : goal.slice_bounds-rest-count
slice_bounds-rest-count c =
    (row_within _ _ _ _ (sym c.check_at.ensures ∙ c.in-Ok.is)).1

pub slice_bounds-rest-start : goal.slice_bounds-rest-start
slice_bounds-rest-start c =
    (row_within _ _ _ _ (sym c.check_at.ensures ∙ c.in-Ok.is)).1

pub overflow_add-sum : goal.overflow_add-sum
overflow_add-sum c =
    let g = row_within _ _ _ _ (sym c.check_at.ensures ∙ c.in-Ok.is) in
    omega (arith, g.0, g.1)

pub loop-j-smaller : goal.loop-j-smaller
loop-j-smaller c =
    omega (arith, (next-of _ (c.loop-j.j + 1) _ c.next_bit-j-in-loop-j.ensures).from (omega arith))

pub loop-j-preserved : goal.loop-j-preserved
loop-j-preserved c =
    let t = c.loop-j-test.true in
    let x = c.next_bit-j-in-loop-j.ensures in
    let y = next-of _ _ _ x in
    let e = sym c.check_at.ensures ∙ c.in-Ok.is in
    let g = row_within _ _ _ _ e in (
      y.within,
      y.set,
      sum-within c.loop-j.rest.now _ _ _ _ g.0 g.1 c.loop-j.invariant.2,
      walk-good (row_of _) _ 256 _ _ c.loop-j.j _ _ (omega (arith, c.loop-i-test.true, c.end_of-end.ensures.within)) t (c.loop-j.invariant.1 t) c.loop-j.invariant.3 _ _ _ x e,
    )

pub loop-i-preserved : goal.loop-i-preserved
loop-i-preserved c =
    let j : c.loop-j.j ≡ 8 = omega (arith, c.loop-j.invariant.0, c.loop-j-test.false) in (
      c.loop-j.invariant.2,
      walk-leave (row_of _) _ 256 _ _ _ _ _ j c.loop-j.invariant.3,
    )

pub returns-after-loop-i : goal.returns-after-loop-i
returns-after-loop-i c =
    let m = c.args.map.now in
    let i = c.loop-i.i in
    let e : i ≡ c.end_of-end.result = omega (arith, c.loop-i-test.false) in
    walk_end (row_of _) _ 256 _ (i * 8) _ _
    (later-none m (i * 8) (omega (arith, c.end_of-end.ensures.within)) (subst (λ (n : ℕ). ClearFrom (n * 8) m) (sym e) c.end_of-end.ensures.rest)) c.loop-i.invariant.1

pub returns-in-Err : goal.returns-in-Err
returns-in-Err c =
    let t = c.loop-j-test.true in
    walk-bad (row_of _) _ 256 _ _ c.loop-j.j _ _ (omega (arith, c.loop-i-test.true, c.end_of-end.ensures.within)) t (c.loop-j.invariant.1 t) c.loop-j.invariant.3
    _ (sym c.check_at.ensures ∙ c.in-Err.is)
