use Prim.Native.Nat.{◌/◌}
use mathlib.Core.Path.{sym, ap, subst, ◌∙◌}
use native.Mathlib.Omega.{arith}
use lib.ListN.{length, length-drop}
use Rattle.std.specs.Prelude.{None}
use Rattle.wire.proofs.TestLaws.{rest_of}
use Rattle.calls.specs.declared.SoFar.{SoFar}
use Rattle.calls.specs.Steps.{reports}
use Rattle.calls.proofs.GoingLaws.{Gone, going_start, same_size, front-in, row-five, going-quick, turn-bounds, turn-same, going_next, going-last}
use Rattle.session.proofs.TurnLaws.{due-step}
use Rattle.calls.proofs.run.Goals as goal

pub slice_bounds-rest-count : goal.slice_bounds-rest-count
slice_bounds-rest-count c = c.loop-rest.invariant.within

pub slice_bounds-rest-start : goal.slice_bounds-rest-start
slice_bounds-rest-start c = c.loop-rest.invariant.within

pub overflow_sub-rows : goal.overflow_sub-rows
overflow_sub-rows c = let i = c.loop-rest.invariant in front-in i.row-front i.row_within

pub offset_bounds-rows-so_far : goal.offset_bounds-rows-so_far
offset_bounds-rows-so_far c = omega (arith, c.loop-rest.invariant.row_within)

pub slice_bounds-put_row-count : goal.slice_bounds-put_row-count
slice_bounds-put_row-count c = let i = c.loop-rest.invariant in front-in i.row-front i.row_within

pub slice_bounds-put_row-start : goal.slice_bounds-put_row-start
slice_bounds-put_row-start c = let i = c.loop-rest.invariant in front-in i.row-front i.row_within

pub put_row-laid-requires : goal.put_row-laid-requires
put_row-laid-requires c =
    let l = c.loop-rest in (
      omega (arith, row-five l.so_far.used c.take_due-due.result.length c.expected.result, c.if-rows-so_far-ge-A_ROW.true, ap length (rest_of l.rows l.so_far.rows), length-drop l.so_far.rows l.rows),
      c.if-so_far.true,
      (due-step _ _ _ _ c.read-reading.ensures c.take_due-due.ensures c.if-size-ne0.true).most,
    )

pub offset_bounds-rows-so_far-in-loop-rest : goal.offset_bounds-rows-so_far-in-loop-rest
offset_bounds-rows-so_far-in-loop-rest c = omega (arith, c.loop-rest.invariant.row_within)

pub slice_bounds-turn-count : goal.slice_bounds-turn-count
slice_bounds-turn-count c = let i = c.loop-rest.invariant in front-in i.row-front i.row_within

pub slice_bounds-turn-start : goal.slice_bounds-turn-start
slice_bounds-turn-start c = let i = c.loop-rest.invariant in front-in i.row-front i.row_within

pub offset_bounds-sends-so_far : goal.offset_bounds-sends-so_far
offset_bounds-sends-so_far c = omega (arith, c.loop-rest.invariant.send-within)

pub slice_bounds-turn-count-in-loop-rest : goal.slice_bounds-turn-count-in-loop-rest
slice_bounds-turn-count-in-loop-rest c = let i = c.loop-rest.invariant in front-in i.send-front i.send-within

pub slice_bounds-turn-start-in-loop-rest : goal.slice_bounds-turn-start-in-loop-rest
slice_bounds-turn-start-in-loop-rest c = let i = c.loop-rest.invariant in front-in i.send-front i.send-within

pub turn-turned-requires : goal.turn-turned-requires
turn-turned-requires c = (c.read-reading.ensures, c.loop-rest.invariant.up)

pub shape_of-rows-in-Some : goal.shape_of-rows-in-Some
shape_of-rows-in-Some c =
    (turn-same c.loop-rest.invariant _ (rest_of c.args.s.now c.loop-rest.so_far.used) c.turn-turned.result c.turn-turned.new.rows c.turn-turned.new.sends c.turn-turned.ensures.0 c.turn-turned.ensures.1 c.turn-turned.ensures.2).0

pub shape_of-sends-in-Some : goal.shape_of-sends-in-Some
shape_of-sends-in-Some c =
    (turn-same c.loop-rest.invariant _ (rest_of c.args.s.now c.loop-rest.so_far.used) c.turn-turned.result c.turn-turned.new.rows c.turn-turned.new.sends c.turn-turned.ensures.0 c.turn-turned.ensures.1 c.turn-turned.ensures.2).1

pub loop-rest-init : goal.loop-rest-init
loop-rest-init c =
    subst (Gone c.args.session c.args.s.now c.args.rows.now c.args.sends.now c.args.rows.now c.args.sends.now) (sym c.start-so_far.ensures)
    (going_start c.args.session c.args.s.now c.args.rows.now c.args.sends.now c.requires)

pub add-requires : goal.add-requires
add-requires c =
    let u = due-step _ _ _ _ c.read-reading.ensures c.take_due-due.ensures c.if-size-ne0.true in (
      omega (arith, u.within, ap length (rest_of c.args.s.now c.loop-rest.so_far.used), length-drop c.loop-rest.so_far.used c.args.s.now, c.loop-rest.invariant.within),
      omega (arith, c.put_row-laid.ensures.0, row-five c.loop-rest.so_far.used c.take_due-due.result.length c.expected.result, c.if-rows-so_far-ge-A_ROW.true, same_size c.loop-rest.invariant.row-front c.loop-rest.invariant.row_within),
      omega (arith, c.loop-rest.invariant.send-within),
    )

pub loop-rest-smaller-then-rows-so_far-ge-A_ROW : goal.loop-rest-smaller-then-rows-so_far-ge-A_ROW
loop-rest-smaller-then-rows-so_far-ge-A_ROW c =
    let u = due-step _ _ _ _ c.read-reading.ensures c.take_due-due.ensures c.if-size-ne0.true in
    let n = rest_of c.args.s.now c.loop-rest.so_far.used in
    omega (arith, ap (λ (z : SoFar). z.used) c.add.ensures, c.if-size-ne0.true, u.within, ap length n, length-drop c.loop-rest.so_far.used c.args.s.now, c.loop-rest.invariant.within)

pub loop-rest-preserved-then-rows-so_far-ge-A_ROW : goal.loop-rest-preserved-then-rows-so_far-ge-A_ROW
loop-rest-preserved-then-rows-so_far-ge-A_ROW c =
    let u = due-step _ _ _ _ c.read-reading.ensures c.take_due-due.ensures c.if-size-ne0.true in
    subst (Gone c.args.session c.args.s.now c.args.rows.now c.args.sends.now _ _) (sym c.add.ensures)
    (going-quick c.loop-rest.invariant _ (rest_of c.args.s.now c.loop-rest.so_far.used) u.step (c.if-so_far.true) (c.if-rows-so_far-ge-A_ROW.true) c.take_due-due.result.length u.size
    c.take_due-due.result.session c.expected.result c.put_row-laid.result c.put_row-laid.new.d u.session c.expected.ensures c.put_row-laid.ensures.0 c.put_row-laid.ensures.1)

pub add-requires-in-loop-rest : goal.add-requires-in-loop-rest
add-requires-in-loop-rest c =
    let b = turn-bounds c.loop-rest.invariant _ (rest_of c.args.s.now c.loop-rest.so_far.used) c.turn-turned.result c.turn-turned.new.rows c.turn-turned.new.sends c.turn-turned.ensures.0 c.turn-turned.ensures.1 c.turn-turned.ensures.2 in
    (omega (arith, b.0), omega (arith, b.1), omega (arith, b.2))

pub loop-rest-smaller : goal.loop-rest-smaller
loop-rest-smaller c =
    let b = turn-bounds c.loop-rest.invariant _ (rest_of c.args.s.now c.loop-rest.so_far.used) c.turn-turned.result c.turn-turned.new.rows c.turn-turned.new.sends c.turn-turned.ensures.0 c.turn-turned.ensures.1 c.turn-turned.ensures.2 in
    let g = going_next c.loop-rest.invariant _ (rest_of c.args.s.now c.loop-rest.so_far.used) c.turn-turned.result c.turn-turned.new.rows c.turn-turned.new.sends c.turn-turned.ensures.0 c.turn-turned.ensures.1 c.turn-turned.ensures.2 c.in_default.is in
    omega (arith, ap (λ (z : SoFar). z.used) c.add-in-loop-rest.ensures, b.0, g.0)

pub loop-rest-preserved : goal.loop-rest-preserved
loop-rest-preserved c =
    let g = going_next c.loop-rest.invariant _ (rest_of c.args.s.now c.loop-rest.so_far.used) c.turn-turned.result c.turn-turned.new.rows c.turn-turned.new.sends c.turn-turned.ensures.0 c.turn-turned.ensures.1 c.turn-turned.ensures.2 c.in_default.is in
    subst (Gone c.args.session c.args.s.now c.args.rows.now c.args.sends.now _ _) (sym c.add-in-loop-rest.ensures) g.1

pub returns-in-Some : goal.returns-in-Some
returns-in-Some c =
    let r = c.report.ensures ∙ ap (λ (z : SoFar). reports z.session None z.used (z.rows / 5) (z.sends / 4) z.heard c.in-Some.ended) c.add-in-loop-rest.ensures in
    let g = going-last c.loop-rest.invariant _ (rest_of c.args.s.now c.loop-rest.so_far.used) c.turn-turned.result c.turn-turned.new.rows c.turn-turned.new.sends c.turn-turned.ensures.0 c.turn-turned.ensures.1 c.turn-turned.ensures.2 _ c.in-Some.is c.report.result r in
    (g.0, g.1, g.2)
