-- `calls::put_sends` meets its contract: the second message is laid behind the first.
use native.Mathlib.Omega.{arith}
use Rattle.calls.proofs.SlotLaws.{two-sizes, first-room, second-room, both-laid}
use Rattle.calls.proofs.put_sends.Goals as goal

pub put_send-laid-requires : goal.put_send-laid-requires
put_send-laid-requires c =
    first-room c.args.answer c.args.d.now c.requires

pub offset_bounds-d-laid : goal.offset_bounds-d-laid
offset_bounds-d-laid c =
    omega (arith, c.put_send-laid.ensures.0, first-room c.args.answer c.args.d.now c.requires)

pub slice_bounds-put_send-count : goal.slice_bounds-put_send-count
slice_bounds-put_send-count c =
    omega (arith, c.put_send-laid.ensures.0, first-room c.args.answer c.args.d.now c.requires, c.put_send-laid.auto.d)

pub slice_bounds-put_send-start : goal.slice_bounds-put_send-start
slice_bounds-put_send-start c =
    omega (arith, c.put_send-laid.ensures.0, first-room c.args.answer c.args.d.now c.requires, c.put_send-laid.auto.d)

pub put_send-requires : goal.put_send-requires
put_send-requires c =
    second-room c.args.answer c.args.d.now c.requires c.put_send-laid.new.d _ c.put_send-laid.ensures.0 c.put_send-laid.auto.d

pub overflow_add-result : goal.overflow_add-result
overflow_add-result c =
    omega (arith, c.put_send-laid.ensures.0, c.put_send.ensures.0, two-sizes c.args.answer, c.requires)

pub returns : goal.returns
returns c =
    let e = c.put_send-laid.ensures in
    let f = c.put_send.ensures in
    both-laid c.args.answer c.args.d.now c.requires _ _ e.0 _ _ e.1 f.0 f.1
