-- `calls::put_send` meets its contract: no message takes no number, every other its slot.
use native.Mathlib.Omega.{arith}
use Rattle.std.proofs.lemmas.List.{length-take}
use Rattle.calls.proofs.SlotLaws.{no-send, send-size, send-laid, laid_none}
use Rattle.calls.proofs.put_send.Goals as goal

pub returns-in-Nothing : goal.returns-in-Nothing
returns-in-Nothing c = laid_none _ c.args.d.now (no-send _ c.in-Nothing.is)

pub slice_bounds-copy_from_slice-end : goal.slice_bounds-copy_from_slice-end
slice_bounds-copy_from_slice-end c = omega (arith, c.requires, send-size c.args.send c.in_default.not-Nothing)

pub slice_bounds-copy_from_slice-end-2 : goal.slice_bounds-copy_from_slice-end-2
slice_bounds-copy_from_slice-end-2 c = omega (arith, length-take 4 c.args.d.now, c.requires, send-size c.args.send c.in_default.not-Nothing)

pub copy_from_slice-requires : goal.copy_from_slice-requires
copy_from_slice-requires c = omega (arith, length-take 4 c.args.d.now, c.requires, send-size c.args.send c.in_default.not-Nothing)

pub returns : goal.returns
returns c =
    send-laid _ _ c.args.d.now _ c.in_default.not-Nothing c.requires c.told-t.ensures c.copy_from_slice.ensures.after
