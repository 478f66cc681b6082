-- `calls::put_row` meets its contract: no row takes no number, every other its slot.
use native.Mathlib.Omega.{arith}
use Rattle.std.proofs.lemmas.List.{length-take}
use Rattle.calls.proofs.SlotLaws.{no_row, row-size, row_laid, laid_none}
use Rattle.calls.proofs.put_row.Goals as goal

pub returns-in-Nothing : goal.returns-in-Nothing
returns-in-Nothing c = laid_none _ c.args.d.now (no_row _ _ _ c.in-Nothing.is)

pub slice_bounds-copy_from_slice-end : goal.slice_bounds-copy_from_slice-end
slice_bounds-copy_from_slice-end c = omega (arith, c.requires.0, row-size c.args.at c.args.size c.args.row c.in_default.not-Nothing)

pub slice_bounds-copy_from_slice-end-2 : goal.slice_bounds-copy_from_slice-end-2
slice_bounds-copy_from_slice-end-2 c =
    omega (arith, length-take 5 c.args.d.now, c.requires.0, row-size c.args.at c.args.size c.args.row c.in_default.not-Nothing)

pub copy_from_slice-requires : goal.copy_from_slice-requires
copy_from_slice-requires c =
    omega (arith, length-take 5 c.args.d.now, c.requires.0, row-size c.args.at c.args.size c.args.row c.in_default.not-Nothing)

pub returns : goal.returns
returns c =
    row_laid _ _ _ _ _ _ c.args.d.now _ c.in_default.not-Nothing c.requires.0 c.sort_number.ensures c.first_of.ensures c.last_of.ensures c.copy_from_slice.ensures.after
