-- `writer::send::logon_body` meets its contract: the password at its width and the number fill the body.
use mathlib.Core.Path.{refl}
use native.Mathlib.Omega.{arith}
use Rattle.writer.proofs.SendLaws.{password-ends, logon-filled}
use Rattle.writer.proofs.send.logon_body.Goals as goal

pub slice_bounds-put_u32-count : goal.slice_bounds-put_u32-count
slice_bounds-put_u32-count c =
    omega (arith, password-ends _ _ c.sort_of.ensures c.width-width.ensures)

pub slice_bounds-body-start : goal.slice_bounds-body-start
slice_bounds-body-start c =
    omega (arith, password-ends _ _ c.sort_of.ensures c.width-width.ensures)

pub returns : goal.returns
returns c =
    logon-filled _ _ c.sort_of.ensures c.width-width.ensures c.args.password.now _ _ _ c.args.next c.requires refl c.put_fixed.ensures.1 c.put_u32.ensures.1
