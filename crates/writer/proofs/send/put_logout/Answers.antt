-- `writer::send::put_logout` meets its contract: no field, no body.
use mathlib.Core.Path.{refl}
use Rattle.writer.specs.Send.{map_with, logout}
use Rattle.writer.proofs.SendLaws.{sends}
use Rattle.writer.proofs.send.put_logout.Goals as goal

pub returns : goal.returns
unfolding map_with
returns c =
    let a = c.args in
    sends (logout a.number) a.comp.now a.d.now _ _ _ c.header_of.ensures refl refl _ _ c.write.ensures
