-- `writer::send::put_heartbeat` meets its contract: no field, no body.
use mathlib.Core.Path.{refl}
use Rattle.writer.specs.Send.{map_with, heartbeat}
use Rattle.writer.proofs.SendLaws.{sends}
use Rattle.writer.proofs.send.put_heartbeat.Goals as goal

pub returns : goal.returns
unfolding map_with
returns c =
    let a = c.args in
    sends (heartbeat a.number) a.comp.now a.d.now _ _ _ c.header_of.ensures refl refl _ _ c.write.ensures
