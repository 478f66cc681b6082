-- `writer::send::put_heartbeat_for` meets its contract: the map of one field and the body of an ID.
use Rattle.writer.specs.Send.{heartbeat_for}
use Rattle.writer.proofs.SendLaws.{sends}
use Rattle.writer.proofs.send.put_heartbeat_for.Goals as goal

pub returns : goal.returns
returns c =
    let a = c.args in
    sends (heartbeat_for a.number a.id) a.comp.now a.d.now _ _ _ c.header_of.ensures c.map_of-map.ensures c.id_body-body.ensures _ _ c.write.ensures
