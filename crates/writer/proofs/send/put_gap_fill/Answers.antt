-- `writer::send::put_gap_fill` meets its contract: the map of two fields and the body of a letter and a number.
use Rattle.writer.specs.Send.{gap_fill}
use Rattle.writer.proofs.SendLaws.{sends}
use Rattle.writer.proofs.send.put_gap_fill.Goals as goal

pub returns : goal.returns
returns c =
    let a = c.args in
    sends (gap_fill a.first a.new) a.comp.now a.d.now _ _ _ c.header_of.ensures c.map_of-map.ensures c.fill_body-body.ensures _ _ c.write.ensures
