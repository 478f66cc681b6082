-- `writer::send::put_resend_request` meets its contract: the map of two fields and the body of two numbers.
use Rattle.writer.specs.Send.{resend_request}
use Rattle.writer.proofs.SendLaws.{sends}
use Rattle.writer.proofs.send.put_resend_request.Goals as goal

pub returns : goal.returns
returns c =
    let a = c.args in
    sends (resend_request a.number a.start a.end) a.comp.now a.d.now _ _ _ c.header_of.ensures c.map_of-map.ensures c.range_body-body.ensures _ _ c.write.ensures
