-- `writer::send::put_logon` meets its contract: refused where the text writer does not take the password; else the map of two fields and the body of both.
use mathlib.Core.Path.{◌∙◌}
use Rattle.writer.specs.Send.{logon}
use Rattle.writer.proofs.SendLaws.{password-taken, sends, logon-refused, logon-sent}
use Rattle.writer.proofs.send.put_logon.Goals as goal

pub returns-then-not-takes_text : goal.returns-then-not-takes_text
returns-then-not-takes_text c =
    let a = c.args in
    let x =
    logon-refused a.number a.password.now a.next a.comp.now a.d.now
    (password-taken _ _ c.sort_of.ensures c.width.ensures a.password.now _ c.takes_text.ensures ∙ c.if-not-takes_text.true) c.position_of.result c.position_of.ensures
    in
    record { value = x.0; d_after = x.1 }

pub logon_body-body-requires : goal.logon_body-body-requires
logon_body-body-requires c =
    password-taken _ _ c.sort_of.ensures c.width.ensures _ _ c.takes_text.ensures ∙ c.if-not-takes_text.false

pub returns : goal.returns
returns c =
    let a = c.args in
    let x =
    logon-sent a.number a.password.now a.next a.comp.now a.d.now
    (password-taken _ _ c.sort_of.ensures c.width.ensures a.password.now _ c.takes_text.ensures ∙ c.if-not-takes_text.false) c.write.result c.write.new.d
    (sends (logon a.number a.password.now a.next) a.comp.now a.d.now _ _ _ c.header_of.ensures c.map_of-map.ensures c.logon_body-body.ensures _ _ c.write.ensures)
    in
    record { value = x.0; d_after = x.1 }
