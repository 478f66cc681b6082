-- `wire::text::lay_variable` meets its contract: the length is laid at the front, the text behind it, and the null behind the text.
use Rattle.std.proofs.Common.{◌+◌, ◌-◌, length, ◌∙◌, arith, length-set}
use borrow.Rule.Slice.PartMut.{put_mid, same_len_mid}
use Rattle.wire.specs.Text.{variable_bytes}
use Rattle.wire.proofs.LayingLaws.{laid-no, laid-yes}
use Rattle.wire.proofs.TextLaws.{length-variable_bytes, lay-variable}
use Rattle.wire.proofs.text.lay_variable.Goals as goal

pub returns-then-d-end : goal.returns-then-d-end
returns-then-d-end c =
    let a = c.args in
    let t = a.t.now in
    laid-no (variable_bytes t) a.d.now (length t + 3) (length-variable_bytes t) (omega arith)

pub shape_of-d : goal.shape_of-d
shape_of-d c =
    let d = c.lay_number.new.d in
    let y = c.lay.new.d in
    let k = length d - 2 in
    length-set (put_mid 2 k d y) (length c.args.t.now + 2) 0
    ∙ same_len_mid 2 k d y c.lay.auto.d ∙ c.lay_number.auto.d

pub returns : goal.returns
returns c =
    let a = c.args in
    let t = a.t.now in
    let d = a.d.now in
    let n = length t in
    laid-yes (variable_bytes t) d (n + 3) (length-variable_bytes t) (omega arith) _
    (lay-variable d t c.lay_number.new.d c.lay.new.d (omega arith) c.lay_number.ensures c.lay.ensures)
