-- `wire::number::put` meets its contract: it lays the bytes of the number, or finds no room for them.
use Rattle.std.proofs.Common.{arith}
use Rattle.wire.specs.Number.{number_bytes}
use Rattle.wire.proofs.LayingLaws.{laid-no, laid-yes}
use Rattle.wire.proofs.NumberLaws.{length-number_bytes}
use Rattle.wire.proofs.number.put.Goals as goal

pub returns-then-d-w : goal.returns-then-d-w
returns-then-d-w c =
    let a = c.args in
    laid-no (number_bytes a.w a.n) a.d.now a.w (length-number_bytes a.w a.n) (omega arith)

pub returns : goal.returns
returns c =
    let a = c.args in
    laid-yes (number_bytes a.w a.n) a.d.now a.w (length-number_bytes a.w a.n) (omega arith) _ c.lay_number.ensures
