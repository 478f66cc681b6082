-- `wire::laying::put_bytes` meets its contract: what is laid is t.
use Rattle.std.proofs.Common.{length, refl, arith}
use Rattle.wire.proofs.LayingLaws.{laid-no, laid-yes}
use Rattle.wire.proofs.laying.put_bytes.Goals as goal

pub returns-then-d-n : goal.returns-then-d-n
returns-then-d-n c =
    let a = c.args in
    laid-no a.t.now a.d.now (length a.t.now) refl (omega arith)

pub returns : goal.returns
returns c =
    let a = c.args in
    laid-yes a.t.now a.d.now (length a.t.now) refl (omega arith) _ c.lay.ensures
