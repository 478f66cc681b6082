-- `wire::map::is_present` meets its contract: the bit of its byte, or clear past the end.
use Rattle.std.proofs.Common.{sym, arith}
use Rattle.wire.specs.Map.{present}
use Rattle.wire.proofs.MapLaws.{present-past}
use Rattle.wire.proofs.map.is_present.Goals as goal

pub returns-then-map-i : goal.returns-then-map-i
returns-then-map-i c =
    let a = c.args in
    sym (present-past a.map.now a.p (omega arith))

pub returns : goal.returns
unfolding present
returns c = c.bit_at.ensures
