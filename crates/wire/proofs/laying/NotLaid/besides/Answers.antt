-- `wire::laying::NotLaid::besides` meets its contract: an answer for each variant.
use Rattle.std.proofs.Common.{Err, sym, ap}
use Rattle.wire.specs.Laying.{besides}
use Rattle.wire.specs.declared.laying.NotLaid.{NotLaid}
use Rattle.wire.proofs.laying.NotLaid.besides.Goals as goal

pub returns-in-BadText : goal.returns-in-BadText
unfolding besides
returns-in-BadText c = sym (ap (λ (x : NotLaid). besides (Err x)) c.in-BadText.is)

pub returns-in-NoRoom : goal.returns-in-NoRoom
unfolding besides
returns-in-NoRoom c = sym (ap (λ (x : NotLaid). besides (Err x)) c.in-NoRoom.is)
