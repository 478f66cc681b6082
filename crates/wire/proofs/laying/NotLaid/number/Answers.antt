-- `wire::laying::NotLaid::number` meets its contract: an answer for each variant.
use Rattle.std.proofs.Common.{Err, sym, ap}
use Rattle.wire.specs.Laying.{refusal}
use Rattle.wire.specs.declared.laying.NotLaid.{NotLaid}
use Rattle.wire.proofs.laying.NotLaid.number.Goals as goal

pub returns-in-BadText : goal.returns-in-BadText
unfolding refusal
returns-in-BadText c = sym (ap (λ (x : NotLaid). refusal (Err x)) c.in-BadText.is)

pub returns-in-NoRoom : goal.returns-in-NoRoom
unfolding refusal
returns-in-NoRoom c = sym (ap (λ (x : NotLaid). refusal (Err x)) c.in-NoRoom.is)
