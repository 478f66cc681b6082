-- `session::state::Halt::number` meets its contract.
use Rattle.session.specs.State.{halt_number}
use Rattle.session.proofs.state.Halt.number.Goals as goal

pub returns-in-Down : goal.returns-in-Down
unfolding halt_number
returns-in-Down c = simp c.in-Down.is

pub returns-in-NotDown : goal.returns-in-NotDown
unfolding halt_number
returns-in-NotDown c = simp c.in-NotDown.is

pub returns-in-NoNumber : goal.returns-in-NoNumber
unfolding halt_number
returns-in-NoNumber c = simp c.in-NoNumber.is

pub returns-in-BadSaved : goal.returns-in-BadSaved
unfolding halt_number
returns-in-BadSaved c = simp c.in-BadSaved.is

pub returns-in-StopNumber : goal.returns-in-StopNumber
unfolding halt_number
returns-in-StopNumber c = simp c.in-StopNumber.is

pub returns-in-StopCompId : goal.returns-in-StopCompId
unfolding halt_number
returns-in-StopCompId c = simp c.in-StopCompId.is

pub returns-in-StopType : goal.returns-in-StopType
unfolding halt_number
returns-in-StopType c = simp c.in-StopType.is

pub returns-in-StopNew : goal.returns-in-StopNew
unfolding halt_number
returns-in-StopNew c = simp c.in-StopNew.is

pub returns-in-StopResend : goal.returns-in-StopResend
unfolding halt_number
returns-in-StopResend c = simp c.in-StopResend.is

pub returns-in-StopNext : goal.returns-in-StopNext
unfolding halt_number
returns-in-StopNext c = simp c.in-StopNext.is

pub returns-in-StopLast : goal.returns-in-StopLast
unfolding halt_number
returns-in-StopLast c = simp c.in-StopLast.is

pub returns-in-StopRepeats : goal.returns-in-StopRepeats
unfolding halt_number
returns-in-StopRepeats c = simp c.in-StopRepeats.is

pub returns-in-NotASession : goal.returns-in-NotASession
unfolding halt_number
returns-in-NotASession c = simp c.in-NotASession.is
