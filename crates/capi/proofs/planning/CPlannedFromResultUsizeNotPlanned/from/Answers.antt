-- `capi::planning::CPlannedFromResultUsizeNotPlanned::from` meets its contract: the number and the pairs of each answer.
use borrow.Author.Rules.{rules}
use Rattle.plan.specs.Plan.{refusal}
use Rattle.capi.specs.Planning.{pairs_of, shown_planned}
use Rattle.capi.proofs.planning.CPlannedFromResultUsizeNotPlanned.from.Goals as goal

pub returns-in-Ok : goal.returns-in-Ok
unfolding shown_planned pairs_of refusal
returns-in-Ok c = search rules

pub returns-in-BadRequest : goal.returns-in-BadRequest
unfolding shown_planned pairs_of refusal
returns-in-BadRequest c = search rules

pub returns-in-NoRoom : goal.returns-in-NoRoom
unfolding shown_planned pairs_of refusal
returns-in-NoRoom c = search rules
