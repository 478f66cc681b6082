-- `plan::NotPlanned::number` meets its contract: an answer for each variant.
use borrow.Author.Rules.{rules}
use Rattle.plan.specs.Plan.{refusal}
use Rattle.plan.proofs.NotPlanned.number.Goals as goal

pub returns-in-BadRequest : goal.returns-in-BadRequest
unfolding refusal
returns-in-BadRequest c = search rules

pub returns-in-NoRoom : goal.returns-in-NoRoom
unfolding refusal
returns-in-NoRoom c = search rules
