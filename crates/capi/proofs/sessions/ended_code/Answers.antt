-- `capi::sessions::ended_code` meets its contract.
use Rattle.capi.specs.Steps.{ended_in}
use borrow.Author.Rules.{rules}
use Rattle.capi.proofs.sessions.ended_code.Goals as goal

pub returns-in-Short : goal.returns-in-Short
unfolding ended_in
returns-in-Short c = search rules

pub returns-in-Down : goal.returns-in-Down
unfolding ended_in
returns-in-Down c = simp (c.code_number.ensures, c.in-Down.is)

pub returns-in-NoSlot : goal.returns-in-NoSlot
unfolding ended_in
returns-in-NoSlot c = search rules
