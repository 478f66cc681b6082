-- `capi::planning::plan_c` meets its contract: the plan's answer, shown.
use mathlib.Core.Path.{ap, ◌∙◌}
use Rattle.capi.specs.Planning.{shown_planned}
use Rattle.capi.proofs.planning.plan_c.Goals as goal

pub returns : goal.returns
returns c = (c.from.ensures ∙ ap shown_planned c.plan.ensures.0, c.plan.ensures.1)
