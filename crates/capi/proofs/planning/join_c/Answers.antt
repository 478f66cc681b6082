-- `capi::planning::join_c` meets its contract: the answer of the two plans joined, shown.
use mathlib.Core.Path.{ap, ◌∙◌}
use Rattle.capi.specs.Planning.{shown_planned}
use Rattle.capi.proofs.planning.join_c.Goals as goal

pub returns : goal.returns
returns c = (c.from.ensures ∙ ap shown_planned c.join.ensures.0, c.join.ensures.1)
