-- `capi::write::write_c` meets its contract: the writer's answer, shown.
use Rattle.capi.proofs.write.write_c.Goals as goal

pub returns : goal.returns
returns c = (simp (c.from-2.ensures, c.write.ensures.0, c.from.ensures), simp (c.write.ensures.1, c.from.ensures))
