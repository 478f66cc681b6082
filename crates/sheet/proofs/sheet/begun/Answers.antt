-- `sheet::sheet::begun` meets its contract: a fresh day, connected.
use Rattle.wire.specs.Spelled.{spelled}
use Rattle.sheet.specs.Sheet.{begun}
use Rattle.sheet.proofs.sheet.begun.Goals as goal

pub returns : goal.returns
unfolding begun spelled
returns c = simp (c.connect-connected.ensures, c.fresh-made.ensures)
