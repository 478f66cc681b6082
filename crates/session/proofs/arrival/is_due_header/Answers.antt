-- `session::arrival::is_due_header` meets its contract.
use mathlib.Core.Path.{refl}
use Rattle.session.specs.Turn.{is_due_header}
use Rattle.session.proofs.arrival.is_due_header.Goals as goal

pub returns : goal.returns
unfolding is_due_header
returns c = refl
