-- `session::arrival::is_same` meets its contract: the library compares byte by byte.
use mathlib.Core.Path.{◌∙◌}
use Rattle.session.proofs.CaseLaws.{same_pairs}
use Rattle.session.proofs.arrival.is_same.Goals as goal

pub returns : goal.returns
returns c = c.eq.ensures ∙ same_pairs _ _
