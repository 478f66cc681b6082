-- `session::day::not_made` meets its contract.
use mathlib.Core.Path.{refl}
use Rattle.session.specs.Day.{not_made}
use Rattle.session.proofs.day.not_made.Goals as goal

pub returns : goal.returns
unfolding not_made
returns c = refl
