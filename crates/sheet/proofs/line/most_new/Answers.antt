-- `sheet::line::most_new` meets its contract: kind by kind.
use mathlib.Core.Logic.{⊎_elim}
use mathlib.Core.Path.{sym, ap}
use Rattle.sheet.specs.Line.{most_new}
use Rattle.sheet.proofs.line.most_new.Goals as goal

pub returns-in-Logon : goal.returns-in-Logon
unfolding most_new
returns-in-Logon c = ⊎_elim (λ e. ap most_new (sym e)) (λ e. ap most_new (sym e)) c.in-Logon.is

pub returns-in-GapFill : goal.returns-in-GapFill
unfolding most_new
returns-in-GapFill c = ⊎_elim (λ e. ap most_new (sym e)) (λ e. ap most_new (sym e)) c.in-GapFill.is
