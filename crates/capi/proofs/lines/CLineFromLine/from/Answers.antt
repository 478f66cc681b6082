-- `capi::lines::CLineFromLine::from` meets its contract.
use mathlib.Core.Path.{◌≡◌, refl}
use mathlib.Core.Bool.{Bool, true, false, cond}
use mir.Val.{bool_byte}
use Rattle.capi.proofs.lines.CLineFromLine.from.Goals as goal

-- the truth value as a number
as-number : (b : Bool) → bool_byte b ≡ cond b 1 0
as-number true = refl
as-number false = refl

pub returns : goal.returns
returns c = simp (c.heard.ensures, c.sent.ensures, c.now.ensures, c.from-2.ensures, as-number, c.tested.ensures, c.interval.ensures, c.from.ensures, c.session-session.ensures)
