-- `sheet::sheet::content_of` meets its contract: kind by kind.
use mathlib.Core.Path.{sym, ap}
use Rattle.sheet.specs.declared.line.Kind.{Kind}
use Rattle.sheet.specs.Sheet.{content_of}
use Rattle.sheet.proofs.sheet.content_of.Goals as goal

pub returns-in-Logon : goal.returns-in-Logon
unfolding content_of
returns-in-Logon c = ap (λ (x : Kind). content_of x c.args.new) (sym c.in-Logon.is)

pub returns-in-Business : goal.returns-in-Business
unfolding content_of
returns-in-Business c = ap (λ (x : Kind). content_of x c.args.new) (sym c.in-Business.is)

pub returns-in-GapFill : goal.returns-in-GapFill
unfolding content_of
returns-in-GapFill c = ap (λ (x : Kind). content_of x c.args.new) (sym c.in-GapFill.is)

pub returns-in-Reset : goal.returns-in-Reset
unfolding content_of
returns-in-Reset c = ap (λ (x : Kind). content_of x c.args.new) (sym c.in-Reset.is)
