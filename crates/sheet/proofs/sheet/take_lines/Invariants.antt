-- `sheet::sheet::take_lines` meets its contract: the invariant is that the lines before `used` are taken and printed.
use mathlib.Core.Path.{◌≡◌}
use Prim.Native.Nat.{◌-◌}
use lib.ListN.{length}
use Rattle.sheet.specs.declared.sheet.End.TheVariants.{NoLine}
use Rattle.sheet.proofs.SheetLaws.{Taking}
use Rattle.sheet.proofs.sheet.take_lines.Given as goal

abbrev pub invariant-loop-rest : goal.invariant-loop-rest
invariant-loop-rest l = Taking l.initial.d l.s l.fn.session l.fn.count l.d l.so_far.session l.so_far.count l.so_far.used l.so_far.written × (l.so_far.end ≡ NoLine)

abbrev pub decreases-loop-rest : goal.decreases-loop-rest
decreases-loop-rest l = length l.s - l.so_far.used
