-- `tables::nine::is_marked` meets its contract: each arm is a position that some of the nine require, and the last is as in the report's table. Assumes nothing.
use mathlib.Core.Path.{refl}
use native.Mathlib.Omega.{arith}
use Rattle.tables.proofs.Absent.{not-among}
use Rattle.tables.proofs.NineLaws.{marks, some-required, other-required}
use Rattle.tables.proofs.nine.is_marked.Goals as goal

pub returns-in-32 : goal.returns-in-32
returns-in-32 c = rw c.in-32.is (some-required c.args.table 32 c.requires.0 c.requires.1 (omega arith) refl)

pub returns-in-33 : goal.returns-in-33
returns-in-33 c = rw c.in-33.is (some-required c.args.table 33 c.requires.0 c.requires.1 (omega arith) refl)

pub returns-in-34 : goal.returns-in-34
returns-in-34 c = rw c.in-34.is (some-required c.args.table 34 c.requires.0 c.requires.1 (omega arith) refl)

pub returns-in_default : goal.returns-in_default
returns-in_default c =
    let a = c.args in
    let g = c.requires in
    rw (c.is_required.ensures, c.row_of.ensures)
    (other-required a.table a.position g.0 g.1 (not-among a.position marks Unit c.in_default.in_default-own.rest))
