-- `tables::nine::is_named` meets its contract: each arm is a position that some of the nine name, and the last is as in the report's table. Assumes nothing.
use mathlib.Core.Path.{refl}
use native.Mathlib.Omega.{arith}
use Rattle.tables.proofs.Absent.{not-among}
use Rattle.tables.proofs.NineLaws.{some, some_known, other-known}
use Rattle.tables.proofs.nine.is_named.Goals as goal

pub returns-in-8 : goal.returns-in-8
returns-in-8 c = rw c.in-8.is (some_known c.args.table 8 c.requires.0 c.requires.1 (omega arith) refl)

pub returns-in-16 : goal.returns-in-16
returns-in-16 c = rw c.in-16.is (some_known c.args.table 16 c.requires.0 c.requires.1 (omega arith) refl)

pub returns-in-17 : goal.returns-in-17
returns-in-17 c = rw c.in-17.is (some_known c.args.table 17 c.requires.0 c.requires.1 (omega arith) refl)

pub returns-in-20 : goal.returns-in-20
returns-in-20 c = rw c.in-20.is (some_known c.args.table 20 c.requires.0 c.requires.1 (omega arith) refl)

pub returns-in-28 : goal.returns-in-28
returns-in-28 c = rw c.in-28.is (some_known c.args.table 28 c.requires.0 c.requires.1 (omega arith) refl)

pub returns-in-30 : goal.returns-in-30
returns-in-30 c = rw c.in-30.is (some_known c.args.table 30 c.requires.0 c.requires.1 (omega arith) refl)

pub returns-in-31 : goal.returns-in-31
returns-in-31 c = rw c.in-31.is (some_known c.args.table 31 c.requires.0 c.requires.1 (omega arith) refl)

pub returns-in-32 : goal.returns-in-32
returns-in-32 c = rw c.in-32.is (some_known c.args.table 32 c.requires.0 c.requires.1 (omega arith) refl)

pub returns-in-33 : goal.returns-in-33
returns-in-33 c = rw c.in-33.is (some_known c.args.table 33 c.requires.0 c.requires.1 (omega arith) refl)

pub returns-in-34 : goal.returns-in-34
returns-in-34 c = rw c.in-34.is (some_known c.args.table 34 c.requires.0 c.requires.1 (omega arith) refl)

pub returns-in-35 : goal.returns-in-35
returns-in-35 c = rw c.in-35.is (some_known c.args.table 35 c.requires.0 c.requires.1 (omega arith) refl)

pub returns-in-38 : goal.returns-in-38
returns-in-38 c = rw c.in-38.is (some_known c.args.table 38 c.requires.0 c.requires.1 (omega arith) refl)

pub returns-in-39 : goal.returns-in-39
returns-in-39 c = rw c.in-39.is (some_known c.args.table 39 c.requires.0 c.requires.1 (omega arith) refl)

pub returns-in-42 : goal.returns-in-42
returns-in-42 c = rw c.in-42.is (some_known c.args.table 42 c.requires.0 c.requires.1 (omega arith) refl)

pub returns-in-43 : goal.returns-in-43
returns-in-43 c = rw c.in-43.is (some_known c.args.table 43 c.requires.0 c.requires.1 (omega arith) refl)

pub returns-in_default : goal.returns-in_default
returns-in_default c =
    let a = c.args in
    let g = c.requires in
    rw (c.is_known.ensures, c.row_of.ensures)
    (other-known a.table a.position g.0 g.1 (not-among a.position some Unit c.in_default.in_default-own.rest))
