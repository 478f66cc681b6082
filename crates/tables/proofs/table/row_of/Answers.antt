-- `tables::table::row_of` meets its contract: each type's table, and no table for a type above 10. Assumes nothing.
use borrow.Author.Tests.{ne_eqb}
use Rattle.tables.specs.Tables.{row_of, tables_of}
use Rattle.tables.specs.Reports.{union_at}
use Rattle.tables.proofs.table.row_of.Goals as goal

pub returns-in_default : goal.returns-in_default
unfolding row_of tables_of union_at
returns-in_default c =
    let k = c.args.messagetype in
    let r = c.in_default.in_default-own.rest in
    simp (
      ne_eqb k 0 r.0.0.0.0.0.0.0.0.0.0.1,
      ne_eqb k 1 r.0.0.0.0.0.0.0.0.0.1,
      ne_eqb k 2 r.0.0.0.0.0.0.0.0.1,
      ne_eqb k 3 r.0.0.0.0.0.0.0.1,
      ne_eqb k 4 r.0.0.0.0.0.0.1,
      ne_eqb k 5 r.0.0.0.0.0.1,
      ne_eqb k 6 r.0.0.0.0.1,
      ne_eqb k 7 r.0.0.0.1,
      ne_eqb k 8 r.0.0.1,
      ne_eqb k 9 r.0.1,
      ne_eqb k 10 r.1,
    )
