-- `tables::table::is_type` meets its contract: the row at position 0 tells. Assumes nothing.
use mathlib.Core.Path.{sym, ap, ◌∙◌}
use mathlib.Core.Bool.{not}
use Rattle.tables.proofs.Types.{has_table, row-tells, other-table}
use Rattle.tables.proofs.table.is_type.Goals.{in-UnknownType, in_default}
use Rattle.tables.proofs.table.is_type.Goals as goal

pub returns : goal.returns
unfolding has_table
returns c =
    let tells = ap has_table c.row_of.ensures ∙ row-tells c.args.messagetype in
    elim c.match-matches.branch [
      | in-UnknownType w ↦ ap not w.matches-is ∙ sym (ap has_table w.in-UnknownType.is) ∙ tells
      | in_default w ↦ ap not w.matches-is ∙ sym (other-table c.row_of.result w.in_default.not-UnknownType) ∙ tells
    ]
