-- `fields::cut::bytes_at` meets its contract: the fields from position q on have the one that is looked for.
use Rattle.tables.specs.Tables.{row_of}
use Rattle.fields.proofs.CutLaws.{Seeking}
use Rattle.fields.proofs.cut.bytes_at.Given as goal

abbrev pub invariant-loop-q : goal.invariant-loop-q
invariant-loop-q l = Seeking (row_of l.messagetype) l.map l.p l.body l.q l.rest
