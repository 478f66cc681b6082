-- `fields::sets::search_missing` meets its contract: no position below p is missing, and none at or past the type's span.
use Rattle.tables.specs.Tables.{row_of}
use Rattle.fields.specs.Sets.{missing_at}
use Rattle.fields.proofs.SetsLaws.{NoneBelow}
use Rattle.fields.proofs.sets.search_missing.Given as goal

abbrev pub invariant-loop-p : goal.invariant-loop-p
invariant-loop-p l = NoneBelow (missing_at (row_of l.messagetype) l.map) l.p
