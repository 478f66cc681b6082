-- `fields::sets::position_of` meets its contract: the field stands at no position below p, and at none at or past the type's span.
use Rattle.tables.specs.Tables.{row_of}
use Rattle.fields.specs.Sets.{stands_at}
use Rattle.fields.proofs.SetsLaws.{NoneBelow}
use Rattle.fields.proofs.sets.position_of.Given as goal

abbrev pub invariant-loop-p : goal.invariant-loop-p
invariant-loop-p l = NoneBelow (stands_at (row_of l.messagetype) l.field) l.p
