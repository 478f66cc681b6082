-- `writer::send::map_of` meets its contract: the map has the fields gone through, and those before them are left.
use Rattle.std.proofs.Common.{◌≡◌, ◌++◌, List}
use Rattle.tables.specs.declared.dictionary.Field.{Field}
use Rattle.tables.specs.Tables.{row_of}
use Rattle.writer.specs.Send.{map_with}
use Rattle.writer.proofs.send.map_of.Given as goal

abbrev pub invariant-loop-field : goal.invariant-loop-field
invariant-loop-field l = (done : List Field) × (l.fields ≡ l.field-iterator.iter.rest.now ++ done) × (l.map ≡ map_with (row_of l.messagetype) done)
