-- `writer::put::put_fields` meets its contract: field by field the buffer is filled, and what is still to be laid has room.
use Rattle.tables.specs.Tables.{row_of}
use Rattle.fields.specs.Plain.{plain_pieces, plain_fields}
use Rattle.fields.proofs.FillLaws.{Filled}
use Rattle.writer.proofs.put.put_fields.Given as goal

abbrev pub invariant-loop-left : goal.invariant-loop-left
invariant-loop-left l =
    Filled (row_of l.messagetype) l.map (plain_pieces (row_of l.messagetype)) l.initial.d (plain_fields (row_of l.messagetype) l.map l.body) l.d l.at l.left l.rest

abbrev pub decreases-loop-left : goal.decreases-loop-left
decreases-loop-left l = l.left
