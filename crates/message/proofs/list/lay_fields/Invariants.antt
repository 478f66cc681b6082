-- `message::list::lay_fields` meets its contract: field by field the list is filled, and every field of a good message is whole.
use Rattle.message.proofs.ListLaws.{Listing}
use Rattle.message.proofs.list.lay_fields.Given as goal

abbrev pub invariant-loop-left : goal.invariant-loop-left
invariant-loop-left l = Listing l.messagetype l.whole l.map l.initial.rest l.initial.d l.d l.laid l.left l.rest

abbrev pub decreases-loop-left : goal.decreases-loop-left
decreases-loop-left l = l.left
