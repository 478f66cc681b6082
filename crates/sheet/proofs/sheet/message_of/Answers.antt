-- `sheet::sheet::message_of` meets its contract: field by field.
use Rattle.sheet.specs.Sheet.{message_of}
use Rattle.sheet.proofs.sheet.message_of.Goals as goal

pub returns : goal.returns
unfolding message_of
returns c = cc
