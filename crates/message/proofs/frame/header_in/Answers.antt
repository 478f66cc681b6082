-- `message::frame::header_in` meets its contract: each value is the number in its part.
use mathlib.Core.Path.{◌∙◌}
use native.Mathlib.Omega.{arith}
use Rattle.message.specs.Frame.{header_in}
use Rattle.message.proofs.FrameLaws.{number-in-part}
use Rattle.message.proofs.frame.header_in.Goals as goal

pub returns : goal.returns
unfolding header_in
returns c =
    let s = c.args.s.now in
    let messagetype = c.read_u8.ensures ∙ number-in-part 3 4 s 1 _ (omega arith) c.part.ensures in
    let number = c.read_u32.ensures ∙ number-in-part 4 8 s 4 _ (omega arith) c.part-2.ensures in
    let possdup = c.read_u8-2.ensures ∙ number-in-part 8 9 s 1 _ (omega arith) c.part-3.ensures in
    let possresend = c.read_u8-3.ensures ∙ number-in-part 9 10 s 1 _ (omega arith) c.part-4.ensures in
    simp (messagetype, number, possdup, possresend)
