-- `writer::put::put_head` meets its contract: the Comp ID is laid behind the values, and the map behind both.
use Rattle.writer.proofs.HeadLaws.{head-laid}
use Rattle.writer.proofs.put.put_head.Goals as goal

pub returns : goal.returns
returns c =
    head-laid c.args.n c.args.header c.args.comp.now c.args.map.now c.requires.1 c.requires.2 c.args.d.now _ _ _ c.requires.0
    c.put_values.ensures c.put_fixed.ensures.1 c.put_bytes.ensures.1
