-- `plan::lay_both` meets its contract: the more are laid in the part behind the one's.
use mathlib.Core.Path.{refl}
use lib.ListN.{length}
use Rattle.wire.proofs.BufferLaws.{front-behind}
use Rattle.plan.proofs.lay_both.Goals as goal

pub returns : goal.returns
returns c =
    let a = c.args in
    front-behind a.one.now a.more.now a.d.now c.lay.new.d c.lay-2.new.d (length a.one.now) refl
    c.requires c.lay.ensures c.lay-2.ensures
