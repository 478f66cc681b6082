-- `plain::makes` meets its contract.
use borrow.Author.Tests.{lt-ltb, le-ltb}
use Rattle.plain.specs.Plain.{makes}
use Rattle.plain.proofs.makes.Goals as goal
use Rattle.plain.proofs.makes.Goals.{then-m-new, else-m-new}

pub returns : goal.returns
unfolding makes
returns c =
    elim c.if-m-new.branch [
      | then-m-new w ↦ simp (c.tells.ensures, w.m-is, lt-ltb _ _ w.if-m-new.true)
      | else-m-new w ↦ simp (c.tells.ensures, w.m-is, le-ltb _ _ w.if-m-new.false)
    ]
