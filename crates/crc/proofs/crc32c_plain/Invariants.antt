-- `crc::crc32c_plain`: the register from here over what is left is the register over the whole.
use Rattle.crc.proofs.Linear.{Reached}
use Rattle.crc.proofs.crc32c_plain.Given as goal

abbrev pub invariant-loop-b : goal.invariant-loop-b
invariant-loop-b l = Reached l.s l.c l.b-index
