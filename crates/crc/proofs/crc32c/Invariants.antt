-- `crc::crc32c`: in both loops the register from here over what is left is the register over the whole.
use Rattle.std.proofs.Common.{◌+◌, ◌*◌, ◌/◌, length}
use Rattle.crc.proofs.Linear.{Reached}
use Rattle.crc.proofs.crc32c.Given as goal

abbrev pub invariant-loop-word : goal.invariant-loop-word
invariant-loop-word l = Reached l.s l.c (l.word-index * 8)

abbrev pub invariant-loop-b : goal.invariant-loop-b
invariant-loop-b l = Reached l.s l.c (length l.s / 8 * 8 + l.b-index)
