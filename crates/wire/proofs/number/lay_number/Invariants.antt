-- `wire::number::lay_number` meets its contract: the bytes before this one are laid, and those of v are to follow.
use Rattle.std.proofs.Common.{◌≡◌, ◌-◌, ◌++◌, take}
use Rattle.wire.specs.Number.{number_bytes}
use Rattle.wire.proofs.number.lay_number.Given as goal

abbrev pub invariant-loop-byte : goal.invariant-loop-byte
invariant-loop-byte l = take l.byte-index l.byte-items ++ number_bytes (l.w - l.byte-index) l.v ≡ number_bytes l.w l.n
