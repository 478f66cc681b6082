-- `wire::number::low` meets its contract: v is the number of the bytes from k to w.
use Rattle.std.proofs.Common.{◌≡◌, ◌≤◌, length, take, drop}
use Rattle.wire.specs.Number.{number}
use Rattle.wire.proofs.number.low.Given as goal

abbrev pub invariant-loop-k : goal.invariant-loop-k
invariant-loop-k l = (l.k ≤ l.w) × (l.k ≤ length l.s) × (l.v ≡ number (drop l.k (take l.w l.s)))
