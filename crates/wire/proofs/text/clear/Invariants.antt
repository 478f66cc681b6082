-- `wire::text::clear` meets its contract: the bytes before this one are 0, and what lies behind them is as it was.
use Rattle.std.proofs.Common.{◌≡◌, ◌++◌, drop, replicate}
use Rattle.wire.proofs.text.clear.Given as goal

abbrev pub invariant-loop-byte : goal.invariant-loop-byte
invariant-loop-byte l = l.d ≡ replicate l.byte-index 0 ++ drop l.byte-index l.initial.d
