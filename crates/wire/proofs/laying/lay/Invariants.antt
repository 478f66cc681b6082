-- `wire::laying::lay` meets its contract: the first i bytes of t are laid, and what lies behind them is as it was.
use Rattle.std.proofs.Common.{◌≡◌, ◌≤◌, ◌++◌, length, take, drop}
use Rattle.wire.proofs.laying.lay.Given as goal

abbrev pub invariant-loop-i : goal.invariant-loop-i
invariant-loop-i l = (l.i ≤ length l.t) × (length l.d ≡ length l.initial.d) × (l.d ≡ take l.i l.t ++ drop l.i l.initial.d)
