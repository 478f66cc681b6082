-- `bench::gateway::fill` ends, and reads within the buffer.
use Rattle.std.proofs.Common.{length, ◌-◌, ◌≤◌}
use Rattle.bench.proofs.gateway.fill.Given as goal

abbrev pub invariant-loop-done : goal.invariant-loop-done
invariant-loop-done g l = l.done ≤ length l.d

abbrev pub decreases-loop-done : goal.decreases-loop-done
decreases-loop-done g l = length l.d - l.done
