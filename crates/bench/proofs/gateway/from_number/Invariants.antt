-- `bench::gateway::from_number` ends, since each message passed over leaves fewer bytes.
use Rattle.std.proofs.Common.{length}
use Rattle.bench.proofs.gateway.from_number.Given as goal

abbrev pub decreases-loop-length : goal.decreases-loop-length
decreases-loop-length l = length l.rest
