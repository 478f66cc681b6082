-- `bench::gateway::list_room` meets its contract: so many zeros, which are not counted out.
use Rattle.std.proofs.Common.{ℕ, ◌≡◌, sym, length}
use Rattle.std.proofs.Math.ListN.{replicate}
use Rattle.std.proofs.lemmas.List.{length-replicate}
use Rattle.bench.proofs.gateway.list_room.Goals as goal

so_many : (n x : ℕ) → n ≡ length (replicate n x)
so_many n x = sym (length-replicate n x)

pub returns : goal.returns
returns c = so_many 1048576 0
