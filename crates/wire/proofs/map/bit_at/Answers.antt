-- `wire::map::bit_at` meets its contract: a mask of 1 is the remainder by 2.
use Rattle.std.proofs.Common.{ℕ, ◌-◌, ◌/◌, ◌^◌, eqb, ap}
use lib.Bits.{and_mask}
use Rattle.wire.specs.Map.{bit_at}
use Rattle.wire.proofs.map.bit_at.Goals as goal

pub returns : goal.returns
unfolding bit_at
returns c = ap (λ (x : ℕ). eqb x 1) (and_mask (c.args.byte / 2 ^ (7 - c.args.j)) 1)
