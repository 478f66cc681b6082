-- `wire::text::characters_in` meets its contract: the characters are counted by eights, and then where the rest has its first that is none.
use Rattle.std.proofs.Common.{◌≡◌, ◌+◌, ◌-◌, ◌≤◌, length, drop}
use Rattle.wire.specs.Text.{characters}
use Rattle.wire.proofs.text.characters_in.Given as goal

abbrev pub invariant-loop-i : goal.invariant-loop-i
invariant-loop-i l = (l.i ≤ length l.s) × (l.i + characters l.allowed (drop l.i l.s) ≡ characters l.allowed l.s)

abbrev pub decreases-loop-i : goal.decreases-loop-i
decreases-loop-i l = length l.s - l.i
