-- `message::list::count_set` meets its contract: the positions counted, and those still to come, are all.
use mathlib.Core.Path.{◌≡◌}
use mathlib.Core.List.{List}
use Prim.Native.Nat.{ℕ, ◌+◌}
use lib.ListN.{length}
use Rattle.fields.specs.Cut.{positions}
use Rattle.fields.proofs.HeadLaws.{Ahead}
use Rattle.fields.proofs.PositionLaws.{later}
use Rattle.message.proofs.list.count_set.Given as goal

-- n positions are counted, and `left` has the others
pub record Counting (m : List ℕ) (left n : ℕ) : Type 0 where
  pub from : ℕ
  pub ahead : Ahead m from left
  pub all : n + length (later m 64 from) ≡ length (positions m 64 0)

abbrev pub invariant-loop-left : goal.invariant-loop-left
invariant-loop-left l = Counting l.map l.left l.n

abbrev pub decreases-loop-left : goal.decreases-loop-left
decreases-loop-left l = l.left
