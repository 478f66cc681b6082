-- `message::list::number_in` meets its contract: one byte is its own number.
use mathlib.Core.Path.{◌≡◌, sym, ◌∙◌}
use mathlib.Core.List.{List, [], ◌∷◌}
use Prim.Native.Nat.{ℕ, ◌≤◌}
use native.Mathlib.Omega.{arith}
use lib.ListN.{length, take, get_or}
use lib.Seq.{length-take-le}
use Rattle.wire.specs.Number.{number}
use Rattle.message.proofs.list.number_in.Goals as goal

first-number : (s : List ℕ) (w : ℕ) → w ≡ 1 → w ≤ length s → get_or s 0 0 ≡ number (take 8 (take w s))
unfolding number
first-number [] w e h = absurd (omega arith)
first-number (b ∷ bs) w e h = rw e (omega arith)

pub returns-then-width-eq1 : goal.returns-then-width-eq1
returns-then-width-eq1 c = let a = c.args in c.wide.ensures ∙ first-number a.s.now a.width (omega arith) (omega arith)

pub slice_bounds-read_u64-end : goal.slice_bounds-read_u64-end
slice_bounds-read_u64-end c = let a = c.args in sym (length-take-le a.width a.s.now (omega arith))
