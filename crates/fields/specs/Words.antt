-- The head of a map, its first 64 positions, as one number, which the quick tests of a map look at.
use Rattle.std.specs.Prelude.{◌≡◌, Bool, true, false, List, ℕ, ◌+◌, ◌-◌, ◌*◌, ◌/◌, ◌%◌, ◌^◌, ◌≤◌, ◌<◌, length}
use Rattle.tables.specs.Line.{is_required}
use Rattle.tables.specs.declared.table.Row.{Row}
use Rattle.wire.specs.Map.{map_bytes, map_positions, present}
use Rattle.fields.specs.Cut.{head_positions}

-- position p's bit in the number that a map's first eight bytes stand for
abbrev pub place : ℕ → ℕ
place p = 8 * (p / 8) + (7 - p % 8)

-- the number has the bit of each position of a head that passes the test
pub record Holds (test : ℕ → Bool) (w : ℕ) : Type 0 where
  pub set : (p : ℕ) → p < head_positions → test p ≡ true → w / 2 ^ place p % 2 ≡ 1

-- the rows require position p
unfoldable pub required_by : (ℕ → Row) → ℕ → Bool
required_by rows p = is_required (rows p)

-- no position from p on is set
pub record ClearFrom (p : ℕ) (m : List ℕ) : Type 0 where
  pub clear : (k : ℕ) → p ≤ k → k < map_positions → present m k ≡ false

-- a walk over the map may stop after n bytes
pub record Ends (n : ℕ) (m : List ℕ) : Type 0 where
  pub within : n ≤ map_bytes
  pub inside : n ≤ length m
  pub rest : ClearFrom (n * 8) m
