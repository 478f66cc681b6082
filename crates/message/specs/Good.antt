-- What the checks 7 to 10 leave true where they refuse nothing (document 01, the table of refusals).
use Rattle.std.specs.Prelude.{◌≡◌, true, List, ℕ, ◌<◌}
use Rattle.tables.specs.Line.{is_known, is_required}
use Rattle.tables.specs.Tables.{row_of}
use Rattle.wire.specs.Map.{map_positions, present}
use Rattle.fields.specs.Walk.{walk_of, all_good}

-- the map has no position that the type does not know and every one that it requires; the walk over its positions finds each field good, leaves
-- nothing, and sums `plain` bytes
pub record GoodFields (messagetype : ℕ) (m body : List ℕ) (plain : ℕ) : Type 0 where
  pub known : (p : ℕ) → p < map_positions → present m p ≡ true → is_known (row_of messagetype p) ≡ true
  pub filled : (p : ℕ) → is_required (row_of messagetype p) ≡ true → present m p ≡ true
  pub walked : walk_of (row_of messagetype) m body ≡ all_good 0 plain
