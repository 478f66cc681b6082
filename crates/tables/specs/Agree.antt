-- 004 section 7.8: the nine tables one by one, and the field that a row names. The words are ours.
use Rattle.std.specs.Prelude.{ℕ, ◌-◌, cond, List, [], ◌∷◌, eqb}
use Rattle.tables.specs.declared.dictionary.Field.{Field}
use Rattle.tables.specs.declared.table.Row.{Row}
use Rattle.tables.specs.declared.table.Row.TheVariants.{Required, Optional, UnknownType}
use Rattle.tables.specs.Line.{Line, row_at}
use Rattle.tables.specs.Reports.{nine_tables}

-- what the k-th of some tables says of position p, counted from 1; there is no other table
unfoldable pub row_in_table : List (List Line) → ℕ → ℕ → Row
row_in_table [] k p = UnknownType
row_in_table (t ∷ ts) k p = cond (eqb k 1) (row_at t p) (row_in_table ts (k - 1) p)

-- what the table of section 7.8.k says of position p
unfoldable pub nine_row : ℕ → ℕ → Row
nine_row k p = row_in_table nine_tables k p

-- a row names a field, required or not
pub data Names : Row → Field → Type 0 where
  names-required : {f : Field} → Names (Required f) f
  names-optional : {f : Field} → Names (Optional f) f
