-- The shape of a field, as a quick look at it needs: what stands for its check, its extent, its value and its plain form at once.
use Rattle.std.specs.Prelude.{ℕ, cond, eqb}
use Rattle.tables.specs.declared.dictionary.Sort.{Sort}
use Rattle.tables.specs.declared.dictionary.Sort.TheVariants as sort
use Rattle.tables.specs.declared.table.Row.{Row}
use Rattle.tables.specs.Dictionary.{sort_of}
use Rattle.tables.specs.Line.{by_field}
use Rattle.tables.specs.Tables.{row_of}
use Rattle.tables.specs.Types.{execution_report_type}
use Rattle.fields.specs.declared.check.Shape.{Shape}
use Rattle.fields.specs.declared.check.Shape.TheVariants.{Number, Decimal, Fixed, Other}

-- of a field of this sort: a byte of any value is a number
unfoldable pub shape_in : Sort → Shape
shape_in (sort.Number width) = Number width
shape_in sort.Decimal = Decimal
shape_in sort.Byte = Number 1
shape_in sort.YesNo = Other
shape_in (sort.Fixed allowed width) = Fixed allowed width
shape_in (sort.Variable allowed size) = Other

-- the field that a row names
unfoldable pub shape_of : Row → Shape
shape_of r = by_field (λ f. shape_in (sort_of f)) Other r

-- position p of a message of this type, where it is a report
unfoldable pub shape_at : ℕ → ℕ → Shape
shape_at messagetype p = cond (eqb messagetype execution_report_type) (shape_of (row_of execution_report_type p)) Other
