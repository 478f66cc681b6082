-- `fields::check::report_shape` meets its contract: each arm is the shape of the field that the nine tables name, and the last that of a
-- variable text or of no field.
use mathlib.Core.Path.{◌≡◌, refl, sym, ap}
use mathlib.Core.Bool.{Bool, true, false}
use mathlib.Core.List.{List, [], ◌∷◌}
use Prim.Native.Nat.{ℕ}
use lib.Dec.{eqb}
use borrow.Author.Tests.{eqb-true}
use Rattle.tables.specs.declared.table.Row.TheVariants.{UnknownPosition}
use Rattle.tables.specs.Dictionary.{entry, sort_of}
use Rattle.tables.specs.Line.{row_at, is_required}
use Rattle.tables.specs.Reports.{reports, add_line, column, nine_tables, not_required, joined, union_at}
use Rattle.tables.specs.Tables.{tables_of, row_of}
use Rattle.tables.proofs.Absent.{among, not-among, union-absent}
use Rattle.fields.specs.declared.check.Shape.TheVariants.{Other}
use Rattle.fields.specs.Shapes.{shape_in, shape_of}
use Rattle.fields.proofs.check.report_shape.Goals as goal

-- the arms' positions
abbrev arms : List ℕ
arms = 0 ∷ 1 ∷ 2 ∷ 3 ∷ 4 ∷ 5 ∷ 6 ∷ 7 ∷ 8 ∷ 9 ∷ 11 ∷ 12 ∷ 13 ∷ 14 ∷ 15 ∷ 16 ∷ 17 ∷ 18 ∷ 21 ∷ 22 ∷ 23 ∷ 24 ∷ 25 ∷ 27 ∷ 28 ∷ 30 ∷ 31 ∷ 32 ∷ 33 ∷ 34 ∷ 35 ∷ 37 ∷ 38 ∷ 39 ∷ 42 ∷ 43 ∷ []

-- no table names a position but these, 19 and 20
none_named : (p : ℕ) → among p (19 ∷ 20 ∷ arms) ≡ false → UnknownPosition ≡ row_of 10 p
unfolding row_of tables_of nine_tables reports add_line column
none_named p h = union-absent p (19 ∷ 20 ∷ arms) h _ _ refl

-- which are variable texts
other-shape : (p : ℕ) → among p arms ≡ false → Other ≡ shape_of (row_of 10 p)
unfolding shape_of shape_in entry sort_of row_of tables_of union_at joined not_required row_at is_required nine_tables reports add_line column
other-shape p h = go (eqb p 19) (eqb p 20) refl refl
  where
    go : (b c : Bool) → eqb p 19 ≡ b → eqb p 20 ≡ c → Other ≡ shape_of (row_of 10 p)
    go true c e f = ap (λ (q : ℕ). shape_of (row_of 10 q)) (sym (eqb-true p 19 e))
    go false true e f = ap (λ (q : ℕ). shape_of (row_of 10 q)) (sym (eqb-true p 20 f))
    go false false e f = ap shape_of (none_named p (rw (e, f) h))

pub returns-in_default : goal.returns-in_default
returns-in_default c =
    let p = c.args.p in
    other-shape p (not-among p arms Unit c.in_default.in_default-own.rest)
