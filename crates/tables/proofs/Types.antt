-- The types that have a table are those up to the Execution Report's, and every other has row UnknownType. Assumes nothing.
use mathlib.Core.Path.{◌≡◌, refl, sym, ◌∙◌}
use mathlib.Core.Bool.{Bool, true, false, cond}
use mathlib.Core.List.{List, [], ◌∷◌}
use Prim.Native.Nat.{ℕ, suc, ◌≤◌}
use native.Mathlib.Omega.{arith}
use lib.Dec.{eqb, leb}
use lib.ListN.{length}
use borrow.Author.Tests.{le-leb, lt-leb, leb-true, eqb-true, eqb-false}
use Rattle.wire.proofs.TestLaws.{either}
use Rattle.tables.specs.declared.table.Row.{Row}
use Rattle.tables.specs.declared.table.Row.TheVariants.{Required, Optional, UnknownPosition, UnknownType}
use Rattle.tables.specs.Line.{Line, is_required, row_at}
use Rattle.tables.specs.Reports.{reports, add_line, column, nine_tables, joined, not_required, union_at}
use Rattle.tables.specs.Tables.{
  heartbeat,
  test_request,
  resend_request,
  reject,
  sequence_reset,
  logon,
  logout,
  lookup_request,
  lookup_response,
  business_message_reject,
  is_type,
  row_of,
  tables_of,
}
use Rattle.tables.specs.Types.{execution_report_type}

-- one test of a type, all lower ones being passed
tested : (t k : ℕ) (x y : List (List Line)) → k ≤ execution_report_type → leb 1 (length x) ≡ true
    → (suc k ≤ t → leb 1 (length y) ≡ leb t execution_report_type) → k ≤ t → leb 1 (length (cond (eqb t k) x y)) ≡ leb t execution_report_type
tested t k x y h e f l = go (eqb t k) refl
  where
    go : (b : Bool) → eqb t k ≡ b → leb 1 (length (cond b x y)) ≡ leb t execution_report_type
    go true s = rw (e, le-leb t execution_report_type (omega (arith, eqb-true t k s)))
    go false s = f (omega (arith, eqb-false t k s))

pub type-most : (t : ℕ) → is_type t ≡ leb t execution_report_type
unfolding is_type tables_of nine_tables
type-most t =
    tested t 0 _ _ (omega arith) refl
    (tested t 1 _ _ (omega arith) refl
    (tested t 2 _ _ (omega arith) refl
    (tested t 3 _ _ (omega arith) refl
    (tested t 4 _ _ (omega arith) refl
    (tested t 5 _ _ (omega arith) refl
    (tested t 6 _ _ (omega arith) refl
    (tested t 7 _ _ (omega arith) refl
    (tested t 8 _ _ (omega arith) refl
    (tested t 9 _ _ (omega arith) refl
    (tested t 10 _ _ (omega arith) refl (λ l. sym (lt-leb t execution_report_type l))))))))))))
    (omega arith)

pub is-type-within : (t : ℕ) → is_type t ≡ true → t ≤ execution_report_type
is-type-within t e = leb-true t execution_report_type (sym (type-most t) ∙ e)

pub within-is-type : (t : ℕ) → t ≤ execution_report_type → is_type t ≡ true
within-is-type t l = rw (type-most t) (le-leb t execution_report_type l)

no_row : (ts : List (List Line)) (p : ℕ) → leb 1 (length ts) ≡ false → union_at ts p ≡ UnknownType
unfolding union_at
no_row [] p e = refl
no_row (t ∷ ts) p e =
    let h : leb 1 (suc (length ts)) ≡ true = le-leb 1 (suc (length ts)) (omega arith) in
    let z : ◌≡◌ {A = ℕ} 0 1 = cc in
    absurd (omega arith)

-- no position of a type without a table is known
pub no-type : (t p : ℕ) → is_type t ≡ false → row_of t p ≡ UnknownType
unfolding is_type row_of
no-type t p e = no_row (tables_of t) p e

-- what holds of each type's tables, and of none, holds of the tables of any type
pub of-tables : (P : List (List Line) → Type 0) → P (heartbeat ∷ []) → P (test_request ∷ []) → P (resend_request ∷ []) → P (reject ∷ [])
    → P (sequence_reset ∷ []) → P (logon ∷ []) → P (logout ∷ []) → P (lookup_request ∷ []) → P (lookup_response ∷ [])
    → P (business_message_reject ∷ []) → P nine_tables → P [] → (t : ℕ) → P (tables_of t)
unfolding tables_of
of-tables P p0 p1 p2 p3 p4 p5 p6 p7 p8 p9 p10 none t =
    or (eqb t 0) p0
    (or (eqb t 1) p1
    (or (eqb t 2) p2
    (or (eqb t 3) p3
    (or (eqb t 4) p4
    (or (eqb t 5) p5
    (or (eqb t 6) p6
    (or (eqb t 7) p7
    (or (eqb t 8) p8
    (or (eqb t 9) p9
    (or (eqb t 10) p10 none))))))))))
  where
    or : (b : Bool) {x y : List (List Line)} → P x → P y → P (cond b x y)
    or b p q = either P b (λ e. p) (λ e. q)

-- whether a row is one of some table
unfoldable pub has_table : Row → Bool
has_table (Required f) = true
has_table (Optional f) = true
has_table UnknownPosition = true
has_table UnknownType = false

pub other-table : (r : Row) → (r ≡ UnknownType → ⊥) → has_table r ≡ true
unfolding has_table
other-table (Required f) d = refl
other-table (Optional f) d = refl
other-table UnknownPosition d = refl
other-table UnknownType d = absurd (d refl)

abbrev Tells : List (List Line) → Type 0
Tells ts = has_table (union_at ts 0) ≡ leb 1 (length ts)

-- the row at position 0 tells whether the type has a table
pub row-tells : (t : ℕ) → has_table (row_of t 0) ≡ is_type t
unfolding row_of is_type union_at row_at is_required has_table heartbeat test_request resend_request reject sequence_reset logon logout lookup_request lookup_response business_message_reject nine_tables reports add_line column joined not_required
row-tells t = of-tables Tells refl refl refl refl refl refl refl refl refl refl refl refl t
