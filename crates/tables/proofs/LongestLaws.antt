-- The longest lengths are those of the tables, and none is above the most that a Length may be. Assumes nothing.
use mathlib.Core.Path.{◌≡◌, refl}
use mathlib.Core.Bool.{Bool, true, false, cond, not}
use Prim.Native.Nat.{ℕ, ◌≤◌}
use native.Mathlib.Omega.{arith}
use lib.Dec.{eqb, leb}
use borrow.Author.Tests.{eqb-true, leb-true, not-false}
use Rattle.wire.specs.Search.{first_from}
use Rattle.wire.specs.Text.{longest}
use Rattle.wire.proofs.SearchLaws.{first-before}
use Rattle.wire.proofs.TestLaws.{both}
use Rattle.tables.specs.Dictionary.{entry, sort_of}
use Rattle.tables.specs.Line.{is_required, row_at}
use Rattle.tables.specs.Longest.{
  most_of,
  most_at,
  most_from,
  longest_of,
  longest_lengths,
  longest_length,
  longest_written,
}
use Rattle.tables.specs.Reports.{reports, add_line, column, nine_tables, joined, not_required, union_at}
use Rattle.tables.specs.Tables.{
  heartbeat,
  test_request,
  resend_request,
  reject,
  sequence_reset,
  logon,
  logout,
  lookup_request,
  lookup_response,
  business_message_reject,
  is_type,
  row_of,
  tables_of,
}
use Rattle.tables.specs.Types.{logon_type, execution_report_type}
use Rattle.tables.proofs.Types.{is-type-within}

-- the test of a type: its length is what its tables give, and not above the longest
unfoldable passes : ℕ → Bool
passes t = cond (eqb (longest_of t) (longest_length t)) (leb (longest_length t) longest_written) false

-- the test, computed over the tables: no type fails it
tested : first_from (λ t. not (passes t)) 11 0 ≡ 11
unfolding first_from passes most_of most_at most_from longest_lengths longest_length entry sort_of is_required row_at row_of tables_of heartbeat test_request resend_request reject sequence_reset logon logout lookup_request lookup_response business_message_reject nine_tables reports add_line column joined not_required union_at
tested = refl

passed : (t : ℕ) → is_type t ≡ true → (eqb (longest_of t) (longest_length t) ≡ true) × (leb (longest_length t) longest_written ≡ true)
unfolding passes
passed t k =
    let l : t ≤ execution_report_type = is-type-within t k in
    both
    (eqb (longest_of t) (longest_length t))
    (leb (longest_length t) longest_written)
    (not-false (passes t) (first-before (λ t. not (passes t)) 11 0 t (omega arith) (omega (arith, tested))))

pub longest-computed : (t : ℕ) → is_type t ≡ true → longest_of t ≡ longest_length t
longest-computed t k = eqb-true (longest_of t) (longest_length t) (passed t k).0

pub longest-of-all : (t : ℕ) → is_type t ≡ true → longest_length t ≤ longest_written
longest-of-all t k = leb-true (longest_length t) longest_written (passed t k).1

-- a Logon's is as long
pub longest-logon : longest_length logon_type ≡ longest_written
unfolding longest_lengths longest_length
longest-logon = refl

-- and that is no more than a Length may be
pub longest-fits : longest_written ≤ longest
longest-fits = omega arith
