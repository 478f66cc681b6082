-- `fields::words::unknown_word` meets its contract: each arm has passed the test.
use mathlib.Core.Path.{sym, subst}
use Prim.Native.Nat.{ℕ}
use Rattle.tables.specs.Line.{row_at, is_known, is_required}
use Rattle.tables.specs.Reports.{reports, add_line, column, nine_tables, not_required, joined, union_at}
use Rattle.tables.specs.Tables.{heartbeat, test_request, resend_request, reject, sequence_reset, logon, logout, lookup_request, lookup_response, business_message_reject, tables_of, row_of}
use Rattle.fields.specs.Sets.{unknown_to}
use Rattle.fields.specs.Words.{Holds}
use Rattle.fields.proofs.WordLaws.{holds, every-bit}
use Rattle.fields.proofs.words.unknown_word.Goals as goal

pub returns-in-0 : goal.returns-in-0
unfolding unknown_to row_of tables_of union_at joined row_at is_known heartbeat
returns-in-0 c = subst (λ (k : ℕ). Holds (unknown_to (row_of k)) 0xFFFFFFFFFFFFFF7F) (sym c.in-0.is) (holds (unknown_to (row_of 0)) 0xFFFFFFFFFFFFFF7F tt)

pub returns-in-1 : goal.returns-in-1
unfolding unknown_to row_of tables_of union_at joined row_at is_known test_request
returns-in-1 c = subst (λ (k : ℕ). Holds (unknown_to (row_of k)) 0xFFFFFFFFFFFFFF7F) (sym c.in-1.is) (holds (unknown_to (row_of 1)) 0xFFFFFFFFFFFFFF7F tt)

pub returns-in-2 : goal.returns-in-2
unfolding unknown_to row_of tables_of union_at joined row_at is_known resend_request
returns-in-2 c = subst (λ (k : ℕ). Holds (unknown_to (row_of k)) 0xFFFFFFFFFFFFFF3F) (sym c.in-2.is) (holds (unknown_to (row_of 2)) 0xFFFFFFFFFFFFFF3F tt)

pub returns-in-3 : goal.returns-in-3
unfolding unknown_to row_of tables_of union_at joined row_at is_known reject
returns-in-3 c = subst (λ (k : ℕ). Holds (unknown_to (row_of k)) 0xFFFFFFFFFFFFFF03) (sym c.in-3.is) (holds (unknown_to (row_of 3)) 0xFFFFFFFFFFFFFF03 tt)

pub returns-in-4 : goal.returns-in-4
unfolding unknown_to row_of tables_of union_at joined row_at is_known sequence_reset
returns-in-4 c = subst (λ (k : ℕ). Holds (unknown_to (row_of k)) 0xFFFFFFFFFFFFFF3F) (sym c.in-4.is) (holds (unknown_to (row_of 4)) 0xFFFFFFFFFFFFFF3F tt)

pub returns-in-5 : goal.returns-in-5
unfolding unknown_to row_of tables_of union_at joined row_at is_known logon
returns-in-5 c = subst (λ (k : ℕ). Holds (unknown_to (row_of k)) 0xFFFFFFFFFFFFFF03) (sym c.in-5.is) (holds (unknown_to (row_of 5)) 0xFFFFFFFFFFFFFF03 tt)

pub returns-in-6 : goal.returns-in-6
unfolding unknown_to row_of tables_of union_at joined row_at is_known logout
returns-in-6 c = subst (λ (k : ℕ). Holds (unknown_to (row_of k)) 0xFFFFFFFFFFFFFF3F) (sym c.in-6.is) (holds (unknown_to (row_of 6)) 0xFFFFFFFFFFFFFF3F tt)

pub returns-in-7 : goal.returns-in-7
unfolding unknown_to row_of tables_of union_at joined row_at is_known lookup_request
returns-in-7 c = subst (λ (k : ℕ). Holds (unknown_to (row_of k)) 0xFFFFFFFFFFFFFF3F) (sym c.in-7.is) (holds (unknown_to (row_of 7)) 0xFFFFFFFFFFFFFF3F tt)

pub returns-in-8 : goal.returns-in-8
unfolding unknown_to row_of tables_of union_at joined row_at is_known lookup_response
returns-in-8 c = subst (λ (k : ℕ). Holds (unknown_to (row_of k)) 0xFFFFFFFFFFFFFF01) (sym c.in-8.is) (holds (unknown_to (row_of 8)) 0xFFFFFFFFFFFFFF01 tt)

pub returns-in-9 : goal.returns-in-9
unfolding unknown_to row_of tables_of union_at joined row_at is_known business_message_reject
returns-in-9 c = subst (λ (k : ℕ). Holds (unknown_to (row_of k)) 0xFFFFFFFFFFFFFF03) (sym c.in-9.is) (holds (unknown_to (row_of 9)) 0xFFFFFFFFFFFFFF03 tt)

pub returns-in-10 : goal.returns-in-10
unfolding unknown_to row_of tables_of union_at joined row_at is_known nine_tables reports add_line column not_required is_required
returns-in-10 c = subst (λ (k : ℕ). Holds (unknown_to (row_of k)) 0xFFFFCF0824002000) (sym c.in-10.is) (holds (unknown_to (row_of 10)) 0xFFFFCF0824002000 tt)

pub returns-in_default : goal.returns-in_default
returns-in_default c = every-bit (unknown_to (row_of c.args.messagetype))
