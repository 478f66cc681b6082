-- `fields::words::required_word` meets its contract: each arm has passed the test.
use mathlib.Core.Path.{sym, subst}
use Prim.Native.Nat.{ℕ}
use Rattle.tables.specs.Line.{row_at, is_required}
use Rattle.tables.specs.Reports.{reports, add_line, column, nine_tables, not_required, joined, union_at}
use Rattle.tables.specs.Tables.{heartbeat, test_request, resend_request, reject, sequence_reset, logon, logout, lookup_request, lookup_response, business_message_reject, tables_of, row_of}
use Rattle.fields.specs.Words.{required_by}
use Rattle.fields.specs.Words.{Holds}
use Rattle.fields.proofs.WordLaws.{holds, every-bit}
use Rattle.fields.proofs.words.required_word.Goals as goal

pub returns-in-0 : goal.returns-in-0
unfolding required_by row_of tables_of union_at joined row_at is_required heartbeat
returns-in-0 c = subst (λ (k : ℕ). Holds (required_by (row_of k)) 0x0000000000000000) (sym c.in-0.is) (holds (required_by (row_of 0)) 0x0000000000000000 tt)

pub returns-in-1 : goal.returns-in-1
unfolding required_by row_of tables_of union_at joined row_at is_required test_request
returns-in-1 c = subst (λ (k : ℕ). Holds (required_by (row_of k)) 0x0000000000000080) (sym c.in-1.is) (holds (required_by (row_of 1)) 0x0000000000000080 tt)

pub returns-in-2 : goal.returns-in-2
unfolding required_by row_of tables_of union_at joined row_at is_required resend_request
returns-in-2 c = subst (λ (k : ℕ). Holds (required_by (row_of k)) 0x00000000000000C0) (sym c.in-2.is) (holds (required_by (row_of 2)) 0x00000000000000C0 tt)

pub returns-in-3 : goal.returns-in-3
unfolding required_by row_of tables_of union_at joined row_at is_required reject
returns-in-3 c = subst (λ (k : ℕ). Holds (required_by (row_of k)) 0x0000000000000088) (sym c.in-3.is) (holds (required_by (row_of 3)) 0x0000000000000088 tt)

pub returns-in-4 : goal.returns-in-4
unfolding required_by row_of tables_of union_at joined row_at is_required sequence_reset
returns-in-4 c = subst (λ (k : ℕ). Holds (required_by (row_of k)) 0x0000000000000040) (sym c.in-4.is) (holds (required_by (row_of 4)) 0x0000000000000040 tt)

pub returns-in-5 : goal.returns-in-5
unfolding required_by row_of tables_of union_at joined row_at is_required logon
returns-in-5 c = subst (λ (k : ℕ). Holds (required_by (row_of k)) 0x0000000000000020) (sym c.in-5.is) (holds (required_by (row_of 5)) 0x0000000000000020 tt)

pub returns-in-6 : goal.returns-in-6
unfolding required_by row_of tables_of union_at joined row_at is_required logout
returns-in-6 c = subst (λ (k : ℕ). Holds (required_by (row_of k)) 0x0000000000000000) (sym c.in-6.is) (holds (required_by (row_of 6)) 0x0000000000000000 tt)

pub returns-in-7 : goal.returns-in-7
unfolding required_by row_of tables_of union_at joined row_at is_required lookup_request
returns-in-7 c = subst (λ (k : ℕ). Holds (required_by (row_of k)) 0x00000000000000C0) (sym c.in-7.is) (holds (required_by (row_of 7)) 0x00000000000000C0 tt)

pub returns-in-8 : goal.returns-in-8
unfolding required_by row_of tables_of union_at joined row_at is_required lookup_response
returns-in-8 c = subst (λ (k : ℕ). Holds (required_by (row_of k)) 0x0000000000000080) (sym c.in-8.is) (holds (required_by (row_of 8)) 0x0000000000000080 tt)

pub returns-in-9 : goal.returns-in-9
unfolding required_by row_of tables_of union_at joined row_at is_required business_message_reject
returns-in-9 c = subst (λ (k : ℕ). Holds (required_by (row_of k)) 0x00000000000000A0) (sym c.in-9.is) (holds (required_by (row_of 9)) 0x00000000000000A0 tt)

pub returns-in-10 : goal.returns-in-10
unfolding required_by row_of tables_of union_at joined row_at is_required nine_tables reports add_line column not_required
returns-in-10 c = subst (λ (k : ℕ). Holds (required_by (row_of k)) 0x00000004C0074073) (sym c.in-10.is) (holds (required_by (row_of 10)) 0x00000004C0074073 tt)

pub returns-in_default : goal.returns-in_default
returns-in_default c = every-bit (required_by (row_of c.args.messagetype))
