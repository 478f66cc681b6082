-- The message types of 004 sections 7.6, 7.7, 7.8 and 7.11.
use Rattle.std.specs.Prelude.{ℕ}

abbrev pub heartbeat_type : ℕ
heartbeat_type = 0

abbrev pub test_request_type : ℕ
test_request_type = 1

abbrev pub resend_request_type : ℕ
resend_request_type = 2

abbrev pub reject_type : ℕ
reject_type = 3

abbrev pub sequence_reset_type : ℕ
sequence_reset_type = 4

abbrev pub logon_type : ℕ
logon_type = 5

abbrev pub logout_type : ℕ
logout_type = 6

abbrev pub lookup_request_type : ℕ
lookup_request_type = 7

abbrev pub lookup_response_type : ℕ
lookup_response_type = 8

abbrev pub business_message_reject_type : ℕ
business_message_reject_type = 9

abbrev pub execution_report_type : ℕ
execution_report_type = 10
