-- Business in its turn, which most messages of a day are. No rule cites it: that a Live session takes it is a law of the rules, by which a step
-- may answer it early.
use Rattle.std.specs.Prelude.{ℕ, ◌+◌, Bool, cond, ◌&&◌, List, eqb, ltb, Result, Ok, Err}
use Rattle.tables.specs.Types.{lookup_response_type}
use Rattle.message.specs.declared.refusal.Refusal.{Refusal}
use Rattle.message.specs.declared.frame.Header.{Header}
use Rattle.message.specs.declared.read.Reading.{Reading}
use Rattle.session.specs.declared.arrival.Due.{Due}
use Rattle.session.specs.declared.state.Row.TheVariants.{Business}
use Rattle.session.specs.declared.state.Send.TheVariants.{Nothing}
use Rattle.session.specs.declared.state.Session.{Session}
use Rattle.session.specs.declared.state.State.TheVariants.{Live}
use Rattle.session.specs.Arrival.{is_ours}
use Rattle.session.specs.Held.{state_number}
use Rattle.session.specs.State.{last, take}

-- the header of business with the number e, which is not the last
unfoldable pub is_due_header : Header → ℕ → Bool
is_due_header h e = (ltb lookup_response_type h.messagetype && eqb h.number e) && ltb e last

-- of a message of ours its length, 0 for any other
unfoldable pub due_in : Session → List ℕ → Result Reading Refusal → ℕ
due_in s left (Ok x) = cond (is_due_header x.header s.expected && is_ours s.ours left) x.length 0
due_in s left (Err r) = 0

unfoldable pub due_length : Session → List ℕ → Result Reading Refusal → ℕ
due_length s left r = cond (eqb (state_number s.state) (state_number Live)) (due_in s left r) 0

-- the session that has taken it, or as it was, and that length
abbrev pub due_taken : Session → Session
due_taken s = (take s (s.expected + 1) s.own Nothing (Business s.expected)).session

unfoldable pub take_due : Session → List ℕ → Result Reading Refusal → Due
take_due s left r = record { session = cond (eqb (due_length s left r) 0) s (due_taken s); length = due_length s left r }
