-- Document 02, item 1: many messages in one call. The messages of a lent slice stand back to back, and each is stepped on in turn.
use Rattle.std.specs.Prelude.{Option, Some, None, ℕ, zero, suc, ◌+◌, ◌-◌, ◌*◌, ◌^◌, ◌<◌, Bool, false, cond, ◌&&◌, ◌||◌, ◌≡◌, List, [], ◌∷◌, ◌++◌, map, eqb, leb, ltb, length, drop}
use Rattle.wire.specs.Laying.{laid}
use Rattle.message.specs.Frame.{type_at, front_length}
use Rattle.message.specs.declared.refusal.Refusal.TheVariants.{NoRoom}
use Rattle.message.specs.Refusal.{short, bad_sum}
use Rattle.session.specs.declared.state.Answer.{Answer}
use Rattle.session.specs.declared.state.Fault.{Fault}
use Rattle.session.specs.declared.state.Fault.TheVariants.{Refused, Halted}
use Rattle.session.specs.declared.state.Halt.TheVariants as halt
use Rattle.session.specs.declared.state.Row.{Row}
use Rattle.session.specs.declared.state.Send.{Send}
use Rattle.session.specs.declared.state.Session.{Session}
use Rattle.session.specs.declared.state.State.{State}
use Rattle.session.specs.declared.state.State.TheVariants as state
use Rattle.session.specs.declared.state.Stepped.{Stepped}
use Rattle.calls.specs.declared.Done.{Done}
use Rattle.calls.specs.declared.Ended.{Ended}
use Rattle.calls.specs.declared.Ended.TheVariants.{Short, Down, NoSlot}
use Rattle.calls.specs.declared.SoFar.{SoFar}
use Rattle.calls.specs.declared.Turned.{Turned}
use Rattle.session.specs.Day.{step}
use Rattle.session.specs.Held.{state_number}
use Rattle.session.specs.State.{last, code_number, code_besides, first_of, last_of, row_none, sort_number, send_none, told}

-- a row, where in the slice its message begins, and how long that is
pub record Placed : Type 0 where
  pub row : Row
  pub at : ℕ
  pub size : ℕ

-- a step's row, if it has one, and its messages to send
unfoldable pub row_at : ℕ → ℕ → Row → List Placed
row_at at n r = cond (eqb (sort_number r) row_none) [] (record { row = r; at = at; size = n } ∷ [])

unfoldable pub send_in : Send → List Send
send_in x = cond (eqb (told x).kind send_none) [] (x ∷ [])

unfoldable pub sends_of : Answer → List Send
sends_of a = send_in a.first ++ send_in a.second

-- as the lent lists have them: five numbers a row, four a message to send
abbrev pub a_row : ℕ
a_row = 5

abbrev pub a_send : ℕ
a_send = 4

unfoldable pub row_numbers : List Placed → List ℕ
row_numbers [] = []
row_numbers (w ∷ ws) = sort_number w.row ∷ first_of w.row ∷ last_of w.row ∷ w.at ∷ w.size ∷ row_numbers ws

unfoldable pub send_numbers : List Send → List ℕ
send_numbers [] = []
send_numbers (x ∷ xs) = (told x).kind ∷ (told x).number ∷ (told x).first ∷ (told x).second ∷ send_numbers xs

-- document 02, item 2: a message counts as heard when its checksum holds: any answer but the reader's 1 to 4 (20 makes no difference: only Live is
-- timed)
unfoldable pub is_heard : Option Fault → Bool
is_heard k = eqb (code_number k) 0 || ltb bad_sum (code_number k)

-- what some steps did, whether any heard a message, and what comes after them
pub record Did (A : Type 0) : Type 0 where
  pub session : Session
  pub used : ℕ
  pub rows : List Placed
  pub sends : List Send
  pub heard : Bool
  pub after : A

-- nothing
abbrev pub did : {A : Type 0} → Session → A → Did A
did s after = record { session = s; used = 0; rows = []; sends = []; heard = false; after = after }

-- these, and then those
unfoldable pub joined : {A B : Type 0} → Did A → Did B → Did B
joined x y = record {
  session = y.session;
  used = x.used + y.used;
  rows = x.rows ++ y.rows;
  sends = x.sends ++ y.sends;
  heard = x.heard || y.heard;
  after = y.after;
}

-- after a step: Down ends the call, with the step's code
unfoldable pub next_of : State → Option Fault → Option Ended
next_of p code = cond (eqb (state_number p) (state_number state.Down)) (Some (Down code)) None

-- a step that is done, on the message at place `at` and at the front of what is left of the slice: it uses the message's Length, or no bytes if it
-- met 2 or 3
unfoldable pub step_done : ℕ → List ℕ → Stepped → Did (Option Ended)
step_done at left x = record {
  session = x.session;
  used = front_length left;
  rows = row_at at (front_length left) x.answer.row;
  sends = sends_of x.answer;
  heard = is_heard x.answer.code;
  after = next_of x.session.state x.answer.code;
}

-- row and messages to send fit the r and the q numbers that are free in the lists, and the place is no more than a number can be
unfoldable pub fits : ℕ → ℕ → ℕ → Answer → Bool
fits at r q a = leb at last && leb (length (row_numbers (row_at at 0 a.row))) r && leb (length (send_numbers (sends_of a))) q

-- the bytes that are needed, where a step answered 1
unfoldable pub short_of : Option Fault → Option ℕ
short_of k = cond (eqb (code_number k) short) (Some (code_besides k)) None

-- a turn: 1 ends the call, with the bytes that it needs, and so does a row or a message to send without a free slot, each before the step
unfoldable pub turn_by : ℕ → ℕ → ℕ → Session → List ℕ → Stepped → Did (Option Ended)
turn_by at r q s left x =
    cond (eqb (code_number x.answer.code) short) (did s (Some (Short (code_besides x.answer.code)))) (
    cond (fits at r q x.answer) (step_done at left x)
    (did s (Some NoSlot)))

unfoldable pub turn_of : ℕ → ℕ → ℕ → Session → List ℕ → Did (Option Ended)
turn_of at r q s left = turn_by at r q s left (step s left)

-- nothing yet, with the numbers that are laid into each list counted
abbrev pub nothing : Session → SoFar
nothing s = record { session = s; used = 0; rows = 0; sends = 0; heard = false }

-- these, and then those; each sum has 64 bits
abbrev pub added : SoFar → SoFar → SoFar
added x y = record {
  session = y.session;
  used = x.used + y.used;
  rows = x.rows + y.rows;
  sends = x.sends + y.sends;
  heard = x.heard || y.heard;
}

abbrev pub FitsBoth : SoFar → SoFar → Type 0
FitsBoth x y = (x.used + y.used < 2 ^ 64) × (x.rows + y.rows < 2 ^ 64) × (x.sends + y.sends < 2 ^ 64)

-- a turn, so counted
abbrev pub turned_by : Did (Option Ended) → Turned
turned_by t = record {
  did = record {
    session = t.session;
    used = t.used;
    rows = length (row_numbers t.rows);
    sends = length (send_numbers t.sends);
    heard = t.heard;
  };
  next = t.after;
}

-- what a turn gives, r, and the lists d and e afterwards
abbrev pub LaysTurn : ℕ → Session → List ℕ → List ℕ → List ℕ → Turned → List ℕ → List ℕ → Type 0
LaysTurn at s left d e r d' e' =
    (r ≡ turned_by (turn_of at (length d) (length e) s left))
    × (d' ≡ laid (row_numbers (turn_of at (length d) (length e) s left).rows) d)
    × (e' ≡ laid (send_numbers (turn_of at (length d) (length e) s left).sends) e)

-- a turn, and if the call goes on the turns after it
unfoldable pub and_then : Did (Option Ended) → Option Ended → Did Ended → Did Ended
and_then t None others = joined t others
and_then t (Some why) others = record { session = t.session; used = t.used; rows = t.rows; sends = t.sends; heard = t.heard; after = why }

-- those have what the turn leaves: of the slice, of the lists, and the session
unfoldable pub follow : (ℕ → ℕ → ℕ → Session → List ℕ → Did Ended) → ℕ → ℕ → ℕ → List ℕ → Did (Option Ended) → Did Ended
follow others at r q left t =
    and_then t t.after
    (others (at + t.used) (r - length (row_numbers t.rows)) (q - length (send_numbers t.sends)) t.session (drop t.used left))

-- so many turns at most; where no byte is left, 3 are needed
unfoldable pub turns : ℕ → ℕ → ℕ → ℕ → Session → List ℕ → Did Ended
turns zero at r q s left = did s (Short type_at)
turns (suc k) at r q s left = follow (turns k) at r q left (turn_of at r q s left)

-- a turn that does not end the call uses bytes, so there are no more turns than bytes
unfoldable pub course : ℕ → ℕ → ℕ → Session → List ℕ → Did Ended
course at r q s left = turns (length left) at r q s left

-- refusals, for lists of r and q numbers: 20 first, then 11 where not even one row and two messages to send fit
unfoldable pub has_room : ℕ → ℕ → Bool
has_room r q = leb a_row r && leb (2 * a_send) q

unfoldable pub refusal_in : State → ℕ → ℕ → Option Fault
refusal_in p r q = cond (eqb (state_number p) (state_number state.Down)) (Some (Halted halt.Down)) (cond (has_room r q) None (Some (Refused (NoRoom (a_row + 2 * a_send)))))

-- what a call does: nothing where it is refused
unfoldable pub called_by : Option Fault → Session → List ℕ → ℕ → ℕ → Did Ended
called_by None s bytes r q = course 0 r q s bytes
called_by (Some (Refused x)) s bytes r q = did s NoSlot
called_by (Some (Halted h)) s bytes r q = did s (Down (Some (Halted h)))

unfoldable pub called : Session → List ℕ → ℕ → ℕ → Did Ended
called s bytes r q = called_by (refusal_in s.state r q) s bytes r q

-- the report; with 11 it says the slots that are needed
unfoldable pub slots_by : Option Fault → ℕ → ℕ → ℕ
slots_by None done needed = done
slots_by (Some (Refused x)) done needed = needed
slots_by (Some (Halted h)) done needed = done

abbrev pub reports : Session → Option Fault → ℕ → ℕ → ℕ → Bool → Ended → Done
reports s k used rows sends heard ended = record { session = s; code = k; used = used; rows = rows; sends = sends; heard = heard; ended = ended }

unfoldable pub report_of : Option Fault → Did Ended → Done
report_of k x = reports x.session k x.used (slots_by k (length x.rows) 1) (slots_by k (length x.sends) 2) x.heard x.after

-- a call that is not refused: its report r, and the lists d and e afterwards
abbrev pub LaysRun : Session → List ℕ → List ℕ → List ℕ → Done → List ℕ → List ℕ → Type 0
LaysRun s bytes d e r d' e' =
    (r ≡ report_of None (course 0 (length d) (length e) s bytes))
    × (d' ≡ laid (row_numbers (course 0 (length d) (length e) s bytes).rows) d)
    × (e' ≡ laid (send_numbers (course 0 (length d) (length e) s bytes).sends) e)

unfoldable pub steps : Session → List ℕ → ℕ → ℕ → Done
steps s bytes r q = report_of (refusal_in s.state r q) (called s bytes r q)

-- the lists afterwards
unfoldable pub rows_after : Session → List ℕ → List ℕ → List ℕ → List ℕ
rows_after s bytes rows sends = laid (row_numbers (called s bytes (length rows) (length sends)).rows) rows

unfoldable pub sends_after : Session → List ℕ → List ℕ → List ℕ → List ℕ
sends_after s bytes rows sends = laid (send_numbers (called s bytes (length rows) (length sends)).sends) sends

-- a call: its report r, and the lists d and e afterwards
abbrev pub LaysSteps : Session → List ℕ → List ℕ → List ℕ → Done → List ℕ → List ℕ → Type 0
LaysSteps s bytes d e r d' e' = (r ≡ steps s bytes (length d) (length e)) × (d' ≡ rows_after s bytes d e) × (e' ≡ sends_after s bytes d e)

-- for the laws: single steps in turn, so many, each on what the one before it left
unfoldable pub singles : ℕ → ℕ → Session → List ℕ → Ended → Did Ended
singles zero at s left why = did s why
singles (suc k) at s left why =
    joined (step_done at left (step s left)) (singles k (at + front_length left) (step s left).session (drop (front_length left) left) why)

-- and the same rows for a slice that begins further on
unfoldable pub further_rows : ℕ → List Placed → List Placed
further_rows n = map (λ (w : Placed). record { row = w.row; at = n + w.at; size = w.size })

unfoldable pub further : {A : Type 0} → ℕ → Did A → Did A
further n x = record { session = x.session; used = x.used; rows = further_rows n x.rows; sends = x.sends; heard = x.heard; after = x.after }
