-- Daysheet over lent bytes: every whole line read, the session stepped with what it says, and the answer printed.
use Rattle.std.specs.Prelude.{ℕ, zero, suc, ◌+◌, ◌-◌, true, cond, List, [], ◌∷◌, ◌++◌, eqb, leb, ltb, length, take, drop, Option, Some, None}
use Rattle.wire.specs.Spelled.{spelled}
use Rattle.spelt.specs.Lines.{line_length}
use Rattle.session.specs.declared.arrival.Content.{Content}
use Rattle.session.specs.declared.arrival.Content.TheVariants as content
use Rattle.session.specs.declared.arrival.Message.{Message}
use Rattle.session.specs.declared.state.Session.{Session}
use Rattle.session.specs.Day.{fresh, connect}
use Rattle.session.specs.Rules.{ruled}
use Rattle.sheet.specs.declared.line.Kind.{Kind}
use Rattle.sheet.specs.declared.line.Kind.TheVariants.{Logon, Business, GapFill, Reset}
use Rattle.sheet.specs.declared.line.Line.{Line}
use Rattle.sheet.specs.declared.sheet.End.{End}
use Rattle.sheet.specs.declared.sheet.End.TheVariants.{NoLine, NoRoom, BadLine}
use Rattle.sheet.specs.declared.sheet.Taken.{Taken}
use Rattle.sheet.specs.Line.{said_of}
use Rattle.sheet.specs.Print.{printed, printed_bad}

-- a Waiting session with E = 1 and O = 2: a fresh day that has connected. Every line is for it, so its Comp ID, a '-', is not looked at
unfoldable pub begun : Session
begun = (connect (fresh (spelled "-")).session []).session

-- a logon's Next Expected is 2
unfoldable pub content_of : Kind → ℕ → Content
content_of Logon new = content.Logon 2
content_of Business new = content.Business
content_of GapFill new = content.GapFill new
content_of Reset new = content.Reset new

unfoldable pub message_of : Line → Message
message_of l = record { number = l.n; possdup = eqb l.dup 1; ours = true; content = content_of l.kind l.new }

-- the whole lines of some bytes, without their ends; at most so many
unfoldable pub lines_of : ℕ → List ℕ → List (List ℕ)
lines_of zero s = []
lines_of (suc k) s = cond (ltb (line_length s) (length s)) (take (line_length s) s ∷ lines_of k (drop (line_length s + 1) s)) []

-- the lines are counted from 1; the count stays at its last 64-bit number
unfoldable pub next_count : ℕ → ℕ
next_count k = cond (ltb k 18446744073709551615) (k + 1) k

-- what was printed, and how it ended: the session after the lines that were taken, the number of the next line, the bytes used and written
pub record Sheet : Type 0 where
  pub text : List ℕ
  pub taken : Taken

unfoldable pub ended : Session → ℕ → End → Sheet
ended s k end = record { text = []; taken = record { session = s; count = k; used = 0; written = 0; end = end } }

-- one line before the others
unfoldable pub followed : List ℕ → List ℕ → Sheet → Sheet
followed line text rest = record {
  text = text ++ rest.text;
  taken = record {
    session = rest.taken.session;
    count = rest.taken.count;
    used = length line + 1 + rest.taken.used;
    written = length text + rest.taken.written;
    end = rest.taken.end;
  };
}

-- a line that would print more than there is room for ends it before that line; a bad line is printed by its number and ends it
unfoldable pub line_said : (ℕ → Session → ℕ → Sheet) → ℕ → Session → ℕ → List ℕ → Option Line → Sheet
line_said rest room s k line (Some l) =
    cond (leb (length (printed (ruled s (message_of l)))) room)
    (followed line (printed (ruled s (message_of l))) (rest (room - length (printed (ruled s (message_of l)))) (ruled s (message_of l)).session (next_count k)))
    (ended s k NoRoom)
line_said rest room s k line None =
    cond (leb (length (printed_bad k)) room) (followed line (printed_bad k) (ended s k BadLine))
    (ended s k NoRoom)

unfoldable pub sheet_from : List (List ℕ) → ℕ → Session → ℕ → Sheet
sheet_from [] room s k = ended s k NoLine
sheet_from (l ∷ ls) room s k = line_said (sheet_from ls) room s k l (said_of l)

-- of all whole lines of the bytes, into a buffer of `room`, from line number k on
unfoldable pub sheet_of : ℕ → Session → ℕ → List ℕ → Sheet
sheet_of room s k bytes = sheet_from (lines_of (length bytes) bytes) room s k
