-- The printed lines of daysheet (document 01, "Program daysheet").
use Rattle.std.specs.Prelude.{ℕ, List, [], ◌∷◌, ◌++◌}
use Rattle.wire.specs.Spelled.{spelled}
use Rattle.spelt.specs.Spelt.{number_text}
use Rattle.session.specs.declared.state.Row.{Row}
use Rattle.session.specs.declared.state.Row.TheVariants as row
use Rattle.session.specs.declared.state.Send.{Send}
use Rattle.session.specs.declared.state.Send.TheVariants as send
use Rattle.session.specs.declared.state.Stepped.{Stepped}
use Rattle.session.specs.State.{first_of, last_of}

unfoldable pub row_name : Row → List ℕ
row_name row.Nothing = spelled "none"
row_name (row.Business n) = spelled "business"
row_name (row.Session n) = spelled "session"
row_name (row.Filled first final) = spelled "filled"
row_name (row.Reset first final) = spelled "reset"

-- what is sent; the lines of daysheet make no session send a Heartbeat or a gap fill
unfoldable pub send_name : Send → List ℕ
send_name send.Nothing = spelled "none"
send_name (send.Heartbeat n id) = spelled "none"
send_name (send.Logout n) = spelled "logout"
send_name (send.GapFill n new) = spelled "none"
send_name (send.ResendRequest n start end) = spelled "resend"

-- the row, its first and last number, E, and what is sent
unfoldable pub line_text : Row → ℕ → Send → List ℕ
line_text row next send =
    spelled "row=" ++ (row_name row ++ (
    spelled " first=" ++ (number_text (first_of row) ++ (
    spelled " last=" ++ (number_text (last_of row) ++ (
    spelled " next=" ++ (number_text next ++ (
    spelled " out=" ++ (send_name send ++ 10 ∷ [])))))))))

-- of a step
unfoldable pub printed : Stepped → List ℕ
printed t = line_text t.answer.row t.session.expected t.answer.first

-- a line by its number from 1
unfoldable pub counted_text : List ℕ → ℕ → List ℕ
counted_text label k = label ++ (number_text k ++ 10 ∷ [])

-- a bad line
unfoldable pub printed_bad : ℕ → List ℕ
printed_bad k = counted_text (spelled "bad=") k

-- a line that finds the list of the plain recorder full (document 02, item 11): it is refused with 41
unfoldable pub printed_full : ℕ → List ℕ
printed_full k = counted_text (spelled "refused=41 line=") k
