-- The two recorders over the same lines (document 02, item 11): the plain one of this crate, and the quick one, which is daysheet's session.
use Rattle.std.specs.Prelude.{ℕ, ◌+◌, List, [], ◌∷◌, ◌++◌, ◌≡◌, Some, None}
use Rattle.session.specs.declared.state.Send.TheVariants.{Nothing}
use Rattle.session.specs.declared.state.Session.{Session}
use Rattle.session.specs.declared.state.State.TheVariants as state
use Rattle.session.specs.declared.state.Stepped.{Stepped}
use Rattle.session.specs.Rules.{ruled}
use Rattle.session.specs.State.{unmoved}
use Rattle.sheet.specs.declared.line.Line.{Line}
use Rattle.sheet.specs.Line.{said_of}
use Rattle.sheet.specs.Print.{line_text}
use Rattle.sheet.specs.Sheet.{begun, message_of}
use Rattle.plain.specs.declared.Day.{Day}
use Rattle.plain.specs.declared.Day.TheVariants.{Down, Waiting, Live}
use Rattle.plain.specs.declared.Told.{Told}
use Rattle.plain.specs.Arrivals.{list_after}
use Rattle.plain.specs.Plain.{worked_out}

-- each line on the session that the one before it left
unfoldable pub steps_from : Stepped → List Line → Stepped
steps_from t [] = t
steps_from t (l ∷ ls) = steps_from (ruled t.session (message_of l)) ls

-- what the last of the lines gives on daysheet's session
unfoldable pub quick : List Line → Stepped
quick ls = steps_from (unmoved begun None) ls

-- a day of the plain recorder as a session: every line is for us, and M and the count are 0 unless it is Live
unfoldable pub session_of : Day → Session
session_of (Down e o) = record { state = state.Down; ours = begun.ours; expected = e; own = o; ahead = 0; repeats = 0 }
session_of (Waiting e o) = record { state = state.Waiting; ours = begun.ours; expected = e; own = o; ahead = 0; repeats = 0 }
session_of (Live e o m repeats) = record { state = state.Live; ours = begun.ours; expected = e; own = o; ahead = m; repeats = repeats }

-- E
unfoldable pub expected_in : Day → ℕ
expected_in (Down e o) = e
expected_in (Waiting e o) = e
expected_in (Live e o m repeats) = e

-- the same state in every member, the same row, the same messages to send
pub record Same (p : Told) (q : Stepped) : Type 0 where
  pub session : q.session ≡ session_of p.day
  pub row : q.answer.row ≡ p.row
  pub first : q.answer.first ≡ p.send
  pub second : q.answer.second ≡ Nothing

-- a lent list after these lines have arrived in turn, the first of them behind the first `count`
unfoldable pub list_from : List (List ℕ) → ℕ → List Line → List (List ℕ)
list_from list count [] = list
list_from list count (l ∷ ls) = list_from (list_after list count l) (count + 1) ls

-- every one of these lines of text is good, and they say these
pub data Reads : List (List ℕ) → List Line → Type 0 where
  none : Reads [] []
  next : {b : List ℕ} {bs : List (List ℕ)} {l : Line} {ls : List Line} → said_of b ≡ Some l → Reads bs ls → Reads (b ∷ bs) (l ∷ ls)

-- what the plain recorder prints of lines that follow others, each worked out afresh
unfoldable pub plain_text : List Line → List Line → List ℕ
plain_text before [] = []
plain_text before (l ∷ ls) =
    let t = worked_out (before ++ l ∷ []) in
    line_text t.row (expected_in t.day) t.send ++ plain_text (before ++ l ∷ []) ls
