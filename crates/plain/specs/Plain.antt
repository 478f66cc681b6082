-- The plain recorder (document 02, item 11): document 01's rules of the session for daysheet's lines. They are of four kinds, all with our Comp ID and none
-- a Logout, so that 1 and 5 have no place here. E is the number expected next, O our next number, M the number ahead that made us ask, 0 for none, and
-- `repeats` the count of document 02, item 3.
use Rattle.std.specs.Prelude.{ℕ, ◌+◌, ◌-◌, cond, List, [], ◌∷◌, eqb, ltb}
use Rattle.session.specs.declared.state.Row.{Row}
use Rattle.session.specs.declared.state.Row.TheVariants as row
use Rattle.session.specs.declared.state.Send.{Send}
use Rattle.session.specs.declared.state.Send.TheVariants as send
use Rattle.sheet.specs.declared.line.Kind.{Kind}
use Rattle.sheet.specs.declared.line.Kind.TheVariants.{Logon, Business, GapFill, Reset}
use Rattle.sheet.specs.declared.line.Line.{Line}
use Rattle.plain.specs.declared.Day.{Day}
use Rattle.plain.specs.declared.Day.TheVariants.{Down, Waiting, Live}
use Rattle.plain.specs.declared.Told.{Told}

-- the last number, which no message of ours bears
abbrev pub last : ℕ
last = 4294967295

-- document 02, item 3: two repeats are asked at the same E
abbrev pub most_repeats : ℕ
most_repeats = 2

-- the day after a line, and the answer to it: what is sent, and the row
abbrev pub tells : Day → Send → Row → Told
tells d send row = record { day = d; send = send; row = row }

-- nothing is sent, and there is no row
abbrev pub still : Day → Told
still d = tells d send.Nothing row.Nothing

-- Stop: a Logout is sent if O is below the last number, the state is Down, E stays, no row
unfoldable pub stop : ℕ → ℕ → Told
stop e o = cond (ltb o last) (tells (Down e (o + 1)) (send.Logout o) row.Nothing) (still (Down e o))

-- a row makes E new. M becomes 0 whenever E exceeds it, and the count whenever E changes
unfoldable pub makes : ℕ → ℕ → ℕ → Row → Told
makes o m new row = tells (Live new o (cond (ltb m new) 0 m) 0) send.Nothing row

-- 2. Waiting, a logon: n < E is Stop(30); n = E = last is Stop(36). Otherwise Live; n = E takes it, n > E takes nothing and asks nothing. Its Next
-- Expected is 2, as O is then: so there is no Stop(35), and no gap fill to send
unfoldable pub logon : ℕ → ℕ → ℕ → Told
logon e o n =
    cond (ltb n e) (stop e o) (
    cond (ltb e n) (still (Live e o 0 0)) (
    cond (eqb n last) (stop e o)
    (makes o 0 (n + 1) (row.Session n))))

-- 2. Waiting: other types are Stop(32)
unfoldable pub waiting : ℕ → ℕ → Kind → ℕ → Told
waiting e o Logon n = logon e o n
waiting e o Business n = stop e o
waiting e o GapFill n = stop e o
waiting e o Reset n = stop e o

-- 4. a reset, whose n is ignored: New below E is Stop(33); else E = New, with a reset row from the old E to New - 1 if E rose
unfoldable pub reset : ℕ → ℕ → ℕ → ℕ → ℕ → Told
reset e o m repeats new =
    cond (ltb new e) (stop e o) (
    cond (ltb e new) (makes o m new (row.Reset e (new - 1)))
    (still (Live e o m repeats)))

-- 6. n < E: with PossDup 1 ignored, else Stop(30)
unfoldable pub lower : ℕ → ℕ → ℕ → ℕ → ℕ → Told
lower e o m repeats dup = cond (eqb dup 1) (still (Live e o m repeats)) (stop e o)

-- 7. a Resend Request from E to 0 (all), with which M is m. While O is the last number it is 22 instead: Down, nothing sent, no row
unfoldable pub ask : ℕ → ℕ → ℕ → ℕ → Told
ask e o m repeats = cond (eqb o last) (still (Down e o)) (tells (Live e (o + 1) m repeats) (send.ResendRequest o e 0) row.Nothing)

-- 7. n > E: if M = 0, a Resend Request is sent and M = n. While M stands, PossDup 0 asks nothing, and PossDup 1 asks again from E, M staying: two such
-- repeats are asked at the same E, and the third is Stop(37)
unfoldable pub higher : ℕ → ℕ → ℕ → ℕ → ℕ → ℕ → Told
higher e o m repeats n dup =
    cond (eqb m 0) (ask e o n 0) (
    cond (eqb dup 1) (cond (ltb repeats most_repeats) (ask e o m (repeats + 1)) (stop e o))
    (still (Live e o m repeats)))

-- 9. n = E, a gap fill: New above n, else Stop(33); filled row n to New - 1, E = New
unfoldable pub gap_fill : ℕ → ℕ → ℕ → ℕ → ℕ → Told
gap_fill e o m n new = cond (ltb n new) (makes o m new (row.Filled n (new - 1))) (stop e o)

-- 6 to 9, `equal` being what 9 says; 8. n = E = last: Stop(36)
unfoldable pub numbered : ℕ → ℕ → ℕ → ℕ → ℕ → ℕ → Told → Told
numbered e o m repeats n dup equal =
    cond (ltb n e) (lower e o m repeats dup) (
    cond (ltb e n) (higher e o m repeats n dup) (
    cond (eqb n last) (stop e o)
    equal))

-- 3 to 9; 3. Live, a logon: Stop(32)
unfoldable pub live : ℕ → ℕ → ℕ → ℕ → Kind → ℕ → ℕ → ℕ → Told
live e o m repeats Logon n dup new = stop e o
live e o m repeats Business n dup new = numbered e o m repeats n dup (makes o m (n + 1) (row.Business n))
live e o m repeats GapFill n dup new = numbered e o m repeats n dup (gap_fill e o m n new)
live e o m repeats Reset n dup new = reset e o m repeats new

-- Down answers 20; then 2 to 9
unfoldable pub ruled : Day → Line → Told
ruled (Down e o) l = still (Down e o)
ruled (Waiting e o) l = waiting e o l.kind l.n
ruled (Live e o m repeats) l = live e o m repeats l.kind l.n l.dup l.new

-- each line on the day that the one before it left
unfoldable pub follows : Told → List Line → Told
follows t [] = t
follows t (l ∷ ls) = follows (ruled t.day l) ls

-- what the last of the lines gives, afresh from the start: a Waiting session with E = 1 and O = 2
unfoldable pub worked_out : List Line → Told
worked_out ls = follows (still (Waiting 1 2)) ls
