-- A session told in numbers (docs/DECISIONS.md, 27 and 64): which numbers are taken in (document 01, "The session").
use Rattle.std.specs.Prelude.{ℕ, ◌+◌, Bool, true, false, cond, ◌&&◌, List, [], ◌∷◌, eqb, leb, length, drop, Some, None}
use Rattle.wire.specs.declared.text.Allowed.TheVariants.{Ascii}
use Rattle.wire.specs.Text.{fixed_part}
use Rattle.message.specs.Frame.{comp_id_bytes}
use Rattle.message.specs.Vet.{good_comp_id}
use Rattle.session.specs.declared.day.Made.{Made}
use Rattle.session.specs.declared.state.Fault.TheVariants.{Halted}
use Rattle.session.specs.declared.state.Halt.TheVariants.{NotASession}
use Rattle.session.specs.declared.state.State.{State}
use Rattle.session.specs.declared.state.State.TheVariants.{Down, Waiting, Live}
use Rattle.session.specs.Day.{not_made}
use Rattle.session.specs.State.{most_repeats, least_asked}

-- the states' numbers, and back; a number above Live's is refused
abbrev pub state_number : State → ℕ
state_number Down = 0
state_number Waiting = 1
state_number Live = 2

unfoldable pub state_at : ℕ → State
state_at n = cond (eqb n (state_number Down)) Down (cond (eqb n (state_number Waiting)) Waiting Live)

unfoldable pub all_zero : List ℕ → Bool
all_zero [] = true
all_zero (b ∷ bs) = cond (eqb b 0) (all_zero bs) false

-- a good Comp ID, and zeros after it
unfoldable pub is_plain_comp_id : List ℕ → Bool
is_plain_comp_id ours = cond (good_comp_id (fixed_part Ascii comp_id_bytes ours)) (all_zero (drop (length (fixed_part Ascii comp_id_bytes ours)) ours)) false

-- Connect's Logon has used up our number 1
unfoldable pub least_own : ℕ → ℕ
least_own state = cond (eqb state (state_number Down)) 1 2

-- M is 0, and the count with it; or the session is Live, M is not below E and above 1, since it was above an E of 1 or more, the count is at most 2,
-- and O is 3 or more above the count, since each repeat has used up a number too
unfoldable pub is_ahead : ℕ → ℕ → ℕ → ℕ → ℕ → Bool
is_ahead state e o m repeats =
    cond (eqb m 0) (eqb repeats 0)
    (eqb state (state_number Live) && leb 2 m && leb e m && leb repeats most_repeats && leb (repeats + least_asked) o)

-- whether these numbers are taken in: those that some day has, and besides them a count that no rule looks at (docs/DECISIONS.md, 64)
unfoldable pub is_held : ℕ → List ℕ → ℕ → ℕ → ℕ → ℕ → Bool
is_held state ours e o m repeats =
    leb state (state_number Live) && is_plain_comp_id ours && leb 1 e && leb (least_own state) o && is_ahead state e o m repeats

-- it is taken in, and any other refused with 90
unfoldable pub held : ℕ → List ℕ → ℕ → ℕ → ℕ → ℕ → Made
held state ours e o m repeats =
    cond (is_held state ours e o m repeats)
    (record { code = None; session = record { state = state_at state; ours = ours; expected = e; own = o; ahead = m; repeats = repeats } })
    (not_made (Some (Halted NotASession)))
