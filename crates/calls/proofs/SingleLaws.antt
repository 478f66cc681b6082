-- A call of many messages is single steps in turn. `Runs` says step by step what a call does; what it says is the definition's course, and laws of a
-- call go by its steps. So a call does what so many single steps do; it leaves the session Down exactly where it ends so; and it neither uses more
-- bytes than there are nor takes more numbers than are free.
use Rattle.std.specs.Prelude.{Option}
use Prim.Native.Nat.{ℕ, zero, suc, ◌+◌, ◌-◌, ◌≤◌}
use mathlib.Core.Path.{◌≡◌, refl, sym, ap, subst, ◌∙◌}
use mathlib.Core.Bool.{or-false}
use mathlib.Core.List.{List, [], ◌++◌, append-nil}
use native.Mathlib.Omega.{arith}
use lib.ListN.{length, drop, length-append, length-drop}
use Rattle.message.specs.Frame.{front_length}
use Rattle.session.specs.declared.state.Fault.{Fault}
use Rattle.session.specs.declared.state.Row.{Row}
use Rattle.session.specs.declared.state.Send.{Send}
use Rattle.session.specs.declared.state.Session.{Session}
use Rattle.session.specs.declared.state.State.{State}
use Rattle.session.specs.declared.state.State.TheVariants as state
use Rattle.calls.specs.declared.Ended.{Ended}
use Rattle.calls.specs.declared.Ended.TheVariants.{Short, Down, NoSlot}
use Rattle.session.specs.State.{code_number, code_besides}
use Rattle.session.specs.Day.{step}
use Rattle.calls.specs.Steps.{
  Placed,
  row_at,
  sends_of,
  row_numbers,
  send_numbers,
  Did,
  did,
  joined,
  next_of,
  step_done,
  turn_of,
  and_then,
  follow,
  course,
  singles,
}
use Rattle.session.proofs.StepLaws.{front-within, step-uses}
use Rattle.calls.proofs.CourseLaws.{
  numbers-rows,
  numbers-sends,
  Turning,
  short as too_short,
  full as no_slot,
  done,
  row_room,
  Fits,
  turning,
  short-turn,
  full-turn,
  done-turn,
  up_next,
  course-turn,
}

-- the numbers of rows and those of messages to send, counted
pub rows_both : (xs ys : List Placed) → length (row_numbers (xs ++ ys)) ≡ length (row_numbers xs) + length (row_numbers ys)
rows_both xs ys = ap length (numbers-rows xs ys) ∙ length-append (row_numbers xs) (row_numbers ys)

pub sends-both : (xs ys : List Send) → length (send_numbers (xs ++ ys)) ≡ length (send_numbers xs) + length (send_numbers ys)
sends-both xs ys = ap length (numbers-sends xs ys) ∙ length-append (send_numbers xs) (send_numbers ys)

-- a step that a call does: the session is not Down, the bytes are not too few, and what it hands back finds its slots
pub record Does (at r q : ℕ) (s : Session) (left : List ℕ) : Type 0 where
  pub up : s.state ≡ state.Down → ⊥
  pub long : code_number (step s left).answer.code ≡ 1 → ⊥
  pub room : Fits at r q (step s left).answer

-- x is what a call does, step by step: on the bytes `left`, the first of which stands at place `at`, with r and q numbers free in its lists
pub data Runs : ℕ → ℕ → ℕ → Session → List ℕ → Did Ended → Type 0 where
  short : {at r q : ℕ} {s : Session} {left : List ℕ} → (s.state ≡ state.Down → ⊥) → code_number (step s left).answer.code ≡ 1
      → Runs at r q s left (did s (Short (code_besides (step s left).answer.code)))
  full : {at r q : ℕ} {s : Session} {left : List ℕ} → (s.state ≡ state.Down → ⊥) → (code_number (step s left).answer.code ≡ 1 → ⊥)
      → (Fits at r q (step s left).answer → ⊥) → Runs at r q s left (did s NoSlot)
  down : {at r q : ℕ} {s : Session} {left : List ℕ} → Does at r q s left → (step s left).session.state ≡ state.Down
      → Runs at r q s left (joined (step_done at left (step s left)) (did (step s left).session (Down (step s left).answer.code)))
  on : {at r q : ℕ} {s : Session} {left : List ℕ} {y : Did Ended} → Does at r q s left → ((step s left).session.state ≡ state.Down → ⊥)
      → Runs (at + front_length left) (r - length (row_numbers (row_at at (front_length left) (step s left).answer.row)))
      (q - length (send_numbers (sends_of (step s left).answer))) (step s left).session (drop (front_length left) left) y
      → Runs at r q s left (joined (step_done at left (step s left)) y)

-- some steps, and then nothing
joined-nothing : {A B : Type 0} (x : Did A) (why : B)
    → joined x (did x.session why) ≡ record { session = x.session; used = x.used; rows = x.rows; sends = x.sends; heard = x.heard; after = why }
unfolding joined
joined-nothing x why =
    let e : x.used + 0 ≡ x.used = omega arith in
    rw (e, append-nil x.rows, append-nil x.sends, or-false x.heard)

-- the course of what a step leaves
module _ (at r q : ℕ) (s : Session) (left : List ℕ) where
  abbrev rest : Did Ended
  rest =
      course (at + front_length left) (r - length (row_numbers (row_at at (front_length left) (step s left).answer.row)))
      (q - length (send_numbers (sends_of (step s left).answer))) (step s left).session (drop (front_length left) left)

module _ (at r q : ℕ) (s : Session) (left : List ℕ) (up : s.state ≡ state.Down → ⊥) where
  -- a course begins so, where the rest of it is as `Runs` says
  begins : (((step s left).session.state ≡ state.Down → ⊥) → 58 ≤ front_length left
      → Runs (at + front_length left) (r - length (row_numbers (row_at at (front_length left) (step s left).answer.row)))
      (q - length (send_numbers (sends_of (step s left).answer))) (step s left).session (drop (front_length left) left) (rest at r q s left))
      → Runs at r q s left (course at r q s left)
  unfolding follow and_then step_done next_of
  begins others =
      subst (Runs at r q s left) (sym (course-turn at r q s left up)) (go (turn_of at r q s left) (turning at r q s left))
    where
      goes : Does at r q s left → ((step s left).session.state ≡ state.Down → ⊥)
          → Runs at r q s left (joined (step_done at left (step s left)) (rest at r q s left))
      goes d u = on d u (others u (step-uses s left up d.long u))

      next : Does at r q s left → (p : State) → (step s left).session.state ≡ p
          → Runs at r q s left (and_then (step_done at left (step s left)) (next_of p (step s left).answer.code) (rest at r q s left))
      next d state.Down e = subst (Runs at r q s left) (joined-nothing (step_done at left (step s left)) (Down (step s left).answer.code)) (down d e)
      next d state.Waiting e = goes d (λ f. let z : ◌≡◌ {A = ℕ} 0 1 = cc in omega arith)
      next d state.Live e = goes d (λ f. let z : ◌≡◌ {A = ℕ} 0 1 = cc in omega arith)

      go : (t : Did (Option Ended)) → Turning at r q s left t → Runs at r q s left (follow course at r q left t)
      go t (too_short c) = short up c
      go t (no_slot l f) = full up l f
      go t (done l f) = next (record { up = up; long = l; room = f }) (step s left).session.state refl

runs_by : (k at r q : ℕ) (s : Session) (left : List ℕ) → (s.state ≡ state.Down → ⊥) → length left ≤ k → Runs at r q s left (course at r q s left)
runs_by zero at r q s left up l = begins at r q s left up (λ u n. absurd (omega (arith, front-within left)))
runs_by (suc k) at r q s left up l =
    begins at r q s left up
    (λ u n. runs_by k _ _ _ (step s left).session (drop (front_length left) left) u (omega (arith, length-drop (front_length left) left)))

-- what a call does is its course
pub course-runs : (at r q : ℕ) (s : Session) (left : List ℕ) → (s.state ≡ state.Down → ⊥) → Runs at r q s left (course at r q s left)
course-runs at r q s left up = runs_by (length left) at r q s left up (omega arith)

-- and nothing else
pub runs-course : {at r q : ℕ} {s : Session} {left : List ℕ} {x : Did Ended} → Runs at r q s left x → course at r q s left ≡ x
unfolding follow and_then step_done next_of
runs-course {at = at} {r = r} {q = q} {s = s} {left = left} (short up c) =
    course-turn at r q s left up ∙ ap (follow course at r q left) (short-turn at r q s left c)
runs-course {at = at} {r = r} {q = q} {s = s} {left = left} (full up l f) =
    course-turn at r q s left up ∙ ap (follow course at r q left) (full-turn at r q s left l f)
runs-course {at = at} {r = r} {q = q} {s = s} {left = left} (down d e) =
    course-turn at r q s left d.up
    ∙ ap (follow course at r q left) (done-turn at r q s left d.long d.room)
    ∙ ap (λ (p : State). and_then (step_done at left (step s left)) (next_of p (step s left).answer.code) (rest at r q s left)) e
    ∙ sym (joined-nothing (step_done at left (step s left)) (Down (step s left).answer.code))
runs-course {at = at} {r = r} {q = q} {s = s} {left = left} (on d u c) =
    course-turn at r q s left d.up
    ∙ ap (follow course at r q left) (done-turn at r q s left d.long d.room)
    ∙ ap (λ (n : Option Ended). and_then (step_done at left (step s left)) n (rest at r q s left))
    (up_next (step s left).session.state (step s left).answer.code u)
    ∙ ap (joined (step_done at left (step s left))) (runs-course c)

-- so many single steps
pub record Singles (at : ℕ) (s : Session) (left : List ℕ) (x : Did Ended) : Type 0 where
  pub count : ℕ
  pub same : x ≡ singles count at s left x.after

runs-singles : {at r q : ℕ} {s : Session} {left : List ℕ} {x : Did Ended} → Runs at r q s left x → Singles at s left x
unfolding singles joined
runs-singles (short up c) = record { count = 0; same = refl }
runs-singles (full up l f) = record { count = 0; same = refl }
runs-singles (down d e) = record { count = 1; same = refl }
runs-singles {at = at} {s = s} {left = left} (on d u c) =
    let i = runs-singles c in
    record { count = suc i.count; same = ap (joined (step_done at left (step s left))) i.same }

-- where the session is Down, and where it is not
runs-down : {at r q : ℕ} {s : Session} {left : List ℕ} {x : Did Ended} → Runs at r q s left x → x.session.state ≡ state.Down
    → (k : Option Fault) × (x.after ≡ Down k)
unfolding joined
runs-down (short up c) h = absurd (up h)
runs-down (full up l f) h = absurd (up h)
runs-down {s = s} {left = left} (down d e) h = ((step s left).answer.code, refl)
runs-down (on d u c) h = runs-down c h

runs-ended : {at r q : ℕ} {s : Session} {left : List ℕ} {x : Did Ended} → Runs at r q s left x → (k : Option Fault) → x.after ≡ Down k
    → x.session.state ≡ state.Down
unfolding joined
runs-ended (short up c) k h = let z : ◌≡◌ {A = ℕ} 0 1 = cc in absurd (omega arith)
runs-ended (full up l f) k h = let z : ◌≡◌ {A = ℕ} 0 1 = cc in absurd (omega arith)
runs-ended (down d e) k h = e
runs-ended (on d u c) k h = runs-ended c k h

-- the bytes that are used, and the numbers that are taken
runs-within : {at r q : ℕ} {s : Session} {left : List ℕ} {x : Did Ended} → Runs at r q s left x → x.used ≤ length left
unfolding joined step_done
runs-within (short up c) = omega arith
runs-within (full up l f) = omega arith
runs-within {left = left} (down d e) = omega (arith, front-within left)
runs-within {left = left} (on d u c) = omega (arith, front-within left, runs-within c, length-drop (front_length left) left)

runs-rows : {at r q : ℕ} {s : Session} {left : List ℕ} {x : Did Ended} → Runs at r q s left x → length (row_numbers x.rows) ≤ r
unfolding joined step_done row_numbers
runs-rows (short up c) = omega arith
runs-rows (full up l f) = omega arith
runs-rows {at = at} {s = s} {left = left} (down d e) =
    let w : Row = (step s left).answer.row in
    let n : ℕ = front_length left in
    omega (arith, rows_both (row_at at n w) [], row_room at n at 0 w, d.room.rows)
runs-rows {at = at} {s = s} {left = left} (on {y = y} d u c) =
    let w : Row = (step s left).answer.row in
    let n : ℕ = front_length left in
    omega (arith, rows_both (row_at at n w) y.rows, row_room at n at 0 w, d.room.rows, runs-rows c)

runs-sends : {at r q : ℕ} {s : Session} {left : List ℕ} {x : Did Ended} → Runs at r q s left x → length (send_numbers x.sends) ≤ q
unfolding joined step_done send_numbers
runs-sends (short up c) = omega arith
runs-sends (full up l f) = omega arith
runs-sends {s = s} {left = left} (down d e) = omega (arith, sends-both (sends_of (step s left).answer) [], d.room.sends)
runs-sends {s = s} {left = left} (on {y = y} d u c) =
    omega (arith, sends-both (sends_of (step s left).answer) y.sends, d.room.sends, runs-sends c)

module _ (at r q : ℕ) (s : Session) (left : List ℕ) (up : s.state ≡ state.Down → ⊥) where
  -- the whole of what a call does is what so many single steps do, each on what the one before it left
  pub single-steps : (n : ℕ) × (course at r q s left ≡ singles n at s left (course at r q s left).after)
  single-steps = let x = runs-singles (course-runs at r q s left up) in (x.count, x.same)

  -- a call leaves the session Down exactly where it ends so
  pub ended-down : (course at r q s left).session.state ≡ state.Down → (k : Option Fault) × ((course at r q s left).after ≡ Down k)
  ended-down = runs-down (course-runs at r q s left up)

  pub down-ended : (k : Option Fault) → (course at r q s left).after ≡ Down k → (course at r q s left).session.state ≡ state.Down
  down-ended = runs-ended (course-runs at r q s left up)

  -- it uses no more bytes than there are
  pub course-within : (course at r q s left).used ≤ length left
  course-within = runs-within (course-runs at r q s left up)

  -- and its rows and messages to send take no more numbers than are free
  pub course-rows : length (row_numbers (course at r q s left).rows) ≤ r
  course-rows = runs-rows (course-runs at r q s left up)

  pub course-sends : length (send_numbers (course at r q s left).sends) ≤ q
  course-sends = runs-sends (course-runs at r q s left up)
