-- Turns and the course of a call. A turn ends the call before its step or does the step; where the call goes on after it, it has used the bytes
-- of a whole message, and the session is not Down. So the course of a call is its first turn and then the course of what that leaves. Besides: how
-- many numbers rows and messages to send take, and the turn of a business message that is in its turn.
use Rattle.std.specs.Prelude.{Option, Some, None}
use Prim.Native.Nat.{ℕ, zero, suc, ◌+◌, ◌-◌, ◌*◌, ◌≤◌}
use mathlib.Core.Path.{◌≡◌, refl, sym, ap, ◌∙◌}
use mathlib.Core.Bool.{Bool, true, false, cond, ◌&&◌, true≢false}
use mathlib.Core.List.{List, [], ◌∷◌, ◌++◌}
use native.Mathlib.Omega.{arith}
use lib.Dec.{eqb, leb}
use lib.ListN.{length, drop, length-drop}
use borrow.Author.Tests.{le-leb, leb-true, eq-eqb, ne_eqb, eqb-true, eqb-false}
use Rattle.wire.proofs.TestLaws.{and-true, either}
use Rattle.message.specs.Frame.{framed, front_length}
use Rattle.message.specs.Read.{read_framed, read_of}
use Rattle.session.specs.declared.state.Fault.{Fault}
use Rattle.session.specs.declared.state.Answer.{Answer}
use Rattle.session.specs.declared.state.Row.{Row}
use Rattle.session.specs.declared.state.Row.TheVariants as row
use Rattle.session.specs.declared.state.Send.{Send}
use Rattle.session.specs.declared.state.Send.TheVariants.{Nothing}
use Rattle.session.specs.declared.state.Session.{Session}
use Rattle.session.specs.declared.state.State.{State}
use Rattle.session.specs.declared.state.State.TheVariants.{Down, Waiting, Live}
use Rattle.calls.specs.declared.Ended.{Ended}
use Rattle.calls.specs.declared.Ended.TheVariants as ended
use Rattle.session.specs.Day.{step}
use Rattle.session.specs.State.{code_number, code_besides, last, sort_number, told, take}
use Rattle.calls.specs.Steps.{
  Placed,
  row_at,
  send_in,
  sends_of,
  row_numbers,
  send_numbers,
  is_heard,
  Did,
  did,
  next_of,
  step_done,
  fits,
  turn_by,
  turn_of,
  and_then,
  follow,
  turns,
  course,
}
use Rattle.session.proofs.StepLaws.{front-within, short-code, short-needs, step-uses}

-- the numbers of rows, and of messages to send, one after another
pub numbers-rows : (xs ys : List Placed) → row_numbers (xs ++ ys) ≡ row_numbers xs ++ row_numbers ys
unfolding row_numbers
numbers-rows [] ys = refl
numbers-rows (w ∷ ws) ys = rw (numbers-rows ws ys)

pub numbers-sends : (xs ys : List Send) → send_numbers (xs ++ ys) ≡ send_numbers xs ++ send_numbers ys
unfolding send_numbers
numbers-sends [] ys = refl
numbers-sends (x ∷ xs) ys = rw (numbers-sends xs ys)

-- a row takes five numbers, and a message to send four
pub length-rows : (ws : List Placed) → length (row_numbers ws) ≡ 5 * length ws
unfolding row_numbers
length-rows [] = refl
length-rows (w ∷ ws) = omega (arith, length-rows ws)

pub length-sends : (xs : List Send) → length (send_numbers xs) ≡ 4 * length xs
unfolding send_numbers
length-sends [] = refl
length-sends (x ∷ xs) = omega (arith, length-sends xs)

-- after a step that is done the call goes on exactly where the session is not Down
next_up : (p : State) (k : Option Fault) → next_of p k ≡ None → p ≡ Down → ⊥
unfolding next_of
next_up Down k e d = let z : ◌≡◌ {A = ℕ} 0 1 = cc in omega arith
next_up Waiting k e d = let z : ◌≡◌ {A = ℕ} 0 1 = cc in omega arith
next_up Live k e d = let z : ◌≡◌ {A = ℕ} 0 1 = cc in omega arith

pub up_next : (p : State) (k : Option Fault) → (p ≡ Down → ⊥) → next_of p k ≡ None
unfolding next_of
up_next Down k u = absurd (u refl)
up_next Waiting k u = refl
up_next Live k u = refl

ends_on : {A : Type 0} {why : Ended} → Some why ≡ None → A
ends_on e = let z : ◌≡◌ {A = ℕ} 0 1 = cc in absurd (omega arith)

-- the numbers that a row takes are as many at every place and for every size
pub row_room : (at n m k : ℕ) (w : Row) → length (row_numbers (row_at at n w)) ≡ length (row_numbers (row_at m k w))
unfolding row_at row_numbers
row_room at n m k w = go (eqb (sort_number w) 0)
  where
    go : (b : Bool) → length (row_numbers (cond b [] (record { row = w; at = at; size = n } ∷ [])))
        ≡ length (row_numbers (cond b [] (record { row = w; at = m; size = k } ∷ [])))
    go true = refl
    go false = refl

-- what `fits` tests
pub record Fits (at r q : ℕ) (a : Answer) : Type 0 where
  pub place : at ≤ last
  pub rows : length (row_numbers (row_at at 0 a.row)) ≤ r
  pub sends : length (send_numbers (sends_of a)) ≤ q

pub fits-true : (at r q : ℕ) (a : Answer) → fits at r q a ≡ true → Fits at r q a
unfolding fits
fits-true at r q a e =
    let i = and-true (leb at last && leb (length (row_numbers (row_at at 0 a.row))) r) (leb (length (send_numbers (sends_of a))) q) e in
    let j = and-true (leb at last) (leb (length (row_numbers (row_at at 0 a.row))) r) i.0 in
    record { place = leb-true at last j.0; rows = leb-true _ r j.1; sends = leb-true _ q i.1 }

pub fits_by : (at r q : ℕ) (a : Answer) → Fits at r q a → fits at r q a ≡ true
unfolding fits
fits_by at r q a f = rw (le-leb at last f.place, le-leb _ r f.rows, le-leb _ q f.sends)

fits_not : (at r q : ℕ) (a : Answer) → (Fits at r q a → ⊥) → fits at r q a ≡ false
fits_not at r q a n = go (fits at r q a) refl
  where
    go : (b : Bool) → fits at r q a ≡ b → b ≡ false
    go true e = absurd (n (fits-true at r q a e))
    go false e = refl

-- a turn ends the call before its step, at 1 or without a free slot, or does the step
pub data Turning (at r q : ℕ) (s : Session) (left : List ℕ) : Did (Option Ended) → Type 0 where
  short : code_number (step s left).answer.code ≡ 1 → Turning at r q s left (did s (Some (ended.Short (code_besides (step s left).answer.code))))
  full : (code_number (step s left).answer.code ≡ 1 → ⊥) → (Fits at r q (step s left).answer → ⊥) → Turning at r q s left (did s (Some ended.NoSlot))
  done : (code_number (step s left).answer.code ≡ 1 → ⊥) → Fits at r q (step s left).answer → Turning at r q s left (step_done at left (step s left))

module _ (at r q : ℕ) (s : Session) (left : List ℕ) where
  -- every turn is one of the three
  pub turning : Turning at r q s left (turn_of at r q s left)
  unfolding turn_of turn_by
  turning =
      let a : Answer = (step s left).answer in
      either (Turning at r q s left) (eqb (code_number a.code) 1) (λ t. short (eqb-true (code_number a.code) 1 t))
      (λ t. either (Turning at r q s left) (fits at r q a)
      (λ u. done (eqb-false (code_number a.code) 1 t) (fits-true at r q a u))
      (λ u. full (eqb-false (code_number a.code) 1 t) (λ f. true≢false (sym (fits_by at r q a f) ∙ u))))

  -- and the other way round
  pub short-turn : code_number (step s left).answer.code ≡ 1 → turn_of at r q s left ≡ did s (Some (ended.Short (code_besides (step s left).answer.code)))
  unfolding turn_of turn_by
  short-turn c = rw (eq-eqb (code_number (step s left).answer.code) 1 c)

  pub full-turn : (code_number (step s left).answer.code ≡ 1 → ⊥) → (Fits at r q (step s left).answer → ⊥) → turn_of at r q s left ≡ did s (Some ended.NoSlot)
  unfolding turn_of turn_by
  full-turn l n = rw (ne_eqb (code_number (step s left).answer.code) 1 l, fits_not at r q (step s left).answer n)

  pub done-turn : (code_number (step s left).answer.code ≡ 1 → ⊥) → Fits at r q (step s left).answer → turn_of at r q s left ≡ step_done at left (step s left)
  unfolding turn_of turn_by
  done-turn l f = rw (ne_eqb (code_number (step s left).answer.code) 1 l, fits_by at r q (step s left).answer f)

  -- a turn after which the call goes on has used the bytes of a message
  pub turn-uses : (s.state ≡ Down → ⊥) → (turn_of at r q s left).after ≡ None → 58 ≤ (turn_of at r q s left).used
  unfolding step_done
  turn-uses up = go (turn_of at r q s left) turning
    where
      go : (t : Did (Option Ended)) → Turning at r q s left t → t.after ≡ None → 58 ≤ t.used
      go t (short h) e = ends_on e
      go t (full h f) e = ends_on e
      go t (done h f) e = step-uses s left up h (next_up (step s left).session.state (step s left).answer.code e)

  -- and it has not left the session Down
  pub turn_up : (s.state ≡ Down → ⊥) → (turn_of at r q s left).after ≡ None → (turn_of at r q s left).session.state ≡ Down → ⊥
  unfolding step_done
  turn_up up = go (turn_of at r q s left) turning
    where
      go : (t : Did (Option Ended)) → Turning at r q s left t → t.after ≡ None → t.session.state ≡ Down → ⊥
      go t (short h) e = ends_on e
      go t (full h f) e = ends_on e
      go t (done h f) e = next_up (step s left).session.state (step s left).answer.code e

  -- no turn uses more bytes than there are
  pub turn-within : (turn_of at r q s left).used ≤ length left
  unfolding step_done
  turn-within = go (turn_of at r q s left) turning
    where
      go : (t : Did (Option Ended)) → Turning at r q s left t → t.used ≤ length left
      go t (short h) = omega arith
      go t (full h f) = omega arith
      go t (done h f) = front-within left

  -- nor more numbers than are free
  pub turn-rows : length (row_numbers (turn_of at r q s left).rows) ≤ r
  unfolding step_done row_numbers
  turn-rows = go (turn_of at r q s left) turning
    where
      go : (t : Did (Option Ended)) → Turning at r q s left t → length (row_numbers t.rows) ≤ r
      go t (short h) = omega arith
      go t (full h f) = omega arith
      go t (done h f) = omega (arith, row_room at (front_length left) at 0 (step s left).answer.row, f.rows)

  pub turn-sends : length (send_numbers (turn_of at r q s left).sends) ≤ q
  unfolding step_done send_numbers
  turn-sends = go (turn_of at r q s left) turning
    where
      go : (t : Did (Option Ended)) → Turning at r q s left t → length (send_numbers t.sends) ≤ q
      go t (short h) = omega arith
      go t (full h f) = omega arith
      go t (done h f) = f.sends

-- what follows a turn counts only where the call goes on
follow-same : (f g : ℕ → ℕ → ℕ → Session → List ℕ → Did Ended) (at r q : ℕ) (left : List ℕ) (t : Did (Option Ended))
    → (t.after ≡ None
    → f (at + t.used) (r - length (row_numbers t.rows)) (q - length (send_numbers t.sends)) t.session (drop t.used left)
    ≡ g (at + t.used) (r - length (row_numbers t.rows)) (q - length (send_numbers t.sends)) t.session (drop t.used left))
    → follow f at r q left t ≡ follow g at r q left t
unfolding follow and_then
follow-same f g at r q left t same = go t.after same
  where
    args : (ℕ → ℕ → ℕ → Session → List ℕ → Did Ended) → Did Ended
    args h = h (at + t.used) (r - length (row_numbers t.rows)) (q - length (send_numbers t.sends)) t.session (drop t.used left)

    go : (n : Option Ended) → (n ≡ None → args f ≡ args g) → and_then t n (args f) ≡ and_then t n (args g)
    go None e = ap (and_then t None) (e refl)
    go (Some why) e = refl

-- where no byte is left, a turn ends the call: 3 are needed
none_left : (k at r q : ℕ) (s : Session) (left : List ℕ) → (s.state ≡ Down → ⊥) → length left ≤ 0 → turns k at r q s left ≡ did s (ended.Short 3)
unfolding turns follow and_then read_of read_framed framed
none_left zero at r q s left up l = refl
none_left (suc k) at r q s [] up l =
    ap (follow (turns k) at r q []) (short-turn at r q s [] (short-code s [] up 3 refl))
    ∙ ap (λ (n : ℕ). did s (ended.Short n)) (short-needs s [] up 3 refl)
none_left (suc k) at r q s (b ∷ bs) up l = absurd (omega arith)

-- as many turns as there are bytes are enough
turns-enough : (k j at r q : ℕ) (s : Session) (left : List ℕ) → (s.state ≡ Down → ⊥) → length left ≤ k → length left ≤ j
    → turns k at r q s left ≡ turns j at r q s left
unfolding turns
turns-enough zero j at r q s left up l m = sym (none_left j at r q s left up l)
turns-enough (suc k) zero at r q s left up l m = none_left (suc k) at r q s left up m
turns-enough (suc k) (suc j) at r q s left up l m =
    let t : Did (Option Ended) = turn_of at r q s left in
    follow-same (turns k) (turns j) at r q left t
    (λ e. let u = turn-uses at r q s left up e in
    let d = length-drop t.used left in
    turns-enough k j _ _ _ t.session (drop t.used left) (turn_up at r q s left up e) (omega arith) (omega arith))

-- the course of a call: its first turn, and where the call goes on the course of what that leaves
pub course-turn : (at r q : ℕ) (s : Session) (left : List ℕ) → (s.state ≡ Down → ⊥)
    → course at r q s left ≡ follow course at r q left (turn_of at r q s left)
unfolding course turns
course-turn at r q s left up =
    let t : Did (Option Ended) = turn_of at r q s left in
    turns-enough (length left) (suc (length left)) at r q s left up (omega arith) (omega arith)
    ∙ follow-same (turns (length left)) course at r q left t
    (λ e. let d = length-drop t.used left in
    turns-enough (length left) (length (drop t.used left)) _ _ _ t.session (drop t.used left) (turn_up at r q s left up e)
    (omega arith) (omega arith))

-- business in its turn: a Live session takes it, with one row and nothing to send
pub quick-turn : (at r q : ℕ) (s : Session) (left : List ℕ) → step s left ≡ take s (s.expected + 1) s.own Nothing (row.Business s.expected)
    → at ≤ last → 5 ≤ r → turn_of at r q s left ≡ record {
      session = (take s (s.expected + 1) s.own Nothing (row.Business s.expected)).session;
      used = front_length left;
      rows = record { row = row.Business s.expected; at = at; size = front_length left } ∷ [];
      sends = [];
      heard = true;
      after = None;
    }
unfolding turn_of turn_by fits step_done is_heard row_at sends_of send_in row_numbers send_numbers code_number sort_number told next_of take
quick-turn at r q s left e h m =
    let z : 0 ≤ q = omega arith in
    ap (turn_by at r q s left) e ∙ rw (le-leb at last h, le-leb 5 r m, le-leb 0 q z)
