-- A call of many messages is single steps in turn.
--
-- Supposed: nothing. The session may be in any state, and the slice and the room in the lists may be any.
--
-- Shown: there are bytes, for each step that the call has done what was left of the slice before it, such that lending them one after another leaves
-- the session that the call leaves, and hands up what the call's rows show in the slice. If the slice is fair for a published list, so is each of
-- them. That is `Lent s b t up`, for the slice b, the session t afterwards and the messages up. A step that was not done, as its message was not
-- whole or a slot was missing, is none of them; a call that is refused has none.
use Prim.Native.Nat.{ℕ, zero, suc, ◌+◌}
use mathlib.Core.Path.{◌≡◌, refl, sym, ap, ◌∙◌}
use mathlib.Core.Bool.{Bool, true, false}
use mathlib.Core.List.{List, [], ◌∷◌, ◌++◌, append-nil, append_assoc}
use native.Mathlib.Omega.{arith}
use lib.Dec.{eqb}
use lib.ListN.{length, take, drop}
use lib.Seq.{drop-drop}
use Rattle.std.specs.Prelude.{Result, Ok, Err, Option, Some, None}
use Rattle.message.specs.declared.refusal.Refusal.{Refusal}
use Rattle.message.specs.declared.read.Reading.{Reading}
use Rattle.message.specs.Frame.{front_length}
use Rattle.message.specs.Read.{read_of}
use Rattle.session.specs.declared.state.Fault.{Fault}
use Rattle.session.specs.declared.state.Fault.TheVariants as fault
use Rattle.session.specs.declared.state.Row.{Row}
use Rattle.session.specs.declared.state.Row.TheVariants as row
use Rattle.session.specs.declared.state.Session.{Session}
use Rattle.session.specs.declared.state.Stepped.{Stepped}
use Rattle.session.specs.declared.state.State.{State}
use Rattle.session.specs.declared.state.State.TheVariants.{Down, Waiting, Live}
use Rattle.session.specs.Arrival.{arrival_of}
use Rattle.session.specs.Day.{step}
use Rattle.session.specs.State.{code_number, sort_number}
use Rattle.calls.specs.Steps.{Placed, row_at, joined, next_of, step_done, fits, turn_by, turn_of, and_then, follow, turns, course, refusal_in, called_by, called}
use Rattle.session.proofs.Effect.{Moves, still, business, session, filled, reset, step-effect, good-arrives}
use Rattle.session.proofs.FrontLaws.{front-good}
use Rattle.demands.specs.Content.{Content, said}
use Rattle.demands.specs.Gateway.{Fair, lends, refused, AllFair, none, more, after, handed_by, handed, after_all, handed_all}
use Rattle.demands.specs.Run.{lend_all}
use Rattle.demands.specs.Calls.{handed_rows, FairSlice, rest, message}
use Rattle.demands.proofs.OwnBytes.{good-least, own-said}

pub record Lent (s : Session) (b : List ℕ) (t : Session) (up : List Content) : Type 0 where
  pub bytes : List (List ℕ)
  pub session : after_all s (lend_all bytes) ≡ t
  pub handed : handed_all s (lend_all bytes) ≡ up
  pub fair : (L : List Content) → FairSlice L b → AllFair L (lend_all bytes)

-- where no Length is at the front, the reader refuses the bytes
no_front : (L : List Content) (b : List ℕ) → front_length b ≡ 0 → Fair L (lends b)
no_front L b z = go (read_of b) refl
  where
    go : (x : Result Reading Refusal) → read_of b ≡ x → Fair L (lends b)
    go (Ok x) e = absurd (omega (arith, front-good b x.header x.length e, good-least b x.header x.length e))
    go (Err r) e = refused e

-- so the front of a fair slice is fair, and so is the rest
front-fair : (L : List Content) {b : List ℕ} → FairSlice L b → Fair L (lends b)
front-fair L (rest {b = b} z) = no_front L b z
front-fair L (message f g) = f

rest-fair : (L : List Content) {b : List ℕ} → FairSlice L b → FairSlice L (drop (front_length b) b)
rest-fair L (rest {b = b} z) = rw z (rest z)
rest-fair L (message f g) = g

-- rows hand up one after another, and a step's row, if it has one, what is its message's in the slice
pub rows_append : (bytes : List ℕ) (v w : List Placed) → handed_rows bytes (v ++ w) ≡ handed_rows bytes v ++ handed_rows bytes w
unfolding handed_rows
rows_append bytes [] w = refl
rows_append bytes (x ∷ v) w = simp (rows_append bytes v w, append_assoc)

pub row-handed : (bytes : List ℕ) (at n : ℕ) (w : Row) → handed_rows bytes (row_at at n w) ≡ handed_by w (take n (drop at bytes))
unfolding handed_rows row_at sort_number handed_by
row-handed bytes at n row.Nothing = refl
row-handed bytes at n (row.Business k) = append-nil (said (take n (drop at bytes)))
row-handed bytes at n (row.Session k) = refl
row-handed bytes at n (row.Filled first final) = refl
row-handed bytes at n (row.Reset first final) = refl

-- a step's row hands up the same from its message alone as from all that the step was lent: the message of a business row is good
front-handed : (s : Session) (b : List ℕ) (x : Stepped) → Moves s (arrival_of s.ours b) x
    → handed_by x.answer.row (take (front_length b) b) ≡ handed_by x.answer.row b
unfolding handed_by
front-handed s b x (still e w) = rw w refl
front-handed s b x (business m e o c n u f w) =
    let a = good-arrives s.ours b m e in
    let l : front_length b ≡ a.length = front-good b a.header a.length a.read in
    rw (w, l) (ap said (sym (append-nil (take a.length b))) ∙ own-said b a.header a.length a.read [])
front-handed s b x (session m e o c n u f w) = rw w refl
front-handed s b x (filled m new e o c n u f w) = rw w refl
front-handed s b x (reset m new e o c n f w) = rw w refl

-- so lending what is left of the slice at a place hands up what the step's row does
step-handed : (bytes : List ℕ) (at : ℕ) (s : Session) (left : List ℕ) → left ≡ drop at bytes
    → handed s (lends left) ≡ handed_rows bytes (row_at at (front_length left) (step s left).answer.row)
unfolding handed
step-handed bytes at s left e =
    let w = (step s left).answer.row in
    sym (row-handed bytes at (front_length left) w ∙ rw (← e) (front-handed s left (step s left) (step-effect s left).moves))

-- where no step is done nothing is lent
none_lent : (s : Session) (b : List ℕ) → Lent s b s []
unfolding after_all handed_all lend_all
none_lent s b = record { bytes = []; session = refl; handed = refl; fair = λ L f. none }

-- where one is done on what is left of the slice at a place, that is lent, and then what the steps after it are lent
next-lent : (bytes : List ℕ) (at : ℕ) (s : Session) (left : List ℕ) (t : Session) (rows : List Placed) → left ≡ drop at bytes
    → Lent (step s left).session (drop (front_length left) left) t (handed_rows bytes rows)
    → Lent s left t (handed_rows bytes (row_at at (front_length left) (step s left).answer.row ++ rows))
unfolding after_all handed_all lend_all after
next-lent bytes at s left t rows e i = record {
  bytes = left ∷ i.bytes;
  session = i.session;
  handed = rw (step-handed bytes at s left e, i.handed) (sym (rows_append bytes (row_at at (front_length left) (step s left).answer.row) rows));
  fair = λ L f. more (front-fair L f) (i.fair L (rest-fair L f));
}

-- one turn more, where the law holds of k turns
module _ (bytes : List ℕ) (k : ℕ)
    (ih : (at r q : ℕ) (s : Session) (left : List ℕ) → left ≡ drop at bytes
    → Lent s left (turns k at r q s left).session (handed_rows bytes (turns k at r q s left).rows))
    (at r q : ℕ) (s : Session) (left : List ℕ) (e : left ≡ drop at bytes) where
  -- its step is done, and the call goes on
  on-lent : (r' q' : ℕ)
      → let x = turns k (at + front_length left) r' q' (step s left).session (drop (front_length left) left) in
      Lent s left x.session (handed_rows bytes (row_at at (front_length left) (step s left).answer.row ++ x.rows))
  on-lent r' q' =
      let n = front_length left in
      let i = ih (at + n) r' q' (step s left).session (drop n left) (ap (drop n) e ∙ drop-drop n at bytes) in
      next-lent bytes at s left _ _ e i

  -- its step is done, and the call goes on unless the session is Down
  done-lent : (p : State) (r' q' : ℕ)
      → let t = step_done at left (step s left) in
      let others = turns k (at + front_length left) r' q' (step s left).session (drop (front_length left) left) in
      let x = and_then t (next_of p (step s left).answer.code) others in
      Lent s left x.session (handed_rows bytes x.rows)
  unfolding step_done next_of and_then joined handed_rows
  done-lent Down r' q' =
      let t = (step s left).session in
      rw append-nil at (next-lent bytes at s left t [] e (none_lent t (drop (front_length left) left)))
  done-lent Waiting r' q' = on-lent r' q'
  done-lent Live r' q' = on-lent r' q'

  -- the call ends before its step, at code 1 or without a free slot, or its step is done
  turn-lent : (a b : Bool) → eqb (code_number (step s left).answer.code) 1 ≡ a → fits at r q (step s left).answer ≡ b
      → Lent s left (turns (suc k) at r q s left).session (handed_rows bytes (turns (suc k) at r q s left).rows)
  unfolding turns follow turn_of turn_by and_then handed_rows step_done
  turn-lent true b p f = rw p (none_lent s left)
  turn-lent false false p f = rw (p, f) (none_lent s left)
  turn-lent false true p f = rw (p, f) (done-lent (step s left).session.state _ _)

turns-lent : (bytes : List ℕ) (k at r q : ℕ) (s : Session) (left : List ℕ) → left ≡ drop at bytes
    → Lent s left (turns k at r q s left).session (handed_rows bytes (turns k at r q s left).rows)
unfolding turns handed_rows
turns-lent bytes zero at r q s left e = none_lent s left
turns-lent bytes (suc k) at r q s left e =
    turn-lent bytes k (turns-lent bytes k) at r q s left e (eqb (code_number (step s left).answer.code) 1) (fits at r q (step s left).answer) refl refl

-- the turns on what is left of a slice at a place
pub course-lent : (bytes : List ℕ) (at r q : ℕ) (s : Session)
    → Lent s (drop at bytes) (course at r q s (drop at bytes)).session (handed_rows bytes (course at r q s (drop at bytes)).rows)
unfolding course
course-lent bytes at r q s = turns-lent bytes (length (drop at bytes)) at r q s (drop at bytes) refl

-- a call, which does nothing where it is refused
pub call-lent : (s : Session) (b : List ℕ) (r q : ℕ) → Lent s b (called s b r q).session (handed_rows b (called s b r q).rows)
unfolding called called_by handed_rows
call-lent s b r q = go (refusal_in s.state r q)
  where
    go : (k : Option Fault) → Lent s b (called_by k s b r q).session (handed_rows b (called_by k s b r q).rows)
    go None = course-lent b 0 r q s
    go (Some (fault.Refused x)) = none_lent s b
    go (Some (fault.Halted h)) = none_lent s b
