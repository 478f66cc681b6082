-- Demand 3, the second half, where messages come by a call of many.
--
-- Supposed: the session is live, and the messages bs are those of the second half, `Run s.ours s.expected bs f`. The bytes of each are one
-- message and no more (`Whole bs`), and one call is lent a slice that has them back to back, no longer than the last number. The list of rows has
-- room for a row of each message and for one at least, and the list of messages to send for two.
--
-- Shown: the call takes them whole. It uses every byte and ends where the next message is waited for; the session is live afterwards and expects f;
-- the rows hand up each business message of the bytes, once and in order; nothing is sent, and our own next number is as before. That is
-- `TakenAtOnce s bs r q f`.
use Prim.Native.Nat.{ℕ, zero, suc, ◌+◌, ◌-◌, ◌*◌, ◌≤◌}
use mathlib.Core.Path.{◌≡◌, refl, sym, ap, ◌∙◌, subst}
use mathlib.Core.Bool.{true}
use mathlib.Core.List.{List, [], ◌∷◌, ◌++◌}
use native.Mathlib.Nat.{sub-zero}
use native.Mathlib.Omega.{arith}
use lib.ListN.{length, take as front, drop, length-append}
use lib.Seq.{drop-drop, take-append_seam, drop-append_seam}
use borrow.Author.Tests.{le-leb}
use Rattle.message.specs.Frame.{front_length, framed}
use Rattle.message.specs.Read.{read_framed, read_of}
use Rattle.message.specs.Refusal.{number_of, besides_of}
use Rattle.session.specs.declared.state.Row.{Row}
use Rattle.session.specs.declared.state.Row.TheVariants as row
use Rattle.session.specs.declared.state.Send.TheVariants as send
use Rattle.session.specs.declared.state.Session.{Session}
use Rattle.session.specs.declared.state.State.TheVariants.{Live}
use Rattle.calls.specs.declared.Ended.{Ended}
use Rattle.calls.specs.declared.Ended.TheVariants.{Short}
use Rattle.session.specs.Arrival.{arrival_by}
use Rattle.session.specs.Day.{step_by, refused, arrived, step_in, step}
use Rattle.session.specs.State.{code_number, code_besides, last, sort_number, told, unmoved, take}
use Rattle.calls.specs.Steps.{
  row_at,
  send_in,
  sends_of,
  row_numbers,
  send_numbers,
  is_heard,
  Did,
  did,
  joined,
  next_of,
  step_done,
  fits,
  turn_by,
  turn_of,
  and_then,
  follow,
  turns,
  course,
  has_room,
  refusal_in,
  called_by,
  called,
}
use Rattle.session.proofs.FrontLaws.{front-good}
use Rattle.demands.specs.Content.{said}
use Rattle.demands.specs.Gateway.{business_of, handed_by}
use Rattle.demands.specs.Run.{Run, said_all}
use Rattle.demands.specs.Calls.{handed_rows, Whole, none, more, slice, TakenAtOnce}
use Rattle.demands.proofs.Listed.{business-append}
use Rattle.demands.proofs.OwnBytes.{good-least, more-step, more-front}
use Rattle.demands.proofs.Second.{Takes, end, next, live-takes}
use Rattle.demands.proofs.Unfolding.{rows_append, row-handed}

-- the turns that did x have taken the messages bs whole, which stand in the slice `bytes`
record TakesAll (s : Session) (bytes : List ℕ) (bs : List (List ℕ)) (f : ℕ) (x : Did Ended) : Type 0 where
  used : x.used ≡ length (slice bs)
  state : x.session.state ≡ Live
  expected : x.session.expected ≡ f
  own : x.session.own ≡ s.own
  handed : handed_rows bytes x.rows ≡ business_of (said_all bs)
  quiet : x.sends ≡ []
  ended : x.after ≡ Short 3

-- the messages bs stand in the slice from a place on, up to its end, and k turns and r numbers free for rows are enough for them
record Room (bytes : List ℕ) (bs : List (List ℕ)) (k at r : ℕ) : Type 0 where
  place : slice bs ≡ drop at bytes
  enough : length (slice bs) ≤ k
  within : at + length (slice bs) ≤ last
  rows : 5 * length bs ≤ r

-- a row takes five numbers at most
row-length : (at n : ℕ) (w : Row) → length (row_numbers (row_at at n w)) ≤ 5
unfolding row_at row_numbers sort_number
row-length at n row.Nothing = omega arith
row-length at n (row.Business k) = omega arith
row-length at n (row.Session k) = omega arith
row-length at n (row.Filled first final) = omega arith
row-length at n (row.Reset first final) = omega arith

-- after the first message there is room for the others
room_next : (bytes b : List ℕ) (bs : List (List ℕ)) (k at r m : ℕ) → 1 ≤ length b → m ≤ 5 → Room bytes (b ∷ bs) (suc k) at r
    → Room bytes bs k (at + length b) (r - m)
unfolding slice
room_next bytes b bs k at r m l h x =
    let n : length (b ++ slice bs) ≡ length b + length (slice bs) = length-append b (slice bs) in
    record {
      place = sym (drop-append_seam b (slice bs)) ∙ ap (drop (length b)) x.place ∙ drop-drop (length b) at bytes;
      enough = omega (arith, x.enough);
      within = omega (arith, x.within);
      rows = omega (arith, x.rows);
    }

-- a turn whose step takes a row and sends nothing, and the turns after it
turn_on : (k at r q f n : ℕ) (s : Session) (left : List ℕ) (w : Row) → step s left ≡ take s f s.own send.Nothing w → front_length left ≡ n
    → at ≤ last → 5 ≤ r
    → let x = turns k (at + n) (r - length (row_numbers (row_at at n w))) q (take s f s.own send.Nothing w).session (drop n left) in
    turns (suc k) at r q s left
    ≡ record { session = x.session; used = n + x.used; rows = row_at at n w ++ x.rows; sends = x.sends; heard = true; after = x.after }
unfolding turns follow turn_of turn_by fits step_done is_heard next_of and_then joined take code_number sends_of send_in told send_numbers
turn_on k at r q f n s left w t l a h =
    let m : length (row_numbers (row_at at 0 w)) ≤ r = omega (arith, row-length at 0 w) in
    simp (t, l, le-leb at last a, le-leb (length (row_numbers (row_at at 0 w))) r m, le-leb 0 q (omega arith), sub-zero)

-- where no byte is left the next message is waited for, which needs 3
turns-end : (k at r q : ℕ) (s : Session) → s.state ≡ Live → turns k at r q s [] ≡ did s (Short 3)
unfolding turns follow turn_of turn_by and_then step step_by step_in arrived refused unmoved code_number code_besides arrival_by read_of read_framed framed number_of besides_of
turns-end zero at r q s p = refl
turns-end (suc k) at r q s p = simp p

-- a message that is taken, and those after it
takes-next : (bytes : List ℕ) (k at r q f g : ℕ) (s : Session) (b : List ℕ) (bs : List (List ℕ)) (w : Row)
    → step s (b ++ slice bs) ≡ take s f s.own send.Nothing w → front_length (b ++ slice bs) ≡ length b → 1 ≤ length b
    → handed_by w b ≡ business_of (said b) → Room bytes (b ∷ bs) k at r
    → let t = (take s f s.own send.Nothing w).session in
    ((k at r : ℕ) → Room bytes bs k at r → TakesAll t bytes bs g (turns k at r q t (slice bs)))
    → TakesAll s bytes (b ∷ bs) g (turns k at r q s (slice (b ∷ bs)))
unfolding slice said_all take
takes-next bytes zero at r q f g s b bs w t l h u x others = absurd (omega (arith, x.enough, length-append b (slice bs)))
takes-next bytes (suc k) at r q f g s b bs w t l h u x others =
    let n = length b in
    let m = length (row_numbers (row_at at n w)) in
    let y = turns k (at + n) (r - m) q (take s f s.own send.Nothing w).session (slice bs) in
    let i = others k (at + n) (r - m) (room_next bytes b bs k at r m h (row-length at n w) x) in
    let o = turn_on k at r q f n s (b ++ slice bs) w t l (omega (arith, x.within)) (omega (arith, x.rows)) in
    let p : handed_by w (front n (drop at bytes)) ≡ business_of (said b) = rw (← x.place, take-append_seam b (slice bs)) u in
    let v : handed_rows bytes (row_at at n w) ≡ business_of (said b) = row-handed bytes at n w ∙ p in
    subst (TakesAll s bytes (b ∷ bs) g) (sym (rw drop-append_seam at o))
    (record {
      used = ap (λ (j : ℕ). n + j) i.used ∙ sym (length-append b (slice bs));
      state = i.state;
      expected = i.expected;
      own = i.own;
      handed = rows_append bytes (row_at at n w) y.rows ∙ rw (v, i.handed) (sym (business-append (said b) (said_all bs)));
      quiet = i.quiet;
      ended = i.ended;
    })

-- what single steps take in turn, a call's turns take: the messages that stand behind one do not change its step
turns-take : {s : Session} {bs : List (List ℕ)} {f : ℕ} → Takes s bs f → Whole bs → (bytes : List ℕ) (q k at r : ℕ) → Room bytes bs k at r
    → TakesAll s bytes bs f (turns k at r q s (slice bs))
unfolding slice handed_rows said_all business_of
turns-take {s = s} {f = f} (end p d) none bytes q k at r x =
    subst (TakesAll s bytes [] f) (sym (turns-end k at r q s p))
    (record { used = refl; state = p; expected = d; own = refl; handed = refl; quiet = refl; ended = refl })
turns-take {s = s} (next {b = b} {bs = bs} {h = h} {n = n} {f = f} e w o g t u i) (more z zs) bytes q k at r x =
    let l : 1 ≤ length b = omega (arith, good-least b h n g, front-good b h n g) in
    takes-next bytes k at r q e f s b bs w (more-step b (slice bs) h n g z s ∙ t) (more-front b (slice bs) h n g z) l u x (turns-take i zs bytes q)

-- a live session's call that has room for one row and two messages to send is not refused
called-course : (s : Session) (b : List ℕ) (r q : ℕ) → s.state ≡ Live → 5 ≤ r → 8 ≤ q → called s b r q ≡ course 0 r q s b
unfolding called called_by refusal_in has_room
called-course s b r q p h l = simp (p, le-leb 5 r h, le-leb 8 q l)

pub second-half-calls : (s : Session) (bs : List (List ℕ)) (r q f : ℕ) → s.state ≡ Live → Run s.ours s.expected bs f → Whole bs
    → length (slice bs) ≤ last → 5 * length bs ≤ r → 5 ≤ r → 8 ≤ q → TakenAtOnce s bs r q f
unfolding course
second-half-calls s bs r q f p u w l rows h g =
    let room : Room (slice bs) bs (length (slice bs)) 0 r = record { place = refl; enough = omega arith; within = omega arith; rows = rows } in
    let x : TakesAll s (slice bs) bs f (course 0 r q s (slice bs)) = turns-take (live-takes s bs f p u) w (slice bs) q (length (slice bs)) 0 r room in
    let y : TakesAll s (slice bs) bs f (called s (slice bs) r q) = rw (called-course s (slice bs) r q p h g) x in
    record { used = y.used; state = y.state; expected = y.expected; own = y.own; handed = y.handed; quiet = y.quiet; ended = y.ended }
