-- The loop of a call of many messages: what the turns so far have done stands at the front of the lists, and what is left of the slice, of the lists and of
-- the turns makes up the whole course.
use Rattle.std.specs.Prelude.{Option, Some, None}
use Prim.Native.Nat.{ℕ, ◌+◌, ◌-◌, ◌*◌, ◌/◌, ◌≤◌}
use mathlib.Core.Path.{◌≡◌, refl, sym, ap, ap₂, subst, ◌∙◌}
use mathlib.Core.Bool.{Bool, true, false, ◌||◌, or_assoc}
use mathlib.Core.List.{List, [], ◌∷◌, ◌++◌, append-nil, append_assoc}
use native.Mathlib.Nat.{sub-zero, add-zero}
use native.Mathlib.Omega.{arith}
use lib.ListN.{length, take, drop, length-drop}
use lib.Seq.{drop-drop}
use Rattle.wire.specs.Laying.{laid}
use Rattle.wire.proofs.BufferLaws.{length-laid, lent_from, Front, front-on, front-own}
use Rattle.wire.proofs.TestLaws.{rest_of}
use Rattle.message.specs.Frame.{front_length}
use Rattle.session.specs.declared.state.Row.TheVariants.{Business}
use Rattle.session.specs.declared.state.Send.{Send}
use Rattle.session.specs.declared.state.Send.TheVariants.{Nothing}
use Rattle.session.specs.declared.state.Session.{Session}
use Rattle.session.specs.declared.state.State.TheVariants.{Down}
use Rattle.calls.specs.declared.Done.{Done}
use Rattle.calls.specs.declared.Ended.{Ended}
use Rattle.calls.specs.declared.SoFar.{SoFar}
use Rattle.calls.specs.declared.Turned.{Turned}
use Rattle.session.specs.Day.{step}
use Rattle.session.specs.State.{last, sort_number, take as takes}
use Rattle.calls.specs.Steps.{slots_by, Placed, row_at, row_numbers, send_numbers, Did, joined, and_then, follow, turn_of, turned_by, course, reports, report_of}
use Rattle.calls.proofs.CourseLaws.{numbers-rows, numbers-sends, turn_up, turn-within, turn-rows, turn-sends, turn-uses, length-rows, length-sends, course-turn, quick-turn}

-- what the turns so far have done
abbrev so_far : Session → ℕ → List Placed → List Send → Bool → Did (Option Ended)
so_far s used rows sends heard = record { session = s; used = used; rows = rows; sends = sends; heard = heard; after = None }

-- d and e are the lists, which were d₀ and e₀; s is the session, which was s₀
pub record Going (s₀ : Session) (bytes d₀ e₀ d e : List ℕ) (s : Session) (used row-at send_at : ℕ) (heard : Bool) : Type 0 where
  pub rows : List Placed
  pub sends : List Send
  pub row-front : Front (row_numbers rows) row-at d₀ d
  pub send-front : Front (send_numbers sends) send_at e₀ e
  pub row_within : row-at ≤ length d₀
  pub send-within : send_at ≤ length e₀
  pub within : used ≤ length bytes
  pub up : s.state ≡ Down → ⊥
  pub whole : joined (so_far s used rows sends heard) (course used (length d₀ - row-at) (length e₀ - send_at) s (drop used bytes))
      ≡ course 0 (length d₀) (length e₀) s₀ bytes

abbrev pub Gone : Session → List ℕ → List ℕ → List ℕ → List ℕ → List ℕ → SoFar → Type 0
Gone s₀ bytes d₀ e₀ d e x = Going s₀ bytes d₀ e₀ d e x.session x.used x.rows x.sends x.heard

nothing-joined : (s : Session) (x : Did Ended) → joined (so_far s 0 [] [] false) x ≡ x
unfolding joined
nothing-joined s x =
    let z : 0 + x.used ≡ x.used = omega arith in
    ap (λ (k : ℕ). record { session = x.session; used = k; rows = x.rows; sends = x.sends; heard = x.heard; after = x.after }) z

-- one turn more
joined-on : (s p : Session) (used : ℕ) (rows : List Placed) (sends : List Send) (heard : Bool) (t : Did (Option Ended)) (x : Did Ended)
    → joined (so_far s used rows sends heard) (joined t x)
    ≡ joined (so_far p (used + t.used) (rows ++ t.rows) (sends ++ t.sends) (heard || t.heard)) x
unfolding joined
joined-on s p used rows sends heard t x =
    let z : used + (t.used + x.used) ≡ used + t.used + x.used = omega arith in
    rw (z, append_assoc rows t.rows x.rows, append_assoc sends t.sends x.sends, or_assoc heard t.heard x.heard) refl

pub going_start : (s : Session) (bytes d e : List ℕ) → (s.state ≡ Down → ⊥) → Going s bytes d e d e s 0 0 0 false
unfolding row_numbers send_numbers
going_start s bytes d e up = record {
  rows = [];
  sends = [];
  row-front = front-own 0 d (omega arith);
  send-front = front-own 0 e (omega arith);
  row_within = omega arith;
  send-within = omega arith;
  within = omega arith;
  up = up;
  whole =
      ap₂ (λ (r q : ℕ). joined (so_far s 0 [] [] false) (course 0 r q s bytes)) (sub-zero (length d)) (sub-zero (length e))
      ∙ nothing-joined s (course 0 (length d) (length e) s bytes);
}

-- more rows at the end of the front, and more messages to send
pub rows_on : (ws : List Placed) {a : ℕ} {d x : List ℕ} → Front (row_numbers ws) a d x → (more : List Placed) (y : List ℕ)
    → a + length (row_numbers more) ≤ length d → y ≡ laid (row_numbers more) (take (length x - a) (drop a x))
    → Front (row_numbers (ws ++ more)) (a + length (row_numbers more)) d (lent_from a x y)
rows_on ws {a} {d} {x} f more y h q =
    subst (λ (w : List ℕ). Front w (a + length (row_numbers more)) d (lent_from a x y)) (sym (numbers-rows ws more))
    (front-on f (row_numbers more) y (a + length (row_numbers more)) refl h q)

pub sends-on : (ws : List Send) {a : ℕ} {d x : List ℕ} → Front (send_numbers ws) a d x → (more : List Send) (y : List ℕ)
    → a + length (send_numbers more) ≤ length d → y ≡ laid (send_numbers more) (take (length x - a) (drop a x))
    → Front (send_numbers (ws ++ more)) (a + length (send_numbers more)) d (lent_from a x y)
sends-on ws {a} {d} {x} f more y h q =
    subst (λ (w : List ℕ). Front w (a + length (send_numbers more)) d (lent_from a x y)) (sym (numbers-sends ws more))
    (front-on f (send_numbers more) y (a + length (send_numbers more)) refl h q)

module _ {s₀ : Session} {bytes d₀ e₀ d e : List ℕ} {s : Session} {used row-at send_at : ℕ} {heard : Bool}
    (i : Going s₀ bytes d₀ e₀ d e s used row-at send_at heard)
    (t : Did (Option Ended)) (is : t ≡ turn_of used (length d₀ - row-at) (length e₀ - send_at) s (drop used bytes)) where
  unrolled : joined (so_far s used i.rows i.sends heard)
      (follow course used (length d₀ - row-at) (length e₀ - send_at) (drop used bytes) t) ≡ course 0 (length d₀) (length e₀) s₀ bytes
  unrolled =
      ap (λ (x : Did (Option Ended)). joined (so_far s used i.rows i.sends heard)
      (follow course used (length d₀ - row-at) (length e₀ - send_at) (drop used bytes) x)) is
      ∙ ap (joined (so_far s used i.rows i.sends heard)) (sym (course-turn used (length d₀ - row-at) (length e₀ - send_at) s (drop used bytes) i.up))
      ∙ i.whole

  pub rows-room : row-at + length (row_numbers t.rows) ≤ length d₀
  rows-room =
      let h = turn-rows used (length d₀ - row-at) (length e₀ - send_at) s (drop used bytes) in
      omega (arith, subst (λ (x : Did (Option Ended)). length (row_numbers x.rows) ≤ length d₀ - row-at) (sym is) h, i.row_within)

  pub sends-room : send_at + length (send_numbers t.sends) ≤ length e₀
  sends-room =
      let h = turn-sends used (length d₀ - row-at) (length e₀ - send_at) s (drop used bytes) in
      omega (arith, subst (λ (x : Did (Option Ended)). length (send_numbers x.sends) ≤ length e₀ - send_at) (sym is) h, i.send-within)

  pub uses-within : used + t.used ≤ length bytes
  uses-within =
      let h = turn-within used (length d₀ - row-at) (length e₀ - send_at) s (drop used bytes) in
      omega (arith, subst (λ (x : Did (Option Ended)). x.used ≤ length (drop used bytes)) (sym is) h, length-drop used bytes, i.within)

  -- the call goes on
  pub going_on : t.after ≡ None → (d' e' : List ℕ) → Front (row_numbers (i.rows ++ t.rows)) (row-at + length (row_numbers t.rows)) d₀ d'
      → Front (send_numbers (i.sends ++ t.sends)) (send_at + length (send_numbers t.sends)) e₀ e'
      → Going s₀ bytes d₀ e₀ d' e' t.session (used + t.used) (row-at + length (row_numbers t.rows)) (send_at + length (send_numbers t.sends))
      (heard || t.heard)
  unfolding follow and_then joined
  going_on on d' e' f g =
      let R = length d₀ - row-at in
      let Q = length e₀ - send_at in
      let others = course (used + t.used) (R - length (row_numbers t.rows)) (Q - length (send_numbers t.sends)) t.session
      (drop t.used (drop used bytes)) in
      let a : length d₀ - (row-at + length (row_numbers t.rows)) ≡ R - length (row_numbers t.rows) = omega arith in
      let b : length e₀ - (send_at + length (send_numbers t.sends)) ≡ Q - length (send_numbers t.sends) = omega arith in
      let same : course (used + t.used) (length d₀ - (row-at + length (row_numbers t.rows))) (length e₀ - (send_at + length (send_numbers t.sends)))
      t.session (drop (used + t.used) bytes) ≡ others =
      ap₂ (λ (x y : ℕ). course (used + t.used) x y t.session (drop (used + t.used) bytes)) a b
      ∙ ap (course (used + t.used) (R - length (row_numbers t.rows)) (Q - length (send_numbers t.sends)) t.session) (sym (drop-drop t.used used bytes)) in
      record {
        rows = i.rows ++ t.rows;
        sends = i.sends ++ t.sends;
        row-front = f;
        send-front = g;
        row_within = rows-room;
        send-within = sends-room;
        within = uses-within;
        up = λ h. turn_up used R Q s (drop used bytes) i.up (subst (λ (x : Did (Option Ended)). x.after ≡ None) is on)
            (subst (λ (x : Did (Option Ended)). x.session.state ≡ Down) is h);
        whole =
            ap (joined (so_far t.session (used + t.used) (i.rows ++ t.rows) (i.sends ++ t.sends) (heard || t.heard))) same
            ∙ sym (joined-on s t.session used i.rows i.sends heard t others)
            ∙ ap (λ (x : Option Ended). joined (so_far s used i.rows i.sends heard) (and_then t x others)) (sym on) ∙ unrolled;
      }

  -- or ends here
  pub going-ends : (why : Ended) → t.after ≡ Some why
      → course 0 (length d₀) (length e₀) s₀ bytes
      ≡ record {
        session = t.session;
        used = used + t.used;
        rows = i.rows ++ t.rows;
        sends = i.sends ++ t.sends;
        heard = heard || t.heard;
        after = why;
      }
  unfolding follow and_then joined
  going-ends why h =
      let others = course (used + t.used) (length d₀ - row-at - length (row_numbers t.rows)) (length e₀ - send_at - length (send_numbers t.sends))
      t.session (drop t.used (drop used bytes)) in
      sym unrolled ∙ ap (λ (x : Option Ended). joined (so_far s used i.rows i.sends heard) (and_then t x others)) h

-- a business row takes five numbers
pub row-five : (at n e : ℕ) → length (row_numbers (row_at at n (Business e))) ≡ 5
unfolding row_at row_numbers sort_number
row-five at n e = refl

-- the list as it is, and what is free of it
module _ {w : List ℕ} {a : ℕ} {d₀ d : List ℕ} (f : Front w a d₀ d) (h : a ≤ length d₀) where
  pub same_size : length d ≡ length d₀
  same_size = ap length f.is ∙ length-laid w d₀ (omega (arith, f.size))

  pub front-in : a ≤ length d
  front-in = omega (arith, same_size)

  free-size : length (take (length d - a) (drop a d)) ≡ length d₀ - a
  free-size = ap length (rest_of d a) ∙ length-drop a d ∙ ap (λ (n : ℕ). n - a) same_size

module _ {s₀ : Session} {bytes d₀ e₀ d e : List ℕ} {s : Session} {used row-at send_at : ℕ} {heard : Bool}
    (i : Going s₀ bytes d₀ e₀ d e s used row-at send_at heard)
    (left : List ℕ) (l : left ≡ drop used bytes) where
  left-size : length left ≡ length bytes - used
  left-size = ap length l ∙ length-drop used bytes

  -- business in its turn, which is taken at once: its row is laid behind those that are laid, and the rest of the list is y then
  module _ (taken : step s left ≡ takes s (s.expected + 1) s.own Nothing (Business s.expected)) (place : used ≤ last) (slot : 5 ≤ length d - row-at)
      (n : ℕ) (is : n ≡ front_length left) where
    quick : Did (Option Ended)
    quick = record {
      session = (takes s (s.expected + 1) s.own Nothing (Business s.expected)).session;
      used = n;
      rows = record { row = Business s.expected; at = used; size = n } ∷ [];
      sends = [];
      heard = true;
      after = None;
    }

    is-quick : quick ≡ turn_of used (length d₀ - row-at) (length e₀ - send_at) s (drop used bytes)
    unfolding quick
    is-quick =
        let h : 5 ≤ length d₀ - row-at = omega (arith, same_size i.row-front i.row_within) in
        ap (λ (k : ℕ). record { session = (takes s (s.expected + 1) s.own Nothing (Business s.expected)).session; used = k; rows = record { row = Business s.expected; at = used; size = k } ∷ []; sends = []; heard = true; after = None }) is
        ∙ sym (quick-turn used (length d₀ - row-at) (length e₀ - send_at) s left taken place h)
        ∙ ap (turn_of used (length d₀ - row-at) (length e₀ - send_at) s) l

    pub going-quick : (p : Session) (b k : ℕ) (y : List ℕ) → p ≡ (takes s (s.expected + 1) s.own Nothing (Business s.expected)).session
        → b ≡ s.expected → k ≡ length (row_numbers (row_at used n (Business b)))
        → y ≡ laid (row_numbers (row_at used n (Business b))) (take (length d - row-at) (drop row-at d))
        → Going s₀ bytes d₀ e₀ (lent_from row-at d y) e p (used + n) (row-at + k) (send_at + 0) (heard || true)
    unfolding quick row_at sort_number send_numbers row_numbers
    going-quick p b k y a same c q =
        let r = q ∙ ap (λ (x : ℕ). laid (row_numbers (row_at used n (Business x))) (take (length d - row-at) (drop row-at d))) same in
        let f = rows_on i.rows i.row-front quick.rows y (rows-room i quick is-quick) r in
        let g : Front (send_numbers (i.sends ++ [])) (send_at + 0) e₀ e =
        subst (λ (ws : List Send). Front (send_numbers ws) (send_at + 0) e₀ e) (sym (append-nil i.sends))
        (subst (λ (m : ℕ). Front (send_numbers i.sends) m e₀ e) (sym (add-zero send_at)) i.send-front) in
        let o = going_on i quick is-quick refl (lent_from row-at d y) e f g in
        subst (λ (m : ℕ). Going s₀ bytes d₀ e₀ (lent_from row-at d y) e p (used + n) (row-at + m) (send_at + 0) (heard || true)) (sym c)
        (subst (λ (z : Session). Going s₀ bytes d₀ e₀ (lent_from row-at d y) e z (used + n) (row-at + length (row_numbers quick.rows)) (send_at + 0) (heard || true)) (sym a) o)

  -- a turn by the rules: the rests of the lists were lent to it, and are y and v then
  module _ (x : Turned) (y v : List ℕ)
      (answer : x ≡ turned_by (turn_of used (length (take (length d - row-at) (drop row-at d))) (length (take (length e - send_at) (drop send_at e))) s left))
      (rows : y ≡ laid (row_numbers (turn_of used (length (take (length d - row-at) (drop row-at d))) (length (take (length e - send_at) (drop send_at e))) s left).rows) (take (length d - row-at) (drop row-at d)))
      (sends : v ≡ laid (send_numbers (turn_of used (length (take (length d - row-at) (drop row-at d))) (length (take (length e - send_at) (drop send_at e))) s left).sends) (take (length e - send_at) (drop send_at e))) where
    t : Did (Option Ended)
    t = turn_of used (length (take (length d - row-at) (drop row-at d))) (length (take (length e - send_at) (drop send_at e))) s left

    is-turn : t ≡ turn_of used (length d₀ - row-at) (length e₀ - send_at) s (drop used bytes)
    unfolding t
    is-turn =
        ap₂ (λ (r q : ℕ). turn_of used r q s left) (free-size i.row-front i.row_within) (free-size i.send-front i.send-within)
        ∙ ap (turn_of used (length d₀ - row-at) (length e₀ - send_at) s) l

    row_laid : Front (row_numbers (i.rows ++ t.rows)) (row-at + length (row_numbers t.rows)) d₀ (lent_from row-at d y)
    unfolding t
    row_laid = rows_on i.rows i.row-front t.rows y (rows-room i t is-turn) rows

    send-laid : Front (send_numbers (i.sends ++ t.sends)) (send_at + length (send_numbers t.sends)) e₀ (lent_from send_at e v)
    unfolding t
    send-laid = sends-on i.sends i.send-front t.sends v (sends-room i t is-turn) sends

    pub turn-bounds : (used + x.did.used ≤ length bytes) × (row-at + x.did.rows ≤ length d₀) × (send_at + x.did.sends ≤ length e₀)
    unfolding t
    turn-bounds =
        subst (λ (z : Turned). (used + z.did.used ≤ length bytes) × (row-at + z.did.rows ≤ length d₀) × (send_at + z.did.sends ≤ length e₀)) (sym answer)
        (uses-within i t is-turn, rows-room i t is-turn, sends-room i t is-turn)

    pub turn-same : (length (lent_from row-at d y) ≡ length d₀) × (length (lent_from send_at e v) ≡ length e₀)
    turn-same = (same_size row_laid (rows-room i t is-turn), same_size send-laid (sends-room i t is-turn))

    pub going_next : x.next ≡ None
        → (58 ≤ x.did.used) × Going s₀ bytes d₀ e₀ (lent_from row-at d y) (lent_from send_at e v) x.did.session (used + x.did.used) (row-at + x.did.rows) (send_at + x.did.sends)
        (heard || x.did.heard)
    unfolding t
    going_next on =
        let o : t.after ≡ None = ap (λ (z : Turned). z.next) (sym answer) ∙ on in
        subst (λ (z : Turned). (58 ≤ z.did.used) × Going s₀ bytes d₀ e₀ (lent_from row-at d y) (lent_from send_at e v) z.did.session (used + z.did.used) (row-at + z.did.rows) (send_at + z.did.sends) (heard || z.did.heard)) (sym answer) (
          turn-uses used (length (take (length d - row-at) (drop row-at d))) (length (take (length e - send_at) (drop send_at e))) s left i.up o,
          going_on i t is-turn o (lent_from row-at d y) (lent_from send_at e v) row_laid send-laid,
        )

    -- the report's rows and messages to send are counted from the numbers laid
    pub going-last : (why : Ended) → x.next ≡ Some why
        → (done : Done) → done ≡ reports x.did.session None (used + x.did.used) ((row-at + x.did.rows) / 5) ((send_at + x.did.sends) / 4) (heard || x.did.heard) why
        → (done ≡ report_of None (course 0 (length d₀) (length e₀) s₀ bytes))
        × (lent_from row-at d y ≡ laid (row_numbers (course 0 (length d₀) (length e₀) s₀ bytes).rows) d₀)
        × (lent_from send_at e v ≡ laid (send_numbers (course 0 (length d₀) (length e₀) s₀ bytes).sends) e₀)
    unfolding t report_of slots_by
    going-last why h done a =
        let w = going-ends i t is-turn why (ap (λ (z : Turned). z.next) (sym answer) ∙ h) in
        let m : row-at + length (row_numbers t.rows) ≡ 5 * length (i.rows ++ t.rows) = sym row_laid.size ∙ length-rows (i.rows ++ t.rows) in
        let n : send_at + length (send_numbers t.sends) ≡ 4 * length (i.sends ++ t.sends) = sym send-laid.size ∙ length-sends (i.sends ++ t.sends) in
        let u : (row-at + length (row_numbers t.rows)) / 5 ≡ length (i.rows ++ t.rows) = omega (arith, m) in
        let q : (send_at + length (send_numbers t.sends)) / 4 ≡ length (i.sends ++ t.sends) = omega (arith, n) in
        let same =
        a ∙ ap (λ (z : Turned). reports z.did.session None (used + z.did.used) ((row-at + z.did.rows) / 5) ((send_at + z.did.sends) / 4) (heard || z.did.heard) why) answer
        ∙ ap₂ (λ (rows sends : ℕ). reports t.session None (used + t.used) rows sends (heard || t.heard) why) u q in
        (same ∙ ap (report_of None) (sym w), row_laid.is ∙ ap (λ (z : Did Ended). laid (row_numbers z.rows) d₀) (sym w), send-laid.is ∙ ap (λ (z : Did Ended). laid (send_numbers z.sends) e₀) (sym w))
