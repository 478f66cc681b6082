-- Two calls are one. Where a call did not end Down, a call on what it left and more bytes behind that goes on as one call on all of them would have.
use Rattle.std.specs.Prelude.{Option}
use Prim.Native.Nat.{ℕ, ◌+◌, ◌-◌, ◌≤◌}
use mathlib.Core.Path.{◌≡◌, refl, sym, ap, ap₂, subst, ◌∙◌}
use mathlib.Core.Bool.{or_assoc}
use mathlib.Core.List.{List, ◌++◌, append_assoc}
use native.Mathlib.Nat.{add_comm, add-zero, zero-add, sub-zero}
use native.Mathlib.Omega.{arith}
use lib.ListN.{length, drop}
use lib.Seq.{drop-append-le, drop-drop}
use Rattle.message.specs.Frame.{front_length}
use Rattle.session.specs.declared.state.Fault.{Fault}
use Rattle.session.specs.declared.state.Send.{Send}
use Rattle.session.specs.declared.state.Session.{Session}
use Rattle.session.specs.declared.state.State.TheVariants as state
use Rattle.session.specs.declared.state.Stepped.{Stepped}
use Rattle.calls.specs.declared.Ended.{Ended}
use Rattle.calls.specs.declared.Ended.TheVariants.{Down, NoSlot}
use Rattle.session.specs.State.{code_number}
use Rattle.session.specs.Day.{step}
use Rattle.calls.specs.Steps.{Placed, row_at, sends_of, row_numbers, send_numbers, Did, did, joined, step_done, course, further}
use Rattle.session.proofs.StepLaws.{front-within, front-more, step-more}
use Rattle.calls.proofs.CourseLaws.{Fits}
use Rattle.calls.proofs.SingleLaws.{
  rows_both,
  sends-both,
  Does,
  Runs,
  short,
  full,
  down,
  on,
  course-runs,
  runs-course,
  ended-down,
  course-rows,
  course-sends,
}
use Rattle.calls.proofs.RoomLaws.{runs_as, does-more, room-more, slots-further}

-- these and those and then others
joined-assoc : {A B C : Type 0} (x : Did A) (y : Did B) (z : Did C) → joined (joined x y) z ≡ joined x (joined y z)
unfolding joined
joined-assoc x y z =
    let e : x.used + y.used + z.used ≡ x.used + (y.used + z.used) = omega arith in
    rw (e, append_assoc x.rows y.rows z.rows, append_assoc x.sends y.sends z.sends, or_assoc x.heard y.heard z.heard)

-- a call that did nothing, however it ended, and the next with the same room
nothing-first : (at r q : ℕ) (s : Session) (left : List ℕ) {y : Did Ended} → Runs (at + 0) (r - 0) (q - 0) s left y
    → Runs at r q s left (joined (did s NoSlot) y)
unfolding joined
nothing-first at r q s left {y = y} c =
    let e : joined (did s NoSlot) y ≡ y = rw (zero-add y.used) in
    subst (Runs at r q s left) (sym e) (runs_as (add-zero at) (sub-zero r) (sub-zero q) refl refl c)

module _ (at r q : ℕ) (s : Session) (b c : List ℕ) where
  -- a step on the first bytes that finds its slots is the step on all of them
  does-on-all : Does at r q s b → Does at r q s (b ++ c)
  does-on-all d =
      let e : step s (b ++ c) ≡ step s b = step-more s b c d.up d.long in
      record {
        up = d.up;
        long = λ h. d.long (sym (ap (λ (x : Stepped). code_number x.answer.code) e) ∙ h);
        room = subst (λ (x : Stepped). Fits at r q x.answer) (sym e) d.room;
      }

  on-all : {y : Did Ended} → Does at r q s b → ((step s b).session.state ≡ state.Down → ⊥)
      → Runs (at + front_length b) (r - length (row_numbers (row_at at (front_length b) (step s b).answer.row)))
      (q - length (send_numbers (sends_of (step s b).answer))) (step s b).session (drop (front_length b) b ++ c) y
      → Runs at r q s (b ++ c) (joined (step_done at b (step s b)) y)
  unfolding step_done
  on-all {y = y} d u z =
      let e : step s b ≡ step s (b ++ c) = sym (step-more s b c d.up d.long) in
      let f : front_length b ≡ front_length (b ++ c) = sym (front-more s b c d.up d.long) in
      let i : drop (front_length b) b ++ c ≡ drop (front_length b) (b ++ c) = sym (drop-append-le (front_length b) b c (front-within b)) in
      let j = ap₂ (λ (n : ℕ) (x : Stepped). r - length (row_numbers (row_at at n x.answer.row))) f e in
      let k = ap (λ (x : Stepped). q - length (send_numbers (sends_of x.answer))) e in
      let l = ap (λ (x : Stepped). x.session) e in
      let m : step_done at b (step s b) ≡ step_done at (b ++ c) (step s (b ++ c)) = ap (step_done at b) e ∙ rw f in
      let v : ((step s (b ++ c)).session.state ≡ state.Down → ⊥) = λ h. u (ap (λ (x : Stepped). x.session.state) e ∙ h) in
      subst (λ (t : Did (Option Ended)). Runs at r q s (b ++ c) (joined t y)) (sym m)
      (on (does-on-all d) v (runs_as (ap (λ (n : ℕ). at + n) f) j k l (i ∙ ap (λ (n : ℕ). drop n (b ++ c)) f) z))

-- a call on the first bytes, and one on what it left and all that is behind
runs-joined : {at r₁ q₁ : ℕ} (r q : ℕ) {s : Session} {b : List ℕ} (c : List ℕ) {x y : Did Ended} → Runs at r₁ q₁ s b x
    → (x.session.state ≡ state.Down → ⊥) → r₁ ≤ r → q₁ ≤ q
    → Runs (at + x.used) (r - length (row_numbers x.rows)) (q - length (send_numbers x.sends)) x.session (drop x.used b ++ c) y
    → Runs at r q s (b ++ c) (joined x y)
unfolding joined step_done row_numbers send_numbers
runs-joined {at = at} r q {s = s} {b = b} c (short up e) h i j z = nothing-first at r q s (b ++ c) z
runs-joined {at = at} r q {s = s} {b = b} c (full up l f) h i j z = nothing-first at r q s (b ++ c) z
runs-joined r q c (down d e) h i j z = absurd (h e)
runs-joined {at = at} r q {s = s} {b = b} c {y = y} (on {y = x} d u o) h i j z =
    let k : ℕ = front_length b in
    let ws : List Placed = row_at at k (step s b).answer.row in
    let ss : List Send = sends_of (step s b).answer in
    let R : ℕ = r - length (row_numbers ws) in
    let Q : ℕ = q - length (send_numbers ss) in
    let e₁ : at + (k + x.used) ≡ at + k + x.used = omega arith in
    let e₂ : r - length (row_numbers (ws ++ x.rows)) ≡ R - length (row_numbers x.rows) = omega (arith, rows_both ws x.rows) in
    let e₃ : q - length (send_numbers (ss ++ x.sends)) ≡ Q - length (send_numbers x.sends) = omega (arith, sends-both ss x.sends) in
    let e₄ = ap (λ (l : List ℕ). l ++ c) (sym (drop-drop x.used k b)) in
    let others = runs-joined R Q c o h (omega arith) (omega arith) (runs_as e₁ e₂ e₃ refl e₄ z) in
    subst (Runs at r q s (b ++ c)) (sym (joined-assoc (step_done at b (step s b)) x y)) (on-all at r q s b c (does-more d i j) u others)

-- a call on all bytes does what a call on the first does, and goes on with what that left of bytes and of room
module _ (at r q r₁ q₁ : ℕ) (s : Session) (b c : List ℕ) where
  abbrev begun : Did Ended
  begun = course at r₁ q₁ s b

  goes_on : (s.state ≡ state.Down → ⊥) → (begun.session.state ≡ state.Down → ⊥) → r₁ ≤ r → q₁ ≤ q
      → course at r q s (b ++ c)
      ≡ joined begun
      (course (begun.used + at) (r - length (row_numbers begun.rows)) (q - length (send_numbers begun.sends))
      begun.session (drop begun.used b ++ c))
  goes_on up up₁ i j =
      runs-course
      (runs-joined r q c (course-runs at r₁ q₁ s b up) up₁ i j (runs_as (add_comm begun.used at) refl refl refl refl (course-runs _ _ _ _ _ up₁)))

-- A call on some bytes, and another on those that it left and on more: together they do what one call on all the bytes does. Supposed: the first call
-- does not end Down (it ends for want of bytes, or of a slot), and the second and the one call on all the bytes find their slots; how many numbers
-- each is lent does not matter otherwise. The second's rows are placed from where the first ended.
module _ (s : Session) (b c : List ℕ) (r q r₁ q₁ r₂ q₂ : ℕ) where
  abbrev pub whole : Did Ended
  whole = course 0 r q s (b ++ c)

  abbrev pub first : Did Ended
  first = course 0 r₁ q₁ s b

  abbrev pub second : Did Ended
  second = course 0 r₂ q₂ first.session (drop first.used b ++ c)

  pub two-calls : (s.state ≡ state.Down → ⊥) → ((k : Option Fault) → first.after ≡ Down k → ⊥) → (second.after ≡ NoSlot → ⊥)
      → (whole.after ≡ NoSlot → ⊥) → whole ≡ joined first (further first.used second)
  unfolding joined
  two-calls up ends h₂ h =
      let up₁ : (first.session.state ≡ state.Down → ⊥) = λ d. let e = ended-down 0 r₁ q₁ s b up d in ends e.0 e.1 in
      let n : ℕ = first.used in
      let left : List ℕ = drop n b ++ c in
      let R : ℕ = r + r₁ + r₂ in
      let Q : ℕ = q + q₁ + q₂ in
      let R₂ : ℕ = R - length (row_numbers first.rows) in
      let Q₂ : ℕ = Q - length (send_numbers first.sends) in
      let i = course-rows 0 r₁ q₁ s b up in
      let j = course-sends 0 r₁ q₁ s b up in
      let all : whole ≡ course 0 R Q s (b ++ c) = sym (room-more 0 r q R Q s (b ++ c) up h (omega arith) (omega arith)) in
      let goes = goes_on 0 R Q r₁ q₁ s b c up up₁ (omega arith) (omega arith) in
      let two : whole ≡ joined first (course (n + 0) R₂ Q₂ first.session left) = all ∙ goes in
      let h₁ : ((course (n + 0) R₂ Q₂ first.session left).after ≡ NoSlot → ⊥) = λ e. h (ap (λ (x : Did Ended). x.after) two ∙ e) in
      let next : course 0 R₂ Q₂ first.session left ≡ second = room-more 0 r₂ q₂ R₂ Q₂ first.session left up₁ h₂ (omega arith) (omega arith) in
      two ∙ ap (joined first) (slots-further n 0 R₂ Q₂ first.session left up₁ h₁ ∙ ap (further n) next)
