-- The lists and the slice of a call. More room than enough changes nothing; and a call on a slice that begins further on does the same, with its rows
-- further on.
use Prim.Native.Nat.{ℕ, ◌+◌, ◌-◌, ◌≤◌}
use mathlib.Core.Path.{◌≡◌, refl, sym, ap, subst, ◌∙◌}
use mathlib.Core.Bool.{Bool, true, false, cond}
use mathlib.Core.List.{List, [], ◌∷◌, ◌++◌}
use mathlib.Core.Logic.{◌⊎◌, inl, inr, ⊎_elim}
use native.Mathlib.Omega.{arith}
use borrow.Author.Tests.{leb-true, leb-false}
use lib.Dec.{eqb, leb}
use lib.ListN.{length, drop, length-drop}
use Rattle.message.specs.Frame.{front_length}
use Rattle.session.specs.declared.state.Answer.{Answer}
use Rattle.session.specs.declared.state.Row.{Row}
use Rattle.session.specs.declared.state.Session.{Session}
use Rattle.session.specs.declared.state.State.TheVariants as state
use Rattle.session.specs.declared.state.Stepped.{Stepped}
use Rattle.calls.specs.declared.Ended.{Ended}
use Rattle.calls.specs.declared.Ended.TheVariants.{NoSlot}
use Rattle.session.specs.Day.{step}
use Rattle.session.specs.State.{last, sort_number}
use Rattle.calls.specs.Steps.{Placed, row_at, sends_of, row_numbers, send_numbers, Did, joined, step_done, course, further_rows, further}
use Rattle.session.proofs.StepLaws.{front-within}
use Rattle.calls.proofs.CourseLaws.{row_room, Fits}
use Rattle.calls.proofs.SingleLaws.{Does, Runs, short, full, down, on, course-runs, runs-course}

-- a call by equal places, lists, sessions and bytes
pub runs_as : {at at' r r' q q' : ℕ} {s s' : Session} {left left' : List ℕ} {x : Did Ended} → at ≡ at' → r ≡ r' → q ≡ q' → s ≡ s' → left ≡ left'
    → Runs at r q s left x → Runs at' r' q' s' left' x
runs_as {at = at} {at' = at'} {r = r} {r' = r'} {q = q} {q' = q'} {s = s} {s' = s'} {left' = left'} {x = x} a b c d e h =
    subst (λ (z : ℕ). Runs z r' q' s' left' x) a
    (subst (λ (z : ℕ). Runs at z q' s' left' x) b
    (subst (λ (z : ℕ). Runs at r z s' left' x) c
    (subst (λ (z : Session). Runs at r q z left' x) d
    (subst (λ (z : List ℕ). Runs at r q s z x) e h))))

-- more room
pub does-more : {at r q r' q' : ℕ} {s : Session} {left : List ℕ} → Does at r q s left → r ≤ r' → q ≤ q' → Does at r' q' s left
does-more d a b = record {
  up = d.up;
  long = d.long;
  room = record { place = d.room.place; rows = omega (arith, d.room.rows); sends = omega (arith, d.room.sends) };
}

runs-more : {at r q r' q' : ℕ} {s : Session} {left : List ℕ} {x : Did Ended} → Runs at r q s left x → (x.after ≡ NoSlot → ⊥) → r ≤ r' → q ≤ q'
    → Runs at r' q' s left x
unfolding joined
runs-more (short up c) h a b = short up c
runs-more (full up l f) h a b = absurd (h refl)
runs-more (down d e) h a b = down (does-more d a b) e
runs-more (on d u c) h a b = on (does-more d a b) u (runs-more c h (omega arith) (omega arith))

-- a call that found its slots does the same where there are more
pub room-more : (at r q r' q' : ℕ) (s : Session) (left : List ℕ) → (s.state ≡ state.Down → ⊥) → ((course at r q s left).after ≡ NoSlot → ⊥)
    → r ≤ r' → q ≤ q' → course at r' q' s left ≡ course at r q s left
room-more at r q r' q' s left up h a b = runs-course (runs-more (course-runs at r q s left up) h a b)

-- rows further on, and what is done further on
further-both : (n : ℕ) (xs ys : List Placed) → further_rows n (xs ++ ys) ≡ further_rows n xs ++ further_rows n ys
unfolding further_rows
further-both n [] ys = refl
further-both n (w ∷ ws) ys = rw (further-both n ws ys)

further-row : (n at k : ℕ) (w : Row) → further_rows n (row_at at k w) ≡ row_at (n + at) k w
unfolding further_rows row_at
further-row n at k w = go (eqb (sort_number w) 0)
  where
    go : (b : Bool) → further_rows n (cond b [] (record { row = w; at = at; size = k } ∷ []))
        ≡ cond b [] (record { row = w; at = n + at; size = k } ∷ [])
    go true = refl
    go false = refl

further-joined : (n at : ℕ) (left : List ℕ) (x : Stepped) (y : Did Ended)
    → further n (joined (step_done at left x) y) ≡ joined (step_done (n + at) left x) (further n y)
unfolding further joined step_done
further-joined n at left x y =
    rw (further-both n (row_at at (front_length left) x.answer.row) y.rows, further-row n at (front_length left) x.answer.row)

-- a step further on finds its slots where its place is a number
nearer : (n at r q : ℕ) (a : Answer) → Fits (n + at) r q a → Fits at r q a
nearer n at r q a f = record {
  place = omega (arith, f.place);
  rows = omega (arith, f.rows, row_room at 0 (n + at) 0 a.row);
  sends = f.sends;
}

does-further : (n : ℕ) {at r q : ℕ} {s : Session} {left : List ℕ} → Does at r q s left → n + at ≤ last → Does (n + at) r q s left
does-further n {at = at} {s = s} {left = left} d p = record {
  up = d.up;
  long = d.long;
  room = record { place = p; rows = omega (arith, d.room.rows, row_room at 0 (n + at) 0 (step s left).answer.row); sends = d.room.sends };
}

-- which it is if the bytes end before the last number, or if the call further on finds its slots
module _ (n at r q : ℕ) (s : Session) (left : List ℕ) where
  abbrev Near : Type 0
  Near = (n + at + length left ≤ last) ⊎ ((course (n + at) r q s left).after ≡ NoSlot → ⊥)

  place : Does at r q s left → Near → n + at ≤ last
  place d = ⊎_elim (λ l. omega arith) (λ h. go h (leb (n + at) last) refl)
    where
      go : ((course (n + at) r q s left).after ≡ NoSlot → ⊥) → (b : Bool) → leb (n + at) last ≡ b → n + at ≤ last
      go h true e = leb-true (n + at) last e
      go h false e =
          let f : (Fits (n + at) r q (step s left).answer → ⊥) = λ f. omega (arith, f.place, leb-false (n + at) last e) in
          absurd (h (ap (λ (x : Did Ended). x.after) (runs-course (full d.up d.long f))))

-- the rest of a call after its first step, with the room that this leaves
module _ (n at r q : ℕ) (s : Session) (left : List ℕ) where
  abbrev rows : ℕ → ℕ
  rows place = r - length (row_numbers (row_at place (front_length left) (step s left).answer.row))

  abbrev sends : ℕ
  sends = q - length (send_numbers (sends_of (step s left).answer))

  -- it begins further on
  carried : {y : Did Ended} → Runs (n + (at + front_length left)) (rows at) sends (step s left).session (drop (front_length left) left) y
      → Runs (n + at + front_length left) (rows (n + at)) sends (step s left).session (drop (front_length left) left) y
  carried c =
      let k : ℕ = front_length left in
      let e : n + (at + k) ≡ n + at + k = omega arith in
      runs_as e (ap (λ (m : ℕ). r - m) (row_room at k (n + at) k (step s left).answer.row)) refl refl refl c

  -- and its places are numbers too
  near-rest : Does (n + at) r q s left → ((step s left).session.state ≡ state.Down → ⊥) → Near n at r q s left
      → Near n (at + front_length left) (rows at) sends (step s left).session (drop (front_length left) left)
  unfolding joined
  near-rest d u =
      ⊎_elim (λ l. inl (omega (arith, front-within left, length-drop (front_length left) left)))
      (λ h. inr (λ e. h (ap (λ (x : Did Ended). x.after) (runs-course (on d u (carried (course-runs _ _ _ _ _ u)))) ∙ e)))

runs-further : (n : ℕ) {at r q : ℕ} {s : Session} {left : List ℕ} {x : Did Ended} → Runs at r q s left x → Near n at r q s left
    → Runs (n + at) r q s left (further n x)
unfolding further further_rows
runs-further n (short up c) h = short up c
runs-further n {at = at} {r = r} {q = q} {s = s} {left = left} (full up l f) h =
    let f' : (Fits (n + at) r q (step s left).answer → ⊥) = λ g. f (nearer n at r q (step s left).answer g) in
    full up l f'
runs-further n {at = at} {r = r} {q = q} {s = s} {left = left} (down d e) h =
    subst (Runs (n + at) r q s left) (sym (further-joined n at left (step s left) _)) (down (does-further n d (place n at r q s left d h)) e)
runs-further n {at = at} {r = r} {q = q} {s = s} {left = left} (on {y = y} d u c) h =
    let d' : Does (n + at) r q s left = does-further n d (place n at r q s left d h) in
    subst (Runs (n + at) r q s left) (sym (further-joined n at left (step s left) y))
    (on d' u (carried n at r q s left (runs-further n c (near-rest n at r q s left d' u h))))

-- the same call on a slice that begins further on does the same, with its rows further on
module _ (n at r q : ℕ) (s : Session) (left : List ℕ) (up : s.state ≡ state.Down → ⊥) where
  pub place-further : n + at + length left ≤ last → course (n + at) r q s left ≡ further n (course at r q s left)
  place-further l = runs-course (runs-further n (course-runs at r q s left up) (inl l))

  pub slots-further : ((course (n + at) r q s left).after ≡ NoSlot → ⊥) → course (n + at) r q s left ≡ further n (course at r q s left)
  slots-further h = runs-course (runs-further n (course-runs at r q s left up) (inr h))
