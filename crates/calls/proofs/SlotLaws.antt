-- The slots of the lent lists: how many numbers a step's row and its messages to send take there, and numbers laid one by one.
use Prim.Native.Nat.{ℕ, ◌+◌, ◌-◌, ◌≤◌}
use mathlib.Core.Path.{◌≡◌, refl, sym, ap, ◌∙◌}
use mathlib.Core.List.{List, [], ◌∷◌, ◌++◌}
use native.Mathlib.Omega.{arith}
use lib.ListN.{length, take, drop, length-append, length-drop}
use Rattle.wire.specs.Laying.{laid}
use Rattle.wire.proofs.BufferLaws.{laid-there, lent_from, laid-behind, front-own}
use Rattle.wire.proofs.TestLaws.{rest_of}
use Rattle.session.specs.declared.state.Answer.{Answer}
use Rattle.session.specs.declared.state.Figures.{Figures}
use Rattle.session.specs.declared.state.Row.{Row}
use Rattle.session.specs.declared.state.Row.TheVariants as row
use Rattle.session.specs.declared.state.Send.{Send}
use Rattle.session.specs.declared.state.Send.TheVariants as send
use Rattle.session.specs.State.{sort_number, first_of, last_of, told}
use Rattle.calls.specs.Steps.{Placed, row_at, send_in, sends_of, row_numbers, send_numbers}
use Rattle.calls.proofs.CourseLaws.{numbers-sends}

-- no row takes no number
pub no_row : (at n : ℕ) (r : Row) → r ≡ row.Nothing → row_numbers (row_at at n r) ≡ []
unfolding row_at row_numbers sort_number
no_row at n r h = rw h

-- every row has a slot of five numbers
one-row : (at n : ℕ) (r : Row) → (r ≡ row.Nothing → ⊥) → row_at at n r ≡ record { row = r; at = at; size = n } ∷ []
unfolding row_at sort_number
one-row at n row.Nothing h = absurd (h refl)
one-row at n (row.Business a) h = refl
one-row at n (row.Session a) h = refl
one-row at n (row.Filled a b) h = refl
one-row at n (row.Reset a b) h = refl

pub row-size : (at n : ℕ) (r : Row) → (r ≡ row.Nothing → ⊥) → length (row_numbers (row_at at n r)) ≡ 5
unfolding row_numbers
row-size at n r h = rw (one-row at n r h)

-- once its numbers are laid over the front of d its slot is laid
pub row_laid : (at n : ℕ) (r : Row) (s f l : ℕ) (d x : List ℕ) → (r ≡ row.Nothing → ⊥) → length (row_numbers (row_at at n r)) ≤ length d
    → s ≡ sort_number r → f ≡ first_of r → l ≡ last_of r → x ≡ s ∷ f ∷ l ∷ at ∷ n ∷ []
    → (5 ≡ length (row_numbers (row_at at n r))) × (x ++ drop 5 d ≡ laid (row_numbers (row_at at n r)) d)
unfolding row_numbers
row_laid at n r s f l d x h m p q t e =
    let w = laid-there (row_numbers (record { row = r; at = at; size = n } ∷ [])) d (omega (arith, row-size at n r h)) in (
      sym (row-size at n r h),
      rw (e, p, q, t) (sym w) ∙ ap (λ (v : List Placed). laid (row_numbers v) d) (sym (one-row at n r h)),
    )

-- the same holds of a message to send, whose slot has four numbers
pub no-send : (x : Send) → x ≡ send.Nothing → send_numbers (send_in x) ≡ []
unfolding send_in send_numbers told
no-send x h = rw h

one-send : (x : Send) → (x ≡ send.Nothing → ⊥) → send_in x ≡ x ∷ []
unfolding send_in told
one-send send.Nothing h = absurd (h refl)
one-send (send.Heartbeat n id) h = refl
one-send (send.Logout n) h = refl
one-send (send.GapFill n new) h = refl
one-send (send.ResendRequest n start end) h = refl

pub send-size : (x : Send) → (x ≡ send.Nothing → ⊥) → length (send_numbers (send_in x)) ≡ 4
unfolding send_numbers
send-size x h = rw (one-send x h)

pub send-laid : (s : Send) (t : Figures) (d x : List ℕ) → (s ≡ send.Nothing → ⊥) → length (send_numbers (send_in s)) ≤ length d
    → t ≡ told s → x ≡ t.kind ∷ t.number ∷ t.first ∷ t.second ∷ []
    → (4 ≡ length (send_numbers (send_in s))) × (x ++ drop 4 d ≡ laid (send_numbers (send_in s)) d)
unfolding send_numbers
send-laid s t d x h m p e =
    let w = laid-there (send_numbers (s ∷ [])) d (omega (arith, send-size s h)) in (
      sym (send-size s h),
      rw (e, p) (sym w) ∙ ap (λ (v : List Send). laid (send_numbers v) d) (sym (one-send s h)),
    )

-- the numbers of an answer's messages to send are the first one's and then the second one's
two-sends : (a : Answer) → send_numbers (sends_of a) ≡ send_numbers (send_in a.first) ++ send_numbers (send_in a.second)
unfolding sends_of
two-sends a = numbers-sends (send_in a.first) (send_in a.second)

pub two-sizes : (a : Answer)
    → length (send_numbers (sends_of a)) ≡ length (send_numbers (send_in a.first)) + length (send_numbers (send_in a.second))
two-sizes a = ap length (two-sends a) ∙ length-append (send_numbers (send_in a.first)) (send_numbers (send_in a.second))

-- where both fit d, the first one does
module _ (a : Answer) (d : List ℕ) (h : length (send_numbers (sends_of a)) ≤ length d) where
  pub first-room : length (send_numbers (send_in a.first)) ≤ length d
  first-room = omega (arith, two-sizes a)

  -- x is d after the first one's n numbers were laid at its front, and the second one fits what is behind them
  module _ (x : List ℕ) (n : ℕ) (e : n ≡ length (send_numbers (send_in a.first))) where
    pub second-room : length x ≡ length d → length (send_numbers (send_in a.second)) ≤ length (take (length x - n) (drop n x))
    second-room l = omega (arith, two-sizes a, ap length (rest_of x n), length-drop n x)

    -- y is that rest after the second one's m numbers were laid at its front, and so both are laid over d
    pub both-laid : (m : ℕ) (y : List ℕ) → x ≡ laid (send_numbers (send_in a.first)) d → m ≡ length (send_numbers (send_in a.second))
        → y ≡ laid (send_numbers (send_in a.second)) (take (length x - n) (drop n x))
        → (n + m ≡ length (send_numbers (sends_of a))) × (lent_from n x y ≡ laid (send_numbers (sends_of a)) d)
    both-laid m y p f q =
        let v = send_numbers (send_in a.second) in (
          omega (arith, two-sizes a),
          laid-behind (send_numbers (send_in a.first)) v d x y n (sym e) (omega (arith, two-sizes a)) p q
              ∙ ap (λ (w : List ℕ). laid w d) (sym (two-sends a)),
        )

-- where there are no numbers, their count is 0 and d stays as it was
pub laid_none : (w d : List ℕ) → w ≡ [] → (0 ≡ length w) × (d ≡ laid w d)
laid_none w d e = (ap length (sym e), (front-own 0 d (omega arith)).is ∙ ap (λ (z : List ℕ). laid z d) (sym e))
