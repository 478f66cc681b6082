-- What the loop over a body's fields keeps true, whichever of the four shapes lays the next one.
use mathlib.Core.Path.{◌≡◌, refl, sym, ap, subst, ◌∙◌}
use mathlib.Core.List.{List}
use Prim.Native.Nat.{ℕ, ◌+◌, ◌-◌, ◌/◌, ◌^◌, ◌≤◌}
use native.Mathlib.Omega.{arith}
use lib.Bits.{bit_and}
use lib.Count.{count_leading_zeros}
use lib.ListN.{length, take, drop}
use Rattle.tables.specs.declared.table.Row.{Row}
use Rattle.std.proofs.Common.{Result, length-drop}
use Rattle.std.specs.Result.{result_unwrap_or}
use Rattle.wire.specs.declared.laying.NotLaid.{NotLaid}
use Rattle.wire.specs.Laying.{laid, laid_answer}
use Rattle.fields.specs.Cut.{Piece, extent_of}
use Rattle.fields.specs.Plain.{plain_row, plain_pieces}
use Rattle.wire.proofs.BufferLaws.{wrote-laid, lent_from}
use Rattle.wire.proofs.TestLaws.{rest_of}
use Rattle.fields.proofs.FillLaws.{Each, Filled, fill-fits, fill-same, fill_on}

-- all pieces in plain form, and one
pub each-plain : (rows : ℕ → Row) → Each (plain_pieces rows) (λ (x : Piece). plain_row (rows x.position) x.bytes)
unfolding plain_pieces
each-plain rows = record { none = refl; one = λ x xs. refl }

-- the next field's plain form e is laid: a is the answer and n what it says was written
module _ {rows : ℕ → Row} {m d₀ whole d : List ℕ} {at left : ℕ} {rest : List ℕ} (i : Filled rows m (plain_pieces rows) d₀ whole d at left rest) (h : left ≡ 0 → ⊥)
    (e : List ℕ) (same : plain_row (rows (count_leading_zeros 64 left)) rest ≡ e) (a : Result ℕ NotLaid) (n : ℕ)
    (o : a ≡ laid_answer e (take (length d - at) (drop at d))) (b : n ≡ result_unwrap_or a 0) where
  -- which is its length
  long : n ≡ length e
  long =
      let lent = take (length d - at) (drop at d) in
      let l : length lent ≡ length d - at = ap length (rest_of d at) ∙ length-drop at d in
      let f = fill-fits i (each-plain rows) h e same in
      let s = fill-same i in
      b ∙ ap (λ (x : Result ℕ NotLaid). result_unwrap_or x 0) (o ∙ wrote-laid e lent (omega arith))

  -- the buffer has room for it
  pub put-fits : at + n ≤ length d₀
  put-fits = omega (arith, fill-fits i (each-plain rows) h e same, long)

  -- and the loop goes on behind it: y is the rest of the buffer, which was lent, and `taken` what the field takes of the body
  pub put_on : (y after next : List ℕ) (taken to : ℕ) → y ≡ laid e (take (length d - at) (drop at d)) → extent_of (rows (count_leading_zeros 64 left)) rest ≡ taken
      → after ≡ lent_from at d y → to ≡ at + n → next ≡ drop taken rest
      → Filled rows m (plain_pieces rows) d₀ whole after to (bit_and left (9223372036854775807 / 2 ^ count_leading_zeros 64 left)) next
  put_on y after next taken to q t u v r =
      let others = bit_and left (9223372036854775807 / 2 ^ count_leading_zeros 64 left) in
      subst (λ (x : List ℕ). Filled rows m (plain_pieces rows) d₀ whole x to others next) (sym u)
      (subst (λ (k : ℕ). Filled rows m (plain_pieces rows) d₀ whole (lent_from at d y) k others next) (sym v)
      (fill_on i (each-plain rows) h e same y n taken next long q (sym t) r))
