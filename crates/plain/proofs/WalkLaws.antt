-- The walk over the list's arrivals: one more of them, and what it comes to.
use Prim.Native.Nat.{ℕ, ◌+◌, ◌<◌, ◌≤◌}
use mathlib.Core.Path.{◌≡◌, refl, sym, ap, ◌∙◌}
use mathlib.Core.Bool.{false}
use mathlib.Core.List.{List, [], ◌∷◌, ◌++◌}
use native.Mathlib.Numerals.{add-one}
use lib.ListN.{length, get_or, take, drop, set, drop_of_length-le}
use lib.Seq.{drop-cons}
use Rattle.sheet.specs.declared.line.Line.{Line}
use Rattle.sheet.specs.Line.{numbers_in}
use Rattle.std.specs.Prelude.{Some}
use Rattle.plain.specs.declared.Day.TheVariants.{Waiting}
use Rattle.plain.specs.declared.Told.{Told}
use Rattle.plain.specs.Arrivals.{line_in, lines_in, is_full, list_after, arrived}
use Rattle.plain.specs.Plain.{still, ruled, follows, worked_out}
use Rattle.plain.proofs.ListLaws.{arrival-kept}

-- t is what the arrivals before the i-th give: those from it on give what all of them give on t₀
pub record Walked (xs : List (List ℕ)) (t₀ t : Told) (i : ℕ) : Type 0 where
  pub same : follows t (lines_in (drop i xs)) ≡ follows t₀ (lines_in xs)

-- nothing is walked yet
pub walked_none : (xs : List (List ℕ)) (t₀ : Told) → Walked xs t₀ t₀ 0
walked_none xs t₀ = record { same = refl }

module _ (xs : List (List ℕ)) (t₀ t : Told) (i : ℕ) (w : Walked xs t₀ t i) where
  -- the i-th arrival
  abbrev at : Line
  at = line_in (get_or (get_or xs i []) 0 0) (get_or (get_or xs i []) 1 0) (get_or (get_or xs i []) 2 0) (get_or (get_or xs i []) 3 0)

  step : i < length xs → follows t (lines_in (drop i xs)) ≡ follows (ruled t.day at) (lines_in (drop (i + 1) xs))
  unfolding follows lines_in
  step l = rw (drop-cons xs i [] l, add-one i) refl

  pub walked_next : i < length xs → (u : Told) → u ≡ ruled t.day at → Walked xs t₀ u (i + 1)
  walked_next l u q = record { same = ap (λ (x : Told). follows x (lines_in (drop (i + 1) xs))) q ∙ sym (step l) ∙ w.same }

  pub walked_all : length xs ≤ i → t ≡ follows t₀ (lines_in xs)
  unfolding follows lines_in
  walked_all l = sym (ap (λ (ys : List (List ℕ)). follows t (lines_in ys)) (drop_of_length-le xs l)) ∙ w.same

-- what was walked over the list with the arrival in it, in four numbers, is the answer
pub walked-answer : (list : List (List ℕ)) (count : ℕ) (l : Line) (x : List ℕ) (t₀ t : Told) → is_full list count ≡ false → x ≡ numbers_in l
    → t₀ ≡ still (Waiting 1 2) → t ≡ follows t₀ (lines_in (take (count + 1) (set list count x)))
    → (Some (count + 1, t) ≡ arrived list count l) × (set list count x ≡ list_after list count l)
unfolding arrived list_after worked_out
walked-answer list count l x t₀ t h q b e =
    let after : set list count x ≡ list_after list count l = rw (h, q) refl in
    let all : lines_in (take (count + 1) (set list count x)) ≡ lines_in (take count list) ++ l ∷ [] =
    ap (λ (s : List (List ℕ)). lines_in (take (count + 1) s)) after ∙ arrival-kept list count l h in
    let u : t ≡ worked_out (lines_in (take count list) ++ l ∷ []) = e ∙ rw (b, all) refl in
    (ap (λ (x : Told). Some (count + 1, x)) u ∙ rw h refl, after)
