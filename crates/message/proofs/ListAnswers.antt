-- The list says what the questions answer: at each set position its five numbers are those of the value that a question finds there, and begin
-- where the question for a text does.
use mathlib.Core.Path.{◌≡◌, refl, sym, ap, ap₂, ◌∙◌}
use mathlib.Core.Bool.{Bool, true, false, cond}
use mathlib.Core.List.{List, [], ◌∷◌, ◌++◌, foldr}
use Prim.Native.Nat.{ℕ, zero, suc, ◌+◌, ◌≤◌, ◌<◌}
use native.Mathlib.Omega.{arith}
use lib.ListN.{drop}
use Rattle.tables.specs.declared.table.Row.{Row}
use Rattle.tables.specs.Tables.{row_of}
use Rattle.wire.specs.Map.{present}
use Rattle.fields.specs.Cut.{positions, extent_of, Piece, cut_at, cut, bytes_at}
use Rattle.fields.specs.Value.{value_in, value_at}
use Rattle.fields.proofs.CutLaws.{bytes-here, bytes_past}
use Rattle.message.specs.declared.frame.Header.{Header}
use Rattle.message.specs.Ask.{number_answer, text_answer, asked, ask_number, ask_text, start_by}
use Rattle.message.specs.Frame.{map_in, body_in}
use Rattle.message.specs.List.{five, five_of, list_of, list_by}
use Rattle.message.specs.Read.{Good, read_of}

module _ (rows : ℕ → Row) (w : ℕ) (m : List ℕ) (f g : ℕ → List ℕ) where
  -- the five numbers at each of these positions
  each_at : List ℕ → List ℕ
  each_at = foldr (λ (p : ℕ) (rest : List ℕ). g p ++ rest) []

  module _ (same : (p : ℕ) → p < 256 → present m p ≡ true → g p ≡ five_of (rows p) w p (f p)) where
    -- field by field, where f gives the bytes of each
    by-step : (t : Bool) (n k : ℕ) (s : List ℕ) → k + suc n ≤ 256 → present m k ≡ t
        → ((p : ℕ) → k ≤ p → bytes_at p (cut_at rows (cond t (k ∷ positions m n (suc k)) (positions m n (suc k))) s) ≡ f p)
        → ((s : List ℕ) → ((p : ℕ) → suc k ≤ p → bytes_at p (cut_at rows (positions m n (suc k)) s) ≡ f p)
        → list_of rows w (cut_at rows (positions m n (suc k)) s) ≡ each_at (positions m n (suc k)))
        → list_of rows w (cut_at rows (cond t (k ∷ positions m n (suc k)) (positions m n (suc k))) s)
        ≡ each_at (cond t (k ∷ positions m n (suc k)) (positions m n (suc k)))
    unfolding cut_at list_of each_at
    by-step true n k s l h agree again =
        let rest = drop (extent_of (rows k) s) s in
        let x : Piece = record { position = k; bytes = s } in
        let own : s ≡ f k = sym (bytes-here k x (cut_at rows (positions m n (suc k)) rest) refl) ∙ agree k (omega arith) in
        ap₂ (λ (a b : List ℕ). a ++ b) (ap (five_of (rows k) w k) own ∙ sym (same k (omega arith) h))
        (again rest (λ p u. sym (bytes_past p x (cut_at rows (positions m n (suc k)) rest) (λ e. omega arith)) ∙ agree p (omega arith)))
    by-step false n k s l h agree again = again s (λ p u. agree p (omega arith))

    by-positions : (n k : ℕ) (s : List ℕ) → k + n ≤ 256 → ((p : ℕ) → k ≤ p → bytes_at p (cut_at rows (positions m n k) s) ≡ f p)
        → list_of rows w (cut_at rows (positions m n k) s) ≡ each_at (positions m n k)
    unfolding positions cut_at list_of each_at
    by-positions zero k s l agree = refl
    by-positions (suc n) k s l agree =
        by-step (present m k) n k s l refl agree (λ s agree. by-positions n (suc k) s (omega arith) agree)

-- of a message that is read
module _ (s : List ℕ) (h : Header) (n : ℕ) (e : read_of s ≡ Good h n) where
  here : ℕ → List ℕ
  here p = bytes_at p (cut (row_of h.messagetype) (map_in s) (body_in n s))

  five-here : (p : ℕ) → p < 256 → present (map_in s) p ≡ true
      → five p (start_by p s (read_of s)) (extent_of (row_of h.messagetype p) (here p)) (value_at (row_of h.messagetype) (map_in s) (body_in n s) p)
      ≡ five_of (row_of h.messagetype p) n p (here p)
  unfolding five_of start_by value_at value_in here
  five-here p l t = rw (e, t)

  -- all its set positions, each with the value that a question finds, and where it begins
  pub list-answers : list_by s (read_of s)
      ≡ foldr (λ (p : ℕ) (rest : List ℕ). five p (start_by p s (read_of s)) (extent_of (row_of h.messagetype p) (bytes_at p (cut (row_of h.messagetype) (map_in s) (body_in n s)))) (value_at (row_of h.messagetype) (map_in s) (body_in n s) p) ++ rest) [] (positions (map_in s) 256 0)
  unfolding list_by cut here each_at
  list-answers =
      ap (list_by s) e ∙ by-positions (row_of h.messagetype) n (map_in s) here _ five-here 256 0 (body_in n s) (omega arith) (λ p u. refl)

  -- and the questions' answers are that value's
  pub number-answers : (p : ℕ) → ask_number s p ≡ number_answer p (value_at (row_of h.messagetype) (map_in s) (body_in n s) p)
  unfolding ask_number asked
  number-answers p = rw e

  pub text-answers : (p : ℕ) → ask_text s p ≡ text_answer p (value_at (row_of h.messagetype) (map_in s) (body_in n s) p)
  unfolding ask_text asked
  text-answers p = rw e
