-- The cut: where a set position's field begins is what the fields before it leave, as a loop over the positions finds it; a clear position has
-- no bytes; and every byte of a field is a byte of the body.
use mathlib.Core.Path.{◌≡◌, refl, sym, ap, ◌∙◌}
use mathlib.Core.Bool.{Bool, true, false, cond}
use mathlib.Core.List.{List, [], ◌∷◌, ◌++◌}
use Prim.Native.Nat.{ℕ, zero, suc, ◌+◌, ◌≤◌, ◌<◌, min}
use native.Mathlib.Nat.{le_refl, min-le_left}
use native.Mathlib.Omega.{arith}
use lib.Dec.{eqb, ltb}
use lib.ListN.{length, drop, length-drop, drop_of_length-le}
use lib.Seq.{drop-drop}
use borrow.Author.Tests.{eq-eqb, ne_eqb, ltb-true, ltb-false}
use Rattle.tables.specs.declared.table.Row.{Row}
use Rattle.wire.specs.Map.{present}
use Rattle.fields.specs.Cut.{positions, extent_of, Piece, cut_at, cut, bytes_at}
use Rattle.fields.proofs.PositionLaws.{later, later-set, later-clear, around}

-- at a piece: it is the one, or the search goes on
module _ (p : ℕ) (x : Piece) (xs : List Piece) where
  pub bytes-here : x.position ≡ p → bytes_at p (x ∷ xs) ≡ x.bytes
  unfolding bytes_at
  bytes-here e = rw (eq-eqb x.position p e)

  pub bytes_past : (x.position ≡ p → ⊥) → bytes_at p (x ∷ xs) ≡ bytes_at p xs
  unfolding bytes_at
  bytes_past n = rw (ne_eqb x.position p n)

-- what the fields at these positions leave of s
unfoldable pub rest_after : (ℕ → Row) → List ℕ → List ℕ → List ℕ
rest_after rows [] s = s
rest_after rows (p ∷ ps) s = rest_after rows ps (drop (extent_of (rows p) s) s)

module _ (rows : ℕ → Row) where
  pub rest-append : (ps qs s : List ℕ) → rest_after rows (ps ++ qs) s ≡ rest_after rows qs (rest_after rows ps s)
  unfolding rest_after
  rest-append [] qs s = refl
  rest-append (p ∷ ps) qs s = rest-append ps qs (drop (extent_of (rows p) s) s)

  module _ (p : ℕ) (qs : List ℕ) where
    found-step : (b : Bool) (k : ℕ) (ps s : List ℕ) → eqb k p ≡ false
        → ((s : List ℕ) → bytes_at p (cut_at rows (ps ++ (p ∷ qs)) s) ≡ rest_after rows ps s)
        → bytes_at p (cut_at rows (cond b (k ∷ ps) ps ++ (p ∷ qs)) s) ≡ rest_after rows (cond b (k ∷ ps) ps) s
    unfolding cut_at bytes_at rest_after
    found-step true k ps s e again = rw e (again (drop (extent_of (rows k) s) s))
    found-step false k ps s e again = again s

    -- at p stands what the positions below it leave
    found_at : (m : List ℕ) (n k : ℕ) (s : List ℕ) → k + n ≤ p
        → bytes_at p (cut_at rows (positions m n k ++ (p ∷ qs)) s) ≡ rest_after rows (positions m n k) s
    unfolding positions cut_at bytes_at rest_after
    found_at m zero k s h = rw (eq-eqb p p refl)
    found_at m (suc n) k s h =
        found-step (present m k) k (positions m n (suc k)) s (ne_eqb k p (λ e. omega arith)) (λ s. found_at m n (suc k) s (omega arith))

  -- a set position of a body
  pub bytes_rest : (m body : List ℕ) (p : ℕ) → p < 256 → present m p ≡ true
      → bytes_at p (cut rows m body) ≡ rest_after rows (positions m (min p 256) 0) body
  unfolding cut
  bytes_rest m body p h b =
      let n : min p 256 ≤ p = min-le_left p 256 in
      rw (around m 256 p h b) (found_at p (later m 256 (p + 1)) m (min p 256) 0 body (omega arith))

module _ (rows : ℕ → Row) (m : List ℕ) (p : ℕ) where
  none-step : (b : Bool) (k : ℕ) (ps s : List ℕ) → (b ≡ true → k ≡ p → ⊥) → ((s : List ℕ) → bytes_at p (cut_at rows ps s) ≡ [])
      → bytes_at p (cut_at rows (cond b (k ∷ ps) ps) s) ≡ []
  unfolding cut_at
  none-step true k ps s h again =
      bytes_past p (record { position = k; bytes = s }) (cut_at rows ps (drop (extent_of (rows k) s) s)) (h refl) ∙ again (drop (extent_of (rows k) s) s)
  none-step false k ps s h again = again s

  none-at : (n k : ℕ) (s : List ℕ) → k + n ≤ 256 → ((q : ℕ) → q < 256 → present m q ≡ true → q ≡ p → ⊥)
      → bytes_at p (cut_at rows (positions m n k) s) ≡ []
  unfolding positions cut_at bytes_at
  none-at zero k s h other = refl
  none-at (suc n) k s h other =
      none-step (present m k) k (positions m n (suc k)) s (other k (omega arith)) (λ s. none-at n (suc k) s (omega arith) other)

  -- no map has such a position
  pub bytes-far : (body : List ℕ) → 256 ≤ p → [] ≡ bytes_at p (cut rows m body)
  unfolding cut
  bytes-far body h = sym (none-at 256 0 body (omega arith) (λ q l t e. omega arith))

  -- this map has it clear
  pub bytes-clear : (body : List ℕ) → present m p ≡ false → [] ≡ bytes_at p (cut rows m body)
  unfolding cut
  bytes-clear body h =
      sym (none-at 256 0 body (omega arith) (λ q l t e. let c : present m q ≡ false = ap (present m) e ∙ h in let z : ◌≡◌ {A = ℕ} 0 1 = cc in omega arith))

  -- a loop that looks for position p, at position q with the rest of the body before it: the fields from there on have the one that is
  -- looked for
  pub record Seeking (body : List ℕ) (q : ℕ) (rest : List ℕ) : Type 0 where
    pub within : q ≤ p
    pub ahead : bytes_at p (cut_at rows (later m 256 q) rest) ≡ bytes_at p (cut rows m body)

  pub seek-start : (body : List ℕ) → Seeking body 0 body
  unfolding cut
  seek-start body = record { within = omega arith; ahead = refl }

  module _ (body : List ℕ) (q : ℕ) (rest : List ℕ) (h : p < 256) (i : Seeking body q rest) where
    -- a field that is not the one is passed, and a clear position
    pub seek-past : q < p → present m q ≡ true → (n : ℕ) (r : List ℕ) → n ≡ extent_of (rows q) rest → r ≡ drop n rest → Seeking body (q + 1) r
    unfolding cut_at
    seek-past l t n r e d =
        let f : r ≡ drop (extent_of (rows q) rest) rest = d ∙ ap (λ (k : ℕ). drop k rest) e in
        record {
          within = omega arith;
          ahead = ap (λ (s : List ℕ). bytes_at p (cut_at rows (later m 256 (q + 1)) s)) f ∙ sym (ap (λ (ps : List ℕ). bytes_at p (cut_at rows ps rest)) (later-set m 256 q (omega arith) t) ∙ bytes_past p _ _ (λ e. omega arith)) ∙ i.ahead;
        }

    pub seek-over : q < p → present m q ≡ false → Seeking body (q + 1) rest
    seek-over l t =
        record {
          within = omega arith;
          ahead = sym (ap (λ (ps : List ℕ). bytes_at p (cut_at rows ps rest)) (later-clear m 256 q (omega arith) t)) ∙ i.ahead;
        }

    -- at position p its field is the first
    pub seek_found : p ≤ q → present m p ≡ true → rest ≡ bytes_at p (cut rows m body)
    unfolding cut_at
    seek_found l t =
        let e : q ≡ p = omega (arith, i.within) in
        sym (ap (λ (ps : List ℕ). bytes_at p (cut_at rows ps rest)) (ap (later m 256) e ∙ later-set m 256 p h t) ∙ bytes-here p _ _ refl) ∙ i.ahead

-- the bytes from a field on are an end of the body
pub record End (s r : List ℕ) : Type 0 where
  pub at : ℕ
  pub within : at ≤ length s
  pub same : r ≡ drop at s

end-further : (n : ℕ) (s r : List ℕ) → End (drop n s) r → End s r
end-further n s r x = go (ltb (length s) n) refl
  where
    go : (b : Bool) → ltb (length s) n ≡ b → End s r
    go true e =
        let h : length s < n = ltb-true (length s) n e in
        let k : length s ≤ n + x.at = omega arith in
        record { at = length s; within = le_refl (length s); same = x.same ∙ drop-drop x.at n s ∙ drop_of_length-le s k ∙ sym (drop_of_length-le s (le_refl (length s))) }
    go false e =
        let h : n ≤ length s = ltb-false (length s) n e in
        record { at = n + x.at; within = omega (arith, x.within, length-drop n s); same = x.same ∙ drop-drop x.at n s }

module _ (rows : ℕ → Row) (p : ℕ) where
  end_step : (b : Bool) (s r : List ℕ) → End s r → End s (cond b s r)
  end_step true s r x = record { at = 0; within = omega arith; same = refl }
  end_step false s r x = x

  pub bytes-end : (ps s : List ℕ) → End s (bytes_at p (cut_at rows ps s))
  unfolding cut_at bytes_at
  bytes-end [] s = record { at = length s; within = le_refl (length s); same = sym (drop_of_length-le s (le_refl (length s))) }
  bytes-end (q ∷ ps) s =
      end_step (eqb q p) s (bytes_at p (cut_at rows ps (drop (extent_of (rows q) s) s)))
      (end-further (extent_of (rows q) s) s _ (bytes-end ps (drop (extent_of (rows q) s) s)))

  pub cut-end : (m body : List ℕ) → End body (bytes_at p (cut rows m body))
  unfolding cut
  cut-end m body = bytes-end (positions m 256 0) body
