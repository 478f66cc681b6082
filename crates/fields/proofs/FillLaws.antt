-- A lent buffer that is filled field by field, in a loop that keeps the positions still to come as a word and the body's bytes from the next
-- field on.
use mathlib.Core.Path.{◌≡◌, sym, ap, ◌∙◌}
use mathlib.Core.List.{List, [], ◌∷◌, ◌++◌, append-nil, append_assoc}
use Prim.Native.Nat.{ℕ, ◌+◌, ◌-◌, ◌/◌, ◌^◌, ◌≤◌}
use native.Mathlib.Omega.{arith}
use lib.Bits.{bit_and}
use lib.Count.{count_leading_zeros}
use lib.ListN.{length, take, drop, length-append}
use Rattle.tables.specs.declared.table.Row.{Row}
use Rattle.wire.specs.Laying.{laid}
use Rattle.fields.specs.Words.{ClearFrom}
use Rattle.fields.specs.Cut.{extent_of, Piece, cut_at, cut, head_of}
use Rattle.wire.proofs.BufferLaws.{length-laid, lent_from, Front, front-on, front-own}
use Rattle.fields.proofs.HeadLaws.{Ahead, Found, ahead-start, ahead_none, ahead-first, positions-low}
use Rattle.fields.proofs.PositionLaws.{later}

-- g gives what all pieces do, one after another, and f what one does
pub record Each (g : List Piece → List ℕ) (f : Piece → List ℕ) : Type 0 where
  pub none : g [] ≡ []
  pub one : (x : Piece) (xs : List Piece) → g (x ∷ xs) ≡ f x ++ g xs

-- `whole` is to stand at the front of d₀, which is d by now: `done` does, up to `at`, and what the fields of `rest` give is still to be laid
pub record Filled (rows : ℕ → Row) (m : List ℕ) (g : List Piece → List ℕ) (d₀ whole d : List ℕ) (at left : ℕ) (rest : List ℕ) : Type 0 where
  pub from : ℕ
  pub ahead : Ahead m from left
  pub done : List ℕ
  pub front : Front done at d₀ d
  pub parts : done ++ g (cut_at rows (later m 64 from) rest) ≡ whole
  pub room : length whole ≤ length d₀

pub fill_start : (rows : ℕ → Row) (m : List ℕ) (g : List Piece → List ℕ) (body d : List ℕ) (left : ℕ) → left ≡ head_of m → 8 ≤ length m → ClearFrom 64 m
    → length (g (cut rows m body)) ≤ length d → Filled rows m g d (g (cut rows m body)) d 0 left body
unfolding cut
fill_start rows m g body d left e l low h =
    record {
      from = 0;
      ahead = ahead-start m left e l;
      done = [];
      front = front-own 0 d (omega arith);
      parts = ap (λ (ps : List ℕ). g (cut_at rows ps body)) (sym (positions-low m low));
      room = h;
    }

module _ {rows : ℕ → Row} {m : List ℕ} {g : List Piece → List ℕ} {d₀ whole d : List ℕ} {at left : ℕ} {rest : List ℕ}
    (i : Filled rows m g d₀ whole d at left rest) where
  to-come : List ℕ
  to-come = g (cut_at rows (later m 64 i.from) rest)

  fill-left : at + length to-come ≡ length whole
  unfolding to-come
  fill-left = ap (λ (k : ℕ). k + length to-come) (sym i.front.size) ∙ sym (length-append i.done to-come) ∙ ap length i.parts

  pub fill-same : length d ≡ length d₀
  fill-same = ap length i.front.is ∙ length-laid i.done d₀ (omega (arith, i.front.size, fill-left, i.room))

  pub fill-within : at ≤ length d
  fill-within = omega (arith, fill-left, fill-same, i.room)

  module _ {f : Piece → List ℕ} (each : Each g f) where
    -- with no position to come, all is laid
    pub fill_end : left ≡ 0 → (at ≡ length whole) × (d ≡ laid whole d₀)
    unfolding cut_at
    fill_end e =
        let none : g (cut_at rows (later m 64 i.from) rest) ≡ [] =
        ap (λ (ps : List ℕ). g (cut_at rows ps rest)) (ahead_none m i.from left i.ahead e) ∙ each.none in
        let all : i.done ≡ whole = sym (append-nil i.done) ∙ ap (λ (x : List ℕ). i.done ++ x) (sym none) ∙ i.parts in
        (sym i.front.size ∙ ap length all, i.front.is ∙ ap (λ (w : List ℕ). laid w d₀) all)

    module _ (h : left ≡ 0 → ⊥) where
      p : ℕ
      p = count_leading_zeros 64 left

      pub fill-found : Found m i.from left (count_leading_zeros 64 left)
      fill-found = ahead-first m left i.from i.ahead h

      -- the next field, which gives e, and those after it
      module _ (e : List ℕ) (same : f (record { position = count_leading_zeros 64 left; bytes = rest }) ≡ e) where
        others : List ℕ
        others = g (cut_at rows (later m 64 (p + 1)) (drop (extent_of (rows p) rest) rest))

        apart : to-come ≡ e ++ others
        unfolding to-come others p cut_at
        apart =
            ap (λ (ps : List ℕ). g (cut_at rows ps rest)) fill-found.first ∙ each.one _ _ ∙ ap (λ (x : List ℕ). x ++ others) same

        pub fill-fits : at + length e ≤ length d₀
        fill-fits = omega (arith, fill-left, ap length apart ∙ length-append e others, i.room)

        -- it is laid in n places: y is the rest of the buffer, which was lent
        pub fill_on : (y : List ℕ) (n taken : ℕ) (next : List ℕ) → n ≡ length e → y ≡ laid e (take (length d - at) (drop at d))
            → taken ≡ extent_of (rows (count_leading_zeros 64 left)) rest → next ≡ drop taken rest
            → Filled rows m g d₀ whole (lent_from at d y) (at + n) (bit_and left (9223372036854775807 / 2 ^ count_leading_zeros 64 left)) next
        unfolding to-come others p
        fill_on y n taken next long q t r =
            record {
              from = p + 1;
              ahead = fill-found.on;
              done = i.done ++ e;
              front = front-on i.front e y (at + n) (ap (λ (j : ℕ). at + j) (sym long)) (omega (arith, fill-fits, long)) q;
              parts =
                  ap (λ (s : List ℕ). (i.done ++ e) ++ g (cut_at rows (later m 64 (p + 1)) s)) (r ∙ ap (λ (k : ℕ). drop k rest) t)
                  ∙ append_assoc i.done e others ∙ ap (λ (z : List ℕ). i.done ++ z) (sym apart) ∙ i.parts;
              room = i.room;
            }
