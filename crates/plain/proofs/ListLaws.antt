-- The lent list: a full one is left as it is, and one with room holds the lines that arrived, in order.
use Prim.Native.Nat.{ℕ, ◌+◌, ◌<◌, ◌≤◌}
use mathlib.Core.Path.{◌≡◌, refl, sym, ap, ◌∙◌}
use mathlib.Core.Bool.{Bool, true, false, cond, true≢false}
use mathlib.Core.List.{List, [], ◌∷◌, ◌++◌, append-nil}
use native.Mathlib.Nat.{add-zero}
use native.Mathlib.Numerals.{add-one}
use native.Mathlib.Omega.{arith}
use lib.Dec.{leb}
use lib.ListN.{length, take, set, length-set}
use lib.Seq.{take-suc-set, append_snoc}
use borrow.Author.Tests.{le-leb, lt-leb, leb-false}
use Rattle.wire.proofs.TestLaws.{either}
use Rattle.sheet.specs.declared.line.Kind.{Kind}
use Rattle.sheet.specs.declared.line.Kind.TheVariants.{Logon, Business, GapFill, Reset}
use Rattle.sheet.specs.declared.line.Line.{Line}
use Rattle.sheet.specs.Line.{kind_number, numbers_in}
use Rattle.std.specs.Prelude.{Some, None}
use Rattle.plain.specs.Both.{list_from}
use Rattle.plain.specs.Plain.{worked_out}
use Rattle.plain.specs.Arrivals.{most_arrivals, kind_at, line_in, lines_in, is_full, list_after, arrived, arrived_number}

-- 41 changes nothing
pub full-nothing : (list : List (List ℕ)) (count : ℕ) (l : Line) → is_full list count ≡ true → (arrived list count l ≡ None) × (list_after list count l ≡ list)
unfolding arrived list_after
full-nothing list count l h = (rw h, rw h)

-- 41 is the only refusal, where the list is full
pub refused_full : (list : List (List ℕ)) (count : ℕ) (l : Line) → arrived_number (arrived list count l) ≡ cond (is_full list count) 41 0
unfolding arrived arrived_number
refused_full list count l = go (is_full list count)
  where
    go : (b : Bool) → arrived_number (cond b None (Some (count + 1, worked_out (lines_in (take count list) ++ l ∷ [])))) ≡ cond b 41 0
    go true = refl
    go false = refl

-- it is full with 4,096, and where there is no room for one more
pub is-full : (list : List (List ℕ)) (count : ℕ) → most_arrivals ≤ count → is_full list count ≡ true
unfolding is_full
is-full list count h = rw (le-leb most_arrivals count h)

pub has-none : (list : List (List ℕ)) (count : ℕ) → length list ≤ count → is_full list count ≡ true
unfolding is_full
has-none list count h = either (λ (b : Bool). b ≡ true) (leb most_arrivals count) (λ t. refl) (λ t. le-leb (length list) count h)

-- there is room for one more
pub has_room : (list : List (List ℕ)) (count : ℕ) → count < most_arrivals → count < length list → is_full list count ≡ false
unfolding is_full
has_room list count h r = rw (lt-leb most_arrivals count h, lt-leb (length list) count r)

room_within : (list : List (List ℕ)) (count : ℕ) → is_full list count ≡ false → count < length list
unfolding is_full
room_within list count =
    either (λ (b : Bool). b ≡ false → count < length list) (leb most_arrivals count) (λ t h. absurd (true≢false h)) (λ t h. leb-false (length list) count h)

kind-back : (k : Kind) → kind_at (kind_number k) ≡ k
unfolding kind_at kind_number
kind-back Logon = refl
kind-back Business = refl
kind-back GapFill = refl
kind-back Reset = refl

-- a line is what its four numbers say
line-back : (l : Line) → line_in (kind_number l.kind) l.n l.dup l.new ≡ l
line-back l = ap (λ (k : Kind). record { kind = k; n = l.n; dup = l.dup; new = l.new }) (kind-back l.kind)

lines_then : (list : List (List ℕ)) (l : Line) → lines_in (list ++ numbers_in l ∷ []) ≡ lines_in list ++ l ∷ []
unfolding lines_in numbers_in
lines_then [] l = ap (λ (x : Line). x ∷ []) (line-back l)
lines_then (a ∷ list) l = rw (lines_then list l)

-- where there is room, the arrival is the last of those that the list holds
pub arrival-kept : (list : List (List ℕ)) (count : ℕ) (l : Line) → is_full list count ≡ false
    → lines_in (take (count + 1) (list_after list count l)) ≡ lines_in (take count list) ++ l ∷ []
unfolding list_after
arrival-kept list count l h =
    rw h
    (ap (λ (k : ℕ). lines_in (take k (set list count (numbers_in l)))) (add-one count)
    ∙ ap lines_in (take-suc-set list count (numbers_in l) (room_within list count h)) ∙ lines_then (take count list) l)

after-length : (list : List (List ℕ)) (count : ℕ) (l : Line) → length (list_after list count l) ≡ length list
unfolding list_after
after-length list count l =
    either (λ (x : List (List ℕ)). length x ≡ length list) (is_full list count) (λ t. refl) (λ t. length-set list count (numbers_in l))

-- arrivals change no list's length
pub from-length : (list : List (List ℕ)) (count : ℕ) (ls : List Line) → length (list_from list count ls) ≡ length list
unfolding list_from
from-length list count [] = refl
from-length list count (l ∷ ls) = from-length (list_after list count l) (count + 1) ls ∙ after-length list count l

holds-from : (list : List (List ℕ)) (count : ℕ) (ls : List Line) → count + length ls ≤ most_arrivals → count + length ls ≤ length list
    → lines_in (take (count + length ls) (list_from list count ls)) ≡ lines_in (take count list) ++ ls
unfolding list_from
holds-from list count [] h r = rw (add-zero count) (sym (append-nil (lines_in (take count list))))
holds-from list count (l ∷ ls) h r =
    let after = list_after list count l in
    let e : count + length (l ∷ ls) ≡ count + 1 + length ls = omega arith in
    ap (λ (k : ℕ). lines_in (take k (list_from after (count + 1) ls))) e
    ∙ holds-from after (count + 1) ls (omega arith) (omega (arith, after-length list count l))
    ∙ ap (λ (x : List Line). x ++ ls) (arrival-kept list count l (has_room list count (omega arith) (omega arith)))
    ∙ append_snoc (lines_in (take count list)) l ls

-- a list that has room holds the lines that arrived, in order
pub list-holds : (list : List (List ℕ)) (ls : List Line) → length ls ≤ most_arrivals → length ls ≤ length list
    → lines_in (take (length ls) (list_from list 0 ls)) ≡ ls
unfolding lines_in
list-holds list ls h r =
    let e : length ls ≡ 0 + length ls = omega arith in
    ap (λ (k : ℕ). lines_in (take k (list_from list 0 ls))) e ∙ holds-from list 0 ls (omega arith) (omega arith)
