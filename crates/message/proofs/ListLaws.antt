-- Laws of the list of fields: what its quick shapes say, how long it is, and that it says what the questions answer.
use Rattle.fields.specs.Walk.{all_good}
use Rattle.std.specs.Prelude.{Option, Some, None, Result, Ok, Err}
use mathlib.Core.Path.{◌≡◌, refl, sym, ap, ◌∙◌}
use mathlib.Core.Bool.{Bool, true, false, cond}
use mathlib.Core.List.{List, [], ◌∷◌, ◌++◌}
use Prim.Native.Nat.{ℕ, ◌+◌, ◌-◌, ◌*◌, ◌/◌, ◌^◌, ◌≤◌, ◌<◌}
use native.Mathlib.Omega.{arith}
use lib.Bits.{bit_and}
use lib.Count.{count_leading_zeros}
use lib.Dec.{leb}
use lib.IntN.{ℤ}
use lib.ListN.{length, take, drop, length-append, length-drop}
use lib.Seq.{length-take-le}
use borrow.Author.Tests.{leb-true, le-leb, lt-leb}
use mir.Syntax.{w64}
use mir.Val.{Fits}
use Rattle.std.specs.Prelude.{Ok, Err}
use Rattle.tables.specs.declared.dictionary.Sort.{Sort}
use Rattle.tables.specs.declared.dictionary.Sort.TheVariants as sort
use Rattle.tables.specs.declared.table.Row.{Row}
use Rattle.tables.specs.declared.table.Row.TheVariants.{Required, Optional, UnknownPosition, UnknownType}
use Rattle.tables.specs.Dictionary.{sort_of}
use Rattle.tables.specs.Tables.{row_of}
use Rattle.wire.specs.declared.text.Allowed.{Allowed}
use Rattle.wire.specs.declared.text.Text.{Text}
use Rattle.wire.specs.Decimal.{unsigned, decimal}
use Rattle.wire.specs.Laying.{laid}
use Rattle.wire.specs.Map.{present}
use Rattle.wire.specs.Number.{Bytes, number}
use Rattle.wire.specs.Text.{characters, fixed_text}
use Rattle.wire.proofs.DecimalLaws.{unsigned_signed}
use Rattle.wire.proofs.NumberLaws.{number-take}
use Rattle.wire.proofs.TextLaws.{characters-null, fixed-good}
use Rattle.fields.specs.declared.check.Shape.{Shape}
use Rattle.fields.specs.declared.check.Shape.TheVariants.{Number, Decimal, Fixed, Other}
use Rattle.fields.specs.declared.value.Value.{Value}
use Rattle.fields.specs.declared.value.Value.TheVariants as value
use Rattle.fields.specs.declared.value.NoValue.{NoValue}
use Rattle.fields.specs.declared.value.NoValue.TheVariants as no
use Rattle.fields.specs.Check.{check_row, good_field}
use Rattle.fields.specs.Cut.{head_positions, positions, extent_of, Piece, cut_at, cut, head_of}
use Rattle.fields.specs.Shapes.{shape_in, shape_of, shape_at}
use Rattle.fields.specs.Value.{number_value, decimal_value, text_value, sort_value, field_value, row_value, value_in}
use Rattle.wire.proofs.BufferLaws.{lent_from}
use Rattle.fields.proofs.CheckLaws.{row-good}
use Rattle.fields.proofs.FillLaws.{Each, Filled, fill_start, fill-same, fill-within, fill-fits, fill_on, fill_end}
use Rattle.fields.proofs.HeadLaws.{Ahead, Found, ahead-start, ahead-first, positions-low, positions-count}
use Rattle.fields.proofs.PositionLaws.{later}
use Rattle.fields.proofs.ShapeLaws.{shape-at, at-number, at-decimal, at-fixed}
use Rattle.fields.proofs.ValueLaws.{sort_value-there, names-value, not-bad, number-value, decimal-value}
use Rattle.wire.proofs.TestLaws.{rest_of}
use Rattle.fields.proofs.WalkLaws.{walk_from, First, walk_first, walk-whole}
use Rattle.message.specs.Ask.{lead_of, row_lead, text_start}
use Rattle.message.specs.declared.frame.Header.{Header}
use Rattle.message.specs.declared.refusal.Refusal.{Refusal}
use Rattle.message.specs.declared.refusal.Refusal.TheVariants.{NoRoom}
use Rattle.message.specs.Frame.{map_in, body_in}
use Rattle.message.specs.Read.{Good, read_of}
use Rattle.message.specs.List.{five, five_of, list_of, list_by, listed_by, list_fields}
use Rattle.message.proofs.FrameLaws.{part-there, part-within}
use Rattle.message.proofs.ReadLaws.{read-front, good-fields}
use Rattle.message.specs.Good.{GoodFields}
use Rattle.message.proofs.VetLaws.{good-low}

-- a position of a head, and how many there are, fit a word
pub fits : (n : ℕ) → n ≤ head_positions → Fits w64 n
fits n h = omega arith

-- a good field has no bad value
pub good-value : (row : Row) (s : List ℕ) (taken plain : ℕ) → check_row row s ≡ good_field taken plain → row_value row true s ≡ Err no.Bad → ⊥
unfolding field_value
good-value row s taken plain e b =
    let g = row-good row s taken plain e in
    not-bad (sort_value-there (sort_of g.field) taken plain s g.good) (sym (names-value g.names true s) ∙ b)

-- so its bytes are there
module _ (w : ℕ) (s : List ℕ) where
  pub number-room : (number_value w s ≡ Err no.Bad → ⊥) → w ≤ length s
  unfolding number_value
  number-room h = go (leb w (length s)) refl
    where
      go : (b : Bool) → leb w (length s) ≡ b → w ≤ length s
      go true e = leb-true w (length s) e
      go false e = absurd (h (rw e))

  -- and of a fixed text the characters before its null
  pub record Counted (allowed : Allowed) : Type 0 where
    pub room : w ≤ length s
    pub is : text_value (fixed_text allowed w s) ≡ Ok (value.Text (characters allowed (take w s)))

  pub text-counted : (allowed : Allowed) → (text_value (fixed_text allowed w s) ≡ Err no.Bad → ⊥) → Counted allowed
  unfolding text_value
  text-counted allowed h = go (fixed_text allowed w s) refl
    where
      go : (t : Option Text) → fixed_text allowed w s ≡ t → Counted allowed
      go (Some t) e =
          let n = t.characters in
          let g = fixed-good allowed w s n t.taken e in
          record { room = g.whole; is = ap text_value e ∙ ap (λ (x : ℕ). Ok (value.Text x)) (sym (characters-null allowed (take w s) n g.ends)) }
      go None e = absurd (h (ap text_value e))

pub decimal-room : (s : List ℕ) → (decimal_value s ≡ Err no.Bad → ⊥) → 8 ≤ length s
unfolding decimal_value
decimal-room s h = go (leb 8 (length s)) refl
  where
    go : (b : Bool) → leb 8 (length s) ≡ b → 8 ≤ length s
    go true e = leb-true 8 (length s) e
    go false e = absurd (h (rw e))

-- the 64 bits of a Decimal are the number in its bytes
pub decimal-bits : (s : List ℕ) → Bytes s → unsigned (decimal (take 8 s)) ≡ number (take 8 s)
unfolding decimal
decimal-bits s b = unsigned_signed (number (take 8 s)) (number-take s 8 b)

-- a value that is a Decimal is the one in the first eight bytes
number-no-decimal : (b : Bool) (n : ℕ) (z : ℤ) {A : Type 0} → cond b (Ok (value.Number n)) (Err no.Bad) ≡ Ok (value.Decimal z) → A
number-no-decimal true n z e = let y : ◌≡◌ {A = ℕ} 0 1 = cc in absurd (omega arith)
number-no-decimal false n z e = let y : ◌≡◌ {A = ℕ} 0 1 = cc in absurd (omega arith)

decimal-own : (b : Bool) (y z : ℤ) → cond b (Ok (value.Decimal y)) (Err no.Bad) ≡ Ok (value.Decimal z) → z ≡ y
decimal-own true y z e = cc
decimal-own false y z e = let y : ◌≡◌ {A = ℕ} 0 1 = cc in absurd (omega arith)

text-no-decimal : (t : Option Text) (z : ℤ) {A : Type 0} → text_value t ≡ Ok (value.Decimal z) → A
unfolding text_value
text-no-decimal (Some t) z e = let y : ◌≡◌ {A = ℕ} 0 1 = cc in absurd (omega arith)
text-no-decimal None z e = let y : ◌≡◌ {A = ℕ} 0 1 = cc in absurd (omega arith)

sort-decimal : (k : Sort) (s : List ℕ) (z : ℤ) → sort_value k s ≡ Ok (value.Decimal z) → z ≡ decimal (take 8 s)
unfolding sort_value number_value decimal_value
sort-decimal (sort.Number w) s z e = number-no-decimal (leb w (length s)) _ z e
sort-decimal sort.Decimal s z e = decimal-own (leb 8 (length s)) _ z e
sort-decimal sort.Byte s z e = number-no-decimal (leb 1 (length s)) _ z e
sort-decimal sort.YesNo s z e = number-no-decimal (leb 1 (length s)) _ z e
sort-decimal (sort.Fixed allowed w) s z e = text-no-decimal (fixed_text allowed w s) z e
sort-decimal (sort.Variable allowed size) s z e = text-no-decimal _ z e

pub row-decimal : (row : Row) (s : List ℕ) (z : ℤ) → row_value row true s ≡ Ok (value.Decimal z) → z ≡ decimal (take 8 s)
unfolding row_value field_value
row-decimal (Required f) s z e = sort-decimal (sort_of f) s z e
row-decimal (Optional f) s z e = sort-decimal (sort_of f) s z e
row-decimal UnknownPosition s z e = let y : ◌≡◌ {A = ℕ} 0 1 = cc in absurd (omega arith)
row-decimal UnknownType s z e = let y : ◌≡◌ {A = ℕ} 0 1 = cc in absurd (omega arith)

-- no field of a quick shape has a length before its value
sort-lead : (k : Sort) → (shape_in k ≡ Other → ⊥) → lead_of k ≡ 0
unfolding shape_in lead_of
sort-lead (sort.Number w) h = refl
sort-lead sort.Decimal h = refl
sort-lead sort.Byte h = refl
sort-lead sort.YesNo h = refl
sort-lead (sort.Fixed allowed w) h = refl
sort-lead (sort.Variable allowed size) h = absurd (h refl)

pub shape-lead : (row : Row) → (shape_of row ≡ Other → ⊥) → row_lead row ≡ 0
unfolding shape_of row_lead
shape-lead (Required f) h = sort-lead (sort_of f) h
shape-lead (Optional f) h = sort-lead (sort_of f) h
shape-lead UnknownPosition h = refl
shape-lead UnknownType h = refl

-- the five numbers of a field of which so much is known
pub five-told : (row : Row) (whole p at wide : ℕ) (s : List ℕ) (v : Result Value NoValue) → at ≡ text_start row whole (length s) → wide ≡ extent_of row s
    → row_value row true s ≡ v → five_of row whole p s ≡ five p at wide v
unfolding five_of
five-told row whole p at wide s v a w e = rw (sym a, sym w, e)

-- they are laid: e is what the code lays, and y the list afterwards
pub told-laid : (row : Row) (whole p at wide : ℕ) (s d e y : List ℕ) (v : Result Value NoValue) → at ≡ text_start row whole (length s) → wide ≡ extent_of row s
    → row_value row true s ≡ v → five p at wide v ≡ e → y ≡ laid e d → (wide ≡ extent_of row s) × (y ≡ laid (five_of row whole p s) d)
told-laid row whole p at wide s d e y v a w q f l =
    (w, l ∙ ap (λ (x : List ℕ). laid x d) (sym (five-told row whole p at wide s v a w q ∙ f)))

-- the value that the map has
pub set_value : (rows : ℕ → Row) (m : List ℕ) (p : ℕ) (s : List ℕ) (v u : Result Value NoValue) → present m p ≡ true → v ≡ value_in rows m p s → v ≡ u → row_value (rows p) true s ≡ u
unfolding value_in
set_value rows m p s v u h e q = rw h at (sym e ∙ q)

pub quick-start : (row : Row) (whole : ℕ) (s : List ℕ) → (shape_of row ≡ Other → ⊥) → whole - 4 - length s ≡ text_start row whole (length s)
unfolding text_start
quick-start row whole s h = omega (arith, shape-lead row h)

-- a Decimal is laid as the number in its bytes
pub decimal-laid : (row : Row) (whole p at wide n : ℕ) (s d y : List ℕ) (z : ℤ) → at ≡ text_start row whole (length s) → wide ≡ extent_of row s
    → row_value row true s ≡ Ok (value.Decimal z) → Bytes s → n ≡ number (take 8 s) → y ≡ laid (p ∷ 2 ∷ at ∷ wide ∷ n ∷ []) d
    → (wide ≡ extent_of row s) × (y ≡ laid (five_of row whole p s) d)
unfolding five
decimal-laid row whole p at wide n s d y z a w q b e l =
    told-laid row whole p at wide s d _ y (Ok (value.Decimal z)) a w q
    (ap (λ (k : ℕ). p ∷ 2 ∷ at ∷ wide ∷ k ∷ []) (ap unsigned (row-decimal row s z q) ∙ decimal-bits s b ∙ sym e)) l

-- a good field of a quick shape
number_is : (w : ℕ) → Number w ≡ Other → ⊥
number_is w e = let y : ◌≡◌ {A = ℕ} 0 1 = cc in omega arith

decimal-is : Decimal ≡ Other → ⊥
decimal-is e = let y : ◌≡◌ {A = ℕ} 0 1 = cc in omega arith

fixed-is : (allowed : Allowed) (w : ℕ) → Fixed allowed w ≡ Other → ⊥
fixed-is allowed w e = let y : ◌≡◌ {A = ℕ} 0 1 = cc in omega arith

module _ (messagetype p whole : ℕ) (s : List ℕ) (good : row_value (row_of messagetype p) true s ≡ Err no.Bad → ⊥) where
  starts : (x : Shape) → shape_at messagetype p ≡ x → (x ≡ Other → ⊥) → whole - 4 - length s ≡ text_start (row_of messagetype p) whole (length s)
  starts x e h = quick-start (row_of messagetype p) whole s (λ q. h (sym (shape-at messagetype p x e h) ∙ q))

  module _ (w : ℕ) (e : shape_at messagetype p ≡ Number w) where
    pub quick-number-room : w ≤ length s
    quick-number-room = number-room w s (λ b. good ((at-number messagetype p s w e).value ∙ b))

    pub quick-number : (n : ℕ) (d y : List ℕ) → n ≡ number (take 8 (take w s)) → y ≡ laid (p ∷ 1 ∷ (whole - 4 - length s) ∷ w ∷ n ∷ []) d
        → (w ≡ extent_of (row_of messagetype p) s) × (y ≡ laid (five_of (row_of messagetype p) whole p s) d)
    unfolding five
    quick-number n d y q l =
        let t = at-number messagetype p s w e in
        told-laid (row_of messagetype p) whole p _ w s d _ y _ (starts (Number w) e (number_is w)) (sym t.taken)
        (t.value ∙ number-value w s quick-number-room ∙ ap (λ (x : ℕ). Ok (value.Number x)) (sym q)) refl l

  module _ (e : shape_at messagetype p ≡ Decimal) where
    pub quick-decimal : (n : ℕ) (d y : List ℕ) → Bytes s → n ≡ number (take 8 s) → y ≡ laid (p ∷ 2 ∷ (whole - 4 - length s) ∷ 8 ∷ n ∷ []) d
        → (◌≡◌ {A = ℕ} 8 (extent_of (row_of messagetype p) s)) × (y ≡ laid (five_of (row_of messagetype p) whole p s) d)
    quick-decimal n d y b q l =
        let t = at-decimal messagetype p s e in
        decimal-laid (row_of messagetype p) whole p _ 8 n s d y _ (starts Decimal e decimal-is) (sym t.taken)
        (t.value ∙ decimal-value s (decimal-room s (λ b. good (t.value ∙ b)))) b q l

  module _ (allowed : Allowed) (w : ℕ) (e : shape_at messagetype p ≡ Fixed allowed w) where
    pub quick-fixed-room : w ≤ length s
    quick-fixed-room = (text-counted w s allowed (λ b. good ((at-fixed messagetype p s allowed w e).value ∙ b))).room

    pub quick-fixed : (n : ℕ) (d y : List ℕ) → n ≡ characters allowed (take w s) → y ≡ laid (p ∷ 3 ∷ (whole - 4 - length s) ∷ n ∷ 0 ∷ []) d
        → (w ≡ extent_of (row_of messagetype p) s) × (y ≡ laid (five_of (row_of messagetype p) whole p s) d)
    unfolding five
    quick-fixed n d y q l =
        let t = at-fixed messagetype p s allowed w e in
        told-laid (row_of messagetype p) whole p _ w s d _ y _ (starts (Fixed allowed w) e (fixed-is allowed w)) (sym t.taken)
        (t.value ∙ (text-counted w s allowed (λ b. good (t.value ∙ b))).is ∙ ap (λ (x : ℕ). Ok (value.Text x)) (sym q)) refl l

-- a list has five numbers for each field
five-length : (p at wide : ℕ) (v : Result Value NoValue) → length (five p at wide v) ≡ 5
unfolding five
five-length p at wide (Ok (value.Number n)) = refl
five-length p at wide (Ok (value.Decimal z)) = refl
five-length p at wide (Ok (value.Text n)) = refl
five-length p at wide (Err why) = refl

pub field-length : (row : Row) (whole p : ℕ) (s : List ℕ) → length (five_of row whole p s) ≡ 5
unfolding five_of
field-length row whole p s = five-length p _ _ _

pub each-field : (rows : ℕ → Row) (n : ℕ) → Each (list_of rows n) (λ (x : Piece). five_of (rows x.position) n x.position x.bytes)
unfolding list_of
each-field rows n = record { none = refl; one = λ x xs. refl }

pub list_length : (rows : ℕ → Row) (n : ℕ) (ps s : List ℕ) → length (list_of rows n (cut_at rows ps s)) ≡ 5 * length ps
unfolding cut_at list_of
list_length rows n [] s = refl
list_length rows n (p ∷ ps) s =
    let rest = drop (extent_of (rows p) s) s in
    length-append (five_of (rows p) n p s) (list_of rows n (cut_at rows ps rest))
    ∙ omega (arith, field-length (rows p) n p s, list_length rows n ps rest)

-- a loop that lays the fields of a good message: what is laid, and that the rest is good
pub record Listing (messagetype whole : ℕ) (m body d₀ d : List ℕ) (at left : ℕ) (rest : List ℕ) : Type 0 where
  pub filled : Filled (row_of messagetype) m (list_of (row_of messagetype) whole) d₀ (list_of (row_of messagetype) whole (cut (row_of messagetype) m body)) d at left rest
  pub from : ℕ
  pub ahead : Ahead m from left
  pub sum : ℕ
  pub plain : ℕ
  pub walked : walk_from (row_of messagetype) (later m 64 from) sum rest ≡ all_good 0 plain
  pub within : length rest ≤ length body

module _ (messagetype whole : ℕ) (m body d : List ℕ) (left plain : ℕ) where
  pub listing_start : left ≡ head_of m → 8 ≤ length m → GoodFields messagetype m body plain
      → length (list_of (row_of messagetype) whole (cut (row_of messagetype) m body)) ≤ length d → Listing messagetype whole m body d d 0 left body
  listing_start e l g h =
      let low = good-low messagetype m body plain g in
      record {
        filled = fill_start (row_of messagetype) m (list_of (row_of messagetype) whole) body d left e l low h;
        from = 0;
        ahead = ahead-start m left e l;
        sum = 0;
        plain = plain;
        walked =
            ap (λ (ps : List ℕ). walk_from (row_of messagetype) ps 0 body) (sym (positions-low m low)) ∙ walk-whole (row_of messagetype) m body ∙ g.walked;
        within = omega arith;
      }

module _ {messagetype whole : ℕ} {m body d₀ d : List ℕ} {at left : ℕ} {rest : List ℕ} (i : Listing messagetype whole m body d₀ d at left rest) where
  module _ (h : left ≡ 0 → ⊥) where
    found : Found m i.from left (count_leading_zeros 64 left)
    found = ahead-first m left i.from i.ahead h

    first : First (row_of messagetype) 0 i.plain (count_leading_zeros 64 left) (later m 64 (count_leading_zeros 64 left + 1)) i.sum rest
    first =
        walk_first (row_of messagetype) 0 i.plain (count_leading_zeros 64 left) (later m 64 (count_leading_zeros 64 left + 1)) i.sum rest
        (ap (λ (ps : List ℕ). walk_from (row_of messagetype) ps i.sum rest) (sym found.first) ∙ i.walked)

    pub listing-below : count_leading_zeros 64 left < 64
    listing-below = found.below

    pub listing-set : present m (count_leading_zeros 64 left) ≡ true
    listing-set = found.set

    pub listing-good : row_value (row_of messagetype (count_leading_zeros 64 left)) true rest ≡ Err no.Bad → ⊥
    listing-good = good-value (row_of messagetype (count_leading_zeros 64 left)) rest first.taken first.plain-length first.good

    pub listing-room : extent_of (row_of messagetype (count_leading_zeros 64 left)) rest ≤ length rest
    listing-room = omega (arith, first.width, first.room)

    pub listing-fits : at + 5 ≤ length d₀
    listing-fits =
        omega (
          arith,
          fill-fits i.filled (each-field (row_of messagetype) whole) h (five_of (row_of messagetype (count_leading_zeros 64 left)) whole (count_leading_zeros 64 left) rest) refl,
          field-length (row_of messagetype (count_leading_zeros 64 left)) whole (count_leading_zeros 64 left) rest,
        )

    pub listing-on : (y : List ℕ) (taken : ℕ) (next : List ℕ)
        → y ≡ laid (five_of (row_of messagetype (count_leading_zeros 64 left)) whole (count_leading_zeros 64 left) rest) (take (length d - at) (drop at d))
        → taken ≡ extent_of (row_of messagetype (count_leading_zeros 64 left)) rest → next ≡ drop taken rest
        → (bit_and left (9223372036854775807 / 2 ^ count_leading_zeros 64 left) < left)
        × Listing messagetype whole m body d₀ (lent_from at d y) (at + 5) (bit_and left (9223372036854775807 / 2 ^ count_leading_zeros 64 left)) next
    listing-on y taken next q t r =
        let e : next ≡ drop first.taken rest = r ∙ ap (λ (k : ℕ). drop k rest) (t ∙ first.width) in (
          found.less,
          record {
            filled =
                fill_on i.filled (each-field (row_of messagetype) whole) h _ refl y 5 taken next (sym (field-length _ whole _ rest)) q t r;
            from = count_leading_zeros 64 left + 1;
            ahead = found.on;
            sum = i.sum + first.plain-length;
            plain = i.plain;
            walked = ap (walk_from (row_of messagetype) (later m 64 (count_leading_zeros 64 left + 1)) (i.sum + first.plain-length)) e ∙ first.on;
            within = omega (arith, ap length e, length-drop first.taken rest, i.within);
          },
        )

    -- the list has room for the field
    pub listing-part : 5 ≤ length (take (length d - at) (drop at d))
    listing-part = rw (rest_of d at, length-drop) (omega (arith, listing-fits, fill-same i.filled))

  pub listing-end : left ≡ 0 → (at ≡ length (list_of (row_of messagetype) whole (cut (row_of messagetype) m body))) × (d ≡ laid (list_of (row_of messagetype) whole (cut (row_of messagetype) m body)) d₀)
  listing-end e = fill_end i.filled (each-field (row_of messagetype) whole) e

  pub listing-same : length d ≡ length d₀
  listing-same = fill-same i.filled

  pub listing-within : at ≤ length d
  listing-within = fill-within i.filled

-- a message that was read: its map, its body, and what the list says of it
pub record Entered (s : List ℕ) (h : Header) (whole : ℕ) (m body : List ℕ) : Type 0 where
  pub is : list_by s (read_of s) ≡ list_of (row_of h.messagetype) whole (cut (row_of h.messagetype) m body)
  pub map-size : 8 ≤ length m
  pub body-size : length body + 4 ≤ whole
  pub plain : ℕ
  pub good : GoodFields h.messagetype m body plain

pub enter : (s : List ℕ) (h : Header) (whole : ℕ) → read_of s ≡ Good h whole → Entered s h whole (map_in s) (body_in whole s)
unfolding list_by map_in body_in
enter s h whole e =
    let w = (read-front s h whole e).0 in
    let l : 54 ≤ length s = omega (arith, w.least, w.there) in
    let g = good-fields s h whole e in
    record {
      is = ap (list_by s) e;
      map-size = omega (arith, ap length (part-there 22 54 s l), length-take-le 32 (drop 22 s) (rw length-drop (omega arith)));
      body-size = rw (le-leb 58 whole w.least) (omega (arith, part-within 54 (whole - 4) s, w.least));
      plain = g.0;
      good = g.1;
    }

-- the answer of a message that was read
module _ (s d : List ℕ) (h : Header) (whole : ℕ) (e : read_of s ≡ Good h whole) where
  pub list-need : length (list_by s (read_of s)) ≡ 5 * length (positions (map_in s) 64 0)
  unfolding cut
  list-need =
      let x = enter s h whole e in
      let m = map_in s in
      ap length x.is ∙ list_length (row_of h.messagetype) whole (positions m 256 0) (body_in whole s)
      ∙ ap (λ (ps : List ℕ). 5 * length ps) (positions-low m (good-low h.messagetype m (body_in whole s) x.plain x.good))

  -- no message has more than 64 fields
  pub list-most : length (list_by s (read_of s)) ≤ 320
  list-most = omega (arith, list-need, positions-count (map_in s) 64 0)

  pub list-no-room : (need : ℕ) → need ≡ length (list_by s (read_of s)) → length d < need → (Err (NoRoom need) ≡ list_fields s d) × (d ≡ laid (list_by s (read_of s)) d)
  unfolding list_fields listed_by laid
  list-no-room need q l =
      let n = length (list_by s (read_of s)) in
      let f : leb n (length d) ≡ false = lt-leb n (length d) (omega arith) in (
        ap (λ (k : ℕ). Err (NoRoom k)) q ∙ sym (ap (listed_by n (length d)) e ∙ ap (λ (b : Bool). cond b (Ok (record { header = h; length = whole; fields = n / 5 })) (Err (NoRoom n))) f),
        sym (ap (λ (b : Bool). cond b (list_by s (read_of s) ++ drop n d) d) f),
      )

  pub list-room : (k : ℕ) → length (list_by s (read_of s)) ≤ length d → k ≡ length (list_by s (read_of s)) → Ok (record { header = h; length = whole; fields = k / 5 }) ≡ list_fields s d
  unfolding list_fields listed_by
  list-room k l q =
      let n = length (list_by s (read_of s)) in
      let f : leb n (length d) ≡ true = le-leb n (length d) l in
      ap (λ (j : ℕ). Ok (record { header = h; length = whole; fields = j / 5 })) q ∙ sym (ap (listed_by n (length d)) e ∙ ap (λ (b : Bool). cond b (Ok (record { header = h; length = whole; fields = n / 5 })) (Err (NoRoom n))) f)

pub list-refused : (s d : List ℕ) (r : Refusal) → read_of s ≡ Err r → (Err r ≡ list_fields s d) × (d ≡ laid (list_by s (read_of s)) d)
unfolding list_fields listed_by list_by laid
list-refused s d r e = (rw e, rw (e, le-leb 0 (length d) (omega arith)))
