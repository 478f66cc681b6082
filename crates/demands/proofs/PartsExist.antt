-- Document 02, item 14: the parts exist. For every list of messages that the writer takes, with whatever flags, and every buffer with room for the longest
-- message, what `write` leaves there of each part of the plan are the parts sent (`parts-exist`), so that they meet a session (`own-ends`).
use Prim.Native.Nat.{ℕ, zero, suc, ◌+◌, ◌-◌, ◌^◌, ◌≤◌, ◌<◌}
use mathlib.Core.Path.{◌≡◌, refl, sym, ap, ap₂, subst, ◌∙◌}
use mathlib.Core.Bool.{Bool, true, false, cond, true≢false}
use mathlib.Core.List.{List, [], ◌∷◌, ◌++◌, map, append-nil}
use native.Mathlib.Omega.{arith}
use native.Mathlib.Nat.{add-zero}
use lib.Dec.{eqb, leb}
use lib.ListN.{length, get_or, drop, take, replicate, length-map, length-drop}
use lib.Seq.{take-length}
use borrow.Author.Tests.{ne_eqb, eqb-false, le-leb}
use Rattle.std.specs.Prelude.{Result, Ok, Err}
use Rattle.tables.specs.declared.dictionary.Field.{Field}
use Rattle.tables.specs.declared.dictionary.Field.TheVariants.{GapFill as GapFillField, NewSequenceNumber}
use Rattle.tables.specs.Line.{row_at}
use Rattle.tables.specs.declared.table.Row.{Row}
use Rattle.tables.specs.Dictionary.{yes, entry, sort_of, row_number}
use Rattle.tables.specs.Longest.{frame_bytes, longest_written}
use Rattle.tables.specs.Reports.{union_at}
use Rattle.tables.specs.Tables.{sequence_reset, tables_of, is_type, row_of}
use Rattle.tables.specs.Types.{sequence_reset_type}
use Rattle.wire.specs.declared.text.Allowed.TheVariants.{Ascii}
use Rattle.wire.specs.Number.{number, number_bytes}
use Rattle.wire.specs.Search.{first_from}
use Rattle.wire.specs.Map.{map_positions, bit_at, present, with_bit, with_position}
use Rattle.wire.specs.Text.{fixed_part}
use Rattle.wire.proofs.NumberLaws.{length-number_bytes, number-again}
use Rattle.std.specs.Prelude.{Result, Ok}
use Rattle.fields.specs.declared.value.Value.{Value}
use Rattle.fields.specs.declared.value.NoValue.{NoValue}
use Rattle.fields.specs.declared.value.Value.TheVariants.{Number}
use Rattle.fields.specs.Cut.{positions, extent, extent_of, cut_at, cut, bytes_at}
use Rattle.fields.specs.Sets.{is_row_of, stands_at, position_of}
use Rattle.fields.specs.Value.{number_value, sort_value, field_value, row_value, value_in, value_at, text_at, value_of}
use Rattle.message.specs.declared.refusal.Refusal.{Refusal}
use Rattle.message.specs.declared.frame.Header.{Header}
use Rattle.message.specs.declared.refusal.Refusal.TheVariants.{UnknownType, BadHeader}
use Rattle.message.specs.Frame.{comp_id_bytes, comp_id_in, map_in, body_in}
use Rattle.message.specs.Vet.{good_comp_id, good_header, vet_fields, vet}
use Rattle.message.proofs.VetLaws.{good-vetted}
use Rattle.writer.specs.Says.{Says}
use Rattle.writer.specs.Send.{Outgoing, map_with, send_of, sent, gap_fill as fill_of}
use Rattle.writer.specs.Plain.{plain_message}
use Rattle.writer.specs.Write.{written}
use Rattle.writer.proofs.GoodLaws.{wrote-good, wrote-plain}
use Rattle.writer.proofs.LongestLaws.{room-enough}
use Rattle.writer.proofs.SaysLaws.{plain-says}
use Rattle.writer.proofs.SizeLaws.{gap-fill-written}
use Rattle.plan.specs.Plan.{Part, business, gap_fill, session, parts_from}
use Rattle.plan.proofs.PlanShape.{Follows, none as end, one, fill as fills, fill-then, follows-up}
use Rattle.session.specs.declared.arrival.Content.TheVariants as sort
use Rattle.session.specs.declared.state.Session.{Session}
use Rattle.session.specs.declared.state.State.TheVariants.{Live}
use Rattle.session.specs.Arrival.{up_to, is_yes, sequence_reset as sequence_reset_content, content_of, is_ours}
use Rattle.session.specs.State.{last}
use Rattle.session.proofs.ArrivalLaws.{same_refl}
use Rattle.demands.specs.Content.{Said, Content, fields_at, content_in, said, is_business}
use Rattle.demands.specs.Gateway.{Published}
use Rattle.demands.specs.Fill.{Fill}
use Rattle.demands.specs.Meet.{
  marks_of,
  resend,
  Sent,
  none,
  copy,
  fill,
  Met,
  Writable,
  AllWritable,
  done,
  more,
  says_of,
  reported,
  bytes_of,
  again,
  part_of,
  resent,
}
use Rattle.demands.proofs.Arrivals.{said-good}
use Rattle.demands.proofs.Meets.{drop-map, drop-next, drop-there, resend-is, resend-follows, both_ends}

-- ---- what the writer's bytes say

says-alone : {s : List ℕ} {n : ℕ} {h : Header} {comp_id m body : List ℕ} → Says (s ++ []) n h comp_id m body → Says s n h comp_id m body
says-alone {s = s} {n = n} {h = h} {comp_id = c} {m = m} {body = b} x = subst (λ (y : List ℕ). Says y n h c m b) (append-nil s) x

-- a message in plain form, and what it says
abbrev plain_of : List ℕ → Outgoing → List ℕ
plain_of comp_id x = plain_message x.head comp_id x.map x.body

writer-says : (comp_id : List ℕ) (n : ℕ) (x : Outgoing) (w : Writable comp_id n x) → n < 2 ^ 32
    → Says (plain_of comp_id x) (frame_bytes + w.plain) x.head comp_id x.map x.body
writer-says comp_id n x w l =
    says-alone (plain-says x.head comp_id x.map x.body w.plain w.good w.map-size [] (omega (arith, w.numbered)))

-- which is what `write` leaves in a buffer with room
writer-plain : {comp_id : List ℕ} {n : ℕ} {x : Outgoing} (d : List ℕ) → Writable comp_id n x → longest_written ≤ length d → bytes_of comp_id d x ≡ plain_of comp_id x
unfolding bytes_of reported send_of sent
writer-plain {comp_id = comp_id} {x = x} d w r =
    let e = room-enough x.head comp_id x.map x.body d w.plain w.good r in
    ap (λ (z : Result ℕ Refusal). reported z (written x.head comp_id x.map x.body d)) e
    ∙ wrote-plain x.head comp_id x.map x.body d (frame_bytes + w.plain) e w.map-size

-- the fields of two bodies that have the same values and texts
fields-same : (messagetype : ℕ) (m m' b b' ps : List ℕ) → ((p : ℕ) → value_at (row_of messagetype) m b p ≡ value_at (row_of messagetype) m' b' p)
    → ((p : ℕ) → text_at (row_of messagetype) m b p ≡ text_at (row_of messagetype) m' b' p) → fields_at messagetype m b ps ≡ fields_at messagetype m' b' ps
unfolding fields_at
fields-same messagetype m m' b b' [] f g = refl
fields-same messagetype m m' b b' (p ∷ ps) f g =
    ap₂ (λ (x : Said) (xs : List Said). x ∷ xs) (ap₂ (λ (v : Result Value NoValue) (t : List ℕ). said_of v t) (f p) (g p)) (fields-same messagetype m m' b b' ps f g)
  where
    said_of : Result Value NoValue → List ℕ → Said
    said_of v t = record { value = v; text = t }

writer-said : (comp_id : List ℕ) (x : Outgoing) (s : List ℕ) (n : ℕ) → Says s n x.head comp_id x.map x.body → said s ≡ says_of comp_id x ∷ []
unfolding content_in says_of
writer-said comp_id x s n w =
    let e : fields_at x.head.messagetype (map_in s) (body_in n s) (positions (map_in s) map_positions 0) ≡ fields_at x.head.messagetype x.map x.body (positions x.map map_positions 0) =
    fields-same x.head.messagetype (map_in s) x.map (body_in n s) x.body (positions (map_in s) map_positions 0) w.value w.text
    ∙ ap (λ (m : List ℕ). fields_at x.head.messagetype x.map x.body (positions m map_positions 0)) w.map in
    said-good s x.head n w.read ∙ ap (λ (c : Content). c ∷ []) (ap₂ (λ (c m : List ℕ). with c m found) w.comp-id w.map ∙ ap (with comp_id x.map) e)
  where
    found : List Said
    found = fields_at x.head.messagetype (map_in s) (body_in n s) (positions (map_in s) map_positions 0)

    with : List ℕ → List ℕ → List Said → Content
    with c m f = record { messagetype = x.head.messagetype; number = x.head.number; comp_id = c; map = m; fields = f }

for-us : (ours comp_id s : List ℕ) → comp_id ≡ fixed_part Ascii comp_id_bytes ours → comp_id_in s ≡ comp_id → is_ours ours s ≡ true
unfolding is_ours
for-us ours comp_id s e c = rw (c, e) (same_refl (fixed_part Ascii comp_id_bytes ours))

-- ---- the same message with PossDup 1

flags : (a b c d : Bool) → cond a (cond b (cond c d false) false) false ≡ true → cond a (cond c d false) false ≡ true
flags true true c d e = e
flags true false c d e = absurd (true≢false (sym e))
flags false b c d e = absurd (true≢false (sym e))

again-header : (x : Outgoing) (comp_id : List ℕ) → good_header x.head comp_id ≡ true → good_header (again x).head comp_id ≡ true
unfolding good_header again
again-header x comp_id = flags (leb 1 x.head.number) (leb x.head.possdup 1) (leb x.head.possresend 1) (good_comp_id comp_id)

-- the writer takes it too
again-writable : {comp_id : List ℕ} {n : ℕ} {x : Outgoing} → Writable comp_id n x → Writable comp_id n (again x)
unfolding again vet
again-writable {comp_id = comp_id} {x = x} w =
    let g = (good-vetted x.head comp_id x.map x.body w.plain w.good).header in
    record {
      numbered = w.numbered;
      map-size = w.map-size;
      plain = w.plain;
      good = rw (again-header x comp_id g) (subst (λ (t : Bool). vet_in x t ≡ Ok w.plain) g w.good);
    }
  where
    vet_in : Outgoing → Bool → Result ℕ Refusal
    vet_in x t = cond (is_type x.head.messagetype) (cond t (vet_fields (row_of x.head.messagetype) x.map x.body) (Err BadHeader)) (Err UnknownType)

-- ---- the gateway's gap fill

-- its table, and its map: both positions
abbrev rows : ℕ → Row
rows = row_of sequence_reset_type

abbrev fill_map : List ℕ
fill_map = 0xC0 ∷ replicate 31 0

fill-positions : positions fill_map map_positions 0 ≡ 0 ∷ 1 ∷ []
unfolding positions present bit_at
fill-positions = refl

fill-places : (position_of rows GapFillField ≡ 0) × (position_of rows NewSequenceNumber ≡ 1)
unfolding position_of stands_at is_row_of entry row_number first_from row_at row_of tables_of union_at sequence_reset
fill-places = (refl, refl)

fill-cut : (a b c d : ℕ) → let s : List ℕ = yes ∷ a ∷ b ∷ c ∷ d ∷ [] in
    (bytes_at 0 (cut_at rows (0 ∷ 1 ∷ []) s) ≡ s) × (bytes_at 1 (cut_at rows (0 ∷ 1 ∷ []) s) ≡ a ∷ b ∷ c ∷ d ∷ [])
unfolding bytes_at cut_at extent_of extent row_at row_of tables_of union_at sequence_reset entry sort_of
fill-cut a b c d = (refl, refl)

-- the value of a field whose position and bytes are known
value-of : (s bytes : List ℕ) (p : ℕ) → bytes_at p (cut_at rows (0 ∷ 1 ∷ []) s) ≡ bytes → value_at rows fill_map s p ≡ value_in rows fill_map p bytes
unfolding value_at cut
value-of s bytes p e = ap (λ (ps : List ℕ). value_in rows fill_map p (bytes_at p (cut_at rows ps s))) fill-positions ∙ ap (value_in rows fill_map p) e

fill-sorts : (a b c d : ℕ) → (value_in rows fill_map 0 (yes ∷ a ∷ b ∷ c ∷ d ∷ []) ≡ Ok (Number yes)) × (value_in rows fill_map 1 (a ∷ b ∷ c ∷ d ∷ []) ≡ Ok (Number (number (a ∷ b ∷ c ∷ d ∷ []))))
unfolding value_in row_value field_value sort_value number_value present bit_at row_at row_of tables_of union_at sequence_reset entry sort_of number
fill-sorts a b c d = (refl, refl)

-- the values of its two fields
module _ (a b c d : ℕ) where
  abbrev fill_body : List ℕ
  fill_body = yes ∷ a ∷ b ∷ c ∷ d ∷ []

  fill-flag : value_of rows fill_map fill_body GapFillField ≡ Ok (Number yes)
  unfolding value_of
  fill-flag = ap (value_at rows fill_map fill_body) fill-places.0 ∙ value-of fill_body fill_body 0 (fill-cut a b c d).0 ∙ (fill-sorts a b c d).0

  fill-new : value_of rows fill_map fill_body NewSequenceNumber ≡ Ok (Number (number (a ∷ b ∷ c ∷ d ∷ [])))
  unfolding value_of
  fill-new = ap (value_at rows fill_map fill_body) fill-places.1 ∙ value-of fill_body (a ∷ b ∷ c ∷ d ∷ []) 1 (fill-cut a b c d).1 ∙ (fill-sorts a b c d).1

-- so the session finds a gap fill to New in them
gap-content : (new : ℕ) (f n : Result Value NoValue) → f ≡ Ok (Number yes) → n ≡ Ok (Number new) → new ≤ last
    → cond (is_yes f) (sort.GapFill (up_to last n)) (sort.Reset (up_to last n)) ≡ sort.GapFill new
unfolding is_yes up_to
gap-content new f n e k l = rw (e, k, le-leb new last l) refl

-- New's four bytes
new-bytes : (new : ℕ) → number_bytes 4 new ≡ get_or (number_bytes 4 new) 0 0 ∷ get_or (number_bytes 4 new) 1 0 ∷ get_or (number_bytes 4 new) 2 0 ∷ get_or (number_bytes 4 new) 3 0 ∷ []
unfolding number_bytes
new-bytes new = refl

fill-map : (first new : ℕ) → (fill_of first new).map ≡ fill_map
unfolding map_with with_position with_bit bit_at position_of stands_at is_row_of entry row_number first_from row_at row_of tables_of union_at sequence_reset
fill-map first new = refl

-- the writer takes it
fill-writable : (comp_id : List ℕ) (first new : ℕ) → good_comp_id comp_id ≡ true → 1 ≤ first → Writable comp_id first (fill_of first new)
unfolding send_of
fill-writable comp_id first new g h =
    let x = fill_of first new in
    let w = wrote-good x.head comp_id x.map x.body (replicate 63 0) 63 (gap-fill-written first h comp_id g (replicate 63 0) new (omega arith)) in
    record { numbered = refl; map-size = ap length (fill-map first new); plain = w.plain; good = w.good }

module _ (ours comp_id : List ℕ) (o : comp_id ≡ fixed_part Ascii comp_id_bytes ours) (g : good_comp_id comp_id ≡ true) (first new : ℕ) (h : 1 ≤ first) (l : first < 2 ^ 32) (k : new ≤ last) where
  abbrev x : Outgoing
  x = fill_of first new

  abbrev bytes : List ℕ
  bytes = plain_of comp_id x

  abbrev size : ℕ
  size = frame_bytes + (fill-writable comp_id first new g h).plain

  fill-read : Says bytes size x.head comp_id x.map x.body
  fill-read = writer-says comp_id first x (fill-writable comp_id first new g h) l

  abbrev byte_at : ℕ → ℕ
  byte_at i = get_or (number_bytes 4 new) i 0

  body_is : x.body ≡ fill_body (byte_at 0) (byte_at 1) (byte_at 2) (byte_at 3)
  unfolding number_bytes
  body_is = refl

  fill-value : (f : Field) → value_of rows (map_in bytes) (body_in size bytes) f ≡ value_of rows fill_map (fill_body (byte_at 0) (byte_at 1) (byte_at 2) (byte_at 3)) f
  unfolding value_of
  fill-value f =
      fill-read.value (position_of rows f) ∙ ap₂ (λ (m b : List ℕ). value_at rows m b (position_of rows f)) (fill-map first new) body_is

  new-again : number (byte_at 0 ∷ byte_at 1 ∷ byte_at 2 ∷ byte_at 3 ∷ []) ≡ new
  new-again =
      ap number (sym (new-bytes new)) ∙ ap number (sym (take-length (number_bytes 4 new)) ∙ ap₂ (λ (n : ℕ) (s : List ℕ). take n s) (length-number_bytes 4 new) (sym (append-nil (number_bytes 4 new))))
      ∙ number-again 4 new [] (omega arith)

  fill-told : content_of sequence_reset_type (map_in bytes) (body_in size bytes) ≡ sort.GapFill new
  unfolding content_of sequence_reset_content
  fill-told =
      gap-content new (value_of rows (map_in bytes) (body_in size bytes) GapFillField) (value_of rows (map_in bytes) (body_in size bytes) NewSequenceNumber)
      (fill-value GapFillField ∙ fill-flag (byte_at 0) (byte_at 1) (byte_at 2) (byte_at 3))
      (fill-value NewSequenceNumber ∙ fill-new (byte_at 0) (byte_at 1) (byte_at 2) (byte_at 3) ∙ ap (λ (k : ℕ). Ok (Number k)) new-again) k

  own-fill : Fill ours first new bytes
  own-fill = record { header = x.head; length = size; read = fill-read.read; for-us = for-us ours comp_id bytes o fill-read.comp-id; number = refl; told = fill-told }

-- ---- the plan's parts

get_d_map : {A B : Type 0} (f : A → B) (l : List A) (i : ℕ) (x : A) → get_or (map f l) i (f x) ≡ f (get_or l i x)
get_d_map f [] i x = refl
get_d_map f (y ∷ l) zero x = refl
get_d_map f (y ∷ l) (suc i) x = get_d_map f l i x

module _ (comp_id : List ℕ) (xs : List Outgoing) where
  abbrev published : List Content
  published = map (says_of comp_id) xs

  -- x is the message of number n: it stands at place n, and the writer takes it
  record Listed (n : ℕ) : Type 0 where
    x : Outgoing
    writable : Writable comp_id n x
    counted : 1 ≤ n
    within : n ≤ length xs
    there : (d : Outgoing) → get_or xs (n - 1) d ≡ x
    is-business : is_business (says_of comp_id x) ≡ true

  -- the business parts of a plan name listed business messages
  data Parts : List Part → Type 0 where
    parts_none : Parts []
    parts_more : {p : Part} {ps : List Part} → (p.new ≡ 0 → Listed p.first) → Parts ps → Parts (p ∷ ps)

  parts-session : (n : ℕ) (ps : List Part) → Parts ps → Parts (session n ps)
  unfolding session
  parts-session n [] w = parts_more {p = gap_fill n (n + 1)} (λ z. absurd (omega arith)) w
  parts-session n (p ∷ ps) (parts_more f w) = go (eqb p.new 0) refl
    where
      go : (t : Bool) → eqb p.new 0 ≡ t → Parts (cond t (gap_fill n (n + 1) ∷ p ∷ ps) (gap_fill n p.new ∷ ps))
      go true e = parts_more {p = gap_fill n (n + 1)} (λ z. absurd (omega arith)) (parts_more f w)
      go false e = parts_more {p = gap_fill n p.new} (λ z. absurd (eqb-false p.new 0 e z)) w

  parts_from-exist : (n : ℕ) (rest : List Outgoing) → drop n xs ≡ rest → AllWritable comp_id (n + 1) rest → Parts (parts_from (n + 1) (marks_of (map (says_of comp_id) rest)))
  unfolding parts_from marks_of
  parts_from-exist n [] e done = parts_none
  parts_from-exist n (x ∷ rest) e (more w v) = go (is_business (says_of comp_id x)) refl (parts_from-exist (n + 1) rest (drop-next xs n x rest e) v)
    where
      ps : List Part
      ps = parts_from (n + 1 + 1) (map (λ (m : Content). cond (is_business m) 1 0) (map (says_of comp_id) rest))

      listed : is_business (says_of comp_id x) ≡ true → Listed (n + 1)
      listed b =
          let i : n + 1 - 1 ≡ n = omega arith in
          record {
            x = x;
            writable = w;
            counted = omega arith;
            within = omega (arith, length-drop n xs, ap length e);
            there = λ d. ap (λ (k : ℕ). get_or xs k d) i ∙ drop-there xs n x rest d e;
            is-business = b;
          }

      go : (t : Bool) → is_business (says_of comp_id x) ≡ t → Parts ps → Parts (cond (eqb (cond t 1 0) 1) (business (n + 1) ∷ ps) (session (n + 1) ps))
      go true b y = parts_more (λ z. listed b) y
      go false b y = parts-session (n + 1) ps y

  module _ (ours d : List ℕ) (o : comp_id ≡ fixed_part Ascii comp_id_bytes ours) (g : good_comp_id comp_id ≡ true) (r : longest_written ≤ length d) where
    abbrev bytes_for : Part → List ℕ
    bytes_for p = bytes_of comp_id d (part_of xs p)

    copy-bytes : (n : ℕ) (l : Listed n) → bytes_for (business n) ≡ plain_of comp_id (again l.x)
    unfolding part_of
    copy-bytes n l = ap (λ (y : Outgoing). bytes_of comp_id d (again y)) (l.there (fill_of n 0)) ∙ writer-plain d (again-writable l.writable) r

    fill-bytes : (first new : ℕ) → 1 ≤ first → (new ≡ 0 → ⊥) → bytes_for (gap_fill first new) ≡ plain_of comp_id (fill_of first new)
    unfolding part_of
    fill-bytes first new h z = rw (ne_eqb new 0 z) (writer-plain d (fill-writable comp_id first new g h) r)

    copy_sent : (n : ℕ) (l : Listed n) → n < 2 ^ 32 → (ps : List Part) (bs : List (List ℕ)) → Sent ours published ps bs
        → Sent ours published (business n ∷ ps) (bytes_for (business n) ∷ bs)
    unfolding says_of again
    copy_sent n l h ps bs w =
        let x = l.x in
        let y = again x in
        let u = again-writable l.writable in
        let s = writer-says comp_id n y u h in
        let p : Published published n (says_of comp_id x) = record {
          counted = l.counted;
          within = omega (arith, l.within, length-map xs (says_of comp_id));
          there = get_d_map (says_of comp_id) xs (n - 1) x ∙ ap (says_of comp_id) (l.there x);
          numbered = l.writable.numbered;
        } in
        subst (λ (b : List ℕ). Sent ours published (business n ∷ ps) (b ∷ bs)) (sym (copy-bytes n l))
        (copy {m = says_of comp_id x} s.read (for-us ours comp_id (plain_of comp_id y) o s.comp-id) refl
        (writer-said comp_id y (plain_of comp_id y) (frame_bytes + u.plain) s) p l.is-business w)

    fill-sent : (first new : ℕ) → 1 ≤ first → first < new → new ≤ last → (ps : List Part) (bs : List (List ℕ)) → Sent ours published ps bs
        → Sent ours published (gap_fill first new ∷ ps) (bytes_for (gap_fill first new) ∷ bs)
    unfolding own-fill
    fill-sent first new h l k ps bs w =
        subst (λ (b : List ℕ). Sent ours published (gap_fill first new ∷ ps) (b ∷ bs)) (sym (fill-bytes first new h (λ z. omega arith)))
        (fill (omega arith) (own-fill ours comp_id o g first new h (omega arith) k) refl w)

    sent-own : {n f : ℕ} {ps : List Part} → Follows n f ps → Parts ps → 1 ≤ n → f ≤ last → Sent ours published ps (map bytes_for ps)
    sent-own end parts_none h k = none
    sent-own {n = n} (one {ps = ps} v) (parts_more f w) h k = copy_sent n (f refl) (omega (arith, follows-up v)) ps _ (sent-own v w (omega arith) k)
    sent-own {n = n} {f = m} (fills l) (parts_more f w) h k = fill-sent n m h l k [] [] none
    sent-own {n = n} (fill-then {g = y} {ps = ps} l v) (parts_more f (parts_more q w)) h k =
        fill-sent n y h l (omega (arith, follows-up v)) (business y ∷ ps) _ (copy_sent y (q refl) (omega (arith, follows-up v)) ps _ (sent-own v w (omega arith) k))

-- a Comp ID that the writer takes
header-comp : (h : Header) (comp_id : List ℕ) → good_header h comp_id ≡ true → good_comp_id comp_id ≡ true
unfolding good_header
header-comp h comp_id = go (leb 1 h.number) (leb h.possdup 1) (leb h.possresend 1)
  where
    go : (a b c : Bool) → cond a (cond b (cond c (good_comp_id comp_id) false) false) false ≡ true → good_comp_id comp_id ≡ true
    go true true true e = e
    go true true false e = absurd (true≢false (sym e))
    go true false c e = absurd (true≢false (sym e))
    go false b c e = absurd (true≢false (sym e))

writable-comp : {comp_id : List ℕ} {n : ℕ} {x : Outgoing} → Writable comp_id n x → good_comp_id comp_id ≡ true
writable-comp {comp_id = comp_id} {x = x} w = header-comp x.head comp_id (good-vetted x.head comp_id x.map x.body w.plain w.good).header

writable-drop : {comp_id : List ℕ} {n : ℕ} (k : ℕ) (xs : List Outgoing) → AllWritable comp_id n xs → AllWritable comp_id (n + k) (drop k xs)
writable-drop {comp_id = comp_id} {n = n} zero xs w = rw add-zero w
writable-drop (suc k) [] done = done
writable-drop {comp_id = comp_id} {n = n} (suc k) (x ∷ xs) (more y w) =
    let e : n + 1 + k ≡ n + suc k = omega arith in subst (λ (m : ℕ). AllWritable comp_id m (drop k xs)) e (writable-drop {n = n + 1} k xs w)

-- what `write` leaves of the parts of the plan from e to the end are its parts sent
pub parts-exist : (ours comp_id d : List ℕ) (xs : List Outgoing) (e : ℕ) → comp_id ≡ fixed_part Ascii comp_id_bytes ours → AllWritable comp_id 1 xs
    → longest_written ≤ length d → 1 ≤ e → e ≤ length xs → length xs < last
    → let L = map (says_of comp_id) xs in Sent ours L (resend L e) (resent comp_id d xs e)
unfolding resent
parts-exist ours comp_id d [] e o w r h i l = absurd (omega arith)
parts-exist ours comp_id d (x ∷ xs) e o (more y w) r h i l =
    let ys = x ∷ xs in
    let L = map (says_of comp_id) ys in
    let n : length L ≡ length ys = length-map ys (says_of comp_id) in
    let v : AllWritable comp_id (1 + (e - 1)) (drop (e - 1) ys) = writable-drop (e - 1) ys (more y w) in
    let k : 1 + (e - 1) ≡ e - 1 + 1 = omega arith in
    let parts : Parts comp_id ys (parts_from (e - 1 + 1) (marks_of (map (says_of comp_id) (drop (e - 1) ys)))) =
    parts_from-exist comp_id ys (e - 1) (drop (e - 1) ys) refl (subst (λ (m : ℕ). AllWritable comp_id m (drop (e - 1) ys)) k v) in
    let same : resend L e ≡ parts_from (e - 1 + 1) (marks_of (map (says_of comp_id) (drop (e - 1) ys))) =
    resend-is L e h ∙ ap (λ (l : List Content). parts_from (e - 1 + 1) (marks_of l)) (drop-map (says_of comp_id) (e - 1) ys) in
    sent-own comp_id ys ours d o (writable-comp y) r (resend-follows L e h (omega arith)) (subst (Parts comp_id ys) (sym same) parts) h (omega arith)

-- so a Live session with this Comp ID meets every such gateway
pub own-ends : (s : Session) (comp_id d : List ℕ) (xs : List Outgoing) → s.state ≡ Live → comp_id ≡ fixed_part Ascii comp_id_bytes s.ours
    → AllWritable comp_id 1 xs → longest_written ≤ length d → 1 ≤ s.expected → s.expected ≤ length xs → length xs < last
    → Met (map (says_of comp_id) xs) s (resent comp_id d xs s.expected)
own-ends s comp_id d xs p o w r h i l =
    let n : length (map (says_of comp_id) xs) ≡ length xs = length-map xs (says_of comp_id) in
    both_ends (map (says_of comp_id) xs) s (resent comp_id d xs s.expected) p h (omega arith) (omega arith)
    (parts-exist s.ours comp_id d xs s.expected o w r h i l)
