-- The worked day goes on: number 10 comes while 8 is expected, so that 8 is asked for and M stands at 10; then 8, an execution report, a gap fill over 9 and
-- 10 come as an unbroken run. Both halves of demand 3 apply to it, from the session as the worked day left it.
use Prim.Native.Nat.{ℕ, ◌-◌, ◌<◌, ◌≤◌}
use mathlib.Core.Path.{◌≡◌, refl, sym, ap, subst, ◌∙◌}
use mathlib.Core.List.{List, [], ◌∷◌, ◌++◌}
use native.Mathlib.Omega.{arith}
use lib.IntN.{pos}
use lib.ListN.{length, get_or, replicate, length-append, get_or-append}
use Rattle.std.specs.Prelude.{Err}
use Rattle.crc.specs.Crc.{bits, number_of_bits, message_bits, polynomial, differ, less, divided, complemented, crc32c}
use Rattle.wire.specs.Number.{number, number_bytes}
use Rattle.wire.specs.Decimal.{signed, unsigned, decimal, decimal_bytes}
use Rattle.wire.specs.Search.{first_from}
use Rattle.wire.specs.Spelled.{spelled}
use Rattle.wire.specs.Map.{bit_at, present}
use Rattle.wire.specs.Text.{is_character, all_characters, one_past, null, ended, fixed_text, characters_of, fixed_part, takes, fixed_bytes}
use Rattle.tables.specs.Line.{is_known, is_required, row_at}
use Rattle.tables.specs.Dictionary.{entry, sort_of, width_of, row_number}
use Rattle.tables.specs.Reports.{
  reports,
  add_line,
  column,
  nine_tables,
  not_required,
  joined,
  union_at,
}
use Rattle.tables.specs.Tables.{is_type, heartbeat, sequence_reset, logon, business_message_reject, tables_of, row_of}
use Rattle.std.specs.Prelude.{Ok}
use Rattle.fields.specs.declared.value.Value.TheVariants.{Decimal, Text}
use Rattle.fields.specs.Sets.{unknown_to, unknown_at, missing_at, place_of, lowest, lowest_unknown, lowest_missing, is_row_of, stands_at, position_of}
use Rattle.fields.specs.Check.{whole, yes_no, fixed_taken, fixed, check_sort, check_row}
use Rattle.fields.specs.Cut.{positions, extent, extent_of, cut_at, cut, bytes_at}
use Rattle.fields.specs.Walk.{onward, walk_through, walk_of}
use Rattle.fields.specs.Value.{number_value, decimal_value, text_value, sort_value, sort_text, field_value, field_text, row_value, row_text, value_in, text_in, value_at, text_at, value_of}
use Rattle.message.specs.declared.refusal.Refusal.TheVariants.{BadSum}
use Rattle.message.specs.Frame.{part_in, length_in, header_in, comp_id_in, map_in, body_in, sum_in, framed_by, framed}
use Rattle.message.specs.Vet.{good_comp_id, good_header, vet_walk, vet_place, vet_sets, vet_fields, vet}
use Rattle.message.specs.Read.{read_vetted, read_whole, read_framed, read_of}
use Rattle.message.specs.Refusal.{number_of}
use Rattle.session.specs.declared.state.Session.{Session}
use Rattle.session.specs.declared.state.State.TheVariants.{Down, Live}
use Rattle.session.specs.Arrival.{up_to, is_yes, sequence_reset as sequence_reset_content, content_of, same_bytes, is_ours, message_in, arrival_by, arrival_of}
use Rattle.session.specs.State.{told, repeats_at, unmoved, leave, stop, ahead_at, take}
use Rattle.session.specs.Rules.{for_us, fill_to, logon as logon_rule, waiting, slots, request, again, ask, higher, gap_fill, equal, numbered, live, lower, ruled_in, ruled}
use Rattle.session.specs.Course.{Reached, begun}
use Rattle.session.specs.Day.{step_by, day, fresh, connect_in, connect, drop, refused as refused_rule, arrived, step_in, step}
use Rattle.session.specs.declared.arrival.Content.TheVariants.{GapFill, Business}
use Rattle.demands.specs.Content.{Said, Content, fields_at, content_in, said_by, said, is_business}
use Rattle.demands.specs.Gateway.{
  Published,
  SessionNumber,
  business_of,
  below,
  Event,
  lends,
  Fair,
  refused,
  copy,
  fills,
  dropped,
  connected,
  AllFair,
  none,
  more,
  after,
  handed_by,
  handed,
  after_all,
  handed_all,
}
use Rattle.demands.specs.Hole.{is_numbered, Past, Answers, Many, none, other, past, GoneOn}
use Rattle.demands.specs.Run.{Run, done, business, gap_fill as jumps, lend_all}
use Rattle.demands.specs.Whole.{Whole}
use Rattle.demands.proofs.Hole.{reached-all, hole-answered, hole-ends}
use Rattle.demands.proofs.Whole.{fair-both, both_halves}
use Rattle.demands.proofs.WorkedDay.{
  ours,
  bytes_of,
  logon_bytes,
  business_bytes,
  heartbeat_bytes,
  fill_bytes,
  number_said,
  logon_said,
  business_said,
  heartbeat_said,
  published,
  worked_day,
  worked,
}

-- an execution report of FL1's: the twelve positions that every report has, each with a value
abbrev pub report_map : List ℕ
report_map = 0x73 ∷ 0x40 ∷ 0x07 ∷ 0xC0 ∷ 0x04 ∷ replicate 27 0

unfoldable pub report_fields : List ℕ
report_fields =
    fixed_bytes 12 (spelled "B01") ++ (fixed_bytes 21 (spelled "700") ++ (8 ∷ (fixed_bytes 25 (spelled "20260102-09:30:00.000") ++ (1 ∷ (
    fixed_bytes 21 (spelled "O1") ++ (fixed_bytes 21 (spelled "E1") ++ (1 ∷ 70 ∷ (
    decimal_bytes (pos 20000000000) ++ (decimal_bytes (pos 30000000000) ++ (1 ∷ []))))))))))

unfoldable pub report_bytes : ℕ → ℕ → ℕ → List ℕ
report_bytes n possdup sum =
    2 ∷ (number_bytes 2 179 ++ (10 ∷ (number_bytes 4 n ++ (possdup ∷ 0 ∷ (fixed_bytes 12 ours ++ (report_map ++ (report_fields ++ number_bytes 4 sum)))))))

-- what it says: its broker, security and source of that ID, time, side, order, execution, status and type of execution; 200 filled and 300 open; a copy
abbrev pub text_said : List ℕ → Said
text_said s = record { value = Ok (Text (length s)); text = s }

unfoldable pub report_said : ℕ → Content
report_said n = record {
  messagetype = 10;
  number = n;
  comp_id = ours;
  map = report_map;
  fields =
      text_said (spelled "B01") ∷
      text_said (spelled "700") ∷
      number_said 8 ∷
      text_said (spelled "20260102-09:30:00.000") ∷
      number_said 1 ∷
      text_said (spelled "O1") ∷
      text_said (spelled "E1") ∷
      number_said 1 ∷
      number_said 70 ∷
      record { value = Ok (Decimal (pos 20000000000)); text = [] } ∷
      record { value = Ok (Decimal (pos 30000000000)); text = [] } ∷
      number_said 1 ∷
      [];
}

-- the gateway has published three messages more
unfoldable pub later : List Content
later =
    report_said 8 ∷
    heartbeat_said 9 ∷
    business_said 10 15 ∷
    []

-- after the worked day 10 comes while 8 is expected
unfoldable pub ahead_day : List Event
ahead_day =
    lends (business_bytes 10 0 15 0xFE253218) ∷
    []

-- the run that answers the request
unfoldable pub answer_run : List (List ℕ)
answer_run =
    report_bytes 8 1 0xC2A22CAB ∷
    fill_bytes 9 10 0x299436A6 ∷
    business_bytes 10 1 15 0x39A38C1A ∷
    []

-- an answer with a hole, twice: 8 is spoiled, in its checksum, and what stands behind it arrives
unfoldable pub hole_run : List (List ℕ)
hole_run =
    report_bytes 8 1 0xC2A22CAC ∷
    fill_bytes 9 10 0x299436A6 ∷
    business_bytes 10 1 15 0x39A38C1A ∷
    report_bytes 8 1 0xC2A22CAC ∷
    fill_bytes 9 10 0x299436A6 ∷
    []

-- what is fair by a list is fair by a longer one
published-more : (L M : List Content) (n : ℕ) (m : Content) → Published L n m → Published (L ++ M) n m
published-more L M n m p = record {
  counted = p.counted;
  within = rw length-append (omega (arith, p.within));
  there = get_or-append L M m (n - 1) (omega (arith, p.counted, p.within)) ∙ p.there;
  numbered = p.numbered;
}

session-more : (L M : List Content) (n : ℕ) → SessionNumber L n → SessionNumber (L ++ M) n
session-more L M n s = record { message = s.message; published = published-more L M n s.message s.published; session = s.session }

fair-more : (L M : List Content) {e : Event} → Fair L e → Fair (L ++ M) e
fair-more L M (refused q) = refused q
fair-more L M (copy {m = m} q p k) = copy q (published-more L M m.number m p) k
fair-more L M (fills {h = h} {n = n} {new = new} q e g) = fills {h = h} {n = n} {new = new} q e (λ k i j. session-more L M k (g k i j))
fair-more L M dropped = dropped
fair-more L M connected = connected

all_more : (L M : List Content) {es : List Event} → AllFair L es → AllFair (L ++ M) es
all_more L M none = none
all_more L M (more f fs) = more (fair-more L M f) (all_more L M fs)

-- the list, and the day up to the run
abbrev pub published_on : List Content
published_on = published ++ later

abbrev pub day_before : List Event
day_before = worked_day ++ ahead_day

true-copy : {b : List ℕ} (m : Content) → said b ≡ m ∷ [] → get_or published_on (m.number - 1) m ≡ m → 1 ≤ m.number → m.number ≤ 10
    → (m.messagetype ≡ 4 → ⊥) → Fair published_on (lends b)
unfolding published later
true-copy m s t a z k = copy s (record { counted = a; within = z; there = t; numbered = refl }) k

ninth : (k : ℕ) → 9 ≤ k → k < 10 → SessionNumber published_on k
unfolding published later heartbeat_said is_business
ninth k a b =
    let e : 9 ≡ k = omega arith in
    let p : Published published_on 9 (heartbeat_said 9) = record { counted = omega arith; within = omega arith; there = refl; numbered = refl } in
    subst (SessionNumber published_on) e (record { message = heartbeat_said 9; published = p; session = refl })

-- the session as the day leaves it: from 8 on it has asked, and M stands at 10
abbrev asking : Session
asking = record { state = Live; ours = fixed_bytes 12 ours; expected = 8; own = 5; ahead = 10; repeats = 0 }

-- all of it is fair; the day leaves M standing at 10, a number ahead; the run is unbroken from there; and the list's business is computed, the report
-- among it. In the answer with a hole 8 is refused for its checksum and three are past it; the session has asked twice more, with 5 and 6, and stopped
-- with a Logout, 7
pub record WorkedOn : Type 0 where
  pub fair : AllFair published_on day_before
  pub standing : after_all (fresh ours).session day_before ≡ asking
  pub run : Run (fixed_bytes 12 ours) 8 answer_run 11
  pub copies : AllFair published_on (lend_all answer_run)
  pub spoiled : read_of (report_bytes 8 1 0xC2A22CAC) ≡ Err (BadSum 179)
  pub nine : Past (fixed_bytes 12 ours) 8 (fill_bytes 9 10 0x299436A6)
  pub hole : Many (fixed_bytes 12 ours) 8 3 hole_run
  pub stopped : after_all (fresh ours).session (day_before ++ lend_all hole_run)
      ≡ record { state = Down; ours = fixed_bytes 12 ours; expected = 8; own = 8; ahead = 0; repeats = 0 }
  pub listed : below published_on 11
      ≡ business_said 2 11 ∷ business_said 3 12 ∷ business_said 5 13 ∷ business_said 7 14 ∷ report_said 8 ∷ business_said 10 15 ∷ []

pub worked-on : WorkedOn
unfolding bits number_of_bits message_bits polynomial differ less divided complemented crc32c
    number number_bytes signed unsigned decimal decimal_bytes spelled first_from bit_at present is_character all_characters one_past null ended fixed_text characters_of fixed_part takes fixed_bytes
    is_known is_required row_at entry sort_of width_of row_number union_at joined not_required nine_tables reports add_line column heartbeat sequence_reset logon business_message_reject tables_of is_type row_of
    unknown_to unknown_at missing_at place_of lowest lowest_unknown lowest_missing is_row_of stands_at position_of
    whole yes_no fixed_taken fixed check_sort check_row positions extent extent_of cut_at cut bytes_at onward walk_through walk_of
    number_value decimal_value text_value sort_value sort_text field_value field_text row_value row_text value_in text_in value_at text_at value_of
    part_in length_in header_in comp_id_in map_in body_in sum_in framed_by framed
    good_comp_id good_header vet_walk vet_place vet_sets vet_fields vet read_vetted read_whole read_framed read_of
    up_to is_yes sequence_reset_content content_of fields_at content_in said_by said bytes_of logon_bytes business_bytes heartbeat_bytes fill_bytes logon_said business_said
    report_fields report_bytes report_said
    number_of same_bytes is_ours message_in arrival_by arrival_of unmoved ahead_at take fill_to logon_rule waiting told repeats_at slots request again ask higher gap_fill equal numbered live lower stop leave for_us ruled_in ruled is_numbered
    day fresh connect_in connect drop refused_rule arrived step_in step_by step after handed_by handed after_all handed_all
    published later worked_day ahead_day answer_run hole_run lend_all below business_of is_business heartbeat_said
worked-on =
    let ninth-past : Past (fixed_bytes 12 ours) 8 (fill_bytes 9 10 0x299436A6) = record {
      header = record { messagetype = 4; number = 9; possdup = 1; possresend = 0 };
      length = 63;
      read = refl;
      for-us = refl;
      possdup = refl;
      ahead = omega arith;
      content = GapFill 10;
      told = refl;
      numbered = refl;
    } in
    let tenth-past : Past (fixed_bytes 12 ours) 8 (business_bytes 10 1 15 0x39A38C1A) = record {
      header = record { messagetype = 9; number = 10; possdup = 1; possresend = 0 };
      length = 61;
      read = refl;
      for-us = refl;
      possdup = refl;
      ahead = omega arith;
      content = Business;
      told = refl;
      numbered = refl;
    } in
    record {
      fair =
          fair-both (all_more published later worked.fair)
          (more (true-copy (business_said 10 15) refl refl (omega arith) (omega arith) (λ e. omega arith)) none);
      standing = refl;
      run =
          business {n = 179} {h = record { messagetype = 10; number = 8; possdup = 1; possresend = 0 }} refl refl refl (omega arith) refl (
          jumps {n = 63} {new = 10} {h = record { messagetype = 4; number = 9; possdup = 1; possresend = 0 }} refl refl refl (omega arith) refl (omega arith) (
          business {n = 61} {h = record { messagetype = 9; number = 10; possdup = 1; possresend = 0 }} refl refl refl (omega arith) refl
          done));
      copies =
          more (true-copy (report_said 8) refl refl (omega arith) (omega arith) (λ e. omega arith)) (
          more (fills {h = record { messagetype = 4; number = 9; possdup = 1; possresend = 0 }} {n = 63} {new = 10} refl refl ninth) (
          more (true-copy (business_said 10 15) refl refl (omega arith) (omega arith) (λ e. omega arith))
          none));
      spoiled = refl;
      nine = ninth-past;
      hole = other (past ninth-past (past tenth-past (other (past ninth-past none))));
      stopped = refl;
      listed = refl;
    }

-- so that over the day and the run every business message of the list was handed up, once each and in order
pub worked-on-whole : Whole published_on [] (fresh ours).session day_before answer_run 11
worked-on-whole =
    let e = worked-on.standing in
    both_halves published_on ours day_before answer_run 11 worked-on.fair (ap (λ (x : Session). x.state) e)
    (subst (λ (x : Session). Run x.ours x.expected answer_run 11) (sym e) worked-on.run) worked-on.copies

-- and of the answer with a hole the law of document 02, item 3, holds: the first message past the hole is answered, and after three the session has gone on
asked : Reached asking
asked = subst Reached worked-on.standing (reached-all day_before (begun ours))

pub worked-hole-answered : Answers asking worked-on.nine.content (step (step asking (report_bytes 8 1 0xC2A22CAC)).session (fill_bytes 9 10 0x299436A6))
unfolding number_of
worked-hole-answered =
    hole-answered asked (omega arith) (report_bytes 8 1 0xC2A22CAC) (fill_bytes 9 10 0x299436A6) (BadSum 179) worked-on.spoiled refl worked-on.nine

pub worked-hole-ends : GoneOn 8 (after_all asking (lend_all hole_run))
worked-hole-ends = hole-ends asked (omega arith) hole_run worked-on.hole
