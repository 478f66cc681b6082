-- The messages that the recorder sends are good, and in how many bytes each is written: their maps, their known and required sets and
-- their bodies by computing, whatever the numbers in them.
use mathlib.Core.Path.{◌≡◌, refl, ap, ◌∙◌}
use Prim.Native.Nat.{ℕ, suc, ◌+◌, ◌-◌, ◌/◌, ◌%◌, ◌≤◌}
use native.Mathlib.Nat.{le_of_lt}
use native.Mathlib.Omega.{arith}
use mathlib.Core.Bool.{true, false}
use mathlib.Core.List.{List, [], ◌∷◌, ◌++◌, append-nil}
use borrow.Author.Tests.{le-leb}
use lib.ListN.{length, get_or, replicate, drop_of_length-le}
use lib.Seq.{drop_at}
use Rattle.std.specs.Prelude.{Ok}
use Rattle.tables.specs.declared.dictionary.Field.TheVariants.{EndSequence, NextExpectedMessageSequence, Password, StartSequence}
use Rattle.tables.specs.Dictionary.{entry, row_number, sort_of, width_of}
use Rattle.tables.specs.Line.{row_at, is_known, is_required}
use Rattle.tables.specs.Reports.{union_at}
use Rattle.tables.specs.Tables.{row_of, tables_of}
use Rattle.tables.specs.Tables as table
use Rattle.tables.specs.Types.{execution_report_type}
use Rattle.tables.proofs.Types.{within-is-type}
use Rattle.wire.specs.declared.text.Allowed.TheVariants.{Ascii}
use Rattle.wire.specs.Map.{with_position, with_bit, bit_at, present}
use Rattle.wire.specs.Number.{number_bytes}
use Rattle.wire.specs.Search.{first_from}
use Rattle.wire.specs.Text.{takes, fixed_bytes}
use Rattle.wire.proofs.MapLaws.{no-bit}
use Rattle.wire.proofs.NumberLaws.{length-number_bytes}
use Rattle.wire.proofs.TextLaws.{fixed-again, taken, length-fixed_bytes}
use Rattle.std.specs.Prelude.{None}
use Rattle.tables.specs.declared.table.Row.{Row}
use Rattle.fields.specs.Check.{check_row, check_sort, fixed, fixed_taken, whole, yes_no, good_field}
use Rattle.fields.specs.Sets.{position_of, stands_at, is_row_of, lowest, place_of, lowest_unknown, lowest_missing, unknown_at, unknown_to, missing_at}
use Rattle.fields.specs.Cut.{positions, extent, extent_of, cut_at, cut}
use Rattle.fields.specs.Walk.{onward, walk_through, walk_of, all_good}
use Rattle.fields.proofs.BytesLaws.{no_byte}
use Rattle.fields.proofs.PositionLaws.{later-skip, later-end, positions-split}
use Rattle.fields.proofs.WalkLaws.{walk_from, walk-on}
use Rattle.message.specs.Vet.{good_comp_id, good_header, vet_fields, vet_sets, vet_place, vet_walk, vet}
use Rattle.writer.specs.Send.{Outgoing, logout, heartbeat, heartbeat_for, test_request, resend_request, gap_fill, logon, logon_of, send_of, map_with}
use Rattle.writer.specs.Write.{write_of, write_vetted, write_length}

-- a map whose fields stand in its first byte
abbrev pub map_of : ℕ → List ℕ
map_of b = b ∷ replicate 31 0

module _ (b : ℕ) where
  behind-clear : (p : ℕ) → 8 ≤ p → present (map_of b) p ≡ false
  unfolding present
  behind-clear p h =
      let e : p / 8 ≡ suc (p / 8 - 1) = omega arith in
      ap (λ (i : ℕ). bit_at (get_or (map_of b) i 0) (p % 8)) e ∙ ap (λ (x : ℕ). bit_at x (p % 8)) (no_byte 31 (p / 8 - 1)) ∙ no-bit (p % 8)

  -- has no position but those eight
  first_byte : positions (map_of b) 256 0 ≡ positions (map_of b) 8 0
  first_byte =
      positions-split (map_of b) 8 248 0
      ∙ ap (λ (x : List ℕ). positions (map_of b) 8 0 ++ x)
      (later-skip (map_of b) 256 8 256 (omega arith) (omega arith) (λ k l u. behind-clear k l) ∙ later-end (map_of b) 256 256 (omega arith))
      ∙ append-nil (positions (map_of b) 8 0)

-- x has a known type, good flags, and a map of the byte b that has the fields it must have and no unknown one; its body is the map's fields,
-- in `plain` bytes
pub record Complete (x : Outgoing) (b plain : ℕ) : Type 0 where
  pub messagetype : x.head.messagetype ≤ execution_report_type
  pub possdup : x.head.possdup ≤ 1
  pub possresend : x.head.possresend ≤ 1
  pub map : x.map ≡ map_of b
  pub known : lowest_unknown (row_of x.head.messagetype) (map_of b) ≡ None
  pub filled : lowest_missing (row_of x.head.messagetype) (map_of b) ≡ None
  pub walked : walk_from (row_of x.head.messagetype) (positions (map_of b) 8 0) 0 x.body ≡ all_good 0 plain

module _ {x : Outgoing} {b plain : ℕ} (c : Complete x b plain) where
  complete-fields : vet_fields (row_of x.head.messagetype) x.map x.body ≡ Ok plain
  unfolding vet_fields vet_sets vet_place vet_walk walk_of walk_from cut
  complete-fields = rw (c.map, c.known, c.filled, first_byte b, c.walked)

  -- with a number, a good Comp ID and room it is written
  pub complete-sent : (comp_id d : List ℕ) → 1 ≤ x.head.number → good_comp_id comp_id ≡ true → 58 + plain ≤ length d
      → send_of x comp_id d ≡ Ok (58 + plain)
  unfolding send_of write_of write_vetted write_length vet good_header
  complete-sent comp_id d h g r =
      rw (
        within-is-type x.head.messagetype c.messagetype,
        le-leb 1 x.head.number h,
        le-leb x.head.possdup 1 c.possdup,
        le-leb x.head.possresend 1 c.possresend,
        g,
        complete-fields,
        le-leb (58 + plain) (length d) r,
      )

-- a body of two fields, of j and of k bytes
walk-two : (rows : ℕ → Row) (p q j k : ℕ) (u v : List ℕ) → length u ≡ j → length v ≡ k → check_row (rows p) (u ++ v) ≡ good_field j j
    → check_row (rows q) v ≡ good_field k k → walk_from rows (p ∷ q ∷ []) 0 (u ++ v) ≡ all_good 0 (0 + j + k)
unfolding walk_from walk_through cut_at
walk-two rows p q j k u v l m a b =
    walk-on rows p (q ∷ []) 0 j j (u ++ v) a ∙ ap (walk_from rows (q ∷ []) (0 + j)) (drop_at u v j l) ∙ walk-on rows q [] (0 + j) k k v b
    ∙ ap (walk_from rows [] (0 + j + k)) (drop_of_length-le v {i = k} (omega arith))

-- a Logon whose password the text writer takes
module _ (number : ℕ) (password : List ℕ) (next : ℕ) where
  logon-places : positions (map_of 160) 8 0 ≡ position_of (row_of 5) Password ∷ position_of (row_of 5) NextExpectedMessageSequence ∷ []
  unfolding positions present bit_at position_of stands_at is_row_of entry row_number first_from row_at row_of tables_of union_at table.logon
  logon-places = refl

  logon-checks : (s : List ℕ) → (check_row (row_of 5 (position_of (row_of 5) Password)) s ≡ fixed Ascii (width_of (sort_of Password)) s)
      × (check_row (row_of 5 (position_of (row_of 5) NextExpectedMessageSequence)) (number_bytes 4 next) ≡ good_field 4 4)
  unfolding position_of stands_at is_row_of entry row_number first_from row_at row_of tables_of union_at table.logon check_row check_sort sort_of width_of whole number_bytes
  logon-checks s = (refl, refl)

  module _ (h : takes Ascii (width_of (sort_of Password)) password ≡ true) where
    logon-walk : walk_from (row_of 5) (positions (map_of 160) 8 0) 0 (fixed_bytes (width_of (sort_of Password)) password ++ number_bytes 4 next)
        ≡ all_good 0 (0 + width_of (sort_of Password) + 4)
    unfolding fixed fixed_taken
    logon-walk =
        let w = width_of (sort_of Password) in
        let u = fixed_bytes w password in
        let v = number_bytes 4 next in
        ap (λ (ps : List ℕ). walk_from (row_of 5) ps 0 (u ++ v)) logon-places
        ∙ walk-two (row_of 5) _ _ w 4 u v (length-fixed_bytes w password (le_of_lt (taken Ascii w password h).room)) (length-number_bytes 4 next)
        ((logon-checks (u ++ v)).0 ∙ ap fixed_taken (fixed-again Ascii w password v h)) (logon-checks v).1

    pub logon-complete : Complete (logon number password next) 160 454
    unfolding map_with with_position with_bit bit_at position_of stands_at is_row_of entry row_number first_from row_at row_of tables_of union_at table.logon lowest_unknown lowest_missing lowest place_of unknown_at unknown_to missing_at is_known is_required present sort_of width_of
    logon-complete =
        record { messagetype = omega arith; possdup = omega arith; possresend = omega arith; map = refl; known = refl; filled = refl; walked = logon-walk }

-- every message but the Logon
module _ (number : ℕ) where
  computed : (id start end new : ℕ)
      → Complete (logout number) 0 0
      × Complete (heartbeat number) 0 0
      × Complete (heartbeat_for number id) 128 2
      × Complete (test_request number id) 128 2
      × Complete (resend_request number start end) 192 8
      × Complete (gap_fill number new) 192 5
  unfolding map_with with_position with_bit bit_at position_of stands_at is_row_of entry row_number first_from row_at row_of tables_of union_at table.heartbeat table.test_request table.resend_request table.sequence_reset table.logout lowest_unknown lowest_missing lowest place_of unknown_at unknown_to missing_at is_known is_required present walk_from walk_through cut_at extent_of extent positions onward check_row check_sort whole yes_no sort_of number_bytes
  computed id start end new = (
    record { messagetype = omega arith; possdup = omega arith; possresend = omega arith; map = refl; known = refl; filled = refl; walked = refl },
    record { messagetype = omega arith; possdup = omega arith; possresend = omega arith; map = refl; known = refl; filled = refl; walked = refl },
    record { messagetype = omega arith; possdup = omega arith; possresend = omega arith; map = refl; known = refl; filled = refl; walked = refl },
    record { messagetype = omega arith; possdup = omega arith; possresend = omega arith; map = refl; known = refl; filled = refl; walked = refl },
    record { messagetype = omega arith; possdup = omega arith; possresend = omega arith; map = refl; known = refl; filled = refl; walked = refl },
    record { messagetype = omega arith; possdup = omega arith; possresend = omega arith; map = refl; known = refl; filled = refl; walked = refl },
  )

-- the map of a Resend Request: C0 and zeros
pub resend-request-map : map_with (row_of 2) (StartSequence ∷ EndSequence ∷ []) ≡ 192 ∷ replicate 31 0
resend-request-map = (computed 0 0 0 0 0).4.map

-- where our Comp ID is good, the number is not 0 and there is room, each is written
module _ (number : ℕ) (h : 1 ≤ number) (comp_id : List ℕ) (g : good_comp_id comp_id ≡ true) (d : List ℕ) where
  pub logout-written : 58 ≤ length d → send_of (logout number) comp_id d ≡ Ok 58
  logout-written = complete-sent (computed number 0 0 0 0).0 comp_id d h g

  pub heartbeat-written : 58 ≤ length d → send_of (heartbeat number) comp_id d ≡ Ok 58
  heartbeat-written = complete-sent (computed number 0 0 0 0).1 comp_id d h g

  pub heartbeat-for-written : (id : ℕ) → 60 ≤ length d → send_of (heartbeat_for number id) comp_id d ≡ Ok 60
  heartbeat-for-written id = complete-sent (computed number id 0 0 0).2 comp_id d h g

  pub test-request-written : (id : ℕ) → 60 ≤ length d → send_of (test_request number id) comp_id d ≡ Ok 60
  test-request-written id = complete-sent (computed number id 0 0 0).3 comp_id d h g

  pub resend-request-written : (start end : ℕ) → 66 ≤ length d → send_of (resend_request number start end) comp_id d ≡ Ok 66
  resend-request-written start end = complete-sent (computed number 0 start end 0).4 comp_id d h g

  pub gap-fill-written : (new : ℕ) → 63 ≤ length d → send_of (gap_fill number new) comp_id d ≡ Ok 63
  gap-fill-written new = complete-sent (computed number 0 0 0 new).5 comp_id d h g

  pub logon-written : (password : List ℕ) (next : ℕ) → takes Ascii (width_of (sort_of Password)) password ≡ true → 512 ≤ length d
      → logon_of number password next comp_id d ≡ Ok 512
  unfolding logon_of
  logon-written password next t r = rw t (complete-sent (logon-complete number password next t) comp_id d h g r)
