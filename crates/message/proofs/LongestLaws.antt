-- No message that the checks 5 to 10 let pass is longer than its type's longest, nor is its plain form; and one of each type is as long.
use mathlib.Core.Path.{◌≡◌}
use mathlib.Core.Bool.{true}
use mathlib.Core.List.{List}
use Prim.Native.Nat.{ℕ, ◌+◌, ◌≤◌}
use native.Mathlib.Omega.{arith}
use lib.ListN.{length}
use Rattle.std.specs.Prelude.{Ok}
use Rattle.tables.specs.Longest.{frame_bytes, most_from, longest_length, longest_written}
use Rattle.tables.specs.Tables.{is_type, row_of}
use Rattle.tables.proofs.LongestLaws.{longest-computed, longest-of-all, longest-fits}
use Rattle.wire.specs.Map.{map_positions}
use Rattle.wire.specs.Text.{longest}
use Rattle.fields.proofs.FullLaws.{full_map, full_body, full-walk, full-unknown, full-missing}
use Rattle.fields.proofs.MostLaws.{fields-most, fields-shorter}
use Rattle.message.specs.declared.frame.Header.{Header}
use Rattle.message.specs.Vet.{good_header, vet_walk, vet_place, vet_sets, vet_fields, vet}
use Rattle.message.proofs.VetLaws.{GoodMessage, good-vetted}

module _ (h : Header) (comp_id m body : List ℕ) (plain : ℕ) (v : vet h comp_id m body ≡ Ok plain) where
  good : GoodMessage h comp_id m body plain
  good = good-vetted h comp_id m body plain v

  pub body-longest : frame_bytes + length body ≤ longest_length h.messagetype
  body-longest =
      let l = fields-most (row_of h.messagetype) 0 plain m body good.fields.walked in
      omega (arith, longest-computed h.messagetype good.messagetype)

  pub never-longer : frame_bytes + plain ≤ longest_length h.messagetype
  never-longer = omega (arith, body-longest, fields-shorter (row_of h.messagetype) 0 plain m body good.fields.walked)

  pub never-above : frame_bytes + plain ≤ longest_written
  never-above = omega (arith, never-longer, longest-of-all h.messagetype good.messagetype)

  -- so that it has a Length
  pub never-long : frame_bytes + plain ≤ longest
  never-long = omega (arith, never-above, longest-fits)

-- the message with every known position of its type, and each text full
module _ (h : Header) (comp_id : List ℕ) (k : is_type h.messagetype ≡ true) (g : good_header h comp_id ≡ true) where
  pub full-good : vet h comp_id (full_map (row_of h.messagetype)) (full_body (row_of h.messagetype)) ≡ Ok (most_from (row_of h.messagetype) map_positions 0)
  unfolding vet vet_fields vet_sets vet_place vet_walk
  full-good =
      let rows = row_of h.messagetype in
      rw (k, g, full-unknown rows, full-missing rows, full-walk rows)
