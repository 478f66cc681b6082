-- How long a message is: no longer than its type's longest, which a message of the type in plain form has; and a buffer of the longest of
-- all has room for whatever is written.
use mathlib.Core.Path.{◌≡◌, refl, sym, ap, ◌∙◌}
use mathlib.Core.Bool.{true}
use mathlib.Core.List.{List, [], ◌∷◌, ◌++◌, append-nil}
use Prim.Native.Nat.{ℕ, ◌+◌, ◌≤◌}
use native.Mathlib.Omega.{arith}
use borrow.Author.Tests.{le-leb}
use lib.ListN.{length}
use Rattle.std.specs.Prelude.{Ok}
use Rattle.crc.specs.Crc.{crc32c}
use Rattle.tables.specs.Dictionary.{yes}
use Rattle.tables.specs.Longest.{frame_bytes, most_from, longest_length, longest_written}
use Rattle.tables.specs.Tables.{is_type, row_of}
use Rattle.tables.proofs.LongestLaws.{longest-computed}
use Rattle.wire.specs.Map.{map_positions}
use Rattle.wire.specs.Number.{Bytes, number_bytes}
use Rattle.wire.specs.Text.{is_character, all_characters, takes, fixed_bytes}
use Rattle.wire.proofs.NumberLaws.{number_bytes-bytes}
use Rattle.fields.specs.Plain.{plain_fields}
use Rattle.fields.proofs.BytesLaws.{bytes-append, bytes-replicate, bytes-fixed, plain-bytes}
use Rattle.fields.proofs.FullLaws.{full_map, full_body, full-map-size, full-map-bytes, full-body-bytes}
use Rattle.message.specs.declared.frame.Header.{Header}
use Rattle.message.specs.Frame.{stx, comp_id_bytes, sum_bytes, comp_id_in, map_in, body_in}
use Rattle.message.specs.Read.{Good, read_of}
use Rattle.message.specs.Vet.{good_comp_id, good_header, vet}
use Rattle.message.proofs.LongestLaws.{body-longest, never-longer, never-above, full-good}
use Rattle.writer.specs.Longest.{Attained}
use Rattle.writer.specs.Plain.{head_bytes, sealed, message_bytes, plain_message, plain_of}
use Rattle.writer.specs.Write.{write_length, write_vetted, write_of}
use Rattle.writer.proofs.GoodLaws.{wrote-good, plain_length, read-vet, body-length, plain-no-longer}
use Rattle.writer.proofs.RoundTrip.{plain-again}
use Rattle.writer.proofs.SaysLaws.{plain-says}

module _ (s : List ℕ) (h : Header) (n : ℕ) (e : read_of s ≡ Good h n) where
  -- no good message is longer, in plain form or not
  pub read-longest : n ≤ longest_length h.messagetype
  read-longest =
      omega (arith, body-length s h n e, body-longest h (comp_id_in s) (map_in s) (body_in n s) (plain_length s h n e) (read-vet s h n e))

  pub plain-longest : length (plain_of s) ≤ longest_length h.messagetype
  plain-longest = omega (arith, plain-no-longer s h n e, read-longest)

-- nor is what the writer writes
pub wrote-longest : (h : Header) (comp_id m body d : List ℕ) (n : ℕ) → write_of h comp_id m body d ≡ Ok n → n ≤ longest_length h.messagetype
wrote-longest h comp_id m body d n w =
    let g = wrote-good h comp_id m body d n w in
    omega (arith, g.size, never-longer h comp_id m body g.plain g.good)

-- with room for the longest of all, whatever passes the checks 5 to 10 is written
pub room-enough : (h : Header) (comp_id m body d : List ℕ) (plain : ℕ) → vet h comp_id m body ≡ Ok plain → longest_written ≤ length d
    → write_of h comp_id m body d ≡ Ok (frame_bytes + plain)
unfolding write_of write_vetted write_length
room-enough h comp_id m body d plain v r =
    let l : frame_bytes + plain ≤ length d = omega (arith, never-above h comp_id m body plain v) in
    rw (v, le-leb (frame_bytes + plain) (length d) l)

-- a message made of bytes is bytes
message-bytes : (h : Header) (comp_id m fields : List ℕ) → Bytes comp_id → Bytes m → Bytes fields → Bytes (message_bytes h comp_id m fields)
unfolding message_bytes sealed head_bytes
message-bytes h comp_id m fields c p q =
    let n = frame_bytes + length fields in
    let front = head_bytes n h comp_id m ++ fields in
    bytes-append front (number_bytes sum_bytes (crc32c front))
    (bytes-append (head_bytes n h comp_id m) fields
    (bytes-append (number_bytes 1 stx) _ (number_bytes-bytes 1 stx)
    (bytes-append (number_bytes 2 n) _ (number_bytes-bytes 2 n)
    (bytes-append (number_bytes 1 h.messagetype) _ (number_bytes-bytes 1 h.messagetype)
    (bytes-append (number_bytes 4 h.number) _ (number_bytes-bytes 4 h.number)
    (bytes-append (number_bytes 1 h.possdup) _ (number_bytes-bytes 1 h.possdup)
    (bytes-append (number_bytes 1 h.possresend) _ (number_bytes-bytes 1 h.possresend)
    (bytes-append (fixed_bytes comp_id_bytes comp_id) m (bytes-fixed comp_id_bytes comp_id c) p))))))) q)
    (number_bytes-bytes sum_bytes (crc32c front))

-- the longest message of a type, with a header and a Comp ID that pass
abbrev head : ℕ → Header
head messagetype = record { messagetype = messagetype; number = 1; possdup = 0; possresend = 0 }

abbrev id : List ℕ
id = yes ∷ []

head-good : (messagetype : ℕ) → good_header (head messagetype) id ≡ true
unfolding good_header good_comp_id takes all_characters is_character
head-good messagetype = refl

-- its length is reached
pub longest-reached : (messagetype : ℕ) → is_type messagetype ≡ true → Attained messagetype (longest_length messagetype)
unfolding plain_message
longest-reached messagetype k =
    let h = head messagetype in
    let rows = row_of messagetype in
    let v = full-good h id k (head-good messagetype) in
    let most = most_from rows map_positions 0 in
    let s = plain_message h id (full_map rows) (full_body rows) in
    let x = plain-says h id (full_map rows) (full_body rows) most v (full-map-size rows) [] (omega arith) in
    let again = plain-again h id (full_map rows) (full_body rows) most v (full-map-size rows) (omega arith) [] in
    record {
      bytes = s;
      real = message-bytes h id (full_map rows) (plain_fields rows (full_map rows) (full_body rows))
          (bytes-replicate 1 yes (omega arith)) (full-map-bytes rows) (plain-bytes rows (full_map rows) (full_body rows) (full-body-bytes rows));
      header = h;
      of-type = refl;
      read = ap read_of (sym (append-nil s)) ∙ x.read ∙ ap (Good h) (longest-computed messagetype k);
      plain = ap plain_of (sym (append-nil s)) ∙ again;
    }
