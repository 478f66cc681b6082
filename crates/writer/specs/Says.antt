-- What some bytes say as a message (document 01, "What is handed back"): what the reader gives of them.
use Rattle.std.specs.Prelude.{◌≡◌, List, ℕ}
use Rattle.tables.specs.Tables.{row_of}
use Rattle.fields.specs.Value.{value_at, text_at}
use Rattle.message.specs.declared.frame.Header.{Header}
use Rattle.message.specs.Frame.{comp_id_in, map_in, body_in}
use Rattle.message.specs.Read.{Good, read_of}

-- the bytes s begin with a good message of n bytes, which has these header values, this Comp ID and this map, and at every position the value and the
-- text of this body
pub record Says (s : List ℕ) (n : ℕ) (h : Header) (comp_id m body : List ℕ) : Type 0 where
  pub read : read_of s ≡ Good h n
  pub comp-id : comp_id_in s ≡ comp_id
  pub map : map_in s ≡ m
  pub value : (p : ℕ) → value_at (row_of h.messagetype) (map_in s) (body_in n s) p ≡ value_at (row_of h.messagetype) m body p
  pub text : (p : ℕ) → text_at (row_of h.messagetype) (map_in s) (body_in n s) p ≡ text_at (row_of h.messagetype) m body p
