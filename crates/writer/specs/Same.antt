-- What two messages share that say the same (document 01: "the same fields"). The word is ours.
use Rattle.std.specs.Prelude.{ℕ, ◌≡◌, List}
use Rattle.tables.specs.Tables.{row_of}
use Rattle.fields.specs.Value.{value_at, text_at}
use Rattle.message.specs.declared.frame.Header.{Header}
use Rattle.message.specs.Frame.{comp_id_in, map_in, body_in}

-- the messages at the fronts of s and s', with header values h and h' and of n and n' bytes, have equal header values, Comp IDs and maps, and at every
-- position an equal value and equal characters
pub record SameFields (s s' : List ℕ) (h h' : Header) (n n' : ℕ) : Type 0 where
  pub header : h ≡ h'
  pub comp-id : comp_id_in s ≡ comp_id_in s'
  pub map : map_in s ≡ map_in s'
  pub value : (p : ℕ) → value_at (row_of h.messagetype) (map_in s) (body_in n s) p ≡ value_at (row_of h'.messagetype) (map_in s') (body_in n' s') p
  pub text : (p : ℕ) → text_at (row_of h.messagetype) (map_in s) (body_in n s) p ≡ text_at (row_of h'.messagetype) (map_in s') (body_in n' s') p
