-- Demand 2: messages with one plain form say the same, the converse of `same-fields-same-plain`.
use mathlib.Core.Path.{◌≡◌, sym, ap₂, subst, ◌∙◌}
use Prim.Native.Nat.{ℕ}
use mathlib.Core.List.{List, [], ◌++◌}
use lib.ListN.{length}
use Rattle.wire.specs.Number.{Bytes}
use Rattle.fields.specs.Value.{value_at, text_at}
use Rattle.tables.specs.Tables.{row_of}
use Rattle.message.specs.declared.frame.Header.{Header}
use Rattle.message.proofs.ReadLaws.{good-same}
use Rattle.message.specs.Frame.{comp_id_in, map_in, body_in}
use Rattle.message.specs.Read.{Good, read_of}
use Rattle.writer.specs.Plain.{plain_of}
use Rattle.writer.specs.Same.{SameFields}
use Rattle.writer.proofs.GoodLaws.{plain-form-says}
use Rattle.writer.specs.Says.{Says}

-- the same bytes t say one message only
says-one : (t : List ℕ) (k k' : ℕ) (s s' : List ℕ) (h h' : Header) (n n' : ℕ) → Says t k h (comp_id_in s) (map_in s) (body_in n s)
    → Says t k' h' (comp_id_in s') (map_in s') (body_in n' s') → SameFields s s' h h' n n'
says-one t k k' s s' h h' n n' x x' =
    let r : read_of t ≡ Good h k = x.read in
    let r' : read_of t ≡ Good h' k' = x'.read in
    let same = good-same h h' k k' (sym r ∙ r') in
    let e = same.0 in
    let f = same.1 in
    record {
      header = e;
      comp-id = sym x.comp-id ∙ x'.comp-id;
      map = sym x.map ∙ x'.map;
      value = λ p. sym (x.value p) ∙ ap₂ (λ (a : Header) (j : ℕ). value_at (row_of a.messagetype) (map_in t) (body_in j t) p) e f ∙ x'.value p;
      text = λ p. sym (x.text p) ∙ ap₂ (λ (a : Header) (j : ℕ). text_at (row_of a.messagetype) (map_in t) (body_in j t) p) e f ∙ x'.text p;
    }

-- two good messages whose plain forms are equal bytes
pub same-plain-same-fields : (s s' : List ℕ) (h h' : Header) (n n' : ℕ) → read_of s ≡ Good h n → read_of s' ≡ Good h' n' → Bytes s → Bytes s'
    → plain_of s ≡ plain_of s' → SameFields s s' h h' n n'
same-plain-same-fields s s' h h' n n' e e' bytes bytes' q =
    let k' = length (plain_of s') in
    let x' = subst (λ (t : List ℕ). Says (t ++ []) k' h' (comp_id_in s') (map_in s') (body_in n' s')) (sym q) (plain-form-says s' h' n' e' bytes' []) in
    says-one (plain_of s ++ []) (length (plain_of s)) k' s s' h h' n n' (plain-form-says s h n e bytes []) x'
