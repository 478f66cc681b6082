-- The writer's answer and the buffer afterwards, by what the checks found and by the lengths; and how a message is laid: the head, the fields
-- behind it, and the checksum over both behind them.
use mathlib.Core.Path.{◌≡◌, refl, sym, ap, ap₂, ◌∙◌}
use Prim.Native.Nat.{ℕ, ◌+◌, ◌-◌, ◌≤◌, ◌<◌}
use native.Mathlib.Omega.{arith}
use mathlib.Core.Bool.{true, false, cond}
use mathlib.Core.List.{List, ◌++◌}
use borrow.Author.Tests.{le-leb, lt-leb, leb-true}
use lib.Dec.{leb}
use lib.ListN.{length, take, drop, length-append, length-drop}
use Rattle.std.specs.Prelude.{Result, Ok, Err}
use Rattle.crc.specs.Crc.{crc32c}
use Rattle.wire.specs.declared.text.Allowed.TheVariants.{Ascii}
use Rattle.wire.specs.Laying.{laid}
use Rattle.wire.specs.Number.{number_bytes}
use Rattle.wire.specs.Text.{takes}
use Rattle.wire.proofs.NumberLaws.{length-number_bytes}
use Rattle.tables.specs.Tables.{row_of}
use Rattle.fields.specs.Plain.{plain_fields}
use Rattle.fields.specs.Words.{ClearFrom}
use Rattle.wire.proofs.TestLaws.{rest_of}
use Rattle.message.specs.declared.refusal.Refusal.{Refusal}
use Rattle.message.specs.declared.frame.Header.{Header}
use Rattle.message.specs.declared.refusal.Refusal.{Refusal}
use Rattle.message.specs.declared.refusal.Refusal.TheVariants.{NoRoom}
use Rattle.message.specs.Vet.{good_comp_id, good_header, vet}
use Rattle.wire.proofs.TestLaws.{passed}
use Rattle.message.proofs.VetLaws.{good-low, GoodMessage, good-vetted}
use Rattle.writer.specs.Plain.{head_bytes, sealed, message_bytes, plain_message}
use Rattle.writer.specs.Write.{write_length, write_vetted, write_of, after_writing, written}
use Rattle.wire.proofs.BufferLaws.{lent_from, laid-there, take-laid, Front, front-on, number-on, front-own, laid-over}
use Rattle.writer.proofs.FieldsLaws.{fields-length}
use Rattle.writer.proofs.HeadLaws.{length-head}

-- a good header
pub record HeaderGood (h : Header) (comp_id : List ℕ) : Type 0 where
  pub number : 1 ≤ h.number
  pub possdup : h.possdup ≤ 1
  pub possresend : h.possresend ≤ 1
  pub text : takes Ascii 12 comp_id ≡ true

no : false ≡ true → ⊥
no e = let z : ◌≡◌ {A = ℕ} 0 1 = cc in omega arith

pub header-good : (h : Header) (comp_id : List ℕ) → good_header h comp_id ≡ true → HeaderGood h comp_id
unfolding good_header good_comp_id
header-good h comp_id e =
    let id = cond (leb 1 (length comp_id)) (takes Ascii 12 comp_id) false in
    let resend = cond (leb h.possresend 1) id false in
    let dup = cond (leb h.possdup 1) resend false in
    let a = passed (leb 1 h.number) dup false true no e in
    let b = passed (leb h.possdup 1) resend false true no a.1 in
    let c = passed (leb h.possresend 1) id false true no b.1 in
    let f = passed (leb 1 (length comp_id)) (takes Ascii 12 comp_id) false true no c.1 in
    record {
      number = leb-true 1 h.number a.0;
      possdup = leb-true h.possdup 1 b.0;
      possresend = leb-true h.possresend 1 c.0;
      text = f.1;
    }

-- the checksum behind the first n - 4 bytes of d: y is the rest of d, which was lent
pub sum_laid : (d y : List ℕ) (n sum : ℕ) → 4 ≤ n → n ≤ length d → sum ≡ crc32c (take (n - 4) d)
    → y ≡ laid (number_bytes 4 sum) (take (length d - (n - 4)) (drop (n - 4) d)) → lent_from (n - 4) d y ≡ laid (sealed (take (n - 4) d)) d
unfolding sealed
sum_laid d y n sum l h e q =
    (number-on (front-own (n - 4) d (omega arith)) 4 sum y (omega arith) q).is
    ∙ ap (λ (k : ℕ). laid (take (n - 4) d ++ number_bytes 4 k) d) e

-- the length of a message
pub length-sealed : (bytes : List ℕ) → length (sealed bytes) ≡ length bytes + 4
unfolding sealed
length-sealed bytes =
    length-append bytes (number_bytes 4 (crc32c bytes)) ∙ ap (λ (k : ℕ). length bytes + k) (length-number_bytes 4 (crc32c bytes))

module _ (h : Header) (comp_id m fields : List ℕ) (u : takes Ascii 12 comp_id ≡ true) (l : length m ≡ 32) where
  pub length_front : (n : ℕ) → length (head_bytes n h comp_id m ++ fields) ≡ 54 + length fields
  length_front n =
      length-append (head_bytes n h comp_id m) fields ∙ ap (λ (k : ℕ). k + length fields) (length-head n h comp_id m u l)

  pub length-message : length (message_bytes h comp_id m fields) ≡ 58 + length fields
  unfolding message_bytes
  length-message =
      omega (arith, length-sealed (head_bytes (58 + length fields) h comp_id m ++ fields), length_front (58 + length fields))

  -- laid in three goes: x is the buffer d after the head, y the rest of it after the fields, z the whole after the checksum
  pub message-laid : (n : ℕ) (d x y z : List ℕ) → n ≡ 58 + length fields → n ≤ length d → x ≡ laid (head_bytes n h comp_id m) d
      → y ≡ laid fields (take (length x - 54) (drop 54 x)) → z ≡ laid (sealed (take (n - 4) (lent_from 54 x y))) (lent_from 54 x y)
      → z ≡ laid (message_bytes h comp_id m fields) d
  unfolding message_bytes sealed
  message-laid n d x y z e r p q s =
      let w = head_bytes n h comp_id m ++ fields in
      let f : Front (head_bytes n h comp_id m) 54 d x = record { size = length-head n h comp_id m u l; is = p } in
      let k : 54 + length fields ≡ n - 4 = omega arith in
      let g = front-on f fields y (n - 4) k (omega arith) q in
      let a : length w ≡ n - 4 = g.size in
      let b : length w ≤ length d = omega arith in
      let t : take (n - 4) (lent_from 54 x y) ≡ w = ap₂ take (sym a) g.is ∙ take-laid w d b in
      let c : length (sealed w) ≤ length d = omega (arith, length-sealed w) in
      s ∙ ap₂ (λ (i j : List ℕ). laid (sealed i) j) t g.is ∙ laid-over w (number_bytes 4 (crc32c w)) d c
      ∙ ap (λ (j : ℕ). laid (sealed (head_bytes j h comp_id m ++ fields)) d) e

-- the checks refuse
module _ (h : Header) (comp_id m body d : List ℕ) where
  pub write-refused : (r : Refusal) (x : Result ℕ Refusal) → x ≡ vet h comp_id m body → x ≡ Err r
      → (Err r ≡ write_of h comp_id m body d) × (d ≡ written h comp_id m body d)
  unfolding write_of write_vetted written after_writing
  write-refused r x v q =
      let e : Err r ≡ write_of h comp_id m body d = sym (ap (write_vetted (length d)) (sym v ∙ q)) in
      (e, ap (λ (y : Result ℕ Refusal). after_writing y (plain_message h comp_id m body) d) e)

  -- or not
  module _ (plain : ℕ) (v : vet h comp_id m body ≡ Ok plain) where
    vet-good : GoodMessage h comp_id m body plain
    vet-good = good-vetted h comp_id m body plain v

    pub vetted-text : takes Ascii 12 comp_id ≡ true
    vetted-text = (header-good h comp_id vet-good.header).text

    pub vetted-low : ClearFrom 64 m
    vetted-low = good-low h.messagetype m body plain vet-good.fields

    pub vetted-length : length (plain_fields (row_of h.messagetype) m body) ≡ plain
    vetted-length = fields-length (row_of h.messagetype) m body 0 plain vet-good.fields.walked

    -- the rest x of a buffer from byte 54 on has room for the fields
    pub vetted-room : (x : List ℕ) → 58 + plain ≤ length x → length (plain_fields (row_of h.messagetype) m body) ≤ length (take (length x - 54) (drop 54 x))
    vetted-room x r = rw (rest_of x 54, length-drop) (omega (arith, vetted-length))

    by_length : write_of h comp_id m body d ≡ write_length (58 + plain) (length d)
    unfolding write_of write_vetted
    by_length = ap (write_vetted (length d)) v

    answered : (a : Result ℕ Refusal) → a ≡ write_length (58 + plain) (length d) → (x : List ℕ) → x ≡ after_writing a (plain_message h comp_id m body) d
        → (a ≡ write_of h comp_id m body d) × (x ≡ written h comp_id m body d)
    unfolding written
    answered a e x q =
        let f : a ≡ write_of h comp_id m body d = e ∙ sym by_length in
        (f, q ∙ ap (λ (y : Result ℕ Refusal). after_writing y (plain_message h comp_id m body) d) f)

    pub write-full : length d < 58 + plain → (Err (NoRoom (58 + plain)) ≡ write_of h comp_id m body d) × (d ≡ written h comp_id m body d)
    unfolding write_length after_writing
    write-full r = answered (Err (NoRoom (58 + plain))) (rw (lt-leb (58 + plain) (length d) r)) d refl

    pub write_done : length m ≡ 32 → 58 + plain ≤ length d → (x : List ℕ) → x ≡ laid (plain_message h comp_id m body) d
        → (Ok (58 + plain) ≡ write_of h comp_id m body d) × (x ≡ written h comp_id m body d)
    unfolding write_length after_writing plain_message
    write_done l r x q =
        let n : length (plain_message h comp_id m body) ≡ 58 + plain =
        length-message h comp_id m (plain_fields (row_of h.messagetype) m body) vetted-text l ∙ ap (λ (k : ℕ). 58 + k) vetted-length in
        answered (Ok (58 + plain)) (rw (le-leb (58 + plain) (length d) r)) x
        (q ∙ laid-there (plain_message h comp_id m body) d (omega arith)
        ∙ ap (λ (k : ℕ). plain_message h comp_id m body ++ drop k d) n)
