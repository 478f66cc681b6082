-- The sort of content that each message type has; a New is never past 32 bits.
use Rattle.std.specs.Prelude.{Result, Ok, Err}
use Prim.Native.Nat.{ℕ, suc, ◌≤◌, ◌<◌}
use mathlib.Core.Path.{◌≡◌, refl, sym, ap, ◌∙◌}
use mathlib.Core.Bool.{true, false, cond, true≢false}
use mathlib.Core.List.{List}
use native.Mathlib.Omega.{arith}
use lib.Dec.{eqb, leb}
use borrow.Author.Tests.{leb-true, eqb-true, eqb-false, ne_eqb}
use Rattle.tables.specs.declared.dictionary.Field.TheVariants.{GapFill as GapFillField, NewSequenceNumber}
use Rattle.fields.specs.declared.value.Value.{Value}
use Rattle.fields.specs.declared.value.Value.TheVariants as value
use Rattle.fields.specs.declared.value.NoValue.{NoValue}
use Rattle.tables.specs.Tables.{row_of}
use Rattle.fields.specs.Value.{value_of}
use Rattle.wire.proofs.TestLaws.{either}
use Rattle.session.specs.declared.arrival.Content.{Content}
use Rattle.session.specs.declared.arrival.Content.TheVariants.{Reset, GapFill, Business}
use Rattle.session.specs.Arrival.{up_to, is_yes, sequence_reset, content_of}
use Rattle.session.specs.State.{last}
use Rattle.session.proofs.Effect.{is_session}

-- 4 is a gap fill or a reset, with a New of 32 bits; 9 and above is business; the rest is the session's
pub data Sorted (messagetype : ℕ) : Content → Type 0 where
  session : {c : Content} → is_session c ≡ true → messagetype ≤ 8 → (messagetype ≡ 4 → ⊥) → Sorted messagetype c
  fill : {new : ℕ} → messagetype ≡ 4 → new ≤ last → Sorted messagetype (GapFill new)
  reset : {new : ℕ} → messagetype ≡ 4 → new ≤ last → Sorted messagetype (Reset new)
  business : 9 ≤ messagetype → Sorted messagetype Business

pub up-to-within : (most : ℕ) (v : Result Value NoValue) → up_to most v ≤ most
unfolding up_to
up-to-within most (Ok (value.Number n)) = either (λ (x : ℕ). x ≤ most) (leb n most) (λ t. leb-true n most t) (λ t. omega arith)
up-to-within most (Ok (value.Decimal z)) = omega arith
up-to-within most (Ok (value.Text n)) = omega arith
up-to-within most (Err why) = omega arith

-- one test of a type, all lower ones being passed
tested : (messagetype k : ℕ) {x y : Content} → k ≤ messagetype → (messagetype ≡ k → Sorted messagetype x) → (suc k ≤ messagetype → Sorted messagetype y) → Sorted messagetype (cond (eqb messagetype k) x y)
tested messagetype k l f g = either (Sorted messagetype) (eqb messagetype k) (λ t. f (eqb-true messagetype k t)) (λ t. g (omega (arith, eqb-false messagetype k t)))

one_type : {messagetype : ℕ} {c : Content} (k : ℕ) → is_session c ≡ true → k ≤ 8 → (k ≡ 4 → ⊥) → messagetype ≡ k → Sorted messagetype c
one_type k q l n e = session q (omega arith) (λ f. n (omega arith))

new-within : (m body : List ℕ) → up_to 4294967295 (value_of (row_of 4) m body NewSequenceNumber) ≤ last
new-within m body = up-to-within 4294967295 (value_of (row_of 4) m body NewSequenceNumber)

pub sorted : (messagetype : ℕ) (m body : List ℕ) → Sorted messagetype (content_of messagetype m body)
unfolding content_of sequence_reset
sorted messagetype m body =
    tested messagetype 0 (omega arith) (one_type 0 refl (omega arith) (λ e. omega arith))
    (λ l. tested messagetype 1 l (one_type 1 refl (omega arith) (λ e. omega arith))
    (λ l. tested messagetype 2 l (one_type 2 refl (omega arith) (λ e. omega arith))
    (λ l. tested messagetype 3 l (one_type 3 refl (omega arith) (λ e. omega arith))
    (λ l. tested messagetype 4 l (λ e. either (Sorted messagetype) (is_yes (value_of (row_of 4) m body GapFillField)) (λ u. fill e (new-within m body)) (λ u. reset e (new-within m body)))
    (λ l. tested messagetype 5 l (one_type 5 refl (omega arith) (λ e. omega arith))
    (λ l. tested messagetype 6 l (one_type 6 refl (omega arith) (λ e. omega arith))
    (λ l. tested messagetype 7 l (one_type 7 refl (omega arith) (λ e. omega arith))
    (λ l. tested messagetype 8 l (one_type 8 refl (omega arith) (λ e. omega arith)) business))))))))

pub above-eight : (messagetype : ℕ) (m body : List ℕ) → 8 < messagetype → Business ≡ content_of messagetype m body
unfolding content_of
above-eight messagetype m body h =
    simp (not-one 0 (omega arith), not-one 1 (omega arith), not-one 2 (omega arith), not-one 3 (omega arith), not-one 4 (omega arith), not-one 5 (omega arith), not-one 6 (omega arith), not-one 7 (omega arith), not-one 8 (omega arith))
  where
    not-one : (n : ℕ) → n < 9 → eqb messagetype n ≡ false
    not-one n l = ne_eqb messagetype n (λ e. omega arith)

-- the same the other way: what a content says of the type
pub business-type : {messagetype : ℕ} {c : Content} → Sorted messagetype c → c ≡ Business → 9 ≤ messagetype
business-type (session q l n) e = absurd (true≢false (sym q ∙ ap is_session e))
business-type (fill k l) e = let z : ◌≡◌ {A = ℕ} 0 1 = cc in absurd (omega arith)
business-type (reset k l) e = let z : ◌≡◌ {A = ℕ} 0 1 = cc in absurd (omega arith)
business-type (business l) e = l

pub session-type : {messagetype : ℕ} {c : Content} → Sorted messagetype c → is_session c ≡ true → messagetype ≤ 8
session-type (session q l n) e = l
session-type (fill k l) e = omega arith
session-type (reset k l) e = omega arith
session-type (business l) e = absurd (true≢false (sym e))

pub record Leads (messagetype new : ℕ) : Type 0 where
  pub four : messagetype ≡ 4
  pub within : new ≤ last

pub fill-type : {messagetype : ℕ} {c : Content} {new : ℕ} → Sorted messagetype c → c ≡ GapFill new → Leads messagetype new
fill-type (session q l n) e = absurd (true≢false (sym q ∙ ap is_session e))
fill-type {new = new} (fill {new = n} k l) e = let z : n ≡ new = cc in record { four = k; within = omega arith }
fill-type (reset k l) e = let z : ◌≡◌ {A = ℕ} 0 1 = cc in absurd (omega arith)
fill-type (business l) e = let z : ◌≡◌ {A = ℕ} 0 1 = cc in absurd (omega arith)

pub reset-type : {messagetype : ℕ} {c : Content} {new : ℕ} → Sorted messagetype c → c ≡ Reset new → Leads messagetype new
reset-type (session q l n) e = absurd (true≢false (sym q ∙ ap is_session e))
reset-type (fill k l) e = let z : ◌≡◌ {A = ℕ} 0 1 = cc in absurd (omega arith)
reset-type {new = new} (reset {new = n} k l) e = let z : n ≡ new = cc in record { four = k; within = omega arith }
reset-type (business l) e = let z : ◌≡◌ {A = ℕ} 0 1 = cc in absurd (omega arith)
