-- The Length at the front of bytes: a good message has it, it is not passed over where 1, 2 or 3 is met, and it is never above 4,096.
use Prim.Native.Nat.{ℕ, ◌≤◌, ◌<◌}
use mathlib.Core.Path.{◌≡◌, refl, ap}
use mathlib.Core.Bool.{Bool, true, false}
use mathlib.Core.List.{List}
use native.Mathlib.Omega.{arith}
use lib.Dec.{eqb, leb}
use lib.ListN.{length, get_or}
use borrow.Author.Tests.{leb-true, leb-false, eqb-true, eqb-false, ne_eqb}
use Rattle.tables.specs.Tables.{is_type, row_of}
use Rattle.fields.specs.declared.check.Reason.{Reason}
use Rattle.fields.specs.declared.check.Reason.TheVariants.{Field}
use Rattle.std.specs.Prelude.{Option, Some, None, Result, Ok, Err}
use Rattle.fields.specs.declared.walk.Walked.{Walked}
use Rattle.fields.specs.declared.walk.BadAt.{BadAt}
use Rattle.fields.specs.Sets.{lowest_unknown, lowest_missing}
use Rattle.fields.specs.Walk.{walk_of}
use Rattle.wire.proofs.TestLaws.{either}
use Rattle.message.specs.declared.frame.Header.{Header}
use Rattle.message.specs.declared.refusal.Refusal.{Refusal}
use Rattle.message.specs.declared.refusal.Refusal.TheVariants.{UnknownPosition, MissingField}
use Rattle.message.specs.Frame.{header_in, comp_id_in, map_in, body_in, length_in, framed, length_by, front_length}
use Rattle.message.specs.Read.{Good, read_vetted, read_whole, read_framed, read_of}
use Rattle.message.specs.Refusal.{number_of}
use Rattle.message.specs.Vet.{good_header, refusal_of, vet_walk, vet_place, vet_sets, vet_fields, vet}
use Rattle.message.proofs.ReadLaws.{good-same}
use Rattle.message.proofs.FrameLaws.{framed-by, front-short, front-other, front_by}

module _ (s : List ℕ) (h : Header) (n : ℕ) where
  by-vet : (k : ℕ) (v : Result ℕ Refusal) → read_vetted (header_in s) k v ≡ Good h n → k ≡ n
  unfolding read_vetted
  by-vet k (Ok plain) e = (good-same (header_in s) h k n e).1
  by-vet k (Err r) e = let z : ◌≡◌ {A = ℕ} 0 1 = cc in absurd (omega arith)

  by-frame : (f : Result ℕ Refusal) → read_framed s f ≡ Good h n → length_by f ≡ n
  unfolding read_framed read_whole length_by
  by-frame (Ok k) e = by-vet k (vet (header_in s) (comp_id_in s) (map_in s) (body_in k s)) e
  by-frame (Err r) e = let z : ◌≡◌ {A = ℕ} 0 1 = cc in absurd (omega arith)

  -- a good message's length is the Length at the front
  pub front-good : read_of s ≡ Good h n → front_length s ≡ n
  unfolding read_of front_length
  front-good e = by-frame (framed s) e

-- the checks 5 to 10 refuse with 5 or more
data Late : Result ℕ Refusal → Type 0 where
  good : {n : ℕ} → Late (Ok n)
  refused : {r : Refusal} → 5 ≤ number_of r → Late (Err r)

late-field : (why : Reason) (p : ℕ) → 5 ≤ number_of (refusal_of why p)
unfolding refusal_of number_of
late-field Field p = omega arith

late-walk : (w : Result Walked BadAt) → Late (vet_walk w)
unfolding vet_walk number_of
late-walk (Ok w) = either Late (eqb w.left 0) (λ e. good) (λ e. refused (omega arith))
late-walk (Err bad) = refused (late-field bad.reason bad.position)

late-place : (r : ℕ → Refusal) (p : Option ℕ) {v : Result ℕ Refusal} → ((k : ℕ) → 5 ≤ number_of (r k)) → Late v → Late (vet_place r p v)
unfolding vet_place
late-place r (Some p) h l = refused {r = r p} (h p)
late-place r None h l = l

late-sets : (u m : Option ℕ) {v : Result ℕ Refusal} → Late v → Late (vet_sets u m v)
unfolding vet_sets number_of
late-sets u m l = late-place UnknownPosition u (λ k. omega arith) (late-place MissingField m (λ k. omega arith) l)

late : (h : Header) (comp_id m body : List ℕ) → Late (vet h comp_id m body)
unfolding vet vet_fields number_of
late h comp_id m body =
    either Late (is_type h.messagetype)
    (λ a. either Late (good_header h comp_id)
    (λ b. late-sets (lowest_unknown (row_of h.messagetype) m) (lowest_missing (row_of h.messagetype) m) (late-walk (walk_of (row_of h.messagetype) m body)))
    (λ b. refused (omega arith)))
    (λ a. refused (omega arith))

-- what is refused with 1, 2 or 3 has no Length that is passed over
module _ (s : List ℕ) (r : Refusal) (l : number_of r < 4) where
  early-vet : (k : ℕ) (v : Result ℕ Refusal) → Late v → read_vetted (header_in s) k v ≡ Err r → ⊥
  unfolding read_vetted
  early-vet k (Ok n) good e = let z : ◌≡◌ {A = ℕ} 0 1 = cc in omega arith
  early-vet k (Err q) (refused m) e = let z : q ≡ r = cc in omega (arith, ap number_of z)

  early-frame : (f : Result ℕ Refusal) → read_framed s f ≡ Err r → length_by f ≡ 0
  unfolding read_framed read_whole length_by
  early-frame (Ok k) e =
      absurd (early-vet k (vet (header_in s) (comp_id_in s) (map_in s) (body_in k s)) (late (header_in s) (comp_id_in s) (map_in s) (body_in k s)) e)
  early-frame (Err q) e = let z : q ≡ r = cc in rw (ne_eqb (number_of q) 4 (omega (arith, ap number_of z)))

  pub front-refused : read_of s ≡ Err r → front_length s ≡ 0
  unfolding read_of front_length
  front-refused e = early-frame (framed s) e

-- no Length above 4,096 is passed over
pub front-most : (s : List ℕ) → front_length s ≤ 4096
front-most s = go (leb 3 (length s)) (eqb (get_or s 0 0) 2) refl refl
  where
    go : (a b : Bool) → leb 3 (length s) ≡ a → eqb (get_or s 0 0) 2 ≡ b → front_length s ≤ 4096
    go false b e f = omega (arith, front-short s (omega (arith, leb-false 3 (length s) e)))
    go true false e f = omega (arith, front-other s (leb-true 3 (length s) e) (eqb-false (get_or s 0 0) 2 f))
    go true true e f =
        let n = length_in s in
        let z = front_by s n (framed-by s (leb-true 3 (length s) e) (eqb-true (get_or s 0 0) 2 f)) in
        rw z
        (either (λ (k : ℕ). k ≤ 4096) (leb 58 n)
        (λ i. either (λ (k : ℕ). k ≤ 4096) (leb n 4096)
        (λ j. either (λ (k : ℕ). k ≤ 4096) (leb n (length s)) (λ k. leb-true n 4096 j) (λ k. omega arith))
        (λ j. omega arith))
        (λ i. omega arith))
