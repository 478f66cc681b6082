-- Laws of a Comp ID in its twelve bytes: zeros as they are lent; and a day that is made has its Comp ID in plain form.
use mathlib.Core.Path.{◌≡◌, refl, sym, ap, ◌∙◌}
use mathlib.Core.Bool.{true}
use mathlib.Core.List.{List, ◌++◌}
use Prim.Native.Nat.{ℕ, zero, suc, ◌-◌, ◌≤◌}
use native.Mathlib.Nat.{le_of_eq}
use lib.Dec.{leb}
use lib.ListN.{length, take, drop, replicate, length-drop, drop_of_length-le}
use lib.Seq.{drop-append_seam, take_all}
use Rattle.wire.specs.declared.text.Allowed.TheVariants.{Ascii}
use Rattle.wire.specs.Text.{fixed_part, fixed_bytes}
use Rattle.message.specs.Vet.{good_comp_id}
use Rattle.message.proofs.SeenLaws.{seen-part}
use Rattle.session.specs.Day.{day}
use Rattle.session.specs.Held.{all_zero, is_plain_comp_id}
use Rattle.session.proofs.ArrivalLaws.{day-ours}

-- past the end there is none
pub zero_ended : (s : List ℕ) (i : ℕ) → length s ≤ i → all_zero (drop i s) ≡ true
unfolding all_zero
zero_ended s i l = ap all_zero (drop_of_length-le s l)

-- the bytes from i on, as they are lent
pub zero_rest : (s : List ℕ) (i : ℕ) → all_zero (take (length s - i) (drop i s)) ≡ all_zero (drop i s)
zero_rest s i = ap all_zero (take_all (length s - i) (drop i s) (le_of_eq (length-drop i s)))

zeros : (k : ℕ) → all_zero (replicate k 0) ≡ true
unfolding all_zero
zeros zero = refl
zeros (suc k) = zeros k

-- the plain form of a good Comp ID passes
pub day-plain : (comp_id : List ℕ) → good_comp_id comp_id ≡ true → (e o : ℕ) → is_plain_comp_id (day comp_id e o).session.ours ≡ true
unfolding is_plain_comp_id day fixed_bytes
day-plain comp_id good e o =
    let z : all_zero (drop (length comp_id) (comp_id ++ replicate (12 - length comp_id) 0)) ≡ true = ap all_zero (drop-append_seam comp_id (replicate (12 - length comp_id) 0)) ∙ zeros (12 - length comp_id) in
    rw (day-ours comp_id good e o, good) z

-- a text that was read is good where it is not empty
pub seen_as : (s t : List ℕ) → t ≡ fixed_part Ascii 12 s → good_comp_id t ≡ leb 1 (length t)
seen_as s t e = ap good_comp_id e ∙ seen-part s ∙ ap (λ (x : List ℕ). leb 1 (length x)) (sym e)
