-- The session beside a refused day is none that a day has: every call refuses it with 90. Assumes nothing.
use Prim.Native.Nat.{ℕ}
use mathlib.Core.Path.{◌≡◌, refl}
use mathlib.Core.Bool.{false}
use mathlib.Core.List.{List}
use lib.Dec.{eqb}
use Rattle.std.specs.Prelude.{Option, Some}
use Rattle.wire.specs.Text.{is_character, all_characters, one_past, null, ended, fixed_text, characters_of, fixed_part}
use Rattle.wire.specs.Search.{first_from}
use Rattle.wire.proofs.TestLaws.{either}
use Rattle.message.specs.Vet.{good_comp_id}
use Rattle.message.specs.declared.refusal.Refusal.TheVariants.{BadHeader}
use Rattle.session.specs.declared.day.Made.{Made}
use Rattle.session.specs.declared.state.Fault.{Fault}
use Rattle.session.specs.declared.state.Fault.TheVariants as fault
use Rattle.session.specs.declared.state.Halt.TheVariants as halt
use Rattle.session.specs.Day.{not_made, day, fresh, saved}
use Rattle.session.specs.Held.{is_plain_comp_id, is_held}
use Rattle.session.specs.State.{code_number}
use Rattle.capi.specs.Sessions.{is_session, shown_made, fresh_c, saved_c}

-- the empty Comp ID beside a refusal
not_made-none : (k : Option Fault) → is_session (shown_made (not_made k)).session ≡ false
unfolding is_session is_held shown_made not_made is_plain_comp_id good_comp_id fixed_part fixed_text characters_of ended null one_past all_characters is_character first_from
not_made-none k = refl

refused-day : (comp_id : List ℕ) (e o : ℕ) → ((shown_made (day comp_id e o)).refusal ≡ 0 → ⊥) → is_session (shown_made (day comp_id e o)).session ≡ false
unfolding day shown_made code_number
refused-day comp_id e o =
    either (λ (d : Made). ((shown_made d).refusal ≡ 0 → ⊥) → is_session (shown_made d).session ≡ false) (good_comp_id comp_id)
    (λ t h. absurd (h refl)) (λ t h. not_made-none (Some (fault.Refused BadHeader)))

pub refused-fresh-no-session : (comp_id : List ℕ) → ((fresh_c comp_id).refusal ≡ 0 → ⊥) → is_session (fresh_c comp_id).session ≡ false
unfolding fresh_c fresh
refused-fresh-no-session comp_id = refused-day comp_id 1 1

pub refused-saved-no-session : (comp_id : List ℕ) (e o : ℕ) → ((saved_c comp_id e o).refusal ≡ 0 → ⊥) → is_session (saved_c comp_id e o).session ≡ false
unfolding saved_c saved
refused-saved-no-session comp_id e o =
    let P : Made → Type 0 = λ d. ((shown_made d).refusal ≡ 0 → ⊥) → is_session (shown_made d).session ≡ false in
    either P (eqb e 0) (λ t h. not_made-none (Some (fault.Halted halt.BadSaved))) (λ t. either P (eqb o 0) (λ u h. not_made-none (Some (fault.Halted halt.BadSaved))) (λ u. refused-day comp_id e o))
