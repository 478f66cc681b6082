-- `spelt::put_shown` meets its contract: each way lays what the character is shown as.
use mathlib.Core.Path.{sym, ap₂, ◌∙◌}
use mathlib.Core.List.{[], ◌∷◌}
use Prim.Native.Nat.{ℕ}
use Rattle.spelt.specs.Shown.{two_bytes, escaped}
use Rattle.spelt.proofs.ShownLaws.{shown-laid, shown-backslash, shown-itself, shown-escaped, shown-latin}
use Rattle.spelt.proofs.put_shown.Goals as goal

pub returns-then-b-eq-BACKSLASH : goal.returns-then-b-eq-BACKSLASH
returns-then-b-eq-BACKSLASH c =
    let a = c.args in
    shown-laid _ a.b a.d.now _ _ (shown-backslash a.b c.if-b-eq-BACKSLASH.true) c.put_bytes.ensures

pub returns-then-is_character : goal.returns-then-is_character
returns-then-is_character c =
    let a = c.args in
    shown-laid _ a.b a.d.now _ _ (shown-itself a.b c.if-b-eq-BACKSLASH.false (sym c.is_character.ensures ∙ c.if-is_character.true)) c.put_bytes-then-is_character.ensures

pub returns-then-b-lt-FIRST_LATIN : goal.returns-then-b-lt-FIRST_LATIN
unfolding escaped
returns-then-b-lt-FIRST_LATIN c =
    let a = c.args in
    shown-laid _ a.b a.d.now _ _ (shown-escaped a.b c.if-b-eq-BACKSLASH.false (sym c.is_character.ensures ∙ c.if-is_character.false) c.if-b-lt-FIRST_LATIN.true
    ∙ ap₂ (λ (x y : ℕ). 92 ∷ 120 ∷ x ∷ y ∷ []) (sym c.hex_digit.ensures) (sym c.hex_digit-then-b-lt-FIRST_LATIN.ensures)) c.put_bytes-then-b-lt-FIRST_LATIN.ensures

pub returns : goal.returns
unfolding two_bytes
returns c =
    let a = c.args in
    shown-laid _ a.b a.d.now _ _ (shown-latin a.b c.if-b-eq-BACKSLASH.false (sym c.is_character.ensures ∙ c.if-is_character.false) c.if-b-lt-FIRST_LATIN.false) c.put_bytes-2.ensures
