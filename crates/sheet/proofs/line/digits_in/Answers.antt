use mathlib.Core.Path.{◌≡◌, sym, ◌∙◌, subst}
use Prim.Native.Nat.{ℕ, ◌+◌, ◌<◌}
use native.Mathlib.Omega.{arith}
use mathlib.Core.Bool.{true}
use lib.ListN.{length, get_or}
use Rattle.sheet.specs.Line.{is_digit}
use Rattle.sheet.proofs.LineLaws.{Reading, reading-more, reading-ends, digit-range}
use Rattle.sheet.proofs.line.digits_in.Goals as goal

pub returns-then-not-is_digit : goal.returns-then-not-is_digit
returns-then-not-is_digit c =
    let s = c.args.s.now in
    reading-ends s c.loop-i.value c.loop-i.i c.loop-i.invariant (λ _. sym c.is_digit.ensures ∙ c.if-not-is_digit.true)

pub with_digit-value-requires : goal.with_digit-value-requires
with_digit-value-requires c =
    let b = get_or c.args.s.now c.loop-i.i 0 in
    let r = digit-range b (sym c.is_digit.ensures ∙ c.if-not-is_digit.false) in
    (c.loop-i.invariant.small, r.0, r.1)

pub loop-i-preserved : goal.loop-i-preserved
loop-i-preserved c =
    let s = c.args.s.now in
    let i = c.loop-i.i in
    let h : i < length s = omega arith in
    let d : is_digit (get_or s i 0) ≡ true = sym c.is_digit.ensures ∙ c.if-not-is_digit.false in
    subst (λ (v : ℕ). Reading s v (i + 1)) (sym c.with_digit-value.ensures) (reading-more s c.loop-i.value i c.loop-i.invariant h d)

pub returns : goal.returns
returns c =
    let s = c.args.s.now in
    let ended : c.loop-i.i ≡ length s = omega arith in
    reading-ends s c.loop-i.value (length s) (subst (λ (i : ℕ). Reading s c.loop-i.value i) ended c.loop-i.invariant) (λ h. absurd (omega arith))
