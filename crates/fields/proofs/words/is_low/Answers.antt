-- `fields::words::is_low` meets its contract: three words of zeros.
use mathlib.Core.Path.{◌≡◌, sym, ◌∙◌}
use Prim.Native.Nat.{ℕ}
use native.Mathlib.Omega.{arith}
use borrow.Author.Tests.{eqb-true}
use Rattle.fields.proofs.WordLaws.{clear-from}
use Rattle.fields.proofs.words.is_low.Goals as goal

pub returns-then-map-lt-MAP_BYTES : goal.returns-then-map-lt-MAP_BYTES
returns-then-map-lt-MAP_BYTES c e = let z : ◌≡◌ {A = ℕ} 0 1 = cc in absurd (omega arith)

pub returns-then-word_at-ne0 : goal.returns-then-word_at-ne0
returns-then-word_at-ne0 c e = let z : ◌≡◌ {A = ℕ} 0 1 = cc in absurd (omega arith)

pub returns-then-word_at-ne0-2 : goal.returns-then-word_at-ne0-2
returns-then-word_at-ne0-2 c e = let z : ◌≡◌ {A = ℕ} 0 1 = cc in absurd (omega arith)

pub returns : goal.returns
returns c e =
    let x : c.word_at.result ≡ 0 = omega arith in
    let y : c.word_at-2.result ≡ 0 = omega arith in
    clear-from c.args.map.now (λ k. (c.type_inv.map k).fits)
    (sym c.word_at.ensures ∙ x) (sym c.word_at-2.ensures ∙ y) (sym c.word_at-3.ensures ∙ eqb-true _ 0 e)
