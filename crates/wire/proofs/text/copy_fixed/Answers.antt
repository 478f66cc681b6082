-- `wire::text::copy_fixed` meets its contract: the characters of a fixed text are no more than its width.
use Rattle.std.proofs.Common.{◌≡◌, ℕ, ◌≤◌, List, length, sym, subst}
use Rattle.wire.specs.Laying.{laid, laid_answer}
use Rattle.wire.specs.Text.{fixed_bytes}
use Rattle.wire.proofs.TextLaws.{fixed-fits}
use Rattle.wire.proofs.text.copy_fixed.Goals as goal

pub lay_fixed-requires : goal.lay_fixed-requires
lay_fixed-requires c =
    let a = c.args in
    subst (λ (t : List ℕ). length t ≤ a.width) (sym c.fixed_part.ensures) (fixed-fits _ a.width a.s.now)

pub returns : goal.returns
returns c =
    let a = c.args in
    subst (λ (t : List ℕ). (c.lay_fixed.result ≡ laid_answer (fixed_bytes a.width t) a.d.now) × (c.lay_fixed.new.d ≡ laid (fixed_bytes a.width t) a.d.now))
    c.fixed_part.ensures c.lay_fixed.ensures
