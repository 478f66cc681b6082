-- `wire::text::variable_text` meets its contract: the null is looked for among as many bytes as the length says.
use Rattle.std.proofs.Common.{◌≡◌, ℕ, ◌+◌, ◌-◌, take, drop, sym, ap, ◌∙◌, arith}
use borrow.Author.Tests.{lt-leb}
use Rattle.wire.specs.Text.{null, ended, variable_text}
use Rattle.wire.proofs.TextLaws.{variable-long, variable-cut, variable-read}
use Rattle.wire.proofs.text.variable_text.Goals as goal

pub returns-then-s-lt2 : goal.returns-then-s-lt2
unfolding variable_text
returns-then-s-lt2 c = simp (lt-leb _ _ c.if-s-lt2.true)

pub returns-then-size-n : goal.returns-then-size-n
returns-then-size-n c =
    let a = c.args in
    sym (variable-long _ a.size a.s.now c.read_u16-n.result (omega arith) c.read_u16-n.ensures (omega arith))

pub returns-then-s-end : goal.returns-then-s-end
returns-then-s-end c =
    let a = c.args in
    sym (variable-cut _ a.size a.s.now c.read_u16-n.result (omega arith) c.read_u16-n.ensures (omega arith) (omega arith))

pub returns : goal.returns
unfolding ended
returns c =
    let a = c.args in
    let n = c.read_u16-n.result in
    let e : n ≡ 2 + n - 2 = omega arith in
    sym (variable-read _ a.size a.s.now n (omega arith) c.read_u16-n.ensures (omega arith) (omega arith) _
    (ap (λ (j : ℕ). null a.allowed (take j (drop 2 a.s.now))) e ∙ sym c.null_in.ensures ∙ c.in_ok-characters.was))

pub returns-in_err-characters : goal.returns-in_err-characters
unfolding ended
returns-in_err-characters c =
    let a = c.args in
    let n = c.read_u16-n.result in
    let e : n ≡ 2 + n - 2 = omega arith in
    c.from_residual.ensures
    ∙ sym (variable-read _ a.size a.s.now n (omega arith) c.read_u16-n.ensures (omega arith) (omega arith) _
    (ap (λ (j : ℕ). null a.allowed (take j (drop 2 a.s.now))) e ∙ sym c.null_in.ensures ∙ c.in_err-characters.was))
