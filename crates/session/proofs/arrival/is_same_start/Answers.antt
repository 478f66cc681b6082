use mathlib.Core.Path.{sym, ◌∙◌}
use native.Mathlib.Omega.{arith}
use Rattle.wire.specs.declared.text.Allowed.TheVariants.{Ascii}
use Rattle.wire.specs.Number.{Bytes}
use Rattle.wire.proofs.StartLaws.{same_start, same-eight, same_more}
use Rattle.session.proofs.ArrivalLaws.{never}
use Rattle.session.proofs.arrival.is_same_start.Goals as goal

pub returns-then-a-lt-COMP_ID_BYTES : goal.returns-then-a-lt-COMP_ID_BYTES
returns-then-a-lt-COMP_ID_BYTES c = never

pub returns-then-b-lt-COMP_ID_BYTES : goal.returns-then-b-lt-COMP_ID_BYTES
returns-then-b-lt-COMP_ID_BYTES c = never

pub returns-then-read_eight : goal.returns-then-read_eight
returns-then-read_eight c = never

pub loop-i-init : goal.loop-i-init
loop-i-init c =
    let a = c.args in
    let p : Bytes a.a.now = λ i. (c.type_inv.a i).fits in
    let q : Bytes a.b.now = λ i. (c.type_inv.b i).fits in
    (omega arith, omega arith, same-eight a.a.now a.b.now p q (omega arith) (omega arith) (sym c.read_eight.ensures ∙ c.if-read_eight.false ∙ c.read_eight-2.ensures))

pub returns-then-a-i : goal.returns-then-a-i
returns-then-a-i c = never

pub returns-then-a-i-eq0 : goal.returns-then-a-i-eq0
returns-then-a-i-eq0 c =
    let a = c.args in
    λ e. same_start Ascii a.a.now a.b.now c.loop-i.i (omega arith) (omega arith) (omega arith) c.loop-i.invariant.2 (omega arith) (omega arith)

pub loop-i-preserved : goal.loop-i-preserved
loop-i-preserved c =
    let a = c.args in
    (omega arith, omega arith, same_more a.a.now a.b.now c.loop-i.i (omega arith) (omega arith) c.loop-i.invariant.2 (omega arith))

pub returns : goal.returns
returns c = never
