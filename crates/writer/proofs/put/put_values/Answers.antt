-- `writer::put::put_values` meets its contract: each number is laid behind those before it.
use mathlib.Core.Path.{ap, ◌∙◌}
use mathlib.Core.List.{List, append_assoc}
use Prim.Native.Nat.{ℕ}
use native.Mathlib.Omega.{arith}
use Rattle.wire.specs.Laying.{laid}
use Rattle.wire.specs.Number.{number_bytes}
use Rattle.wire.proofs.NumberLaws.{length-number_bytes}
use Rattle.writer.specs.Put.{value_bytes}
use Rattle.wire.proofs.BufferLaws.{Front, number-on}
use Rattle.writer.proofs.put.put_values.Goals as goal

pub returns : goal.returns
unfolding value_bytes
returns c =
    let h = c.args.header in
    let f1 : Front (number_bytes 1 2) 1 c.args.d.now c.put_u8.new.d = record { size = length-number_bytes 1 2; is = c.put_u8.ensures.1 } in
    let f2 = number-on f1 2 c.args.n _ (omega arith) c.put_u16.ensures.1 in
    let f3 = number-on f2 1 h.messagetype _ (omega arith) c.put_u8-2.ensures.1 in
    let f4 = number-on f3 4 h.number _ (omega arith) c.put_u32.ensures.1 in
    let f5 = number-on f4 1 h.possdup _ (omega arith) c.put_u8-3.ensures.1 in
    let f6 = number-on f5 1 h.possresend _ (omega arith) c.put_u8-4.ensures.1 in
    f6.is ∙ ap (λ (w : List ℕ). laid w c.args.d.now) (simp append_assoc)
