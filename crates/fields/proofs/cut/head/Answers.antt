-- `fields::cut::head` meets its contract: eight bytes in halves.
use mathlib.Core.Path.{ap₂, ◌∙◌}
use Prim.Native.Nat.{ℕ, ◌+◌, ◌*◌, ◌≤◌}
use native.Mathlib.Omega.{arith}
use lib.ListN.{length}
use Rattle.fields.proofs.HeadLaws.{head-short, head-halves}
use Rattle.fields.proofs.cut.head.Goals as goal

pub returns-then-map-lt8 : goal.returns-then-map-lt8
returns-then-map-lt8 c = head-short c.args.map.now c.if-map-lt8.true

pub returns : goal.returns
returns c =
    let m = c.args.map.now in
    let h : 8 ≤ length m = omega arith in
    ap₂ (λ (x y : ℕ). x * 4294967296 + y) (ap₂ (λ (x y : ℕ). x * 65536 + y) c.big.ensures.0 c.big-2.ensures.0)
    (ap₂ (λ (x y : ℕ). x * 65536 + y) c.big-3.ensures.0 c.big-4.ensures.0)
    ∙ head-halves m (λ i. (c.type_inv.map i).fits) h
