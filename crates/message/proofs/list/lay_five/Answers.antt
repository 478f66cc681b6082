-- `message::list::lay_five` meets its contract: five numbers stand in front of what stood behind them.
use mathlib.Core.Path.{◌≡◌}
use mathlib.Core.List.{List, [], ◌∷◌}
use Prim.Native.Nat.{ℕ, ◌≤◌}
use native.Mathlib.Omega.{arith}
use lib.ListN.{length, set, length-set}
use borrow.Author.Tests.{le-leb}
use Rattle.wire.specs.Laying.{laid}
use Rattle.message.proofs.list.lay_five.Goals as goal

five-set : (d : List ℕ) (u v w x y : ℕ) → 5 ≤ length d → set (set (set (set (set d 0 u) 1 v) 2 w) 3 x) 4 y ≡ laid (u ∷ v ∷ w ∷ x ∷ y ∷ []) d
unfolding laid
five-set [] u v w x y h = absurd (omega arith)
five-set (a ∷ []) u v w x y h = absurd (omega arith)
five-set (a ∷ b ∷ []) u v w x y h = absurd (omega arith)
five-set (a ∷ b ∷ c ∷ []) u v w x y h = absurd (omega arith)
five-set (a ∷ b ∷ c ∷ e ∷ []) u v w x y h = absurd (omega arith)
five-set (a ∷ b ∷ c ∷ e ∷ f ∷ d) u v w x y h = rw (le-leb 5 (length (a ∷ b ∷ c ∷ e ∷ f ∷ d)) h)

pub bounds-d-1 : goal.bounds-d-1
bounds-d-1 c = omega (arith, c.requires, length-set c.args.d.now 0 c.args.p)

pub bounds-d-2 : goal.bounds-d-2
bounds-d-2 c =
    let d = c.args.d.now in
    omega (arith, c.requires, length-set d 0 c.args.p, length-set (set d 0 c.args.p) 1 c.args.sort)

pub bounds-d-3 : goal.bounds-d-3
bounds-d-3 c =
    let d = c.args.d.now in
    let e = set d 0 c.args.p in
    let f = set e 1 c.args.sort in
    omega (arith, c.requires, length-set d 0 c.args.p, length-set e 1 c.args.sort, length-set f 2 c.args.at)

pub returns : goal.returns
returns c = five-set c.args.d.now _ _ _ _ _ (omega (arith, c.requires))
