-- `spelt::put_hundred_millionths` meets its contract: the whole number, and where there is a fraction, a point and its digits.
use mathlib.Core.Path.{sym, ap, ◌∙◌}
use Prim.Native.Nat.{ℕ, ◌/◌, ◌%◌, ◌^◌}
use native.Mathlib.Omega.{arith}
use mathlib.Core.List.{List, ◌++◌}
use lib.ListN.{take, length-set}
use Rattle.spelt.specs.Spelt.{number_text, fraction}
use Rattle.spelt.proofs.AmountLaws.{whole-alone, whole-and-more}
use Rattle.spelt.proofs.BehindLaws.{point}
use borrow.Author.Rules.{rules}
use Rattle.spelt.proofs.put_hundred_millionths.Goals as goal

pub returns-then-rest-eq0 : goal.returns-then-rest-eq0
returns-then-rest-eq0 c =
    let a = c.args in
    let p = c.put_digits-p in
    (omega (arith, p.ensures.0), p.ensures.1 ∙ ap (λ (x : List ℕ). take a.at a.d.now ++ x) (sym (whole-alone a.n c.if-rest-eq0.true)))

pub put_fraction-requires : goal.put_fraction-requires
put_fraction-requires c =
    let p = c.put_digits-p in
    (simp length-set (omega (arith, p.ensures.0, p.auto.d)), omega arith)

pub shape_of-d : goal.shape_of-d
shape_of-d c =
    let p = c.put_digits-p in
    c.put_fraction.auto.d ∙ length-set p.new.d p.result 46 ∙ p.auto.d

pub returns : goal.returns
returns c =
    let a = c.args in
    let p = c.put_digits-p in
    let q = c.put_fraction in (
      omega (arith, p.ensures.0, q.ensures.0),
      q.ensures.1
          ∙ point p.new.d (take a.at a.d.now) (number_text (a.n / 10 ^ 8)) (fraction 8 (a.n % 10 ^ 8)) p.result (search rules) p.ensures.1
          ∙ ap (λ (x : List ℕ). take a.at a.d.now ++ x) (sym (whole-and-more a.n c.if-rest-eq0.false)),
    )
