use Rattle.std.proofs.Common.{◌≡◌, ℕ, ◌+◌, List, ◌++◌, length, get_or, take, drop, set, refl, ap, ◌∙◌, zero-add, add-one, arith, length-set, rules}
use lib.Seq.{take-length, paste-suc}
use Rattle.wire.proofs.laying.lay.Goals as goal

pub loop-i-init : goal.loop-i-init
loop-i-init c = (search rules, refl, refl)

pub loop-i-preserved : goal.loop-i-preserved
loop-i-preserved c =
    let t = c.args.t.now in
    let e = c.args.d.now in
    let i = c.loop-i.i in
    let store : set (take i t ++ drop i e) i (get_or t i 0) ≡ take (i + 1) t ++ drop (i + 1) e =
    rw add-one (simp zero-add at (paste-suc e 0 t i 0 (omega arith) (omega arith))) in
    (omega arith, simp length-set (omega arith), ap (λ (x : List ℕ). set x i (get_or t i 0)) c.loop-i.invariant.2 ∙ store)

pub returns : goal.returns
returns c =
    let t = c.args.t.now in
    let d = c.args.d.now in
    let e : c.loop-i.i ≡ length t = omega arith in
    c.loop-i.invariant.2 ∙ ap (λ (n : ℕ). take n t ++ drop n d) e ∙ ap (λ (x : List ℕ). x ++ drop (length t) d) (take-length t)
