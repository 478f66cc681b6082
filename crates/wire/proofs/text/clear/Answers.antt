use Rattle.std.proofs.Common.{◌≡◌, ℕ, List, ◌++◌, length, drop, set, replicate, ap, ◌∙◌, append-nil, arith}
use lib.Seq.{drop-length}
use borrow.Author.Fill.{fill_more}
use Rattle.wire.proofs.text.clear.Goals as goal

pub loop-byte-preserved : goal.loop-byte-preserved
loop-byte-preserved c =
    let l = c.loop-byte in
    ap (λ (x : List ℕ). set x l.byte-index 0) l.invariant ∙ fill_more l.byte-index 0 c.args.d.now (omega arith)

pub returns : goal.returns
returns c =
    let e = c.args.d.now in
    let n : c.loop-byte.byte-index ≡ length e = omega arith in
    c.loop-byte.invariant ∙ ap (λ (k : ℕ). replicate k 0 ++ drop k e) n
    ∙ ap (λ (x : List ℕ). replicate (length e) 0 ++ x) (drop-length e) ∙ append-nil (replicate (length e) 0)
