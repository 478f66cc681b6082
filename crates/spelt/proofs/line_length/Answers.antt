-- `spelt::line_length` meets its contract: the place of the first line end, or the length of all.
use Rattle.std.proofs.Common.{◌≡◌, ◌≤◌, eqb, length, ap, ◌∙◌, sym, subst, rules}
use Rattle.std.specs.Option.{unwrap_or}
use Rattle.std.proofs.lemmas.Iterator.{YieldsList-from_slice}
use Rattle.std.proofs.lemmas.Iterator.Adapters.{position_from-zero}
use Rattle.std.proofs.lemmas.Iterator.Search.{position_from_yields_List}
use Rattle.spelt.specs.Lines.{line_length}
use Rattle.spelt.proofs.LineLaws.{line-found, line-within}
use Rattle.spelt.proofs.line_length.Goals as goal

pub returns : goal.returns
returns c =
    let s = c.args.s.now in
    let p = position_from_yields_List (λ b. eqb b 10) _ _ _ c.position.ensures.ran (YieldsList-from_slice s cc) (λ x b q k. search rules) in
    let e : c.unwrap_or.result ≡ line_length s = c.unwrap_or.ensures ∙ ap (λ r. unwrap_or r (length s)) (p ∙ position_from-zero _ s) ∙ line-found s in
    (e, subst (λ n. n ≤ length s) (sym e) (line-within s))
