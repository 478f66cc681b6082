-- `wire::text::all_characters` meets its contract: all are characters where the characters at the front are all bytes.
use Rattle.std.proofs.Common.{ℕ, eqb, length, ap, ◌∙◌}
use Rattle.wire.proofs.TextLaws.{all-counted}
use Rattle.wire.proofs.text.all_characters.Goals as goal

pub returns : goal.returns
returns c =
    let t = c.args.t.now in
    ap (λ (n : ℕ). eqb n (length t)) c.characters_in.ensures ∙ all-counted _ t
