-- `crc::entry` meets its contract: the place in the table of all rows.
use Rattle.std.proofs.Common.{◌≡◌, ℕ, ◌+◌, ◌*◌, ◌<◌, List, [], get_or, ap, ◌∙◌, arith}
use Rattle.std.proofs.lemmas.List.FromFn.{get_or-map-range_with_len}
use Rattle.rows.specs.Steps.{steps, row, rows}
use Rattle.crc.proofs.entry.Goals as goal

row-at : (k n : ℕ) → k < 8 → n < 256 → get_or (get_or rows k []) n 0 ≡ steps (8 * (k + 1)) n
unfolding rows row
row-at k n h l =
    ap (λ (r : List ℕ). get_or r n 0) (get_or-map-range_with_len row 0 8 k k [] h (omega arith))
    ∙ get_or-map-range_with_len (steps (8 * (k + 1))) 0 256 n n 0 l (omega arith)

pub returns : goal.returns
returns c = rw c.rows.ensures (row-at c.args.k c.args.b c.requires (omega arith))
