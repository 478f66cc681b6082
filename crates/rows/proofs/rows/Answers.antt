-- `rows::rows` meets its contract: the table is worked out.
use Rattle.std.proofs.Common.{◌≡◌, refl}
use Rattle.rows.specs.Steps.{bit_step, steps, row, rows}
use Rattle.rows.specs.declared.TheConstants.{ROWS}
use Rattle.rows.proofs.rows.Goals as goal

worked : ROWS ≡ rows
unfolding rows row steps bit_step
worked = refl

pub returns : goal.returns
returns c = worked
