-- `message::ask::ask_number_of` meets its contract: the type at the front is the message's, so the field's position is taken from there.
use mathlib.Core.Path.{refl}
use Prim.Native.Nat.{ℕ}
use Rattle.tables.specs.declared.table.Row.{Row}
use Rattle.fields.specs.Sets.{position_of}
use Rattle.message.specs.Ask.{number_answer, ask_number, ask_number_of}
use Rattle.message.specs.Read.{read_of}
use Rattle.message.proofs.AskLaws.{asked-front}
use Rattle.message.proofs.ask.ask_number_of.Goals as goal

pub returns : goal.returns
unfolding ask_number ask_number_of
returns c =
    let a = c.args in
    simp (c.ask_number.ensures, c.position_of.ensures, c.header_in.ensures) (asked-front a.s.now (λ (rows : ℕ → Row). position_of rows a.field) number_answer (read_of a.s.now) refl)
