-- `capi::lines::line_in_turn` meets its contract.
use Rattle.session.specs.State.{code_number, code_besides, first_of, last_of, sort_number, told}
use Rattle.capi.specs.Sessions.{shown_send, shown_row}
use Rattle.capi.specs.Lines.{shown_line_stepped}
use Rattle.capi.proofs.lines.line_in_turn.Goals as goal

pub returns : goal.returns
unfolding shown_line_stepped code_number code_besides shown_send told shown_row sort_number first_of last_of
returns c = simp (c.no_send-2.ensures, c.no_send.ensures, c.from.ensures)
