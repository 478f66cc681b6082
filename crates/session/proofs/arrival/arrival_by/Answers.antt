-- `session::arrival::arrival_by` meets its contract: what the reader says decides.
use Rattle.session.specs.Arrival.{arrival_by, message_in}
use Rattle.session.proofs.arrival.arrival_by.Goals as goal

pub returns-in-Ok : goal.returns-in-Ok
unfolding arrival_by message_in
returns-in-Ok c =
    simp (c.content_in.ensures, c.is_ours.ensures, c.in-Ok.is)

pub returns-in-Err : goal.returns-in-Err
unfolding arrival_by
returns-in-Err c = simp c.in-Err.is
