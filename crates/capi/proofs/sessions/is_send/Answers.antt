-- `capi::sessions::is_send` meets its contract: by the message's kind.
use borrow.Author.Tests.{ne_eqb}
use Rattle.capi.specs.Sessions.{is_send}
use Rattle.capi.proofs.sessions.is_send.Goals as goal

pub returns-in-0 : goal.returns-in-0
unfolding is_send
returns-in-0 c = simp c.in-0.is

pub returns-in-1 : goal.returns-in-1
unfolding is_send
returns-in-1 c = simp (c.is_our_number.ensures, c.in-1.is)

pub returns-in-2 : goal.returns-in-2
unfolding is_send
returns-in-2 c = simp (c.is_our_number-in-2.ensures, c.in-2.is)

pub returns-in-3 : goal.returns-in-3
unfolding is_send
returns-in-3 c = simp c.in-3.is

pub returns-in-4 : goal.returns-in-4
unfolding is_send
returns-in-4 c = simp (c.is_our_number-in-4.ensures, c.in-4.is)

pub returns-in-5 : goal.returns-in-5
unfolding is_send
returns-in-5 c = simp (c.is_our_number-in-5.ensures, c.id_of.ensures, c.in-5.is)

pub returns-in-6 : goal.returns-in-6
unfolding is_send
returns-in-6 c = simp (c.is_our_number-in-6.ensures, c.in-6.is)

pub returns-in_default : goal.returns-in_default
unfolding is_send
returns-in_default c =
    let r = c.in_default.in_default-own.rest in
    simp (
      ne_eqb _ 0 r.0.0.0.0.0.0.1,
      ne_eqb _ 1 r.0.0.0.0.0.1,
      ne_eqb _ 2 r.0.0.0.0.1,
      ne_eqb _ 3 r.0.0.0.1,
      ne_eqb _ 4 r.0.0.1,
      ne_eqb _ 5 r.0.1,
      ne_eqb _ 6 r.1,
    )
