-- `session::arrival::content_of` meets its contract: each type's content.
use native.Mathlib.Omega.{arith}
use borrow.Author.Tests.{ne_eqb}
use Rattle.session.specs.Arrival.{content_of}
use Rattle.session.proofs.arrival.content_of.Goals as goal

pub overflow_cast-result : goal.overflow_cast-result
overflow_cast-result c = omega (arith, c.up_to.ensures.1)

pub returns-in-0 : goal.returns-in-0
unfolding content_of
returns-in-0 c = simp c.in-0.is

pub returns-in-1 : goal.returns-in-1
unfolding content_of
returns-in-1 c = simp (c.up_to.ensures.0, c.value_of.ensures, c.in-1.is)

pub returns-in-2 : goal.returns-in-2
unfolding content_of
returns-in-2 c =
    simp (c.up_to-in-2-2.ensures.0, c.value_of-in-2-2.ensures, c.up_to-in-2.ensures.0, c.value_of-in-2.ensures, c.in-2.is)

pub returns-in-3 : goal.returns-in-3
unfolding content_of
returns-in-3 c = simp c.in-3.is

pub returns-in-4 : goal.returns-in-4
unfolding content_of
returns-in-4 c = simp (c.sequence_reset.ensures, c.in-4.is)

pub returns-in-5 : goal.returns-in-5
unfolding content_of
returns-in-5 c = simp (c.up_to-in-5.ensures.0, c.value_of-in-5.ensures, c.in-5.is)

pub returns-in-6 : goal.returns-in-6
unfolding content_of
returns-in-6 c = simp c.in-6.is

pub returns-in-7 : goal.returns-in-7
unfolding content_of
returns-in-7 c = simp c.in-7.is

pub returns-in-8 : goal.returns-in-8
unfolding content_of
returns-in-8 c = simp c.in-8.is

pub returns-in_default : goal.returns-in_default
unfolding content_of
returns-in_default c =
    let k = c.args.messagetype in
    let r = c.in_default.in_default-own.rest in
    simp (
      ne_eqb k 0 r.0.0.0.0.0.0.0.0.1,
      ne_eqb k 1 r.0.0.0.0.0.0.0.1,
      ne_eqb k 2 r.0.0.0.0.0.0.1,
      ne_eqb k 3 r.0.0.0.0.0.1,
      ne_eqb k 4 r.0.0.0.0.1,
      ne_eqb k 5 r.0.0.0.1,
      ne_eqb k 6 r.0.0.1,
      ne_eqb k 7 r.0.1,
      ne_eqb k 8 r.1,
    )
