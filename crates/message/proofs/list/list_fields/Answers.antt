-- `message::list::list_fields` meets its contract: what the reader answers decides, and then the room.
use Rattle.std.proofs.Common.{rules}
use Rattle.std.specs.Prelude.{Err}
use mathlib.Core.Path.{◌≡◌, ap}
use Prim.Native.Nat.{◌≤◌}
use native.Mathlib.Omega.{arith}
use lib.ListN.{length}
use Rattle.fields.specs.Cut.{positions}
use Rattle.fields.proofs.HeadLaws.{positions-count}
use Rattle.message.specs.Read.{Good, read_of}
use Rattle.message.specs.List.{list_by}
use Rattle.message.proofs.ListLaws.{enter, list-need, list-most, list-no-room, list-room, list-refused}
use Rattle.message.proofs.list.list_fields.Goals as goal
use Rattle.message.proofs.list.list_fields.Goals.{then-d+else-d-need, else-d}

pub count_set-need-requires : goal.count_set-need-requires
count_set-need-requires c =
    let e : read_of c.args.s.now ≡ Good c.in_ok-header.field-0.header c.in_ok-header.field-0.length = search rules in
    omega (arith, ap length c.map_in.ensures, (enter _ _ _ e).map-size)

pub overflow_mul-need : goal.overflow_mul-need
overflow_mul-need c = omega (arith, c.count_set-need.ensures, positions-count c.map_in.result.now 64 0)

pub returns-then-d-need : goal.returns-then-d-need
returns-then-d-need c =
    let e : read_of c.args.s.now ≡ Good c.in_ok-header.field-0.header c.in_ok-header.field-0.length = search rules in
    let n = c.count_set-need.ensures in
    let x = list-no-room _ _ _ _ e _ (omega (arith, n, ap (λ m. length (positions m 64 0)) c.map_in.ensures, list-need _ c.args.d.now _ _ e)) c.if-d-need.true in
    record { value = x.0; d_after = x.1 }

pub lay_fields-laid-requires : goal.lay_fields-laid-requires
lay_fields-laid-requires c =
    let z = c.args in
    let e : read_of z.s.now ≡ Good c.in_ok-header.field-0.header c.in_ok-header.field-0.length = search rules in (
      e,
      elim c.if-d.branch [
        | then-d+else-d-need w ↦ omega (arith, w.count_set-need.ensures, ap (λ m. length (positions m 64 0)) w.map_in.ensures, list-need _ z.d.now _ _ e, w.if-d-need.false)
        | else-d w ↦ omega (arith, list-most _ z.d.now _ _ e, w.if-d.false)
      ],
    )

pub returns-clause-value : goal.returns-clause-value
returns-clause-value c =
    let z = c.args in
    let e : read_of z.s.now ≡ Good c.in_ok-header.field-0.header c.in_ok-header.field-0.length = search rules in
    let room : length (list_by z.s.now (read_of z.s.now)) ≤ length z.d.now = elim c.if-d.branch [
      | then-d+else-d-need w ↦ omega (arith, w.count_set-need.ensures, ap (λ m. length (positions m 64 0)) w.map_in.ensures, list-need _ z.d.now _ _ e, w.if-d-need.false)
      | else-d w ↦ omega (arith, list-most _ z.d.now _ _ e, w.if-d.false)
    ] in
    list-room _ _ _ _ e _ room c.lay_fields-laid.ensures.value

pub returns-in_err-header-clause-value : goal.returns-in_err-header-clause-value
returns-in_err-header-clause-value c =
    let e : read_of c.args.s.now ≡ Err c.in_err-header.field-0.0 = search rules in
    let x = (list-refused _ c.args.d.now _ e).0 in
    search (rules, x)

pub returns-in_err-header-clause-d_after : goal.returns-in_err-header-clause-d_after
returns-in_err-header-clause-d_after c =
    let e : read_of c.args.s.now ≡ Err c.in_err-header.field-0.0 = search rules in
    (list-refused _ _ _ e).1
