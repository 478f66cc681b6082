use mathlib.Core.Path.{sym, ap, refl, ◌∙◌}
use native.Mathlib.Omega.{arith}
use Rattle.fields.specs.Plain.{plain_fields}
use Rattle.fields.proofs.FillLaws.{fill_start, fill-same, fill-within, fill_end, fill-found}
use Rattle.fields.proofs.ShapeLaws.{at-number, at-decimal, at-fixed}
use Rattle.writer.proofs.FillLaws.{each-plain, put-fits, put_on}
use Rattle.writer.proofs.put.put_fields.Goals as goal
use Rattle.writer.proofs.put.put_fields.Goals.{in-Number, in-Decimal, in-Fixed, in-Other}

pub loop-left-init : goal.loop-left-init
unfolding plain_fields
loop-left-init c =
    let p = c.requires in
    fill_start _ _ _ _ _ _ c.head-left.ensures p.in_bounds.0 p.in_bounds.1 p.body_in_bounds

pub overflow_cast-p : goal.overflow_cast-p
overflow_cast-p c = omega (arith, (fill-found c.loop-left.invariant (each-plain _) c.loop-left-test.true).below)

pub slice_bounds-copy_number-count : goal.slice_bounds-copy_number-count
slice_bounds-copy_number-count c = fill-within c.loop-left.invariant

pub slice_bounds-copy_number-start : goal.slice_bounds-copy_number-start
slice_bounds-copy_number-start c = fill-within c.loop-left.invariant

pub overflow_add-at : goal.overflow_add-at
overflow_add-at c =
    omega (
      arith,
      put-fits c.loop-left.invariant c.loop-left-test.true _ (at-number _ _ _ _ (sym c.shape_at.ensures ∙ c.in-Number.is)).plain _ _ c.copy_number-laid.ensures.0 c.unwrap_or-at.ensures,
      c.well_formed.0,
    )

pub slice_bounds-copy_decimal-count : goal.slice_bounds-copy_decimal-count
slice_bounds-copy_decimal-count c = fill-within c.loop-left.invariant

pub slice_bounds-copy_decimal-start : goal.slice_bounds-copy_decimal-start
slice_bounds-copy_decimal-start c = fill-within c.loop-left.invariant

pub overflow_add-at-in-Decimal : goal.overflow_add-at-in-Decimal
overflow_add-at-in-Decimal c =
    omega (
      arith,
      put-fits c.loop-left.invariant c.loop-left-test.true _ (at-decimal _ _ _ (sym c.shape_at.ensures ∙ c.in-Decimal.is)).plain _ _ c.copy_decimal-laid.ensures.0 c.unwrap_or-at-in-Decimal.ensures,
      c.well_formed.0,
    )

pub slice_bounds-copy_fixed-count : goal.slice_bounds-copy_fixed-count
slice_bounds-copy_fixed-count c = fill-within c.loop-left.invariant

pub slice_bounds-copy_fixed-start : goal.slice_bounds-copy_fixed-start
slice_bounds-copy_fixed-start c = fill-within c.loop-left.invariant

pub overflow_add-at-in-Fixed : goal.overflow_add-at-in-Fixed
overflow_add-at-in-Fixed c =
    omega (
      arith,
      put-fits c.loop-left.invariant c.loop-left-test.true _ (at-fixed _ _ _ _ _ (sym c.shape_at.ensures ∙ c.in-Fixed.is)).plain _ _ c.copy_fixed-laid.ensures.0 c.unwrap_or-at-in-Fixed.ensures,
      c.well_formed.0,
    )

pub slice_bounds-copy_other-count : goal.slice_bounds-copy_other-count
slice_bounds-copy_other-count c = fill-within c.loop-left.invariant

pub slice_bounds-copy_other-start : goal.slice_bounds-copy_other-start
slice_bounds-copy_other-start c = fill-within c.loop-left.invariant

pub overflow_add-at-in-Other : goal.overflow_add-at-in-Other
overflow_add-at-in-Other c =
    omega (
      arith,
      put-fits c.loop-left.invariant c.loop-left-test.true _ refl _ _ c.copy_other-laid.ensures.0 c.unwrap_or-at-in-Other.ensures,
      c.well_formed.0,
    )

pub overflow_shr-left : goal.overflow_shr-left
overflow_shr-left c =
    omega (arith, (fill-found c.loop-left.invariant (each-plain _) c.loop-left-test.true).below)

pub loop-left-smaller : goal.loop-left-smaller
loop-left-smaller c =
    (fill-found c.loop-left.invariant (each-plain _) c.loop-left-test.true).less

pub loop-left-preserved : goal.loop-left-preserved
loop-left-preserved c =
    let i = c.loop-left.invariant in
    let t = c.loop-left-test.true in
    elim c.match-shape_at.branch [
      | in-Number w ↦
          let s = at-number _ _ _ _ (sym c.shape_at.ensures ∙ w.in-Number.is) in
          put_on i t _ s.plain _ _ w.copy_number-laid.ensures.0 w.unwrap_or-at.ensures _ _ _ _ _ w.copy_number-laid.ensures.1 s.taken w.d-is w.at-is
          (ap (λ x. x.now) w.rest-is ∙ w.behind-next.ensures)
      | in-Decimal w ↦
          let s = at-decimal _ _ _ (sym c.shape_at.ensures ∙ w.in-Decimal.is) in
          put_on i t _ s.plain _ _ w.copy_decimal-laid.ensures.0 w.unwrap_or-at-in-Decimal.ensures _ _ _ _ _ w.copy_decimal-laid.ensures.1 s.taken w.d-is w.at-is
          (ap (λ x. x.now) w.rest-is ∙ w.behind-next-in-Decimal.ensures)
      | in-Fixed w ↦
          let s = at-fixed _ _ _ _ _ (sym c.shape_at.ensures ∙ w.in-Fixed.is) in
          put_on i t _ s.plain _ _ w.copy_fixed-laid.ensures.0 w.unwrap_or-at-in-Fixed.ensures _ _ _ _ _ w.copy_fixed-laid.ensures.1 s.taken w.d-is w.at-is
          (ap (λ x. x.now) w.rest-is ∙ w.behind-next-in-Fixed.ensures)
      | in-Other w ↦
          put_on i t _ refl _ _ w.copy_other-laid.ensures.0 w.unwrap_or-at-in-Other.ensures _ _ _ _ _ w.copy_other-laid.ensures.1 (sym w.extent_at.ensures) w.d-is w.at-is
          (ap (λ x. x.now) w.rest-is ∙ w.behind-next-in-Other.ensures)
    ]

pub shape_of-d : goal.shape_of-d
shape_of-d c = fill-same c.loop-left.invariant

pub returns : goal.returns
returns c = (fill_end c.loop-left.invariant (each-plain _) c.loop-left-test.false).1
