use mathlib.Core.Path.{◌≡◌, sym, ap, ◌∙◌}
use mathlib.Core.List.{List}
use Prim.Native.Nat.{ℕ}
use native.Mathlib.Omega.{arith}
use lib.Count.{leading_le}
use lib.ListN.{length}
use Rattle.wire.specs.Laying.{laid}
use Rattle.wire.proofs.TestLaws.{rest_of}
use Rattle.message.specs.declared.frame.Header.{Header}
use Rattle.message.specs.Frame.{map_in, body_in}
use Rattle.message.specs.Read.{Good, read_of}
use Rattle.message.proofs.ListLaws.{fits, listing_start, listing-set, listing-good, listing-below, listing-room, listing-fits, listing-part, listing-on, listing-end, listing-same, listing-within, Entered, enter}
use Rattle.message.proofs.list.lay_fields.Goals as goal

-- the map and the body that the code has are the message's
entered : (s : List ℕ) (h : Header) (whole : ℕ) (m body : List ℕ) → m ≡ map_in s → body ≡ body_in whole s → read_of s ≡ Good h whole → Entered s h whole m body
entered s h whole m body p q e = rw (p, q) (enter s h whole e)

pub loop-left-init : goal.loop-left-init
loop-left-init c =
    let x = entered _ _ _ _ _ c.map_in-map.ensures c.body_in-rest.ensures c.requires.0 in
    listing_start _ _ _ _ _ _ _ c.head-left.ensures x.map-size x.good (omega (arith, c.requires.1, ap length x.is))

pub overflow_cast-p : goal.overflow_cast-p
overflow_cast-p c = fits _ (leading_le 64 _)

pub offset_bounds-d-laid : goal.offset_bounds-d-laid
offset_bounds-d-laid c = let i = c.loop-left.invariant in omega (arith, listing-within i, listing-same i)

pub slice_bounds-lay_field-count : goal.slice_bounds-lay_field-count
slice_bounds-lay_field-count c = listing-within c.loop-left.invariant

pub slice_bounds-lay_field-start : goal.slice_bounds-lay_field-start
slice_bounds-lay_field-start c = listing-within c.loop-left.invariant

pub lay_field-taken-requires : goal.lay_field-taken-requires
lay_field-taken-requires c =
    let l = c.loop-left in
    let h = c.loop-left-test.true in
    let x = entered _ _ _ _ _ c.map_in-map.ensures c.body_in-rest.ensures c.requires.0 in
    record { a_field_in_bounds = (listing-part l.invariant h, listing-set l.invariant h); sum_bytes_len_bound = (omega (arith, x.body-size, l.invariant.within), listing-good l.invariant h) }

pub overflow_add-laid : goal.overflow_add-laid
overflow_add-laid c = omega (arith, listing-fits c.loop-left.invariant c.loop-left-test.true)

pub slice_bounds-rest-count : goal.slice_bounds-rest-count
slice_bounds-rest-count c = omega (arith, c.lay_field-taken.ensures.value, listing-room c.loop-left.invariant c.loop-left-test.true)

pub slice_bounds-rest-start : goal.slice_bounds-rest-start
slice_bounds-rest-start c = omega (arith, c.lay_field-taken.ensures.value, listing-room c.loop-left.invariant c.loop-left-test.true)

pub overflow_shr-left : goal.overflow_shr-left
overflow_shr-left c = listing-below c.loop-left.invariant c.loop-left-test.true

pub loop-left-smaller : goal.loop-left-smaller
loop-left-smaller c =
    let l = c.loop-left in
    let e = c.lay_field-taken.ensures in
    (listing-on l.invariant c.loop-left-test.true _ _ _ e.d_after e.value (rest_of l.rest.now c.lay_field-taken.result)).0

pub loop-left-preserved : goal.loop-left-preserved
loop-left-preserved c =
    let l = c.loop-left in
    let e = c.lay_field-taken.ensures in
    (listing-on l.invariant c.loop-left-test.true _ _ _ e.d_after e.value (rest_of l.rest.now c.lay_field-taken.result)).1

pub shape_of-d : goal.shape_of-d
shape_of-d c = listing-same c.loop-left.invariant

pub returns : goal.returns
returns c =
    let l = c.loop-left in
    let x = entered _ _ _ _ _ c.map_in-map.ensures c.body_in-rest.ensures c.requires.0 in
    let y = listing-end l.invariant c.loop-left-test.false in
    record { value = y.0 ∙ ap length (sym x.is); d_after = y.1 ∙ ap (λ (w : List ℕ). laid w c.args.d.now) (sym x.is) }
