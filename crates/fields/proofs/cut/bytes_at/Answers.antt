use mathlib.Core.Path.{sym, ap, subst, ◌∙◌}
use Prim.Native.Nat.{◌+◌, ◌<◌}
use native.Mathlib.Omega.{arith}
use Rattle.tables.specs.Tables.{row_of}
use Rattle.fields.proofs.CutLaws.{Seeking, bytes-far, bytes-clear, seek-start, seek-past, seek-over, seek_found}
use Rattle.fields.proofs.cut.bytes_at.Goals as goal
use Rattle.fields.proofs.cut.bytes_at.Goals.{then-is_present, else-is_present}

pub returns-then-p-ge-MAP_POSITIONS : goal.returns-then-p-ge-MAP_POSITIONS
returns-then-p-ge-MAP_POSITIONS c = bytes-far _ _ _ _ c.if-p-ge-MAP_POSITIONS.true

pub returns-then-not-is_present : goal.returns-then-not-is_present
returns-then-not-is_present c =
    bytes-clear _ _ _ _ (sym c.is_present.ensures ∙ c.if-not-is_present.true)

pub loop-q-init : goal.loop-q-init
loop-q-init c = seek-start _ _ _ _

pub loop-q-preserved : goal.loop-q-preserved
loop-q-preserved c =
    let a = c.args in
    let rest = c.loop-q.rest.now in
    let q = c.loop-q.q in
    let h : a.p < 256 = omega arith in
    let u : q < a.p = c.loop-q-test.true in
    elim c.if-is_present.branch [
      | then-is_present w ↦
          seek-past (row_of a.messagetype) _ _ _ q rest h c.loop-q.invariant u (sym c.is_present-in-loop-q.ensures ∙ w.if-is_present.true) w.extent_at.result c.if-is_present.rest.now w.extent_at.ensures
          (ap (λ x. x.now) w.rest-is ∙ w.behind-rest.ensures)
      | else-is_present w ↦
          subst (Seeking (row_of a.messagetype) _ _ _ (q + 1)) (sym (ap (λ x. x.now) w.rest-is))
          (seek-over (row_of a.messagetype) _ _ _ q rest h c.loop-q.invariant u (sym c.is_present-in-loop-q.ensures ∙ w.if-is_present.false))
    ]

pub returns : goal.returns
returns c =
    let a = c.args in
    let h : a.p < 256 = omega arith in
    seek_found (row_of a.messagetype) _ _ _ _ _ h c.loop-q.invariant c.loop-q-test.false (sym c.is_present.ensures ∙ c.if-not-is_present.false)
