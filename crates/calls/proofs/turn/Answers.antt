-- `calls::turn` meets its contract.
use Rattle.std.specs.Prelude.{Some}
use Prim.Native.Nat.{ℕ}
use mathlib.Core.Path.{◌≡◌, sym, ap, subst, ◌∙◌}
use mathlib.Core.Bool.{true≢false}
use native.Mathlib.Omega.{arith}
use lib.ListN.{length}
use Rattle.session.specs.declared.state.State.{State}
use Rattle.session.specs.declared.state.Stepped.{Stepped}
use Rattle.calls.specs.declared.Ended.TheVariants.{Short}
use Rattle.session.specs.Day.{step}
use Rattle.session.specs.State.{code_number, code_besides}
use Rattle.calls.specs.Steps.{did, next_of, step_done, fits}
use Rattle.calls.proofs.CourseLaws.{Fits, fits-true, fits_by, row_room, short-turn, full-turn, done-turn}
use Rattle.calls.proofs.CodeLaws.{some_short, none_short}
use Rattle.calls.proofs.TurnedLaws.{read_step, turns-nothing, turns-done}
use Rattle.calls.proofs.turn.Goals as goal

pub returns-in-Some : goal.returns-in-Some
returns-in-Some c =
    let s = c.args.s.now in
    let r = length c.args.rows.now in
    let q = length c.args.sends.now in
    let e = read_step c.args.session s c.args.reading _ c.requires.0 c.step_by-stepped.ensures in
    let a = some_short _ _ (sym c.short_of.ensures ∙ c.in-Some.is) in
    let w = ap (λ (m : ℕ). did c.args.session (Some (Short m))) (ap (λ (x : Stepped). code_besides x.answer.code) (sym e) ∙ sym a.1) in
    let u = short-turn c.args.at r q c.args.session s (ap (λ (x : Stepped). code_number x.answer.code) (sym e) ∙ a.0) in
    let t = turns-nothing _ c.args.session _ c.start-undone.result c.args.rows.now c.args.sends.now (u ∙ w) c.start-undone.ensures in
    (t.answer, t.rows, t.sends)

pub returns-then-not-is_fitting : goal.returns-then-not-is_fitting
returns-then-not-is_fitting c =
    let s = c.args.s.now in
    let r = length c.args.rows.now in
    let q = length c.args.sends.now in
    let e = read_step c.args.session s c.args.reading _ c.requires.0 c.step_by-stepped.ensures in
    let l : code_number (step c.args.session s).answer.code ≡ 1 → ⊥ = λ o. none_short _ (sym c.short_of.ensures ∙ c.in_default.is) (ap (λ (x : Stepped). code_number x.answer.code) e ∙ o) in
    let g = ap (λ (x : Stepped). fits c.args.at r q x.answer) (sym e) ∙ sym c.is_fitting.ensures ∙ c.if-not-is_fitting.true in
    let u = full-turn c.args.at r q c.args.session s l (λ o. true≢false (sym (fits_by c.args.at r q _ o) ∙ g)) in
    let t = turns-nothing _ c.args.session _ c.start-undone.result c.args.rows.now c.args.sends.now u c.start-undone.ensures in
    (t.answer, t.rows, t.sends)

pub put_row-laid-requires : goal.put_row-laid-requires
put_row-laid-requires c =
    let s = c.args.s.now in
    let r = length c.args.rows.now in
    let q = length c.args.sends.now in
    let i = fits-true c.args.at r q c.step_by-stepped.result.answer (sym c.is_fitting.ensures ∙ c.if-not-is_fitting.false) in
    (omega (arith, i.rows, row_room c.args.at c.used_by-used.result c.args.at 0 c.step_by-stepped.result.answer.row), i.place, c.used_by-used.ensures.2)

pub put_sends-sent-requires : goal.put_sends-sent-requires
put_sends-sent-requires c =
    let s = c.args.s.now in
    let r = length c.args.rows.now in
    let q = length c.args.sends.now in
    let i = fits-true c.args.at r q c.step_by-stepped.result.answer (sym c.is_fitting.ensures ∙ c.if-not-is_fitting.false) in
    i.sends

pub returns : goal.returns
returns c =
    let s = c.args.s.now in
    let r = length c.args.rows.now in
    let q = length c.args.sends.now in
    let i = fits-true c.args.at r q c.step_by-stepped.result.answer (sym c.is_fitting.ensures ∙ c.if-not-is_fitting.false) in
    let e = read_step c.args.session s c.args.reading _ c.requires.0 c.step_by-stepped.ensures in
    let l : code_number (step c.args.session s).answer.code ≡ 1 → ⊥ = λ o. none_short _ (sym c.short_of.ensures ∙ c.in_default.is) (ap (λ (x : Stepped). code_number x.answer.code) e ∙ o) in
    let j = subst (λ (x : Stepped). Fits c.args.at r q x.answer) e i in
    let u = done-turn c.args.at r q c.args.session s l j ∙ ap (step_done c.args.at s) (sym e) in
    let t = turns-done _ c.args.at c.used_by-used.result _ _ s c.step_by-stepped.result _ _ _ _ _ _ u c.used_by-used.ensures.0 c.put_row-laid.ensures.0 c.put_row-laid.ensures.1 c.put_sends-sent.ensures.0 c.put_sends-sent.ensures.1 c.is_heard.ensures (c.next_of.ensures ∙ ap (λ (x : State). next_of x c.step_by-stepped.result.answer.code) c.state.ensures) in
    (t.answer, t.rows, t.sends)
