-- `sheet::print::put_out` meets its contract: by what is sent.
use mathlib.Core.Path.{sym, ap, ◌∙◌}
use native.Mathlib.Omega.{arith}
use mathlib.Core.List.{[], ◌∷◌, ◌++◌}
use lib.ListN.{take}
use Rattle.wire.specs.Spelled.{spelled}
use Rattle.session.specs.declared.state.Send.{Send}
use Rattle.sheet.specs.Print.{send_name}
use Rattle.sheet.proofs.print.put_out.Goals as goal

pub returns-in-Nothing : goal.returns-in-Nothing
unfolding spelled send_name
returns-in-Nothing c =
    let a = c.args in
    let p = c.put in
    (omega (arith, p.ensures.0), p.ensures.1 ∙ ap (λ (x : Send). take a.at a.d.now ++ (spelled " out=" ++ (send_name x ++ 10 ∷ []))) (sym c.in-Nothing.is))

pub returns-in-Heartbeat : goal.returns-in-Heartbeat
unfolding spelled send_name
returns-in-Heartbeat c =
    let a = c.args in
    let p = c.put-in-Heartbeat in
    (omega (arith, p.ensures.0), p.ensures.1 ∙ ap (λ (x : Send). take a.at a.d.now ++ (spelled " out=" ++ (send_name x ++ 10 ∷ []))) (sym c.in-Heartbeat.is))

pub returns-in-Logout : goal.returns-in-Logout
unfolding spelled send_name
returns-in-Logout c =
    let a = c.args in
    let p = c.put-in-Logout in
    (omega (arith, p.ensures.0), p.ensures.1 ∙ ap (λ (x : Send). take a.at a.d.now ++ (spelled " out=" ++ (send_name x ++ 10 ∷ []))) (sym c.in-Logout.is))

pub returns-in-GapFill : goal.returns-in-GapFill
unfolding spelled send_name
returns-in-GapFill c =
    let a = c.args in
    let p = c.put-in-GapFill in
    (omega (arith, p.ensures.0), p.ensures.1 ∙ ap (λ (x : Send). take a.at a.d.now ++ (spelled " out=" ++ (send_name x ++ 10 ∷ []))) (sym c.in-GapFill.is))

pub returns-in-ResendRequest : goal.returns-in-ResendRequest
unfolding spelled send_name
returns-in-ResendRequest c =
    let a = c.args in
    let p = c.put-in-ResendRequest in
    (omega (arith, p.ensures.0), p.ensures.1 ∙ ap (λ (x : Send). take a.at a.d.now ++ (spelled " out=" ++ (send_name x ++ 10 ∷ []))) (sym c.in-ResendRequest.is))
