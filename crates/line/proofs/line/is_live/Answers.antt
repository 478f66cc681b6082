-- `line::line::is_live` meets its contract.
use mathlib.Core.Path.{◌≡◌, refl}
use mathlib.Core.Bool.{false}
use Rattle.session.specs.declared.state.State.{State}
use Rattle.session.specs.declared.state.State.TheVariants.{Down, Waiting, Live}
use Rattle.line.specs.Line.{is_live}
use Rattle.line.proofs.line.is_live.Goals as goal

not-live : (p : State) → (p ≡ Live → ⊥) → false ≡ is_live p
unfolding is_live
not-live Down h = refl
not-live Waiting h = refl
not-live Live h = absurd (h refl)

pub returns-in-Live : goal.returns-in-Live
unfolding is_live
returns-in-Live c = simp c.in-Live.is

pub returns-in_default : goal.returns-in_default
returns-in_default c = not-live c.args.state c.in_default.not-Live
