-- `line::line::is_any` meets its contract.
use mathlib.Core.Path.{◌≡◌, refl, ap, ◌∙◌}
use mathlib.Core.Bool.{true, not}
use Rattle.session.specs.declared.state.Send.{Send}
use Rattle.session.specs.declared.state.Send.TheVariants.{Nothing, Heartbeat, Logout, GapFill, ResendRequest}
use Rattle.session.specs.State.{told}
use Rattle.line.specs.Line.{is_any}
use Rattle.line.proofs.line.is_any.Goals as goal
use Rattle.line.proofs.line.is_any.Goals.{in-Nothing, in_default}

any : (x : Send) → (x ≡ Nothing → ⊥) → true ≡ is_any x
unfolding is_any told
any Nothing h = absurd (h refl)
any (Heartbeat n id) h = refl
any (Logout n) h = refl
any (GapFill n new) h = refl
any (ResendRequest n start end) h = refl

pub returns : goal.returns
unfolding is_any told
returns c = elim c.match-matches.branch [
  | in-Nothing w ↦ simp (w.matches-is, w.in-Nothing.is)
  | in_default w ↦ ap not w.matches-is ∙ any c.args.send w.in_default.not-Nothing
]
