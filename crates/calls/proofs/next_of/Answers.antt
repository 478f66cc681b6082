-- `calls::next_of` meets its contract: state by state.
use mathlib.Core.Path.{sym, ap}
use mathlib.Core.Logic.{⊎_elim}
use Rattle.session.specs.declared.state.State.{State}
use Rattle.calls.specs.Steps.{next_of}
use Rattle.calls.proofs.next_of.Goals as goal

pub returns-in-Down : goal.returns-in-Down
unfolding next_of
returns-in-Down c = ap (λ (x : State). next_of x c.args.code) (sym c.in-Down.is)

pub returns-in-Waiting : goal.returns-in-Waiting
unfolding next_of
returns-in-Waiting c =
    ⊎_elim (λ e. ap (λ (x : State). next_of x c.args.code) (sym e)) (λ e. ap (λ (x : State). next_of x c.args.code) (sym e)) c.in-Waiting.is
