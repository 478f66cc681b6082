-- `session::held::is_all_zero` meets its contract.
use mathlib.Core.Path.{◌≡◌, refl}
use Rattle.std.proofs.Common.{rules}
use Rattle.std.specs.List.{All}
use Rattle.std.specs.Prelude.{IsTrue, ◌↔◌}
use Rattle.session.proofs.CaseLaws.{all_zeros}
use Rattle.session.proofs.held.is_all_zero.Goals as goal

pub returns : goal.returns
returns c =
    let h : IsTrue c.all.result ↔ All (λ b. b ≡ 0) c.args.s.now = search rules in
    all_zeros _ _ _ refl h
