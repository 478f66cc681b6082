-- `message::read::read_whole` meets its contract: what the checks 5 to 10 say decides.
use Rattle.std.proofs.Common.{rules}
use mathlib.Core.Path.{◌≡◌, sym, subst}
use mathlib.Core.List.{List}
use Prim.Native.Nat.{ℕ}
use lib.Dec.{leb}
use lib.ListN.{length}
use Rattle.message.specs.Frame.{comp_id_in}
use Rattle.message.specs.Vet.{good_comp_id}
use Rattle.message.specs.Read.{read_whole, read_vetted}
use Rattle.message.proofs.SeenLaws.{seen-comp-id}
use Rattle.message.proofs.read.read_whole.Goals as goal

-- a Comp ID that was read is good unless it is empty
named : (s t : List ℕ) → t ≡ comp_id_in s → leb 1 (length t) ≡ good_comp_id t
named s t e = sym (subst (λ (x : List ℕ). good_comp_id x ≡ leb 1 (length x)) (sym e) (seen-comp-id s))

pub returns-in_err-vet_named : goal.returns-in_err-vet_named
unfolding read_whole read_vetted
returns-in_err-vet_named c =
    let v = c.vet_named.ensures _ (named _ _ c.comp_id_in.ensures) in
    search (rules, v)

pub returns : goal.returns
unfolding read_whole read_vetted
returns c =
    let v = c.vet_named.ensures _ (named _ _ c.comp_id_in.ensures) in
    search (rules, v)
