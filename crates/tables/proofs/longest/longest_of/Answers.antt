-- `tables::longest::longest_of` meets its contract: each arm is the list's length, and past its end stands 0. Assumes nothing.
use mathlib.Core.Path.{sym}
use Prim.Native.Nat.{◌≤◌}
use native.Mathlib.Omega.{arith}
use lib.ListN.{get_or-eq_default}
use Rattle.tables.specs.Longest.{longest_lengths, longest_length}
use Rattle.tables.proofs.longest.longest_of.Goals as goal

pub returns-in_default : goal.returns-in_default
unfolding longest_lengths longest_length
returns-in_default c =
    let k = c.args.messagetype in
    let r = c.in_default.in_default-own.rest in
    let low : 6 ≤ k = omega (arith, r.0.0.0.0.0.0.0.0.0.0.1, r.0.0.0.0.0.0.0.0.0.1, r.0.0.0.0.0.0.0.0.1, r.0.0.0.0.0.0.0.1, r.0.0.0.0.0.0.1, r.0.0.0.0.0.1) in
    let past : 11 ≤ k = omega (arith, r.0.0.0.0.1, r.0.0.0.1, r.0.0.1, r.0.1, r.1) in
    sym (get_or-eq_default longest_lengths 0 past)
