-- `fields::words::word_at` meets its contract: past the map's end there is nothing, and nothing is 0.
use mathlib.Core.Path.{sym, ap, ◌∙◌}
use mathlib.Core.List.{List}
use Prim.Native.Nat.{ℕ, ◌≤◌}
use native.Mathlib.Omega.{arith}
use lib.ListN.{length, take, drop_of_length-le}
use Rattle.wire.specs.Number.{number}
use Rattle.wire.proofs.TestLaws.{rest_of}
use Rattle.fields.proofs.words.word_at.Goals as goal

pub returns-then-map-k : goal.returns-then-map-k
unfolding number
returns-then-map-k c =
    let a = c.args in
    let h : length a.map.now ≤ a.k = omega arith in
    sym (ap (λ (t : List ℕ). number (take 8 t)) (drop_of_length-le a.map.now h))

pub returns : goal.returns
returns c =
    let a = c.args in
    c.read_eight.ensures ∙ ap (λ (t : List ℕ). number (take 8 t)) (rest_of a.map.now a.k)
