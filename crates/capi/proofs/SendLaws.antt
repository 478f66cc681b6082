-- Laws of the messages to send that a step can give, as C has them.
use Prim.Native.Nat.{◌≤◌}
use mathlib.Core.Path.{◌≡◌}
use mathlib.Core.Bool.{true, ◌&&◌}
use lib.Dec.{eqb, leb}
use borrow.Author.Tests.{leb-true}
use Rattle.wire.proofs.TestLaws.{and-true}
use Rattle.capi.specs.declared.shape.CSend.{CSend}
use Rattle.capi.specs.Sessions.{is_our_number, is_send}

-- a Heartbeat's ID has two bytes
pub id-within : (x : CSend) → is_send x ≡ true → x.kind ≡ 1 → x.first ≤ 65535
unfolding is_send
id-within x h k =
    let p : (is_our_number x.number && leb x.first 65535) && eqb x.second 0 ≡ true = rw k at h in
    leb-true x.first 65535 (and-true (is_our_number x.number) (leb x.first 65535) (and-true _ (eqb x.second 0) p).0).1
