-- `session::arrival::content_in` meets its contract: a type above 8 is business.
use native.Mathlib.Omega.{arith}
use Rattle.session.proofs.TypeLaws.{above-eight}
use Rattle.session.proofs.arrival.content_in.Goals as goal

pub returns-then-messagetype-gt-LOOKUP_RESPONSE : goal.returns-then-messagetype-gt-LOOKUP_RESPONSE
returns-then-messagetype-gt-LOOKUP_RESPONSE c = above-eight _ _ _ (omega arith)

pub returns : goal.returns
returns c = simp (c.content_of.ensures, c.body_in.ensures, c.map_in.ensures)
