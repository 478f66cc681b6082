-- Document 02, item 12: gap fills that a session takes one after the other.
use Rattle.std.specs.Prelude.{ℕ, ◌≡◌, true, List}
use Rattle.message.specs.declared.frame.Header.{Header}
use Rattle.message.specs.Frame.{map_in, body_in}
use Rattle.message.specs.Read.{Good, read_of}
use Rattle.session.specs.declared.arrival.Content.TheVariants.{GapFill}
use Rattle.session.specs.Arrival.{content_of, is_ours}

-- bytes that are a well-formed gap fill with our Comp ID, number n and New, whatever its flags
pub record Fill (ours : List ℕ) (n new : ℕ) (b : List ℕ) : Type 0 where
  pub header : Header
  pub length : ℕ
  pub read : read_of b ≡ Good header length
  pub for-us : is_ours ours b ≡ true
  pub number : header.number ≡ n
  pub told : content_of header.messagetype (map_in b) (body_in length b) ≡ GapFill new
