-- Demand 3 in two further words, both ours: its two halves together, and what a business row says of the message that it hands up.
use Rattle.std.specs.Prelude.{ℕ, ◌≡◌, true, List, [], ◌∷◌, ◌++◌}
use Rattle.session.specs.declared.state.Session.{Session}
use Rattle.session.specs.declared.state.State.TheVariants.{Live}
use Rattle.demands.specs.Content.{Content, is_business}
use Rattle.demands.specs.Gateway.{below, Event, lends, handed, after_all, handed_all}
use Rattle.demands.specs.Run.{lend_all}

-- `before` was handed up already. After the events es and then the bytes bs, one after another, the session is live and expects f, and all that was
-- handed up is every business message of the list below f, once each and in order
pub record Whole (L before : List Content) (s : Session) (es : List Event) (bs : List (List ℕ)) (f : ℕ) : Type 0 where
  pub state : (after_all s (es ++ lend_all bs)).state ≡ Live
  pub expected : (after_all s (es ++ lend_all bs)).expected ≡ f
  pub handed : before ++ handed_all s (es ++ lend_all bs) ≡ below L f

-- a step on the bytes b hands up one message, a business message, and it bears the number n, which was expected
pub record HandsUp (s : Session) (b : List ℕ) (n : ℕ) : Type 0 where
  pub message : Content
  pub handed : handed s (lends b) ≡ message ∷ []
  pub business : is_business message ≡ true
  pub number : message.number ≡ n
  pub expected : n ≡ s.expected
