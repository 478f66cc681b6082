-- Demand 3 where messages come by calls of many (document 02, item 1): it speaks of the steps done.
use Rattle.std.specs.Prelude.{ℕ, ◌≡◌, length, take, drop}
use mathlib.Core.List.{List, [], ◌∷◌, ◌++◌, foldr}
use Rattle.message.specs.Frame.{front_length}
use Rattle.session.specs.declared.state.Session.{Session}
use Rattle.session.specs.declared.state.State.TheVariants.{Live}
use Rattle.calls.specs.declared.Ended.TheVariants.{Short}
use Rattle.calls.specs.Steps.{Placed, called}
use Rattle.demands.specs.Content.{Content}
use Rattle.demands.specs.Gateway.{business_of, Event, lends, Fair, after, handed_by, handed}
use Rattle.demands.specs.Run.{said_all}

-- what a call of many messages hands up: the messages of its rows, each as it stands at its place in the slice
unfoldable pub handed_rows : List ℕ → List Placed → List Content
handed_rows bytes = foldr (λ (w : Placed) (rest : List Content). handed_by w.row (take w.size (drop w.at bytes)) ++ rest) []

-- what can happen: an event as before, or a call of many messages with lists of so many numbers
pub data Call : Type 0 where
  event : Event → Call
  many : List ℕ → ℕ → ℕ → Call

-- a slice is fair if what a step finds behind each message is, up to what is no whole message
pub data FairSlice (L : List Content) : List ℕ → Type 0 where
  rest : {b : List ℕ} → front_length b ≡ 0 → FairSlice L b
  message : {b : List ℕ} → Fair L (lends b) → FairSlice L (drop (front_length b) b) → FairSlice L b

pub data FairCall (L : List Content) : Call → Type 0 where
  fair-event : {e : Event} → Fair L e → FairCall L (event e)
  fair-many : {b : List ℕ} {r q : ℕ} → FairSlice L b → FairCall L (many b r q)

pub data AllFairCalls (L : List Content) : List Call → Type 0 where
  none : AllFairCalls L []
  more : {c : Call} {cs : List Call} → FairCall L c → AllFairCalls L cs → AllFairCalls L (c ∷ cs)

-- the session after a call, and what it hands up
unfoldable pub after_call : Session → Call → Session
after_call s (event e) = after s e
after_call s (many b r q) = (called s b r q).session

unfoldable pub handed_call : Session → Call → List Content
handed_call s (event e) = handed s e
handed_call s (many b r q) = handed_rows b (called s b r q).rows

unfoldable pub after_calls : Session → List Call → Session
after_calls s [] = s
after_calls s (c ∷ cs) = after_calls (after_call s c) cs

unfoldable pub handed_calls : Session → List Call → List Content
handed_calls s [] = []
handed_calls s (c ∷ cs) = handed_call s c ++ handed_calls (after_call s c) cs

-- the second half: bytes that are one message each, and the slice that has them back to back
pub data Whole : List (List ℕ) → Type 0 where
  none : Whole []
  more : {b : List ℕ} {bs : List (List ℕ)} → front_length b ≡ length b → Whole bs → Whole (b ∷ bs)

unfoldable pub slice : List (List ℕ) → List ℕ
slice = foldr ◌++◌ []

-- one call takes them whole: every byte is used, the session is live, expects f and has its own number as before; the rows' messages are the business
-- messages of the bytes, in order; nothing is sent; and the next message is waited for
pub record TakenAtOnce (s : Session) (bs : List (List ℕ)) (r q f : ℕ) : Type 0 where
  pub used : (called s (slice bs) r q).used ≡ length (slice bs)
  pub state : (called s (slice bs) r q).session.state ≡ Live
  pub expected : (called s (slice bs) r q).session.expected ≡ f
  pub own : (called s (slice bs) r q).session.own ≡ s.own
  pub handed : handed_rows (slice bs) (called s (slice bs) r q).rows ≡ business_of (said_all bs)
  pub quiet : (called s (slice bs) r q).sends ≡ []
  pub ended : (called s (slice bs) r q).after ≡ Short 3
