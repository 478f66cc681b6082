-- Demand 3 for lines with a clock (document 02, item 2): ticks may come anywhere, and a timeout is a dropped line.
use Rattle.std.specs.Prelude.{ℕ, ◌*◌, ◌≤◌, ◌≡◌, List, [], ◌∷◌, ◌++◌, length, None}
use Rattle.session.specs.declared.state.Send.TheVariants.{Nothing}
use Rattle.session.specs.declared.state.State.TheVariants.{Live}
use Rattle.session.specs.State.{last}
use Rattle.calls.specs.declared.Ended.TheVariants.{Short}
use Rattle.calls.specs.Steps.{a_row, a_send, called}
use Rattle.line.specs.declared.line.Line.{Line}
use Rattle.line.specs.Line.{step_line}
use Rattle.line.specs.Course.{Happening, connects, drops, lends, many, ticks, after_line, after_lines}
use Rattle.demands.specs.Calls.{handed_rows, FairSlice, Whole, slice}
use Rattle.demands.specs.Content.{Content}
use Rattle.demands.specs.Gateway.{business_of, Fair, handed_by}
use Rattle.demands.specs.Gateway as gateway
use Rattle.demands.specs.Run.{said_all}

-- what demand 3 lets happen to a line: what it lets happen to a session, at any time, and ticks at any time
pub data FairLine (L : List Content) : Happening → Type 0 where
  fair-connect : {t : ℕ} {password : List ℕ} → FairLine L (connects t password)
  fair-drop : {t : ℕ} → FairLine L (drops t)
  fair-step : {t : ℕ} {b : List ℕ} → Fair L (gateway.lends b) → FairLine L (lends t b)
  fair-call : {t r q : ℕ} {b : List ℕ} → FairSlice L b → FairLine L (many t b r q)
  fair-tick : {t : ℕ} → FairLine L (ticks t)

pub data AllFairLine (L : List Content) : List Happening → Type 0 where
  none : AllFairLine L []
  more : {h : Happening} {hs : List Happening} → FairLine L h → AllFairLine L hs → AllFairLine L (h ∷ hs)

-- what it hands up
unfoldable pub handed_line : Line → Happening → List Content
handed_line l (connects t password) = []
handed_line l (drops t) = []
handed_line l (lends t b) = handed_by (step_line l t b).answer.row b
handed_line l (many t b r q) = handed_rows b (called l.session b r q).rows
handed_line l (ticks t) = []

unfoldable pub handed_lines : Line → List Happening → List Content
handed_lines l [] = []
handed_lines l (h ∷ hs) = handed_line l h ++ handed_lines (after_line l h) hs

-- the second half: the messages bs, in order, each at some time, by single steps and by calls of many, which have the room that one call needs for
-- its messages; and ticks among them of which none puts the line Down
pub data Among : Line → List (List ℕ) → List Happening → Type 0 where
  none : {l : Line} → Among l [] []
  message : {l : Line} {t : ℕ} {b : List ℕ} {bs : List (List ℕ)} {hs : List Happening} → Among (after_line l (lends t b)) bs hs
      → Among l (b ∷ bs) (lends t b ∷ hs)
  call : {l : Line} {t r q : ℕ} {cs bs : List (List ℕ)} {hs : List Happening} → Whole cs → length (slice cs) ≤ last → a_row * length cs ≤ r → a_row ≤ r
      → 2 * a_send ≤ q → Among (after_line l (many t (slice cs) r q)) bs hs → Among l (cs ++ bs) (many t (slice cs) r q ∷ hs)
  tick : {l : Line} {t : ℕ} {bs : List (List ℕ)} {hs : List Happening} → (after_line l (ticks t)).session.state ≡ Live
      → Among (after_line l (ticks t)) bs hs → Among l bs (ticks t ∷ hs)

-- each step is answered with code 0 and sends nothing; each call of many sends nothing and ends where the next message is waited for; of a tick
-- nothing is said. Each by the line that those before it leave
pub data QuietLine : Line → List Happening → Type 0 where
  none : {l : Line} → QuietLine l []
  quiet_step : {l : Line} {t : ℕ} {b : List ℕ} {hs : List Happening} → (step_line l t b).answer.code ≡ None → (step_line l t b).answer.first ≡ Nothing
      → (step_line l t b).answer.second ≡ Nothing → QuietLine (after_line l (lends t b)) hs → QuietLine l (lends t b ∷ hs)
  quiet-call : {l : Line} {t r q : ℕ} {b : List ℕ} {hs : List Happening} → (called l.session b r q).sends ≡ []
      → (called l.session b r q).after ≡ Short 3 → QuietLine (after_line l (many t b r q)) hs → QuietLine l (many t b r q ∷ hs)
  any-tick : {l : Line} {t : ℕ} {hs : List Happening} → QuietLine (after_line l (ticks t)) hs → QuietLine l (ticks t ∷ hs)

-- they are taken whole: the line is Live and expects f; their business messages were handed up, in order; and no answer but a tick's sends anything
pub record TakenLine (l : Line) (bs : List (List ℕ)) (hs : List Happening) (f : ℕ) : Type 0 where
  pub state : (after_lines l hs).session.state ≡ Live
  pub expected : (after_lines l hs).session.expected ≡ f
  pub handed : handed_lines l hs ≡ business_of (said_all bs)
  pub quiet : QuietLine l hs
