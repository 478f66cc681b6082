-- What the laws of a line speak of (document 02, item 2); `proofs/` has the laws, and `demands` those of demand 3.
use Rattle.std.specs.Prelude.{ℕ, zero, suc, ◌+◌, ◌*◌, ◌<◌, ◌≤◌, true, false, ◌≡◌, List, [], ◌∷◌, ◌++◌, ◌⊎◌, drop, Some, None}
use Rattle.message.specs.Frame.{front_length}
use Rattle.session.specs.declared.state.Fault.TheVariants.{Halted}
use Rattle.session.specs.declared.state.Halt.TheVariants.{NoNumber}
use Rattle.session.specs.declared.state.Session.{Session}
use Rattle.session.specs.declared.state.State.TheVariants.{Down, Live}
use Rattle.session.specs.Day as day
use Rattle.session.specs.State.{last}
use Rattle.line.specs.declared.line.Line.{Line}
use Rattle.line.specs.declared.tick.Act.TheVariants as act
use Rattle.line.specs.declared.tick.Own.{Own}
use Rattle.line.specs.declared.tick.Own.TheVariants as own
use Rattle.line.specs.declared.tick.Ticked.{Ticked}
use Rattle.line.specs.Line.{is_interval, fresh_line, saved_line, later, is_live, moved_line, connect_line, drop_line, step_line, steps_line}
use Rattle.line.specs.Tick.{to_test_request, to_down, wait, timed, tested_line, says, id_of, tick, most_time}

-- what can happen to a line, each at a time: Connect with a password, the line drops, a step is lent bytes, a call of many messages with lists of so
-- many numbers, a tick
pub data Happening : Type 0 where
  connects : ℕ → List ℕ → Happening
  drops : ℕ → Happening
  lends : ℕ → List ℕ → Happening
  many : ℕ → List ℕ → ℕ → ℕ → Happening
  ticks : ℕ → Happening

-- the line afterwards, and after all of them
unfoldable pub after_line : Line → Happening → Line
after_line l (connects t password) = (connect_line l t password).line
after_line l (drops t) = drop_line l t
after_line l (lends t b) = (step_line l t b).line
after_line l (many t b r q) = (steps_line l t b r q).line
after_line l (ticks t) = (tick l t).line

unfoldable pub after_lines : Line → List Happening → Line
after_lines l [] = l
after_lines l (h ∷ hs) = after_lines (after_line l h) hs

-- so many single steps at one time, each on what the one before it left
unfoldable pub singles_line : ℕ → Line → ℕ → List ℕ → Line
singles_line zero l t b = l
singles_line (suc k) l t b = singles_line k (step_line l t b).line t (drop (front_length b) b)

-- the lines of a day that began fresh, or from an E and O of 32 bits
pub data ReachedLine : Line → Type 0 where
  begun : (comp_id : List ℕ) (interval : ℕ) → ReachedLine (fresh_line comp_id interval).line
  resumed : (comp_id : List ℕ) (interval : ℕ) {e o : ℕ} → e ≤ last → o ≤ last → ReachedLine (saved_line comp_id e o interval).line
  on : {l : Line} → ReachedLine l → (h : Happening) → ReachedLine (after_line l h)

-- the interval is in the range; it has neither sent nor heard after the latest time; and there is no wait unless it is Live
pub record Stands (l : Line) : Type 0 where
  pub interval : is_interval l.interval ≡ true
  pub sent : l.sent ≤ l.now
  pub heard : l.heard ≤ l.now
  pub rests : is_live l.session.state ≡ false → (l.sent ≡ 0) × (l.heard ≡ 0) × (l.tested ≡ false)

-- a tick at this time does nothing: it takes the time, and nothing else changes or is said
abbrev pub Rests : Line → ℕ → Type 0
Rests l t = tick l t ≡ says (timed l t) None None

-- of a Live line: none of the three is due at the time n
pub record NothingDue (l : Line) (n : ℕ) : Type 0 where
  pub down : n < l.heard + to_down * wait l
  pub test : l.tested ≡ false → n < l.heard + to_test_request * wait l
  pub beat : n < l.sent + wait l

-- the line after a message with a number of ours
abbrev pub sent_line : Own → Line → ℕ → Line
sent_line x l t = tested_line x (moved_line l t (day.own_number l.session).session false true)

-- all that a tick can answer, one of five, and what each comes of: nothing is due; Down; a Test Request; a Heartbeat; or a message is due and there is
-- no number for it
pub data Acted (l : Line) (t : ℕ) : Ticked → Type 0 where
  nothing : (l.session.state ≡ Live → NothingDue l (later l.now t)) → Acted l t (says (timed l t) None None)
  down : l.session.state ≡ Live → l.heard + to_down * wait l ≤ later l.now t → Acted l t (says (drop_line l t) None (Some act.Down))
  test-request : l.session.state ≡ Live → later l.now t < l.heard + to_down * wait l → l.heard + to_test_request * wait l ≤ later l.now t
      → l.tested ≡ false → (l.session.own ≡ last → ⊥)
      → Acted l t (says (sent_line own.TestRequest l t) None (Some (act.TestRequest l.session.own (id_of l.session.own))))
  heartbeat : l.session.state ≡ Live → later l.now t < l.heard + to_down * wait l
      → (l.tested ≡ false → later l.now t < l.heard + to_test_request * wait l) → l.sent + wait l ≤ later l.now t → (l.session.own ≡ last → ⊥)
      → Acted l t (says (sent_line own.Heartbeat l t) None (Some (act.Heartbeat l.session.own)))
  no_number : l.session.state ≡ Live → later l.now t < l.heard + to_down * wait l
      → ((l.tested ≡ false) × (l.heard + to_test_request * wait l ≤ later l.now t)) ⊎ (l.sent + wait l ≤ later l.now t) → l.session.own ≡ last
      → Acted l t (says (drop_line l t) (Some (Halted NoNumber)) None)

-- a session after a tick: as it was, dropped, or with a number of ours used
pub data Turns (s : Session) : Session → Type 0 where
  same : Turns s s
  by-drop : Turns s (day.drop s)
  by_number : Turns s (day.own_number s).session

-- m is the earliest time, not before the latest given, at which a tick does something; it has 64 bits where that latest has
pub record NextAt (l : Line) (m : ℕ) : Type 0 where
  pub now : l.now ≤ m
  pub most : l.now ≤ most_time → m ≤ most_time
  pub before : (t : ℕ) → later l.now t < m → Rests l t
  pub acts : Rests l m → ⊥

-- what happens on a silent line from the time n of a tick on: a tick no later than an interval w after the one before, the last of them at the time m; or
-- anything by which the line hears nothing, or after which it is not Live
pub data Silent (w : ℕ) : Line → ℕ → List Happening → ℕ → Type 0 where
  none : {l : Line} {n : ℕ} → Silent w l n [] n
  a-tick : {l : Line} {n m t : ℕ} {hs : List Happening} → later l.now t ≤ n + w → Silent w (after_line l (ticks t)) (later l.now t) hs m
      → Silent w l n (ticks t ∷ hs) m
  other : {l : Line} {n m : ℕ} {h : Happening} {hs : List Happening} → ((after_line l h).session.state ≡ Live → (after_line l h).heard ≡ l.heard)
      → Silent w (after_line l h) n hs m → Silent w l n (h ∷ hs) m

-- some first ones of these leave the line Down, at a time no later than m
pub record DownBy (l : Line) (hs : List Happening) (m : ℕ) : Type 0 where
  pub first : List Happening
  pub others : List Happening
  pub both : hs ≡ first ++ others
  pub down : (after_lines l first).session.state ≡ Down
  pub within : (after_lines l first).now ≤ m

-- what happens to a line that always hears before three intervals have passed: where a tick finds it Live, they have not passed since it last heard
pub data InTime (l : Line) : Happening → Type 0 where
  at-connect : {t : ℕ} {password : List ℕ} → InTime l (connects t password)
  at_drop : {t : ℕ} → InTime l (drops t)
  at-step : {t : ℕ} {b : List ℕ} → InTime l (lends t b)
  at_call : {t r q : ℕ} {b : List ℕ} → InTime l (many t b r q)
  at_tick : {t : ℕ} → (l.session.state ≡ Live → later l.now t < l.heard + to_down * wait l) → InTime l (ticks t)

-- a silence puts it Down
pub data PutsDown (l : Line) : Happening → Type 0 where
  by-tick : {t : ℕ} → (tick l t).act ≡ Some act.Down → PutsDown l (ticks t)

-- all of them are so, each by the line that those before it leave
pub data All (P : Line → Happening → Type 0) : Line → List Happening → Type 0 where
  none : {l : Line} → All P l []
  more : {l : Line} {h : Happening} {hs : List Happening} → P l h → All P (after_line l h) hs → All P l (h ∷ hs)
