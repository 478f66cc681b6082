-- What the laws of the session speak of (document 01, "The session"); `proofs/SessionLaws.antt` has the laws, and `capi/proofs/UpLaws.antt` that of
-- `Standing`. E is `expected`, M is `ahead`.
use Rattle.std.specs.Prelude.{ℕ, ◌+◌, ◌≤◌, ◌≡◌, cond, List, eqb, Option}
use Rattle.session.specs.declared.state.Fault.{Fault}
use Rattle.session.specs.declared.state.Row.{Row}
use Rattle.session.specs.declared.state.Row.TheVariants as row
use Rattle.session.specs.declared.state.Send.TheVariants as send
use Rattle.session.specs.declared.state.Session.{Session}
use Rattle.session.specs.declared.state.State.TheVariants.{Down, Waiting}
use Rattle.session.specs.declared.state.Stepped.{Stepped}
use Rattle.session.specs.Day.{fresh, saved, connect, drop, own_number, step}
use Rattle.session.specs.State.{last, most_repeats, least_asked, row_none, sort_number, last_of}

-- E after a row: one past its last number, which of a filled or reset row is New - 1; without a row it stays
unfoldable pub expected_by : ℕ → Row → ℕ
expected_by e r = cond (eqb (sort_number r) row_none) e (last_of r + 1)

-- t can follow s: after a step on some bytes, after Connect with some password, after Drop, after a number was used that no arrival asked for
pub data Follows (s : Session) : Session → Type 0 where
  stepped : (b : List ℕ) → Follows s (step s b).session
  connected : (password : List ℕ) → Follows s (connect s password).session
  dropped : Follows s (drop s)
  numbered : Follows s (own_number s).session

-- the sessions of a day that began fresh, or from an E and O of 32 bits
pub data Reached : Session → Type 0 where
  begun : (comp_id : List ℕ) → Reached (fresh comp_id).session
  resumed : (comp_id : List ℕ) {e o : ℕ} → e ≤ last → o ≤ last → Reached (saved comp_id e o).session
  on : {s t : Session} → Reached s → Follows s t → Reached t

-- M is 0 whenever the state is Down or Waiting, and otherwise 0 or at least E; there is no repeat where M is 0, and there are at most two
pub record Ahead (s : Session) : Type 0 where
  pub down : s.state ≡ Down → s.ahead ≡ 0
  pub waiting : s.state ≡ Waiting → s.ahead ≡ 0
  pub up : 1 ≤ s.ahead → s.expected ≤ s.ahead
  pub none : s.ahead ≡ 0 → s.repeats ≡ 0
  pub most : s.repeats ≤ most_repeats

-- E and O are numbers of 32 bits, counted from 1
pub record Sound (s : Session) : Type 0 where
  pub expected : (1 ≤ s.expected) × (s.expected ≤ last)
  pub own : (1 ≤ s.own) × (s.own ≤ last)
  pub ahead : Ahead s

-- E and O are counted from 1; where the session is not Down, Connect's Logon has used up our number 1; and where it has asked for a message, that was
-- above an E of at least 1, and the Resend Request and each repeat have used up a number more
pub record Standing (s : Session) : Type 0 where
  pub expected : 1 ≤ s.expected
  pub own : 1 ≤ s.own
  pub ahead : Ahead s
  pub up : (s.state ≡ Down → ⊥) → 2 ≤ s.own
  pub asked : 1 ≤ s.ahead → (2 ≤ s.ahead) × (s.repeats + least_asked ≤ s.own)

-- the session is as it was, nothing is sent, there is no row: the code is all
pub record Untouched (s : Session) (k : Option Fault) (r : Stepped) : Type 0 where
  pub session : r.session ≡ s
  pub code : r.answer.code ≡ k
  pub first : r.answer.first ≡ send.Nothing
  pub second : r.answer.second ≡ send.Nothing
  pub row : r.answer.row ≡ row.Nothing
