-- Document 02, item 3: a hole in the answer. M stands, the copy at E was spoiled, and the gateway's answer goes on past it.
use Rattle.std.specs.Prelude.{ℕ, ◌+◌, ◌<◌, ◌≤◌, ◌≡◌, Bool, true, false, List, [], ◌∷◌}
use Rattle.message.specs.declared.frame.Header.{Header}
use Rattle.message.specs.Frame.{map_in, body_in}
use Rattle.message.specs.Read.{Good, read_of}
use Rattle.session.specs.declared.arrival.Content.{Content}
use Rattle.session.specs.declared.arrival.Content.TheVariants.{
  Heartbeat,
  TestRequest,
  ResendRequest,
  Reject,
  Reset,
  GapFill,
  Logon,
  Logout,
  Lookup,
  Business,
}
use Rattle.session.specs.declared.state.Halt.TheVariants.{StopResend, StopRepeats}
use Rattle.session.specs.declared.state.Send.{Send}
use Rattle.session.specs.declared.state.Send.TheVariants as send
use Rattle.session.specs.declared.state.Session.{Session}
use Rattle.session.specs.declared.state.State.TheVariants.{Down, Live}
use Rattle.session.specs.declared.state.Stepped.{Stepped}
use Rattle.session.specs.Arrival.{content_of, is_ours}
use Rattle.session.specs.Rules.{is_bad_range, fill_end, slots}
use Rattle.session.specs.State.{last, most_repeats, stop, spent}

-- the contents that rule 7 speaks of: rules 3, 4 and 5 come before it
unfoldable pub is_numbered : Content → Bool
is_numbered Heartbeat = true
is_numbered (TestRequest id) = true
is_numbered (ResendRequest start end) = true
is_numbered Reject = true
is_numbered (Reset new) = false
is_numbered (GapFill new) = true
is_numbered (Logon next) = false
is_numbered Logout = false
is_numbered Lookup = false
is_numbered Business = true

-- bytes that are a message of ours past the hole at e: ahead of e, with PossDup 1
pub record Past (ours : List ℕ) (e : ℕ) (b : List ℕ) : Type 0 where
  pub header : Header
  pub length : ℕ
  pub read : read_of b ≡ Good header length
  pub for-us : is_ours ours b ≡ true
  pub possdup : header.possdup ≡ 1
  pub ahead : e < header.number
  pub content : Content
  pub told : content_of header.messagetype (map_in b) (body_in length b) ≡ content
  pub numbered : is_numbered content ≡ true

-- the session that has asked again: a number of ours is used up, M stays, and there is one repeat more
abbrev pub asked_again : Session → Session
asked_again s = record { state = Live; ours = s.ours; expected = s.expected; own = s.own + 1; ahead = s.ahead; repeats = s.repeats + 1 }

-- it asks from E to 0 (all) with number O, in the first free slot after `fill`, twice; and then it stops with 37. 22 comes after that, where a repeat is
-- due and no number of ours is left
pub data ByCount (s : Session) (fill : Send) (r : Stepped) : Type 0 where
  again : s.repeats < most_repeats → (s.own ≡ last → ⊥) → r ≡ slots (asked_again s) fill (send.ResendRequest s.own s.expected 0) → ByCount s fill r
  third : most_repeats ≤ s.repeats → r ≡ stop s StopRepeats → ByCount s fill r
  unnumbered : s.repeats < most_repeats → s.own ≡ last → r ≡ spent s → ByCount s fill r

-- what a session answers to a content past the hole: before all of this a gateway's Resend Request is answered, and a bad one is Stop(34)
pub data Answers (s : Session) (c : Content) (r : Stepped) : Type 0 where
  bad : (start end : ℕ) → c ≡ ResendRequest start end → is_bad_range s.own start end ≡ true → r ≡ stop s StopResend → Answers s c r
  filled : (start end : ℕ) → c ≡ ResendRequest start end → is_bad_range s.own start end ≡ false
      → ByCount s (send.GapFill start (fill_end s.own end)) r → Answers s c r
  alone : ((start end : ℕ) → c ≡ ResendRequest start end → ⊥) → ByCount s send.Nothing r → Answers s c r

-- so many of the bytes are past the hole at e, whatever the others are
pub data Many (ours : List ℕ) (e : ℕ) : ℕ → List (List ℕ) → Type 0 where
  none : Many ours e 0 []
  other : {k : ℕ} {b : List ℕ} {bs : List (List ℕ)} → Many ours e k bs → Many ours e k (b ∷ bs)
  past : {k : ℕ} {b : List ℕ} {bs : List (List ℕ)} → Past ours e b → Many ours e k bs → Many ours e (k + 1) (b ∷ bs)

-- the session is Down, or its E has passed e
pub data GoneOn (e : ℕ) (t : Session) : Type 0 where
  down : t.state ≡ Down → GoneOn e t
  on : e < t.expected → GoneOn e t
