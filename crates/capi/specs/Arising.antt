-- That a message to send arises: some session, as C has it, and some message of 32-bit numbers, on which the rules give it; or some line, as C has it,
-- and some time of 64 bits, at which a tick gives it.
use Rattle.std.specs.Prelude.{ℕ, ◌≤◌, ◌≡◌, true}
use Rattle.session.specs.declared.arrival.Message.{Message}
use Rattle.session.specs.Rules.{ruled}
use Rattle.session.specs.State.{last}
use Rattle.line.specs.Tick.{most_time}
use Rattle.capi.specs.declared.shape.CLine.{CLine}
use Rattle.capi.specs.declared.shape.CSend.{CSend}
use Rattle.capi.specs.declared.shape.CSession.{CSession}
use Rattle.capi.specs.Lines.{is_line, tick_c}
use Rattle.capi.specs.Sessions.{session_in, is_session, shown_send}

pub record Arises (x : CSend) : Type 0 where
  pub session : CSession
  pub message : Message
  pub passes : is_session session ≡ true
  pub expected : session.expected ≤ last
  pub own : session.own ≤ last
  pub number : message.number ≤ last
  pub given : x ≡ shown_send (ruled (session_in session) message).answer.first

pub record ArisesByTick (x : CSend) : Type 0 where
  pub line : CLine
  pub time : ℕ
  pub passes : is_line line ≡ true
  pub own : line.session.own ≤ last
  pub within : time ≤ most_time
  pub given : x ≡ (tick_c line time).send
