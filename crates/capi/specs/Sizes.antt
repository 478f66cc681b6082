-- How long the recorder's own messages are (document 01, "The frame": the frame's bytes and the fields'), and the answer where one is good.
use Rattle.std.specs.Prelude.{ℕ, ◌+◌, cond, eqb, leb}
use Rattle.tables.specs.declared.dictionary.Field.TheVariants.{Password}
use Rattle.tables.specs.Dictionary.{sort_of, width_of}
use Rattle.tables.specs.Longest.{frame_bytes}
use Rattle.message.specs.declared.refusal.Refusal.TheVariants.{NoRoom}
use Rattle.message.specs.Refusal.{number_of}
use Rattle.session.specs.State.{send_none, send_heartbeat, send_logout, send_gap_fill}
use Rattle.capi.specs.declared.shape.CWritten.{CWritten}
use Rattle.capi.specs.Sessions.{send_test_request, send_bare_heartbeat}
use Rattle.capi.specs.Writing.{wrote}

-- a message to send, by its kind: an ID has 2 bytes, Gap Fill 1, and a number 4
unfoldable pub send_size : ℕ → ℕ
send_size kind =
    cond (eqb kind send_none) 0 (
    cond (eqb kind send_heartbeat) (frame_bytes + 2) (
    cond (eqb kind send_logout) frame_bytes (
    cond (eqb kind send_gap_fill) (frame_bytes + 1 + 4) (
    cond (eqb kind send_test_request) (frame_bytes + 2) (
    cond (eqb kind send_bare_heartbeat) frame_bytes (frame_bytes + 4 + 4))))))

-- Connect's Logon: a password and a number
abbrev pub logon_size : ℕ
logon_size = frame_bytes + width_of (sort_of Password) + 4

-- n bytes are laid down where the buffer has them, and else 11 says that they are needed
unfoldable pub by_room : ℕ → ℕ → CWritten
by_room n room = cond (leb n room) (wrote 0 0 n) (wrote (number_of (NoRoom n)) n 0)
