-- `capi::sessions::CSessionFromSession::from` meets its contract.
use Rattle.capi.proofs.sessions.CSessionFromSession.from.Goals as goal

pub returns : goal.returns
returns c =
    simp (
      c.repeats.ensures,
      c.ahead.ensures,
      c.own.ensures,
      c.expected.ensures,
      c.ours.ensures,
      c.number.ensures,
      c.state-state.ensures,
    )
