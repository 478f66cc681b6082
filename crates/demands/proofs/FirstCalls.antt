-- Demand 3, the first half, where messages come by calls of many.
--
-- Supposed: L is the list of messages that the gateway has published. In any order and however often: the events of the first half, and calls of many
-- messages, each with any room in its lists and a slice in which all that a step can find at the front is as the first half supposes it. That is
-- `AllFairCalls L cs`, for the list of calls cs.
--
-- Shown: from a fresh day on, all that the session has handed up, by single steps and by the rows of calls, is, in order and once each, the business
-- messages of L whose numbers are below E. And the same from any session that has handed up the business below its E.
use Prim.Native.Nat.{ℕ, ◌≤◌}
use mathlib.Core.Path.{◌≡◌, sym, ◌∙◌}
use mathlib.Core.List.{List, [], ◌∷◌, ◌++◌, append-nil, append_assoc}
use native.Mathlib.Omega.{arith}
use Rattle.session.specs.declared.state.Session.{Session}
use Rattle.session.specs.Day.{fresh}
use Rattle.demands.specs.Content.{Content}
use Rattle.demands.specs.Gateway.{below, Event, AllFair, none, more, after, after_all}
use Rattle.demands.specs.Run.{lend_all}
use Rattle.demands.specs.Calls.{
  Call,
  FairCall,
  fair-event,
  fair-many,
  AllFairCalls,
  none as no-calls,
  more as more-calls,
  after_call,
  handed_call,
  after_calls,
  handed_calls,
}
use Rattle.demands.proofs.FairStep.{Goes, event-goes}
use Rattle.demands.proofs.First.{first-half-from, fresh-expected, below-first}
use Rattle.demands.proofs.Unfolding.{call-lent}

-- E stays at least 1
counted-all : (L : List Content) (s : Session) (es : List Event) → 1 ≤ s.expected → AllFair L es → 1 ≤ (after_all s es).expected
unfolding after_all
counted-all L s [] l none = l
counted-all L s (e ∷ es) l (more f fs) = counted-all L (after s e) es (event-goes L s l f).counted fs

-- one call: its steps are lent bytes
pub call-goes : (L : List Content) (s : Session) {c : Call} → 1 ≤ s.expected → FairCall L c → Goes L s (after_call s c) (handed_call s c)
unfolding after_call handed_call
call-goes L s l (fair-event f) = event-goes L s l f
call-goes L s l (fair-many {b = b} {r = r} {q = q} f) =
    let u = call-lent s b r q in
    let es = lend_all u.bytes in
    record {
      counted = rw (← u.session) (counted-all L s es l (u.fair L f));
      handed = rw (← u.session, ← u.handed) (first-half-from L s es l (u.fair L f));
    }

pub first-half-calls-from : (L : List Content) (s : Session) (cs : List Call) → 1 ≤ s.expected → AllFairCalls L cs
    → below L s.expected ++ handed_calls s cs ≡ below L (after_calls s cs).expected
unfolding after_calls handed_calls
first-half-calls-from L s [] l no-calls = append-nil (below L s.expected)
first-half-calls-from L s (c ∷ cs) l (more-calls f fs) =
    let g : Goes L s (after_call s c) (handed_call s c) = call-goes L s l f in
    sym (append_assoc (below L s.expected) (handed_call s c) (handed_calls (after_call s c) cs))
    ∙ rw g.handed (first-half-calls-from L (after_call s c) cs g.counted fs)

pub first-half-calls : (L : List Content) (comp_id : List ℕ) (cs : List Call) → AllFairCalls L cs
    → handed_calls (fresh comp_id).session cs ≡ below L (after_calls (fresh comp_id).session cs).expected
first-half-calls L comp_id cs f =
    let s : Session = (fresh comp_id).session in
    let e : s.expected ≡ 1 = fresh-expected comp_id in
    let z : below L s.expected ≡ [] = rw e (below-first L) in
    rw z at (first-half-calls-from L s cs (omega arith) f)
