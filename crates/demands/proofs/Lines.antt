-- Demand 3 for a line with a clock, and gap fills that join (document 02, items 2 and 12).
--
-- The first half. Supposed: L is the list of messages that the gateway has published, and to the line there happens, at any times, what the first half
-- lets happen to a session, by single steps and by calls of many, and ticks. That is `AllFairLine L hs`. Shown: from a fresh line on, all that it has
-- handed up is, in order and once each, the business messages of L whose numbers are below E (`first-half-lines`); and the same from any line that has
-- handed up the business below its E (`first-half-lines-from`).
--
-- The second half. Supposed: the line is Live, and the messages bs are those of the second half, `Run l.session.ours l.session.expected bs f`.
-- They come in order, at any times: lent one at a time, or some of them back to back in a slice that one call is lent. Of such a call the same is
-- supposed as of a session's: the bytes of each message are that message and no more, the slice is no longer than the last number, the list of rows has
-- room for a row of each message and for one at least, and the list of messages to send for two. Among them come ticks of which none puts the line
-- Down. That is `Among l bs hs`. Shown (`second-half-lines`): they are taken whole. The line is Live afterwards and expects f, and has handed up each
-- business message of them, once and in order. Each single step is answered with code 0 and sends nothing, and each call sends nothing and ends where
-- the next message is waited for; what ticks send is not spoken of. That is `TakenLine l bs hs f`.
--
-- Gap fills. Supposed: the line is Live and expects a; a is below b, and b below c. Shown (`fills-join-lines`): bytes that are a gap fill from a to b, and
-- then bytes that are one from b to c, leave the same line as bytes that are one from a to c, where all come at the same time.
use Prim.Native.Nat.{ℕ, ◌+◌, ◌-◌, ◌<◌, ◌≤◌}
use mathlib.Core.Path.{◌≡◌, refl, sym, ap, ap₂, ◌∙◌}
use mathlib.Core.Bool.{false, ◌||◌}
use mathlib.Core.List.{List, [], ◌∷◌, ◌++◌, append-nil, append_assoc}
use native.Mathlib.Omega.{arith}
use lib.Dec.{eqb}
use Rattle.wire.proofs.TestLaws.{either}
use Rattle.session.specs.declared.state.Row.TheVariants as row
use Rattle.session.specs.declared.state.Send.TheVariants as send
use Rattle.session.specs.declared.state.Session.{Session}
use Rattle.session.specs.declared.state.State.TheVariants.{Live}
use Rattle.session.specs.declared.state.Stepped.{Stepped}
use Rattle.session.specs.Course.{stepped}
use Rattle.session.specs.Day.{fresh}
use Rattle.session.specs.State.{code_number, told, take}
use Rattle.session.proofs.SessionLaws.{ours-stays}
use Rattle.calls.specs.Steps.{is_heard, called, report_of, steps}
use Rattle.calls.proofs.CallLaws.{call-keeps}
use Rattle.line.specs.declared.line.Line.{Line}
use Rattle.line.specs.declared.line.LineMade.{LineMade}
use Rattle.line.specs.Course.{Happening, lends, many, ticks, after_line, after_lines}
use Rattle.line.specs.Line.{
  is_interval,
  not_a_line,
  line_of,
  fresh_line,
  later,
  is_live,
  goes_on,
  wait_since,
  moved_line,
  connect_line,
  drop_line,
  is_any,
  step_line,
  steps_line,
}
use Rattle.line.proofs.TickLaws.{later-again, tick-expected, tick-ours}
use Rattle.demands.specs.Calls.{fair-many, after_call, handed_call, slice}
use Rattle.demands.specs.Content.{Content, said}
use Rattle.demands.specs.Fill.{Fill}
use Rattle.demands.specs.Gateway.{business_of, below, dropped, connected, after, handed, after_all, handed_all}
use Rattle.demands.specs.Lines.{
  FairLine,
  fair-connect,
  fair-drop,
  fair-step,
  fair-call,
  fair-tick,
  AllFairLine,
  none as no-happenings,
  more as more-happenings,
  handed_line,
  handed_lines,
  Among,
  none,
  message,
  call,
  tick as ticked,
  QuietLine,
  none as no-answers,
  quiet_step,
  quiet-call,
  any-tick,
  TakenLine,
}
use Rattle.demands.specs.Run.{Run, done, business, heartbeat, gap_fill, lend_all, said_all, Quiet, more, Taken}
use Rattle.demands.proofs.FairStep.{Goes, goes-still, event-goes}
use Rattle.demands.proofs.Fills.{take_twice, fill-taken}
use Rattle.demands.proofs.First.{fresh-expected, below-first}
use Rattle.demands.proofs.FirstCalls.{call-goes}
use Rattle.demands.proofs.Listed.{business-append}
use Rattle.demands.proofs.Second.{second-half}
use Rattle.demands.proofs.SecondCalls.{second-half-calls}

-- ---- the first half

-- a happening does to the session what an event or a call does, and a tick leaves E
line-goes : (L : List Content) (l : Line) {h : Happening} → 1 ≤ l.session.expected → FairLine L h
    → Goes L l.session (after_line l h).session (handed_line l h)
unfolding after_line handed_line connect_line drop_line step_line steps_line moved_line steps report_of after handed after_call handed_call
line-goes L l c fair-connect = event-goes L l.session c connected
line-goes L l c fair-drop = event-goes L l.session c dropped
line-goes L l c (fair-step f) = event-goes L l.session c f
line-goes L l c (fair-call {r = r} {q = q} f) = call-goes L l.session c (fair-many {r = r} {q = q} f)
line-goes L l c (fair-tick {t = t}) = goes-still L l.session (after_line l (ticks t)).session c (tick-expected l t)

pub first-half-lines-from : (L : List Content) (l : Line) (hs : List Happening) → 1 ≤ l.session.expected → AllFairLine L hs
    → below L l.session.expected ++ handed_lines l hs ≡ below L (after_lines l hs).session.expected
unfolding after_lines handed_lines
first-half-lines-from L l [] c no-happenings = append-nil (below L l.session.expected)
first-half-lines-from L l (h ∷ hs) c (more-happenings f fs) =
    let g : Goes L l.session (after_line l h).session (handed_line l h) = line-goes L l c f in
    sym (append_assoc (below L l.session.expected) (handed_line l h) (handed_lines (after_line l h) hs))
    ∙ rw g.handed (first-half-lines-from L (after_line l h) hs g.counted fs)

-- E is 1 on a fresh line, also where it was refused
fresh-line-expected : (comp_id : List ℕ) (interval : ℕ) → (fresh_line comp_id interval).line.session.expected ≡ 1
unfolding fresh_line line_of not_a_line
fresh-line-expected comp_id interval =
    let P : LineMade → Type 0 = λ m. m.line.session.expected ≡ 1 in
    either P (eqb (code_number (fresh comp_id).code) 0)
    (λ u. either P (is_interval interval) (λ v. fresh-expected comp_id) (λ v. fresh-expected [])) (λ u. fresh-expected [])

pub first-half-lines : (L : List Content) (comp_id : List ℕ) (interval : ℕ) (hs : List Happening) → AllFairLine L hs
    → handed_lines (fresh_line comp_id interval).line hs ≡ below L (after_lines (fresh_line comp_id interval).line hs).session.expected
first-half-lines L comp_id interval hs f =
    let l : Line = (fresh_line comp_id interval).line in
    let e : l.session.expected ≡ 1 = fresh-line-expected comp_id interval in
    let z : below L l.session.expected ≡ [] = rw e (below-first L) in
    rw z at (first-half-lines-from L l hs (omega arith) f)

-- ---- the second half

-- a run over two lists, one after the other, is a run over the first up to a number, and one over the second from there
record Parted (ours : List ℕ) (e : ℕ) (cs bs : List (List ℕ)) (f : ℕ) : Type 0 where
  at : ℕ
  first : Run ours e cs at
  others : Run ours at bs f

part-run : {ours : List ℕ} {e f : ℕ} (cs : List (List ℕ)) {bs : List (List ℕ)} → Run ours e (cs ++ bs) f → Parted ours e cs bs f
part-run {e = e} [] u = record { at = e; first = done; others = u }
part-run {e = e} (b ∷ cs) (business r o d l c u) =
    let x = part-run {e = e + 1} cs u in record { at = x.at; first = business r o d l c x.first; others = x.others }
part-run {e = e} (b ∷ cs) (heartbeat r o d l c u) =
    let x = part-run {e = e + 1} cs u in record { at = x.at; first = heartbeat r o d l c x.first; others = x.others }
part-run (b ∷ cs) (gap_fill {new = new} r o d l c a u) =
    let x = part-run {e = new} cs u in record { at = x.at; first = gap_fill r o d l c a x.first; others = x.others }

run_end : {ours : List ℕ} {e f : ℕ} → Run ours e [] f → e ≡ f
run_end done = refl

-- one message taken hands up what it has of business, and is quiet
one-handed : (l : Line) (t : ℕ) (b : List ℕ) (g : ℕ) → Taken l.session (b ∷ []) g → handed_line l (lends t b) ≡ business_of (said b)
unfolding handed_line step_line handed_all handed lend_all said_all
one-handed l t b g x = sym (append-nil (handed_line l (lends t b))) ∙ x.handed ∙ ap business_of (append-nil (said b))

one-quiet : (l : Line) (t : ℕ) (b : List ℕ) (hs : List Happening) → Quiet l.session (b ∷ []) → QuietLine (after_line l (lends t b)) hs
    → QuietLine l (lends t b ∷ hs)
unfolding step_line
one-quiet l t b hs (more c x y u) i = quiet_step {l = l} {t = t} {b = b} c x y i

-- two lists, one after the other, have the business of the first and then that of the second
said-append : (cs bs : List (List ℕ)) → said_all (cs ++ bs) ≡ said_all cs ++ said_all bs
unfolding said_all
said-append [] bs = refl
said-append (b ∷ cs) bs = ap (λ (x : List Content). said b ++ x) (said-append cs bs) ∙ sym (append_assoc (said b) (said_all cs) (said_all bs))

business-both : (cs bs : List (List ℕ)) → business_of (said_all cs) ++ business_of (said_all bs) ≡ business_of (said_all (cs ++ bs))
business-both cs bs = sym (ap business_of (said-append cs bs) ∙ business-append (said_all cs) (said_all bs))

-- a call leaves our Comp ID
call-ours : (s : Session) (b : List ℕ) (r q : ℕ) → (called s b r q).session.ours ≡ s.ours
call-ours s b r q = call-keeps (λ (x : Session). x.ours ≡ s.ours) (λ x c h. ours-stays {s = x} (stepped c) ∙ h) s b r q refl

pub second-half-lines : (l : Line) (bs : List (List ℕ)) (hs : List Happening) (f : ℕ) → l.session.state ≡ Live
    → Run l.session.ours l.session.expected bs f → Among l bs hs → TakenLine l bs hs f
unfolding after_lines handed_lines said_all business_of after_line after_all step_line steps_line steps report_of lend_all moved_line after handed_line
second-half-lines l _ _ f p run none = record { state = p; expected = run_end run; handed = refl; quiet = no-answers }
second-half-lines l _ _ f p run (message {t = t} {b = b} {bs = bs} {hs = hs} a) =
    let x = part-run (b ∷ []) run in
    let y = second-half l.session (b ∷ []) x.at p x.first in
    let i = second-half-lines (after_line l (lends t b)) bs hs f y.state (rw (ours-stays {s = l.session} (stepped b), y.expected) x.others) a in
    record {
      state = i.state;
      expected = i.expected;
      handed = rw (one-handed l t b x.at y, i.handed) (sym (business-append (said b) (said_all bs)));
      quiet = one-quiet l t b hs y.quiet i.quiet;
    }
second-half-lines l _ _ f p run (call {t = t} {r = r} {q = q} {cs = cs} {bs = bs} {hs = hs} w n rows h g a) =
    let x = part-run cs run in
    let y = second-half-calls l.session cs r q x.at p x.first w n rows h g in
    let k = after_line l (many t (slice cs) r q) in
    let i = second-half-lines k bs hs f y.state (rw (call-ours l.session (slice cs) r q, y.expected) x.others) a in
    record {
      state = i.state;
      expected = i.expected;
      handed = ap₂ ◌++◌ y.handed i.handed ∙ business-both cs bs;
      quiet = quiet-call {l = l} {t = t} y.quiet y.ended i.quiet;
    }
second-half-lines l bs _ f p run (ticked {t = t} {hs = hs} q a) =
    let i = second-half-lines (after_line l (ticks t)) bs hs f q (rw (tick-ours l t, tick-expected l t) run) a in
    record { state = i.state; expected = i.expected; handed = i.handed; quiet = any-tick i.quiet }

-- ---- gap fills that join

-- the line that has heard at time n and sent nothing, with this session
abbrev heard_line : Line → ℕ → Session → Line
heard_line l n s = record { session = s; interval = l.interval; now = n; sent = l.sent; heard = n; tested = false }

-- a gap fill that is due and leads forward is heard, and sends nothing
fill-line : (l : Line) (t n new : ℕ) (b : List ℕ) → l.session.state ≡ Live → Fill l.session.ours n new b → n ≡ l.session.expected → n < new
    → (step_line l t b).line
    ≡ heard_line l (later l.now t) (take l.session new l.session.own send.Nothing (row.Filled n (new - 1))).session
unfolding step_line moved_line goes_on wait_since is_live is_any is_heard code_number told take
fill-line l t n new b p f e h =
    ap (λ (x : Stepped). moved_line l t x.session (is_heard x.answer.code) (is_any x.answer.first || is_any x.answer.second))
    (fill-taken l.session n new b p f e h)
    ∙ simp p

pub fills-join-lines : (l : Line) (t a b c : ℕ) (one two both : List ℕ) → l.session.state ≡ Live → a ≡ l.session.expected → a < b → b < c
    → Fill l.session.ours a b one → Fill l.session.ours b c two → Fill l.session.ours a c both
    → (step_line (step_line l t one).line t two).line ≡ (step_line l t both).line
unfolding take
fills-join-lines l t a b c one two both p e h k f g w =
    let s = l.session in
    let n = later l.now t in
    let x = (take s b s.own send.Nothing (row.Filled a (b - 1))).session in
    let m = heard_line l n x in
    ap (λ (z : Line). (step_line z t two).line) (fill-line l t a b one p f e h)
    ∙ fill-line m t b c two refl g refl k
    ∙ ap₂ (heard_line l) (later-again l.now t)
    (take_twice s b c (row.Filled a (b - 1)) (row.Filled b (c - 1)) (row.Filled a (c - 1)) (omega arith) (omega arith))
    ∙ sym (fill-line l t a c both p w e (omega arith))
