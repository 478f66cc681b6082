-- The plain recorder and the quick one agree after every list of lines (document 02, item 11): rule by rule, then line by line.
use Prim.Native.Nat.{ℕ, zero, suc, ◌+◌, ◌-◌, ◌<◌, ◌≤◌}
use mathlib.Core.Path.{◌≡◌, refl, sym, ap, subst, ◌∙◌}
use mathlib.Core.Bool.{Bool, true, false, cond, true≢false}
use mathlib.Core.List.{List, [], ◌∷◌, ◌++◌}
use native.Mathlib.Omega.{arith}
use lib.Dec.{eqb, ltb, leb}
use lib.ListN.{length}
use borrow.Author.Tests.{ltb-true, ltb-false, eqb-true, eqb-false, eq-eqb, ne_eqb, le-ltb, le-leb, lt-leb}
use Rattle.wire.specs.Spelled.{spelled}
use Rattle.wire.specs.Text.{is_character, all_characters, takes}
use Rattle.wire.proofs.TestLaws.{either}
use Rattle.tables.specs.Dictionary.{sort_of, width_of, entry}
use Rattle.message.specs.Vet.{good_comp_id}
use Rattle.session.specs.declared.arrival.Content.{Content}
use Rattle.session.specs.declared.arrival.Content.TheVariants as content
use Rattle.session.specs.declared.state.Fault.{Fault}
use Rattle.session.specs.declared.state.Fault.TheVariants as fault
use Rattle.session.specs.declared.state.Halt.{Halt}
use Rattle.session.specs.declared.state.Halt.TheVariants as halt
use Rattle.session.specs.declared.state.Row.{Row}
use Rattle.session.specs.declared.state.Row.TheVariants as row
use Rattle.session.specs.declared.state.Send.{Send}
use Rattle.session.specs.declared.state.Send.TheVariants as send
use Rattle.session.specs.declared.state.Session.{Session}
use Rattle.session.specs.declared.state.State.{State}
use Rattle.session.specs.declared.state.State.TheVariants as state
use Rattle.session.specs.declared.state.Stepped.{Stepped}
use Rattle.session.specs.Course.{Ahead}
use Rattle.session.specs.Day.{day, fresh, connect_in, connect}
use Rattle.session.specs.Rules as rules
use Rattle.session.specs.State.{last, most_repeats, told, repeats_at, ahead_at, answers, unmoved, leave, stop, spent, take}
use Rattle.session.proofs.Effect.{ruled-effect, repeats-stay, none_ahead}
use Rattle.sheet.specs.declared.line.Kind.{Kind}
use Rattle.sheet.specs.declared.line.Kind.TheVariants.{Logon, Business, GapFill, Reset}
use Rattle.sheet.specs.declared.line.Line.{Line}
use Rattle.sheet.specs.Print.{line_text, printed}
use Rattle.sheet.specs.Sheet.{begun, content_of, message_of}
use Rattle.std.specs.Prelude.{Some, Option, None}
use Rattle.plain.specs.declared.Day.{Day}
use Rattle.plain.specs.declared.Day.TheVariants.{Down, Waiting, Live}
use Rattle.plain.specs.declared.Told.{Told}
use Rattle.plain.specs.Arrivals.{most_arrivals, arrived}
use Rattle.plain.specs.Both.{steps_from, quick, session_of, Same, list_from, expected_in}
use Rattle.plain.specs.Plain as plain
use Rattle.plain.proofs.ListLaws.{has_room, from-length, list-holds}

abbrev is_waiting : Day → Bool
is_waiting (Down e o) = false
is_waiting (Waiting e o) = true
is_waiting (Live e o m r) = false

-- one line's two answers: they are the same, and it waits no more
record Goes (p : Told) (q : Stepped) : Type 0 where
  pub same : Same p q
  pub up : is_waiting p.day ≡ false

goes : {d : Day} {k : Option Fault} {m : Send} {w : Row} {s : Session} → is_waiting d ≡ false → s ≡ session_of d
    → Goes (plain.tells d m w) (answers s k m send.Nothing w)
goes u e = record { same = record { session = e; row = refl; first = refl; second = refl }; up = u }

-- on either way of the same test, and of two that come out opposite
module _ {p p' : Told} {q q' : Stepped} where
  ways : (b : Bool) → (b ≡ true → Goes p q) → (b ≡ false → Goes p' q') → Goes (cond b p p') (cond b q q')
  ways true f g = f refl
  ways false f g = g refl

  apart : (b c : Bool) → (b ≡ true → (c ≡ false) × Goes p q') → (b ≡ false → (c ≡ true) × Goes p' q) → Goes (cond b p p') (cond c q q')
  apart true true f g = absurd (true≢false (f refl).0)
  apart true false f g = (f refl).1
  apart false true f g = (g refl).1
  apart false false f g = absurd (true≢false (sym (g refl).0))

-- a session with daysheet's Comp ID, in any state
abbrev standing : State → ℕ → ℕ → ℕ → ℕ → Session
standing p e o m r = record { state = p; ours = begun.ours; expected = e; own = o; ahead = m; repeats = r }

module _ (p : State) (e o m r : ℕ) where
  stop_goes : (k : Halt) → Goes (plain.stop e o) (stop (standing p e o m r) k)
  unfolding plain.stop stop leave session_of repeats_at
  stop_goes k = ways (ltb o last) (λ t. goes refl refl) (λ t. goes refl refl)

  repeats-past : (new a : ℕ) → e < new → repeats_at (standing p e o m r) new a r ≡ 0
  unfolding repeats_at
  repeats-past new a l = either (λ (x : ℕ). x ≡ 0) (eqb a 0) (λ t. refl) (λ t. rw (ne_eqb new e (λ z. omega arith)) refl)

  -- a row that makes E rise: the count is 0, as the plain one says without looking
  makes-goes : (new : ℕ) (w : Row) → e < new → Goes (plain.makes o m new w) (take (standing p e o m r) new o send.Nothing w)
  unfolding plain.makes take ahead_at session_of
  makes-goes new w l = goes refl (ap (standing state.Live new o _) (repeats-past new _ l))

-- where E stays, the quick one works M and the count out again, and they are what they were
ahead-stays : (m e : ℕ) → (1 ≤ m → e ≤ m) → ahead_at m e ≡ m
unfolding ahead_at
ahead-stays zero e u = either (λ (x : ℕ). x ≡ 0) (ltb 0 e) (λ t. refl) (λ t. refl)
ahead-stays (suc m) e u = rw (le-ltb (suc m) e (u (omega arith)))

repeats-same : (s : Session) → Ahead s → repeats_at s s.expected s.ahead s.repeats ≡ s.repeats
unfolding repeats_at
repeats-same s a =
    either (λ (x : ℕ). x ≡ s.repeats) (eqb s.ahead 0) (λ t. sym (a.none (eqb-true s.ahead 0 t)))
    (λ t. rw (eq-eqb s.expected s.expected refl) refl)

-- 3 to 9
module _ (e o m r : ℕ) (a : Ahead (standing state.Live e o m r)) where
  abbrev s : Session
  s = standing state.Live e o m r

  stops : (k : Halt) → Goes (plain.stop e o) (stop s k)
  stops = stop_goes state.Live e o m r

  rises : (new : ℕ) (w : Row) → e < new → Goes (plain.makes o m new w) (take s new o send.Nothing w)
  rises = makes-goes state.Live e o m r

  stays : (new : ℕ) → new ≡ e → standing state.Live new o (ahead_at m new) (repeats_at s new (ahead_at m new) r) ≡ s
  stays new q = rw (q, ahead-stays m e a.up) (ap (standing state.Live e o m) (repeats-same s a))

  reset-goes : (new : ℕ) → Goes (plain.reset e o m r new) (rules.reset s new)
  unfolding plain.reset rules.reset take session_of
  reset-goes new =
      ways (ltb new e) (λ t. stops halt.StopNew)
      (λ t. ways (ltb e new) (λ u. rises new (row.Reset e (new - 1)) (ltb-true e new u))
      (λ u. goes refl (stays new (omega (arith, ltb-false new e t, ltb-false e new u)))))

  lower-goes : (dup : ℕ) → Goes (plain.lower e o m r dup) (rules.lower s (eqb dup 1))
  unfolding plain.lower rules.lower unmoved session_of
  lower-goes dup = ways (eqb dup 1) (λ t. goes refl refl) (λ t. stops halt.StopNumber)

  ask-goes : (n k : ℕ) → 1 ≤ n → Goes (plain.ask e o n k) (rules.request s n k send.Nothing)
  unfolding plain.ask rules.request rules.slots spent told session_of repeats_at
  ask-goes n k l =
      ways (eqb o last) (λ t. goes refl refl)
      (λ t. goes refl (ap (standing state.Live e (o + 1) n) (repeats-stay s e n k refl l)))

  higher-goes : (n dup : ℕ) → e < n → Goes (plain.higher e o m r n dup) (rules.ask s n (eqb dup 1) send.Nothing)
  unfolding plain.higher rules.ask rules.again session_of
  higher-goes n dup l =
      ways (eqb m 0) (λ t. ask-goes n 0 (omega arith))
      (λ t. ways (eqb dup 1)
      (λ u. apart (ltb r most_repeats) (leb most_repeats r)
      (λ v. (lt-leb most_repeats r (ltb-true r most_repeats v), ask-goes m (r + 1) (omega (arith, eqb-false m 0 t))))
      (λ v. (le-leb most_repeats r (ltb-false r most_repeats v), stops halt.StopRepeats)))
      (λ u. goes refl refl))

  numbered-goes : (n dup : ℕ) (c : Content) (equal : Told)
      → (e < n → Goes (plain.higher e o m r n dup) (rules.higher s n (eqb dup 1) c))
      → (n ≡ e → Goes equal (rules.equal s n c))
      → Goes (plain.numbered e o m r n dup equal) (rules.numbered s n (eqb dup 1) c)
  unfolding plain.numbered rules.numbered
  numbered-goes n dup c equal above due =
      ways (ltb n e) (λ t. lower-goes dup)
      (λ t. ways (ltb e n) (λ u. above (ltb-true e n u))
      (λ u. ways (eqb n last) (λ v. stops halt.StopLast)
      (λ v. due (omega (arith, ltb-false n e t, ltb-false e n u)))))

  live-goes : (k : Kind) (n dup new : ℕ) → Goes (plain.live e o m r k n dup new) (rules.live s n (eqb dup 1) (content_of k new))
  unfolding plain.live plain.gap_fill rules.live rules.higher rules.equal rules.gap_fill content_of
  live-goes Logon n dup new = stops halt.StopType
  live-goes Business n dup new =
      numbered-goes n dup content.Business (plain.makes o m (n + 1) (row.Business n)) (higher-goes n dup)
      (λ q. rises (n + 1) (row.Business n) (omega arith))
  live-goes GapFill n dup new =
      numbered-goes n dup (content.GapFill new) (plain.gap_fill e o m n new) (higher-goes n dup)
      (λ q. ways (ltb n new) (λ t. rises new (row.Filled n (new - 1)) (omega (arith, ltb-true n new t)))
      (λ t. stops halt.StopNew))
  live-goes Reset n dup new = reset-goes new

-- 2, while O is 2: Next Expected is neither 0 nor above O, and there is no gap to fill
module _ (e : ℕ) where
  waits-stop : (k : Halt) → Goes (plain.stop e 2) (stop (standing state.Waiting e 2 0 0) k)
  waits-stop = stop_goes state.Waiting e 2 0 0

  waiting-goes : (k : Kind) (n new : ℕ) → Goes (plain.waiting e 2 k n) (rules.waiting (standing state.Waiting e 2 0 0) n (content_of k new))
  unfolding plain.waiting plain.logon rules.waiting rules.logon rules.fill_to content_of session_of repeats_at
  waiting-goes Logon n new =
      ways (ltb n e) (λ t. waits-stop halt.StopNumber)
      (λ t. ways (ltb e n) (λ u. goes refl refl)
      (λ u. ways (eqb n last) (λ v. waits-stop halt.StopLast)
      (λ v. makes-goes state.Waiting e 2 0 0 (n + 1) (row.Session n) (omega (arith, ltb-false n e t)))))
  waiting-goes Business n new = waits-stop halt.StopType
  waiting-goes GapFill n new = waits-stop halt.StopType
  waiting-goes Reset n new = waits-stop halt.StopType

-- what holds of the day after any lines: M and the count are as they have to be, and O is 2 while it waits
record Fit (d : Day) : Type 0 where
  pub ahead : Ahead (session_of d)
  pub waits : is_waiting d ≡ true → (session_of d).own ≡ 2

line-goes : (d : Day) (l : Line) → Fit d → Goes (plain.ruled d l) (rules.ruled (session_of d) (message_of l))
unfolding plain.ruled rules.ruled rules.ruled_in rules.for_us session_of message_of unmoved
line-goes (Down e o) l f = goes refl refl
line-goes (Waiting e o) l f =
    subst (λ (x : ℕ). Goes (plain.waiting e x l.kind l.n) (rules.waiting (standing state.Waiting e x 0 0) l.n (content_of l.kind l.new)))
    (sym (f.waits refl)) (waiting-goes e l.kind l.n l.new)
line-goes (Live e o m r) l f = live-goes e o m r f.ahead l.kind l.n l.dup l.new

-- one line: the recorders agree, and the day after it is fit for the next
same_line : (d : Day) (l : Line) → Fit d → Same (plain.ruled d l) (rules.ruled (session_of d) (message_of l))
same_line d l f = (line-goes d l f).same

fit_line : (d : Day) (l : Line) → Fit d → Fit (plain.ruled d l).day
fit_line d l f =
    let g = line-goes d l f in
    let k = (ruled-effect (session_of d) (message_of l)).kept in
    record {
      ahead = subst Ahead g.same.session (k.ahead f.ahead);
      waits = λ w. absurd (true≢false (sym w ∙ g.up));
    }

-- from answers that agree, on a day that is fit
same_from : (t : Told) (u : Stepped) (ls : List Line) → Same t u → Fit t.day → Same (plain.follows t ls) (steps_from u ls)
unfolding plain.follows steps_from
same_from t u [] s f = s
same_from t u (l ∷ ls) s f =
    same_from (plain.ruled t.day l) (rules.ruled u.session (message_of l)) ls
    (subst (λ (x : Session). Same (plain.ruled t.day l) (rules.ruled x (message_of l))) (sym s.session) (same_line t.day l f))
    (fit_line t.day l f)

fit-begun : Fit (Waiting 1 2)
unfolding session_of
fit-begun = record { ahead = none_ahead (standing state.Waiting 1 2 0 0) refl refl; waits = λ w. refl }

same-begun : begun ≡ session_of (Waiting 1 2)
unfolding session_of begun connect connect_in fresh day good_comp_id spelled takes all_characters is_character width_of sort_of entry repeats_at
same-begun = refl

-- after every list of lines the two recorders agree
pub same : (ls : List Line) → Same (plain.worked_out ls) (quick ls)
unfolding plain.worked_out quick unmoved
same ls =
    same_from (plain.still (Waiting 1 2)) (unmoved begun None) ls (record { session = same-begun; row = refl; first = refl; second = refl }) fit-begun

-- so each arrival is answered as daysheet's session answers it, where the list has room
pub each_same : (list : List (List ℕ)) (ls : List Line) (l : Line) → length ls < most_arrivals → length ls < length list
    → (arrived (list_from list 0 ls) (length ls) l ≡ Some (length ls + 1, plain.worked_out (ls ++ l ∷ [])))
    × Same (plain.worked_out (ls ++ l ∷ [])) (quick (ls ++ l ∷ []))
unfolding arrived
each_same list ls l h r =
    let n = from-length list 0 ls in
    (rw (has_room (list_from list 0 ls) (length ls) h (omega arith), list-holds list ls (omega arith) (omega arith)), same (ls ++ l ∷ []))

expected-in : (d : Day) → (session_of d).expected ≡ expected_in d
unfolding session_of expected_in
expected-in (Down e o) = refl
expected-in (Waiting e o) = refl
expected-in (Live e o m r) = refl

-- and is printed as daysheet prints it
pub printed-same : {p : Told} {q : Stepped} → Same p q → line_text p.row (expected_in p.day) p.send ≡ printed q
unfolding printed
printed-same {p} {q} s = rw (s.row, s.first, s.session, expected-in p.day)
