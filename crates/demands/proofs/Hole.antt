-- Document 02, item 3: what the request is for.
--
-- Supposed: M stands, and a copy was spoiled. Shown (`hole-answered`): the next message past the hole, ahead of E with PossDup 1, makes the session ask
-- again from E, M staying, if it has not done so twice, and stops it with 37 if it has; `Answers` says so, and when 34 and 22 come in its place.
--
-- Supposed: M stands, and of the bytes that are lent from then on three are past the hole, whatever the others are. Shown (`hole-ends`): E has moved or
-- the session is Down. So no session sits at the same number for good.
use Prim.Native.Nat.{ℕ, ◌+◌, ◌<◌, ◌≤◌}
use mathlib.Core.Path.{◌≡◌, refl, sym, ap, ap₂, ◌∙◌, subst}
use mathlib.Core.Bool.{Bool, true, false, true≢false}
use mathlib.Core.List.{List, [], ◌∷◌}
use mathlib.Core.Logic.{inr}
use native.Mathlib.Omega.{arith}
use lib.Dec.{eqb, leb, ltb}
use borrow.Author.Tests.{le-ltb, lt-ltb, eq-eqb, ne_eqb, leb-true, leb-false, eqb-true, eqb-false}
use Rattle.std.specs.Prelude.{Err}
use Rattle.wire.proofs.TestLaws.{either}
use Rattle.message.specs.declared.refusal.Refusal.{Refusal}
use Rattle.message.specs.Read.{read_of}
use Rattle.message.specs.Refusal.{number_of, bad_sum}
use Rattle.session.specs.declared.arrival.Content.{Content}
use Rattle.session.specs.declared.arrival.Content.TheVariants.{
  Heartbeat,
  TestRequest,
  ResendRequest,
  Reject,
  Reset,
  GapFill,
  Logon,
  Logout,
  Lookup,
  Business,
}
use Rattle.session.specs.declared.state.Halt.{Halt}
use Rattle.session.specs.declared.state.Halt.TheVariants.{StopResend, StopRepeats}
use Rattle.session.specs.declared.state.Send.{Send}
use Rattle.session.specs.declared.state.Send.TheVariants as send
use Rattle.session.specs.declared.state.Session.{Session}
use Rattle.session.specs.declared.state.State.TheVariants.{Down, Live}
use Rattle.session.specs.declared.state.Stepped.{Stepped}
use Rattle.session.specs.Course.{Ahead, Reached, on as follows, stepped, connected, dropped}
use Rattle.session.specs.Day.{step}
use Rattle.session.specs.Rules.{is_bad_range, fill_end, slots, request, again, ask, resend_ahead, higher, numbered, live}
use Rattle.session.specs.State.{last, most_repeats, send_none, told, leave, stop, spent}
use Rattle.session.proofs.Effect.{repeats-stay, Stands, gone, rises, same, step-effect}
use Rattle.session.proofs.SessionLaws.{expected-rises, all_sound, standing-live, down-nothing, spoiled-nothing}
use Rattle.demands.specs.Gateway.{Event, lends, drops, connects, after, after_all}
use Rattle.demands.specs.Hole as hole
use Rattle.demands.specs.Hole.{is_numbered, Past, asked_again, ByCount, third, unnumbered, Answers, bad, filled, alone, Many, none, other, past, GoneOn, down, on}
use Rattle.demands.specs.Run.{lend_all}
use Rattle.demands.proofs.Second.{live-step}

-- a gateway's Resend Request
abbrev is_request : Content → Bool
is_request Heartbeat = false
is_request (TestRequest id) = false
is_request (ResendRequest start end) = true
is_request Reject = false
is_request (Reset new) = false
is_request (GapFill new) = false
is_request (Logon next) = false
is_request Logout = false
is_request Lookup = false
is_request Business = false

module _ (s : Session) (m : 1 ≤ s.ahead) where
  again-counts : (fill : Send) → ByCount s fill (again s fill)
  unfolding again request
  again-counts fill =
      either (ByCount s fill) (leb most_repeats s.repeats) (λ t. third (leb-true most_repeats s.repeats t) refl)
      (λ t. let l = leb-false most_repeats s.repeats t in
      either (ByCount s fill) (eqb s.own last) (λ u. unnumbered l (eqb-true s.own last u) refl)
      (λ u. hole.again l (eqb-false s.own last u)
      (ap (λ (r : ℕ). slots (with-repeats r) fill (send.ResendRequest s.own s.expected 0))
      (repeats-stay s s.expected s.ahead (s.repeats + 1) refl m))))
    where
      with-repeats : ℕ → Session
      with-repeats r = record { state = Live; ours = s.ours; expected = s.expected; own = s.own + 1; ahead = s.ahead; repeats = r }

  ask-counts : (n : ℕ) (fill : Send) → ByCount s fill (ask s n true fill)
  unfolding ask
  ask-counts n fill = rw (ne_eqb s.ahead 0 (λ z. omega arith)) (again-counts fill)

  asks-alone : (n : ℕ) (c : Content) → is_request c ≡ false → Answers s c (ask s n true send.Nothing)
  asks-alone n c h = alone (λ start end e. true≢false (sym (ap is_request e) ∙ h)) (ask-counts n send.Nothing)

  higher-answers : (n : ℕ) (c : Content) → Answers s c (higher s n true c)
  unfolding higher resend_ahead
  higher-answers n Heartbeat = asks-alone n Heartbeat refl
  higher-answers n (TestRequest id) = asks-alone n (TestRequest id) refl
  higher-answers n (ResendRequest start end) =
      either (Answers s (ResendRequest start end)) (is_bad_range s.own start end) (λ t. bad start end refl t refl)
      (λ t. filled start end refl t (ask-counts n (send.GapFill start (fill_end s.own end))))
  higher-answers n Reject = asks-alone n Reject refl
  higher-answers n (Reset new) = asks-alone n (Reset new) refl
  higher-answers n (GapFill new) = asks-alone n (GapFill new) refl
  higher-answers n (Logon next) = asks-alone n (Logon next) refl
  higher-answers n Logout = asks-alone n Logout refl
  higher-answers n Lookup = asks-alone n Lookup refl
  higher-answers n Business = asks-alone n Business refl

  numbered-answers : (n : ℕ) (c : Content) → s.expected < n → Answers s c (numbered s n true c)
  unfolding numbered
  numbered-answers n c l = rw (le-ltb n s.expected (omega arith), lt-ltb s.expected n l) (higher-answers n c)

  live-answers : (n : ℕ) (c : Content) → s.expected < n → is_numbered c ≡ true → Answers s c (live s n true c)
  unfolding live is_numbered
  live-answers n Heartbeat l h = numbered-answers n Heartbeat l
  live-answers n (TestRequest id) l h = numbered-answers n (TestRequest id) l
  live-answers n (ResendRequest start end) l h = numbered-answers n (ResendRequest start end) l
  live-answers n Reject l h = numbered-answers n Reject l
  live-answers n (Reset new) l h = absurd (true≢false (sym h))
  live-answers n (GapFill new) l h = numbered-answers n (GapFill new) l
  live-answers n (Logon next) l h = absurd (true≢false (sym h))
  live-answers n Logout l h = absurd (true≢false (sym h))
  live-answers n Lookup l h = absurd (true≢false (sym h))
  live-answers n Business l h = numbered-answers n Business l

past-answered : (s : Session) (b : List ℕ) → Ahead s → 1 ≤ s.ahead → (p : Past s.ours s.expected b) → Answers s p.content (step s b)
past-answered s b h m p =
    let n = p.header.number in
    let e = live-step s b p.header p.length (standing-live s h m) p.read p.for-us in
    let q = ap₂ (λ (d : Bool) (c : Content). live s n d c) (eq-eqb p.header.possdup 1 p.possdup) p.told in
    subst (Answers s p.content) (sym (e ∙ q)) (live-answers s m n p.content p.ahead p.numbered)

-- with M standing and a copy spoiled, what the next message past the hole is answered
pub hole-answered : {s : Session} → Reached s → 1 ≤ s.ahead → (spoiled b : List ℕ) (r : Refusal) → read_of spoiled ≡ Err r → number_of r ≡ bad_sum
    → (p : Past s.ours s.expected b) → Answers s p.content (step (step s spoiled).session b)
hole-answered {s = s} g m spoiled b r e k p =
    let h = (all_sound g).ahead in
    let up : s.state ≡ Down → ⊥ = λ d. omega (arith, h.down d) in
    subst (λ (t : Session). Answers s p.content (step t b)) (sym (spoiled-nothing s spoiled r up e (inr k)).session) (past-answered s b h m p)

-- a session that has gone on stays so
gone-on : (e : ℕ) (bs : List (List ℕ)) (t : Session) → GoneOn e t → GoneOn e (after_all t (lend_all bs))
unfolding after_all after lend_all
gone-on e [] t g = g
gone-on e (b ∷ bs) t (down d) = gone-on e bs (step t b).session (down (ap (λ (x : Session). x.state) (down-nothing t b d).session ∙ d))
gone-on e (b ∷ bs) t (on l) = gone-on e bs (step t b).session (on (omega (arith, expected-rises {s = t} (stepped b))))

stop-down : (s : Session) (k : Halt) → (stop s k).session.state ≡ Down
unfolding stop leave
stop-down s k = either (λ (x : Stepped). x.session.state ≡ Down) (ltb s.own last) (λ t. refl) (λ t. refl)

spent-down : (s : Session) → (spent s).session.state ≡ Down
unfolding spent
spent-down s = refl

slots-session : (t : Session) (first second : Send) → (slots t first second).session ≡ t
unfolding slots
slots-session t first second = either (λ (x : Stepped). x.session ≡ t) (eqb (told first).kind send_none) (λ z. refl) (λ z. refl)

-- what a step makes of a session whose M stands: it has gone on, or all stands as it did, with at least r repeats
data Next (s t : Session) (r : ℕ) : Type 0 where
  over : GoneOn s.expected t → Next s t r
  still : t.ours ≡ s.ours → t.expected ≡ s.expected → Ahead t → 1 ≤ t.ahead → r ≤ t.repeats → Next s t r

module _ (s : Session) (b : List ℕ) (h : Ahead s) (m : 1 ≤ s.ahead) where
  -- whatever it is lent
  other-next : Next s (step s b).session s.repeats
  other-next = go ((step-effect s b).kept.stands h m)
    where
      go : Stands s (step s b).session → Next s (step s b).session s.repeats
      go (gone d) = over (down d)
      go (rises l) = over (on l)
      go (same e a r) = still (step-effect s b).kept.ours e ((step-effect s b).kept.ahead h) (omega arith) r

  stops : (r : Stepped) → r.session.state ≡ Down → step s b ≡ r → Next s (step s b).session (s.repeats + 1)
  stops r d e = over (down (ap (λ (x : Stepped). x.session.state) e ∙ d))

  -- and past the hole with one repeat more
  count_next : {fill : Send} → ByCount s fill (step s b) → Next s (step s b).session (s.repeats + 1)
  count_next (third l e) = stops (stop s StopRepeats) (stop-down s StopRepeats) e
  count_next (unnumbered l o e) = stops (spent s) (spent-down s) e
  count_next {fill = fill} (hole.again l o e) =
      let f = ap (λ (x : Stepped). x.session) e ∙ slots-session (asked_again s) fill (send.ResendRequest s.own s.expected 0) in
      still (step-effect s b).kept.ours (ap (λ (t : Session). t.expected) f) ((step-effect s b).kept.ahead h)
      (omega (arith, ap (λ (t : Session). t.ahead) f)) (omega (arith, ap (λ (t : Session). t.repeats) f))

  past_next : {c : Content} → Answers s c (step s b) → Next s (step s b).session (s.repeats + 1)
  past_next (bad start end e x q) = stops (stop s StopResend) (stop-down s StopResend) q
  past_next (filled start end e x n) = count_next n
  past_next (alone x n) = count_next n

next-ends : {s t : Session} {e r : ℕ} (bs : List (List ℕ)) → Next s t r → s.expected ≡ e
    → (t.ours ≡ s.ours → t.expected ≡ s.expected → Ahead t → 1 ≤ t.ahead → r ≤ t.repeats → GoneOn e (after_all t (lend_all bs)))
    → GoneOn e (after_all t (lend_all bs))
next-ends {t = t} {e = e} bs (over g) j f = gone-on e bs t (subst (λ (n : ℕ). GoneOn n t) j g)
next-ends bs (still o q h m r) j f = f o q h m r

-- M stands, and the repeats and what is still to come past the hole are three: then the session goes on
ends : {ours : List ℕ} {e k : ℕ} {bs : List (List ℕ)} → Many ours e k bs → (s : Session) → s.ours ≡ ours → s.expected ≡ e → Ahead s → 1 ≤ s.ahead
    → most_repeats + 1 ≤ k + s.repeats → GoneOn e (after_all s (lend_all bs))
unfolding after_all after lend_all
ends none s i j h m l = absurd (omega (arith, h.most))
ends (other {b = b} {bs = bs} w) s i j h m l =
    next-ends bs (other-next s b h m) j (λ o q a n r. ends w (step s b).session (o ∙ i) (q ∙ j) a n (omega arith))
ends {e = e} (past {b = b} {bs = bs} p w) s i j h m l =
    let q : Past s.ours s.expected b = rw (i, j) p in
    next-ends bs (past_next s b h m (past-answered s b h m q)) j (λ o q a n r. ends w (step s b).session (o ∙ i) (q ∙ j) a n (omega arith))

-- events lead from a session of a day to a session of a day
pub reached-all : {s : Session} (es : List Event) → Reached s → Reached (after_all s es)
unfolding after_all after
reached-all [] g = g
reached-all {s = s} (lends b ∷ es) g = reached-all {s = after s (lends b)} es (follows g (stepped b))
reached-all {s = s} (drops ∷ es) g = reached-all {s = after s drops} es (follows g dropped)
reached-all {s = s} (connects password ∷ es) g = reached-all {s = after s (connects password)} es (follows g (connected password))

-- three messages past the hole, whatever stands between them: E has moved or the session is Down
pub hole-ends : {s : Session} → Reached s → 1 ≤ s.ahead → (bs : List (List ℕ)) → Many s.ours s.expected (most_repeats + 1) bs
    → GoneOn s.expected (after_all s (lend_all bs))
hole-ends {s = s} g m bs w = ends w s refl refl (all_sound g).ahead m (omega arith)
