-- Document 02, item 14: both ends meet.
--
-- Supposed: the session is Live, and expects a number E of the gateway's list; the list's numbers are all below the last number. Its M, its O and its count
-- of repeats are what they may be. It is lent the parts of the bench's plan from E to the end, each as bytes of a true message with our Comp ID and
-- PossDup 1, nothing lost and nothing between: `Sent s.ours L (resend L s.expected) bs`.
--
-- Shown (`both_ends`): `Met L s bs`. E is one past the list, M is 0 if it stood within the list and as it was otherwise, no repeat is counted, and all else of
-- the session is as before; exactly the list's business messages from E on were handed up, in order; nothing was sent, and each answer has code 0.
use Prim.Native.Nat.{ℕ, zero, suc, ◌+◌, ◌-◌, ◌≤◌, ◌<◌}
use mathlib.Core.Path.{◌≡◌, refl, sym, ap, ap₂, subst, ◌∙◌}
use mathlib.Core.Bool.{Bool, true, false, cond}
use mathlib.Core.List.{List, [], ◌∷◌, map}
use native.Mathlib.Omega.{arith}
use native.Mathlib.Nat.{add-zero}
use lib.Dec.{eqb, leb, ltb}
use lib.ListN.{length, get_or, drop, length-map}
use lib.Seq.{take-length, get_or-drop, drop-drop}
use borrow.Author.Tests.{lt-ltb, le-ltb, eqb-true, eqb-false, leb-true, leb-false}
use Rattle.tables.specs.Types.{lookup_response_type, business_message_reject_type, execution_report_type}
use Rattle.message.specs.declared.frame.Header.{Header}
use Rattle.message.specs.Frame.{map_in, body_in}
use Rattle.message.specs.Read.{Good, read_of}
use Rattle.plan.specs.Plan.{Part, business, gap_fill, session, parts_from, last_number, parts_of}
use Rattle.plan.proofs.PlanShape.{Follows, none as end, one, fill as fills, fill-then, follows-up, parts-follow}
use Rattle.session.specs.declared.arrival.Content.TheVariants.{Business}
use Rattle.session.specs.declared.state.Row.TheVariants as row
use Rattle.session.specs.declared.state.Send.TheVariants as send
use Rattle.session.specs.declared.state.Session.{Session}
use Rattle.session.specs.declared.state.State.TheVariants.{Live}
use Rattle.session.specs.declared.state.Stepped.{Stepped}
use Rattle.session.specs.Arrival.{content_of}
use Rattle.session.specs.State.{last, ahead_at, take}
use Rattle.session.proofs.TypeLaws.{above-eight}
use Rattle.demands.specs.Content.{Content, content_in, said, is_business}
use Rattle.demands.specs.Gateway.{Published, business_of, after, after_all}
use Rattle.demands.specs.Run.{Run, done, business as runs, gap_fill as jumps, lend_all, said_all}
use Rattle.demands.specs.Fill.{Fill}
use Rattle.demands.specs.Meet.{marks_of, resend, Sent, none, copy, fill, Met}
use Rattle.demands.proofs.Arrivals.{said-good, fill-no-business}
use Rattle.demands.proofs.Second.{Takes, end as end-takes, next, live-takes, second-half}
use Rattle.demands.proofs.Fills.{moved_none, take_twice}

-- ---- the parts of a plan, sent, are a run

-- a business message is of a type above the others
type-of-business : (m : Content) → is_business m ≡ true → lookup_response_type < m.messagetype
unfolding is_business
type-of-business m q = go (eqb m.messagetype business_message_reject_type) refl q
  where
    go : (t : Bool) → eqb m.messagetype business_message_reject_type ≡ t → cond t true (eqb m.messagetype execution_report_type) ≡ true
        → lookup_response_type < m.messagetype
    go true e r = omega (arith, eqb-true m.messagetype business_message_reject_type e)
    go false e r = omega (arith, eqb-true m.messagetype execution_report_type r)

-- bytes that are a true copy of a listed business message: the session finds business in them, with that number
copy_is : (b : List ℕ) (h : Header) (k : ℕ) (m : Content) → read_of b ≡ Good h k → said b ≡ m ∷ [] → content_in b h k ≡ m
copy_is b h k m r q = let z : content_in b h k ∷ [] ≡ m ∷ [] = sym (said-good b h k r) ∙ q in cc

copy-business : (b : List ℕ) (h : Header) (k : ℕ) (m : Content) → content_in b h k ≡ m → is_business m ≡ true → content_of h.messagetype (map_in b) (body_in k b) ≡ Business
unfolding content_in
copy-business b h k m e q =
    let l : lookup_response_type < h.messagetype = omega (arith, type-of-business m q, ap (λ (c : Content). c.messagetype) e) in
    sym (above-eight h.messagetype (map_in b) (body_in k b) l)

copy-number : (b : List ℕ) (h : Header) (k n : ℕ) (L : List Content) (m : Content) → content_in b h k ≡ m → Published L n m → h.number ≡ n
unfolding content_in
copy-number b h k n L m e p = ap (λ (c : Content). c.number) e ∙ p.numbered

-- the parts of a plan follow one another, so what is sent is a run
sent-runs : {ours : List ℕ} {L : List Content} {n f : ℕ} {ps : List Part} {bs : List (List ℕ)} → Follows n f ps → Sent ours L ps bs → f ≤ last → Run ours n bs f
sent-runs end none h = done
sent-runs {L = L} {n = n} (one g) (copy {k = k} {h = x} {m = m} {b = b} r o d q p t w) h =
    let e = copy_is b x k m r q in
    runs r o (copy-number b x k n L m e p) (omega (arith, follows-up g)) (copy-business b x k m e t) (sent-runs g w h)
sent-runs (one g) (fill i u d w) h = absurd (omega arith)
sent-runs (fills l) (fill i u d none) h = jumps u.read u.for-us u.number (omega arith) u.told l done
sent-runs (fills l) (copy r o d q p t w) h = absurd (omega arith)
sent-runs {L = L} (fill-then {g = g} l v) (fill i u d (copy {k = k} {h = x} {m = m} {b = b} r o e q p t w)) h =
    let z = copy_is b x k m r q in
    jumps u.read u.for-us u.number (omega (arith, follows-up v)) u.told l
    (runs r o (copy-number b x k g L m z p) (omega (arith, follows-up v)) (copy-business b x k m z t) (sent-runs v w h))
sent-runs (fill-then l v) (fill i u d (fill j y e w)) h = absurd (omega arith)
sent-runs (fill-then l v) (copy r o d q p t w) h = absurd (omega arith)

-- ---- what they hand up is the list's

-- the business messages that parts stand for: a part adds its message to those of the rest, or nothing
data Adds (L : List Content) (p : Part) (ns : List Content) : List Content → Type 0 where
  copied : {m : Content} → p.new ≡ 0 → Published L p.first m → Adds L p ns (m ∷ ns)
  filled : (p.new ≡ 0 → ⊥) → Adds L p ns ns

data StandFor (L : List Content) : List Part → List Content → Type 0 where
  no_part : StandFor L [] []
  part : {p : Part} {ps : List Part} {ns ms : List Content} → Adds L p ns ms → StandFor L ps ns → StandFor L (p ∷ ps) ms

copy-said : (m : Content) (bs : List (List ℕ)) (b : List ℕ) → said b ≡ m ∷ [] → is_business m ≡ true → business_of (said_all (b ∷ bs)) ≡ m ∷ business_of (said_all bs)
unfolding said_all business_of
copy-said m bs b q t = rw (q, t) refl

fill-said : {ours : List ℕ} {first new : ℕ} (bs : List (List ℕ)) (b : List ℕ) → Fill ours first new b → business_of (said_all (b ∷ bs)) ≡ business_of (said_all bs)
unfolding said_all business_of
fill-said bs b f = rw (said-good b f.header f.length f.read, fill-no-business b f.header f.length f.told) refl

sent-stand : {ours : List ℕ} {L : List Content} {ps : List Part} {bs : List (List ℕ)} → Sent ours L ps bs → StandFor L ps (business_of (said_all bs))
unfolding said_all business_of
sent-stand none = no_part
sent-stand {L = L} (copy {m = m} {b = b} {ps = ps} {bs = bs} r o d q p t w) =
    subst (StandFor L _) (sym (copy-said m bs b q t)) (part (copied refl p) (sent-stand w))
sent-stand {L = L} (fill {b = b} {bs = bs} l f d w) = subst (StandFor L _) (sym (fill-said bs b f)) (part (filled (λ z. omega arith)) (sent-stand w))

-- a session number adds nothing
stand-session : {L : List Content} {ms : List Content} (n : ℕ) (ps : List Part) → StandFor L (session n ps) ms → StandFor L ps ms
unfolding session
stand-session n [] (part (filled z) w) = w
stand-session n [] (part (copied z p) w) = absurd (omega arith)
stand-session {L = L} {ms = ms} n (p ∷ ps) y = go (eqb p.new 0) refl ms y
  where
    go : (t : Bool) → eqb p.new 0 ≡ t → (l : List Content) → StandFor L (cond t (gap_fill n (n + 1) ∷ p ∷ ps) (gap_fill n p.new ∷ ps)) l → StandFor L (p ∷ ps) l
    go true e l (part (filled z) w) = w
    go true e l (part (copied z a) w) = absurd (omega arith)
    go false e l (part (filled z) w) = part (filled z) w
    go false e l (part (copied z a) w) = absurd (eqb-false p.new 0 e z)

-- what stands behind the first numbers of a list
pub drop-map : {A B : Type 0} (f : A → B) (n : ℕ) (l : List A) → drop n (map f l) ≡ map f (drop n l)
drop-map f zero l = refl
drop-map f (suc n) [] = refl
drop-map f (suc n) (x ∷ l) = drop-map f n l

pub drop-next : {A : Type 0} (L : List A) (n : ℕ) (m : A) (rest : List A) → drop n L ≡ m ∷ rest → drop (n + 1) L ≡ rest
drop-next L n m rest e = sym (drop-drop 1 n L) ∙ ap (drop 1) e

pub drop-there : {A : Type 0} (L : List A) (n : ℕ) (m : A) (rest : List A) (x : A) → drop n L ≡ m ∷ rest → get_or L n x ≡ m
drop-there {A = A} L n m rest x e = ap (λ (i : ℕ). get_or L i x) (sym (add-zero n)) ∙ sym (get_or-drop n L 0 x) ∙ ap (λ (l : List A). get_or l 0 x) e

-- so the parts of a list's plan stand for its business messages
stand-list : (L : List Content) (n : ℕ) (rest ms : List Content) → drop n L ≡ rest → StandFor L (parts_from (n + 1) (marks_of rest)) ms → ms ≡ business_of rest
unfolding parts_from marks_of business_of
stand-list L n [] ms e no_part = refl
stand-list L n (m ∷ rest) ms e w = go (is_business m) (λ ns v. stand-list L (n + 1) rest ns (drop-next L n m rest e) v) ms w
  where
    ps : List Part
    ps = parts_from (n + 1 + 1) (map (λ (x : Content). cond (is_business x) 1 0) rest)

    go : (t : Bool) → ((ns : List Content) → StandFor L ps ns → ns ≡ business_of rest)
        → (l : List Content) → StandFor L (cond (eqb (cond t 1 0) 1) (business (n + 1) ∷ ps) (session (n + 1) ps)) l
        → l ≡ cond t (m ∷ business_of rest) (business_of rest)
    go true f l (part {ns = ns} (copied {m = x} z p) v) =
        let i : n + 1 - 1 ≡ n = omega arith in
        let y : x ≡ m = sym p.there ∙ ap (λ (k : ℕ). get_or L k x) i ∙ drop-there L n m rest x e in
        ap₂ (λ (y : Content) (l : List Content). y ∷ l) y (f ns v)
    go true f l (part (filled z) v) = absurd (z refl)
    go false f l v = f l (stand-session (n + 1) ps v)

-- ---- the plan from E to the end

marks-length : (L : List Content) → length (marks_of L) ≡ length L
unfolding marks_of
marks-length L = length-map L (λ (m : Content). cond (is_business m) 1 0)

marks-behind : (n : ℕ) (L : List Content) → drop n (marks_of L) ≡ marks_of (drop n L)
unfolding marks_of
marks-behind n L = drop-map (λ (m : Content). cond (is_business m) 1 0) n L

-- it is the plan of what stands behind the first numbers, and its parts follow
module _ (L : List Content) (e : ℕ) (h : 1 ≤ e) where
  pub resend-is : resend L e ≡ parts_from (e - 1 + 1) (marks_of (drop (e - 1) L))
  unfolding resend parts_of last_number
  resend-is =
      let n : e ≡ e - 1 + 1 = omega arith in
      ap₂ parts_from n (ap (drop (e - 1)) (take-length (marks_of L)) ∙ marks-behind (e - 1) L)

  pub resend-follows : e ≤ length L → Follows e (length L + 1) (resend L e)
  unfolding resend last_number
  resend-follows i =
      subst (λ (n : ℕ). Follows e (n + 1) (parts_of (marks_of L) e 0)) (marks-length L) (parts-follow (marks_of L) e 0 h (omega (arith, marks-length L)))

-- ---- the session afterwards

takes-up : {s : Session} {bs : List (List ℕ)} {f : ℕ} → Takes s bs f → s.expected ≤ f
unfolding take
takes-up (end-takes p q) = omega arith
takes-up (next e w l r t u v) = omega (arith, takes-up v)

-- after bytes that are taken one by one the session is what one row would leave that made E f at once
takes-session : {s : Session} {bs : List (List ℕ)} {f : ℕ} → Takes s bs f
    → (s.expected ≡ f → (take s f s.own send.Nothing row.Nothing).session ≡ s)
    → after_all s (lend_all bs) ≡ (take s f s.own send.Nothing row.Nothing).session
unfolding lend_all after_all after take
takes-session (end-takes p q) h = sym (h q)
takes-session {s = s} (next {bs = bs} {f = f} e w l r t u v) h =
    let twice = take_twice s e f w row.Nothing row.Nothing l (takes-up v) in
    ap (λ (y : Stepped). after_all y.session (lend_all bs)) t
    ∙ takes-session v (λ z. twice ∙ ap (λ (x : ℕ). (take s x s.own send.Nothing row.Nothing).session) (sym z))
    ∙ twice

-- M is 0 where it stands within the list
ahead_past : (m n : ℕ) → ahead_at m (n + 1) ≡ cond (leb m n) 0 m
unfolding ahead_at
ahead_past m n = go (leb m n) refl
  where
    go : (t : Bool) → leb m n ≡ t → cond (ltb m (n + 1)) 0 m ≡ cond t 0 m
    go true q = rw (lt-ltb m (n + 1) (omega (arith, leb-true m n q))) refl
    go false q = rw (le-ltb m (n + 1) (omega (arith, leb-false m n q))) refl

past-list : (s : Session) (n : ℕ) → s.expected ≤ n
    → (take s (n + 1) s.own send.Nothing row.Nothing).session
    ≡ record { state = Live; ours = s.ours; expected = n + 1; own = s.own; ahead = cond (leb s.ahead n) 0 s.ahead; repeats = 0 }
unfolding take
past-list s n l = ap₂ (λ (a r : ℕ). with a r) (ahead_past s.ahead n) (moved_none s (n + 1) (ahead_at s.ahead (n + 1)) s.repeats (λ z. omega arith))
  where
    with : ℕ → ℕ → Session
    with a r = record { state = Live; ours = s.ours; expected = n + 1; own = s.own; ahead = a; repeats = r }

pub both_ends : (L : List Content) (s : Session) (bs : List (List ℕ)) → s.state ≡ Live → 1 ≤ s.expected → s.expected ≤ length L → length L < last
    → Sent s.ours L (resend L s.expected) bs → Met L s bs
both_ends L s bs p h i l w =
    let r = sent-runs (resend-follows L s.expected h i) w (omega arith) in
    let taken = second-half s bs (length L + 1) p r in
    record {
      session = takes-session (live-takes s bs (length L + 1) p r) (λ z. absurd (omega arith)) ∙ past-list s (length L) i;
      handed =
          taken.handed
          ∙ stand-list L (s.expected - 1) (drop (s.expected - 1) L) _ refl (
          subst (λ (ps : List Part). StandFor L ps (business_of (said_all bs))) (resend-is L s.expected h) (sent-stand w));
      quiet = taken.quiet;
    }
