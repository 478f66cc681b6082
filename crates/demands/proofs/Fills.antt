-- Document 02, item 12: gap fills that join.
--
-- Supposed: the session is Live and expects a; a is below b, and b below c. Shown (`fills-join`): bytes that are a gap fill from a to b, and then bytes
-- that are one from b to c, leave the same session as bytes that are one from a to c: the same in every member, whatever M and the repeats are.
use Prim.Native.Nat.{ℕ, ◌-◌, ◌<◌, ◌≤◌}
use mathlib.Core.Path.{◌≡◌, refl, sym, ap, ap₂, ◌∙◌}
use mathlib.Core.Bool.{Bool, true, false, cond}
use mathlib.Core.List.{List}
use native.Mathlib.Omega.{arith}
use lib.Dec.{eqb, ltb}
use borrow.Author.Tests.{ne_eqb, lt-ltb, ltb-true}
use Rattle.wire.proofs.TestLaws.{either}
use Rattle.message.specs.Frame.{map_in, body_in}
use Rattle.session.specs.declared.state.Row.{Row}
use Rattle.session.specs.declared.state.Row.TheVariants as row
use Rattle.session.specs.declared.state.Send.TheVariants as send
use Rattle.session.specs.declared.state.Session.{Session}
use Rattle.session.specs.declared.state.State.TheVariants.{Live}
use Rattle.session.specs.declared.state.Stepped.{Stepped}
use Rattle.session.specs.Day.{step}
use Rattle.session.specs.State.{repeats_at, ahead_at, take}
use Rattle.session.proofs.TypeLaws.{sorted, fill-type}
use Rattle.demands.specs.Fill.{Fill}
use Rattle.demands.proofs.Second.{gap-fill-step}

-- M that b has passed, c has passed too
ahead-twice : (m b c : ℕ) → b ≤ c → ahead_at (ahead_at m b) c ≡ ahead_at m c
unfolding ahead_at
ahead-twice m b c l = go (ltb m b) refl
  where
    go : (t : Bool) → ltb m b ≡ t → cond (ltb (cond t 0 m) c) 0 (cond t 0 m) ≡ cond (ltb m c) 0 m
    go true e = let k = ltb-true m b e in rw (lt-ltb m c (omega arith), lt-ltb 0 c (omega arith)) refl
    go false e = refl

-- no repeat is left where E has moved
pub moved_none : (s : Session) (e m r : ℕ) → (e ≡ s.expected → ⊥) → repeats_at s e m r ≡ 0
unfolding repeats_at
moved_none s e m r h = either (λ (x : ℕ). x ≡ 0) (eqb m 0) (λ t. refl) (λ t. rw (ne_eqb e s.expected h) refl)

-- and from none there comes none
still-none : (s : Session) (e m : ℕ) → repeats_at s e m 0 ≡ 0
unfolding repeats_at
still-none s e m = either (λ (x : ℕ). x ≡ 0) (eqb m 0) (λ t. refl) (λ t. either (λ (x : ℕ). x ≡ 0) (eqb e s.expected) (λ u. refl) (λ u. refl))

-- a session that goes on to b and then to c, and one that goes on to c at once
pub take_twice : (s : Session) (b c : ℕ) (v w x : Row) → s.expected < b → b ≤ c
    → (take (take s b s.own send.Nothing v).session c s.own send.Nothing w).session ≡ (take s c s.own send.Nothing x).session
unfolding take
take_twice s b c v w x h l =
    let t : Session = (take s b s.own send.Nothing v).session in
    let none : t.repeats ≡ 0 = moved_none s b (ahead_at s.ahead b) s.repeats (λ z. omega arith) in
    ap₂ (λ (a r : ℕ). with a r) (ahead-twice s.ahead b c l)
    (ap (repeats_at t c (ahead_at t.ahead c)) none ∙ still-none t c (ahead_at t.ahead c)
    ∙ sym (moved_none s c (ahead_at s.ahead c) s.repeats (λ z. omega arith)))
  where
    with : ℕ → ℕ → Session
    with a r = record { state = Live; ours = s.ours; expected = c; own = s.own; ahead = a; repeats = r }

-- a gap fill that is due, and leads forward
pub fill-taken : (s : Session) (n new : ℕ) (b : List ℕ) → s.state ≡ Live → Fill s.ours n new b → n ≡ s.expected → n < new
    → step s b ≡ take s new s.own send.Nothing (row.Filled n (new - 1))
fill-taken s n new b p f e l =
    let h = f.header in
    let k = (fill-type (sorted h.messagetype (map_in b) (body_in f.length b)) f.told).within in
    gap-fill-step s b h f.length p f.read f.for-us (f.number ∙ e) (omega (arith, f.number)) new (omega (arith, f.number)) f.told
    ∙ ap (λ (x : ℕ). take s new s.own send.Nothing (row.Filled x (new - 1))) f.number

pub fills-join : (s : Session) (a b c : ℕ) (one two both : List ℕ) → s.state ≡ Live → a ≡ s.expected → a < b → b < c
    → Fill s.ours a b one → Fill s.ours b c two → Fill s.ours a c both
    → (step (step s one).session two).session ≡ (step s both).session
unfolding take
fills-join s a b c one two both p e h l f g k =
    let t = (take s b s.own send.Nothing (row.Filled a (b - 1))).session in
    let first : (step s one).session ≡ t = ap (λ (r : Stepped). r.session) (fill-taken s a b one p f e h) in
    let second : (step t two).session ≡ (take t c t.own send.Nothing (row.Filled b (c - 1))).session =
    ap (λ (r : Stepped). r.session) (fill-taken t b c two refl g refl l) in
    ap (λ (x : Session). (step x two).session) first ∙ second
    ∙ take_twice s b c (row.Filled a (b - 1)) (row.Filled b (c - 1)) (row.Filled a (c - 1)) (omega arith) (omega arith)
    ∙ sym (ap (λ (r : Stepped). r.session) (fill-taken s a c both p k e (omega arith)))
