-- What is left of a value where some of its cases are taken out.
use mathlib.Core.Path.{◌≡◌, refl, sym, ◌∙◌}
use mathlib.Core.Logic.{◌⊎◌, inl, inr}
use mathlib.Core.Bool.{Bool, true, false, not, ◌&&◌, cond, true≢false}
use mathlib.Core.List.{List, [], ◌∷◌}
use Prim.Native.Nat.{ℕ, zero, suc, ◌+◌, ◌<◌}
use native.Mathlib.Omega.{arith}
use lib.ListN.{length, get_or}
use lib.Dec.{eqb}
use lib.Pointwise.{pointwise}
use denote.Enum.Bare.{sameb}
use Rattle.message.specs.declared.refusal.Refusal.{Refusal}
use Rattle.message.specs.declared.refusal.Refusal.TheVariants as refusal
use Rattle.session.specs.contracts.state.State.{the_type}
use Rattle.message.specs.Refusal.{number_of}
use Rattle.session.specs.declared.arrival.Content.{Content}
use Rattle.session.specs.declared.arrival.Content.TheVariants as content
use Rattle.session.specs.declared.state.Fault.TheVariants as fault
use Rattle.session.specs.Held.{all_zero}
use Rattle.std.specs.List.{All}
use Rattle.std.specs.Prelude.{IsTrue, ◌↔◌, Some}
use Rattle.wire.proofs.TestLaws.{both}
use borrow.Author.Tests.{eq-eqb, eqb-true}
use Rattle.session.specs.declared.state.Halt.TheVariants as halt
use Rattle.session.specs.declared.state.Row.TheVariants as row
use Rattle.session.specs.declared.state.Send.{Send}
use Rattle.session.specs.declared.state.Send.TheVariants as send
use Rattle.session.specs.declared.state.Session.{Session}
use Rattle.session.specs.declared.state.State.{State}
use Rattle.session.specs.declared.state.State.TheVariants.{Down, Waiting, Live}
use Rattle.session.specs.Arrival.{same_bytes}
use Rattle.session.specs.Day.{refused}
use Rattle.session.specs.Rules.{waiting, higher, equal, live, numbered, ask}
use Rattle.session.specs.State.{leave, send_none, stop, take, told}

-- what `==` says of two slices is what the definition says
and_cond : (x : Bool) {y z : Bool} → y ≡ z → (x && y) ≡ cond x z false
and_cond true e = e
and_cond false e = refl

pub same_pairs : (a b : List ℕ) → pointwise eqb a b ≡ same_bytes a b
unfolding same_bytes
same_pairs [] [] = refl
same_pairs [] (y ∷ b) = refl
same_pairs (x ∷ a) [] = refl
same_pairs (x ∷ a) (y ∷ b) = and_cond (eqb x y) (same_pairs a b)

-- and what `all` says of a list's zeros
all_true : (s : List ℕ) → All (λ b. b ≡ 0) s → all_zero s ≡ true
unfolding all_zero
all_true [] h = refl
all_true (b ∷ s) h = rw (eq-eqb b 0 (h 0 0 (omega arith))) (all_true s (λ k d l. h (suc k) d (omega (arith, l))))

true_all : (s : List ℕ) → all_zero s ≡ true → (k d : ℕ) → k < length s → get_or s k d ≡ 0
unfolding all_zero
true_all [] e k d l = absurd (omega (arith, l))
true_all (b ∷ s) e zero d l = eqb-true b 0 (both (eqb b 0) (all_zero s) e).0
true_all (b ∷ s) e (suc k) d l = true_all s (both (eqb b 0) (all_zero s) e).1 k d (omega (arith, l))

pub all_zeros : (s : List ℕ) (r z : Bool) → all_zero s ≡ z → (IsTrue r ↔ All (λ b. b ≡ 0) s) → r ≡ z
all_zeros s true true e h = refl
all_zeros s false false e h = refl
all_zeros s true false e h = absurd (true≢false (sym (all_true s (h.0 refl)) ∙ e))
all_zeros s false true e h = absurd (true≢false (sym (h.1 (true_all s e))))

-- which state a test of the state found
pub is-down : (s : State) → sameb the_type s Down ≡ true → s ≡ Down
is-down Down e = refl
is-down Waiting e = absurd (true≢false (sym e))
is-down Live e = absurd (true≢false (sym e))

pub is-waiting : (s : State) → sameb the_type s Waiting ≡ true → s ≡ Waiting
is-waiting Down e = absurd (true≢false (sym e))
is-waiting Waiting e = refl
is-waiting Live e = absurd (true≢false (sym e))

pub is-live : (s : State) → sameb the_type s Live ≡ true → s ≡ Live
is-live Down e = absurd (true≢false (sym e))
is-live Waiting e = absurd (true≢false (sym e))
is-live Live e = refl

-- a state that is not Down, and one that is not Live
pub not-down : (s : State) → sameb the_type s Down ≡ false → (s ≡ Waiting) ⊎ (s ≡ Live)
not-down Down e = absurd (true≢false e)
not-down Waiting e = inl refl
not-down Live e = inr refl

pub not-live : (s : State) → sameb the_type s Live ≡ false → (s ≡ Down) ⊎ (s ≡ Waiting)
not-live Down e = inl refl
not-live Waiting e = inr refl
not-live Live e = absurd (true≢false e)

pub only-live : (s : State) → sameb the_type s Down ≡ false → sameb the_type s Waiting ≡ false → s ≡ Live
only-live Down d e = absurd (true≢false d)
only-live Waiting d e = absurd (true≢false e)
only-live Live d e = refl

-- a message to send that is one
pub told-any : (x : Send) → (x ≡ send.Nothing → ⊥) → eqb (told x).kind send_none ≡ false
unfolding told
told-any send.Nothing h = absurd (h refl)
told-any (send.Heartbeat n id) h = refl
told-any (send.Logout n) h = refl
told-any (send.GapFill n new) h = refl
told-any (send.ResendRequest n start end) h = refl

-- a flag that was turned over
pub not-true : (b : Bool) → not b ≡ true → b ≡ false
not-true true e = absurd (true≢false (sym e))
not-true false e = refl

pub not-false : (b : Bool) → not b ≡ false → b ≡ true
not-false true e = refl
not-false false e = absurd (true≢false e)

-- a refusal that stops the session
pub refused-stops : (s : Session) (k : Refusal) → ((n : ℕ) → k ≡ refusal.Short n → ⊥) → ((n : ℕ) → k ≡ refusal.BadSum n → ⊥)
    → refused s k ≡ leave s (Some (fault.Refused k)) s.expected row.Nothing
unfolding refused number_of
refused-stops s (refusal.Short n) p q = absurd (p n refl)
refused-stops s refusal.BadStart p q = refl
refused-stops s refusal.BadLength p q = refl
refused-stops s (refusal.BadSum n) p q = absurd (q n refl)
refused-stops s refusal.UnknownType p q = refl
refused-stops s refusal.BadHeader p q = refl
refused-stops s (refusal.UnknownPosition n) p q = refl
refused-stops s (refusal.MissingField n) p q = refl
refused-stops s (refusal.BadField n) p q = refl
refused-stops s (refusal.LeftOver n) p q = refl
refused-stops s (refusal.NoRoom n) p q = refl
refused-stops s refusal.Absent p q = refl
refused-stops s refusal.OtherSort p q = refl

-- rule 2, of the types that it names no way for
pub waiting-other : (s : Session) (n : ℕ) (c : Content) → ((x : ℕ) → c ≡ content.Logon x → ⊥) → (c ≡ content.Logout → ⊥) → (c ≡ content.Reject → ⊥)
    → waiting s n c ≡ stop s halt.StopType
unfolding waiting
waiting-other s n content.Heartbeat p q r = refl
waiting-other s n (content.TestRequest id) p q r = refl
waiting-other s n (content.ResendRequest start end) p q r = refl
waiting-other s n content.Reject p q r = absurd (r refl)
waiting-other s n (content.Reset new) p q r = refl
waiting-other s n (content.GapFill new) p q r = refl
waiting-other s n (content.Logon next) p q r = absurd (p next refl)
waiting-other s n content.Logout p q r = absurd (q refl)
waiting-other s n content.Lookup p q r = refl
waiting-other s n content.Business p q r = refl

-- rule 7, of any type but a Resend Request
pub higher-other : (s : Session) (n : ℕ) (possdup : Bool) (c : Content) → ((x y : ℕ) → c ≡ content.ResendRequest x y → ⊥)
    → higher s n possdup c ≡ ask s n possdup send.Nothing
unfolding higher
higher-other s n possdup content.Heartbeat p = refl
higher-other s n possdup (content.TestRequest id) p = refl
higher-other s n possdup (content.ResendRequest start end) p = absurd (p start end refl)
higher-other s n possdup content.Reject p = refl
higher-other s n possdup (content.Reset new) p = refl
higher-other s n possdup (content.GapFill new) p = refl
higher-other s n possdup (content.Logon next) p = refl
higher-other s n possdup content.Logout p = refl
higher-other s n possdup content.Lookup p = refl
higher-other s n possdup content.Business p = refl

-- rule 9, of the types that are only taken
pub equal-other : (s : Session) (n : ℕ) (c : Content) → (c ≡ content.Business → ⊥) → ((x : ℕ) → c ≡ content.TestRequest x → ⊥) → ((x y : ℕ) → c ≡ content.ResendRequest x y → ⊥) → ((x : ℕ) → c ≡ content.GapFill x → ⊥)
    → equal s n c ≡ take s (n + 1) s.own send.Nothing (row.Session n)
unfolding equal
equal-other s n content.Heartbeat p q r t = refl
equal-other s n (content.TestRequest id) p q r t = absurd (q id refl)
equal-other s n (content.ResendRequest start end) p q r t = absurd (r start end refl)
equal-other s n content.Reject p q r t = refl
equal-other s n (content.Reset new) p q r t = refl
equal-other s n (content.GapFill new) p q r t = absurd (t new refl)
equal-other s n (content.Logon next) p q r t = refl
equal-other s n content.Logout p q r t = refl
equal-other s n content.Lookup p q r t = refl
equal-other s n content.Business p q r t = absurd (p refl)

-- rules 3 to 9, of the types that go by their numbers
pub live-other : (s : Session) (n : ℕ) (possdup : Bool) (c : Content) → ((x : ℕ) → c ≡ content.Reset x → ⊥) → (c ≡ content.Logout → ⊥) → ((x : ℕ) → c ≡ content.Logon x → ⊥) → (c ≡ content.Lookup → ⊥)
    → live s n possdup c ≡ numbered s n possdup c
unfolding live
live-other s n possdup content.Heartbeat p q r t = refl
live-other s n possdup (content.TestRequest id) p q r t = refl
live-other s n possdup (content.ResendRequest start end) p q r t = refl
live-other s n possdup content.Reject p q r t = refl
live-other s n possdup (content.Reset new) p q r t = absurd (p new refl)
live-other s n possdup (content.GapFill new) p q r t = refl
live-other s n possdup (content.Logon next) p q r t = absurd (r next refl)
live-other s n possdup content.Logout p q r t = absurd (q refl)
live-other s n possdup content.Lookup p q r t = absurd (t refl)
live-other s n possdup content.Business p q r t = refl
