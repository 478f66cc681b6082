-- How a session stands, all day: every step, Connect, Drop and number of ours keeps it so, and a day begins so.
use Prim.Native.Nat.{ℕ, ◌+◌, ◌≤◌}
use mathlib.Core.Path.{◌≡◌, refl, sym, subst}
use mathlib.Core.List.{List}
use native.Mathlib.Omega.{arith}
use lib.Dec.{eqb}
use borrow.Author.Tests.{eqb-false}
use Rattle.std.specs.Prelude.{Option, Some}
use Rattle.tables.specs.declared.dictionary.Field.TheVariants.{Password}
use Rattle.tables.specs.Dictionary.{sort_of, width_of}
use Rattle.wire.specs.declared.text.Allowed.TheVariants.{Ascii}
use Rattle.wire.specs.Text.{takes}
use Rattle.wire.proofs.TestLaws.{either}
use Rattle.message.specs.declared.refusal.Refusal.TheVariants.{BadHeader}
use Rattle.message.specs.Vet.{good_comp_id}
use Rattle.session.specs.declared.day.Connected.{Connected}
use Rattle.session.specs.declared.day.Made.{Made}
use Rattle.session.specs.declared.state.Fault.{Fault}
use Rattle.session.specs.declared.state.Fault.TheVariants as fault
use Rattle.session.specs.declared.state.Halt.TheVariants as halt
use Rattle.session.specs.declared.state.State.{State}
use Rattle.session.specs.declared.state.State.TheVariants.{Down, Waiting, Live}
use Rattle.session.specs.declared.state.Session.{Session}
use Rattle.session.specs.State.{last, least_asked, repeats_at, moved}
use Rattle.session.specs.Day.{not_made, day, fresh, saved, not_connected, connect_in, connect, drop, not_owned, own_number_in, own_number, step}
use Rattle.session.proofs.Effect.{none_ahead, repeats-none, Asks, as_before, anew}
use Rattle.session.specs.Course.{Follows, stepped, connected, dropped, numbered, Reached, begun, resumed, on, Standing}
use Rattle.session.proofs.SessionLaws.{follows-kept, expected-rises, own-rises, down-nothing}

-- a session that has asked for nothing
none-standing : (s : Session) → 1 ≤ s.expected → 1 ≤ s.own → s.ahead ≡ 0 → s.repeats ≡ 0 → ((s.state ≡ Down → ⊥) → 2 ≤ s.own) → Standing s
none-standing s e o m z u = record { expected = e; own = o; ahead = none_ahead s m z; up = u; asked = λ h. absurd (omega arith) }

down-standing : (ours : List ℕ) (e o : ℕ) → 1 ≤ e → 1 ≤ o → Standing (record { state = Down; ours = ours; expected = e; own = o; ahead = 0; repeats = 0 })
down-standing ours e o h l =
    none-standing (record { state = Down; ours = ours; expected = e; own = o; ahead = 0; repeats = 0 }) h l refl refl (λ u. absurd (u refl))

-- from a session that is not Down
asks-standing : {s t : Session} → Standing s → (s.state ≡ Down → ⊥) → Asks s t → 1 ≤ t.ahead → (2 ≤ t.ahead) × (t.repeats + least_asked ≤ t.own)
asks-standing h u (as_before e r) l =
    let m = h.asked (omega arith) in
    (omega arith, omega arith)
asks-standing h u (anew e o z) l = let p = h.up u in (omega (arith, h.expected), omega arith)

up-standing : {s t : Session} → Follows s t → (s.state ≡ Down → ⊥) → Standing s → Standing t
up-standing f u h = record {
  expected = omega (arith, expected-rises f, h.expected);
  own = omega (arith, own-rises f, h.own);
  ahead = (follows-kept f).ahead h.ahead;
  up = λ d. omega (arith, own-rises f, h.up u);
  asked = λ l. asks-standing h u ((follows-kept f).asks l) l;
}

-- from a Down one
down-stepped : (s : Session) (b : List ℕ) → s.state ≡ Down → Standing s → Standing (step s b).session
down-stepped s b d h = subst Standing (sym (down-nothing s b d).session) h

down-connected : (s : Session) (password : List ℕ) → s.state ≡ Down → Standing s → Standing (connect s password).session
unfolding connect connect_in not_connected
down-connected s password d h =
    let P : Connected → Type 0 = λ r. Standing r.session in
    subst (λ (p : State). P (connect_in p s password)) (sym d)
    (either P (eqb s.own last) (λ t. h)
    (λ t. either P (takes Ascii (width_of (sort_of Password)) password)
    (λ u. none-standing (moved s Waiting s.expected (s.own + 1) 0) h.expected (omega arith) refl (repeats-none s s.expected 0 s.repeats refl)
    (λ v. omega (arith, h.own)))
    (λ u. h)))

down-dropped : (s : Session) → Standing s → Standing (drop s)
unfolding drop repeats_at
down-dropped s h = down-standing s.ours s.expected s.own h.expected h.own

down-numbered : (s : Session) → s.state ≡ Down → Standing s → Standing (own_number s).session
unfolding own_number own_number_in not_owned
down-numbered s d h = subst (λ (p : State). Standing (own_number_in p s).session) (sym d) h

down-follows : {s t : Session} → Follows s t → s.state ≡ Down → Standing s → Standing t
down-follows {s = s} (stepped b) d h = down-stepped s b d h
down-follows {s = s} (connected password) d h = down-connected s password d h
down-follows {s = s} dropped d h = down-dropped s h
down-follows {s = s} numbered d h = down-numbered s d h

-- a step, Connect, Drop and a number of ours keep it
pub standing-kept : {s t : Session} → Follows s t → Standing s → Standing t
standing-kept {s = s} {t = t} f h = go s.state refl
  where
    go : (p : State) → s.state ≡ p → Standing t
    go Down e = down-follows f e h
    go Waiting e = up-standing f (λ d. let z : ◌≡◌ {A = ℕ} 0 1 = cc in omega arith) h
    go Live e = up-standing f (λ d. let z : ◌≡◌ {A = ℕ} 0 1 = cc in omega arith) h

-- a day begins with it
not-made-standing : (k : Option Fault) → Standing (not_made k).session
unfolding not_made
not-made-standing k = down-standing _ 1 1 (omega arith) (omega arith)

day-standing : (comp_id : List ℕ) (e o : ℕ) → 1 ≤ e → 1 ≤ o → Standing (day comp_id e o).session
unfolding day
day-standing comp_id e o h l = either (λ (r : Made). Standing r.session) (good_comp_id comp_id) (λ t. down-standing _ e o h l) (λ t. not-made-standing (Some (fault.Refused BadHeader)))

pub fresh-standing : (comp_id : List ℕ) → Standing (fresh comp_id).session
unfolding fresh
fresh-standing comp_id = day-standing comp_id 1 1 (omega arith) (omega arith)

pub saved-standing : (comp_id : List ℕ) (e o : ℕ) → Standing (saved comp_id e o).session
unfolding saved
saved-standing comp_id e o =
    either (λ (r : Made). Standing r.session) (eqb e 0) (λ t. not-made-standing (Some (fault.Halted halt.BadSaved)))
    (λ t. either (λ (r : Made). Standing r.session) (eqb o 0) (λ u. not-made-standing (Some (fault.Halted halt.BadSaved)))
    (λ u. day-standing comp_id e o (omega (arith, eqb-false e 0 t)) (omega (arith, eqb-false o 0 u))))

-- so every session of a day stands so
pub all-standing : {s : Session} → Reached s → Standing s
all-standing (begun comp_id) = fresh-standing comp_id
all-standing (resumed comp_id {e = e} {o = o} a b) = saved-standing comp_id e o
all-standing (on r f) = standing-kept f (all-standing r)
