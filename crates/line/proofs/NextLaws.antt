-- When the next tick is due: the time that `next_tick` says is the earliest, not before the latest given, at which a tick does something; and where it
-- says none, no tick of 64 bits does.
use Prim.Native.Nat.{ℕ, ◌+◌, ◌*◌, ◌<◌, ◌≤◌}
use mathlib.Core.Path.{◌≡◌, refl, sym, ◌∙◌}
use mathlib.Core.Bool.{Bool, true, false, cond, true≢false}
use native.Mathlib.Omega.{arith}
use lib.Dec.{leb, ltb}
use borrow.Author.Tests.{ltb-true, ltb-false, leb-true, leb-false}
use Rattle.wire.proofs.TestLaws.{either}
use Rattle.session.specs.declared.state.State.TheVariants.{Live}
use Rattle.line.specs.declared.line.Line.{Line}
use Rattle.std.specs.Prelude.{Option, Some, None}
use Rattle.line.specs.Line.{later, is_live}
use Rattle.line.specs.Tick.{to_test_request, to_down, wait, most_time, at_time, earlier, not_before, silence_due, next_tick}
use Rattle.line.specs.Course.{NothingDue, Rests, NextAt}
use Rattle.line.proofs.TickLaws.{later-least, later-given, later-within, before-later, live_state, other-state, not-due-rests, rests-not-due}

-- the earlier of two times, if it has 64 bits
data Earliest (a b : ℕ) : Option ℕ → Type 0 where
  one : (c : ℕ) → c ≤ a → c ≤ b → ((n : ℕ) → n < a → n < b → n < c) → c ≤ most_time → Earliest a b (Some c)
  neither : most_time < a → most_time < b → Earliest a b None

earliest : (a b : ℕ) → Earliest a b (earlier (at_time a) (at_time b))
unfolding earlier at_time
earliest a b =
    either (λ (x : Option ℕ). Earliest a b (earlier x (at_time b))) (leb a most_time)
    (λ u. let h = leb-true a most_time u in
    either (λ (y : Option ℕ). Earliest a b (earlier (Some a) y)) (leb b most_time)
    (λ v. let g = leb-true b most_time v in
    either (λ (c : ℕ). Earliest a b (Some c)) (ltb b a)
    (λ w. let f = ltb-true b a w in one b (omega arith) (omega arith) (λ n i j. j) g)
    (λ w. let f = ltb-false b a w in one a (omega arith) f (λ n i j. i) h))
    (λ v. let g = leb-false b most_time v in one a (omega arith) (omega arith) (λ n i j. i) h))
    (λ u. let h = leb-false a most_time u in
    either (Earliest a b) (leb b most_time)
    (λ v. let g = leb-true b most_time v in one b (omega arith) (omega arith) (λ n i j. j) g)
    (λ v. neither h (leb-false b most_time v)))

-- nothing is due before both times, and where nothing is due, that is before both. Where a silence has had no Test Request, its Down is due no
-- earlier than that
not-due-before : (l : Line) (n : ℕ) → n < silence_due l → n < l.sent + wait l → NothingDue l n
unfolding silence_due
not-due-before l n h b = go l.tested refl h
  where
    go : (x : Bool) → l.tested ≡ x → n < l.heard + cond x to_down to_test_request * wait l → NothingDue l n
    go true e i = record { down = i; test = λ f. absurd (true≢false (sym e ∙ f)); beat = b }
    go false e i = record { down = omega arith; test = λ f. i; beat = b }

not-due-silence : (l : Line) (n : ℕ) → NothingDue l n → n < silence_due l
unfolding silence_due
not-due-silence l n q = go l.tested refl
  where
    go : (x : Bool) → l.tested ≡ x → n < l.heard + cond x to_down to_test_request * wait l
    go true e = q.down
    go false e = q.test e

module _ (l : Line) where
  -- the time that it says, of a Live line
  module _ (m : ℕ) (live : l.session.state ≡ Live) where
    next-live : (x : Option ℕ) → Earliest (silence_due l) (l.sent + wait l) x → not_before l.now x ≡ Some m → NextAt l m
    unfolding not_before
    next-live x (one c p q f h) e =
        let k : later l.now c ≡ m = cc in
        let g = later-least l.now c in
        record {
          now = omega arith;
          most = λ i. omega (arith, later-within l.now c most_time i h);
          before = λ t i.
              let n : ℕ = later l.now t in
              let b = before-later l.now c n (later-least l.now t) (omega arith) in
              not-due-rests l t (λ s. not-due-before l n (omega arith) (omega arith));
          acts = λ r.
              let n : ℕ = later l.now m in
              let d = rests-not-due l m r live in
              omega (arith, f n (not-due-silence l n d) d.beat, later-given l.now c, later-given l.now m);
        }
    next-live x (neither p q) e = let z : ◌≡◌ {A = ℕ} 0 1 = cc in absurd (omega arith)

  -- the next tick is due at the earliest time at which a tick does something
  pub next-at : (m : ℕ) → next_tick l ≡ Some m → NextAt l m
  unfolding next_tick
  next-at m =
      either (λ (x : Option ℕ). x ≡ Some m → NextAt l m) (is_live l.session.state)
      (λ u. next-live m (live_state l.session.state u) _ (earliest (silence_due l) (l.sent + wait l)))
      (λ u e. let z : ◌≡◌ {A = ℕ} 0 1 = cc in absurd (omega arith))

  never-live : (x : Option ℕ) → Earliest (silence_due l) (l.sent + wait l) x → not_before l.now x ≡ None
      → (t : ℕ) → later l.now t ≤ most_time → Rests l t
  unfolding not_before
  never-live x (one c p q f h) e t i = let z : ◌≡◌ {A = ℕ} 0 1 = cc in absurd (omega arith)
  never-live x (neither p q) e t i = not-due-rests l t (λ s. not-due-before l (later l.now t) (omega arith) (omega arith))

  -- and none is due where no tick of 64 bits does anything
  pub next-never : next_tick l ≡ None → (t : ℕ) → later l.now t ≤ most_time → Rests l t
  unfolding next_tick
  next-never =
      either (λ (x : Option ℕ). x ≡ None → (t : ℕ) → later l.now t ≤ most_time → Rests l t) (is_live l.session.state)
      (λ u. never-live _ (earliest (silence_due l) (l.sent + wait l)))
      (λ u e t i. not-due-rests l t (λ s. absurd (other-state l.session.state u s)))
