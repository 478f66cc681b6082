-- Business in its turn: a Live session takes it, whatever else it might have answered.
use mathlib.Core.Path.{◌≡◌, refl, sym, ap, subst, ◌∙◌}
use mathlib.Core.Bool.{Bool, true, false, cond, ◌&&◌}
use mathlib.Core.List.{List}
use Prim.Native.Nat.{ℕ, ◌+◌, ◌≤◌, ◌<◌}
use native.Mathlib.Omega.{arith}
use borrow.Author.Tests.{le-ltb, ne_eqb, ltb-true, eqb-true}
use lib.Dec.{eqb, ltb}
use lib.ListN.{length}
use Rattle.std.specs.Prelude.{Result, Ok, Err}
use Rattle.wire.proofs.TestLaws.{and-true}
use Rattle.message.specs.declared.refusal.Refusal.{Refusal}
use Rattle.message.specs.declared.frame.Header.{Header}
use Rattle.message.specs.declared.read.Reading.{Reading}
use Rattle.message.specs.Frame.{front_length, map_in, body_in}
use Rattle.message.specs.Read.{Good, read_of}
use Rattle.session.specs.declared.arrival.Due.{Due}
use Rattle.session.specs.declared.state.Row.TheVariants as row
use Rattle.session.specs.declared.state.Send.TheVariants.{Nothing}
use Rattle.session.specs.declared.state.Session.{Session}
use Rattle.session.specs.declared.state.State.{State}
use Rattle.session.specs.declared.state.State.TheVariants.{Down, Waiting, Live}
use Rattle.session.specs.Arrival.{is_ours, message_in, arrival_by}
use Rattle.session.specs.Day.{arrived, step_in, step_by, step}
use Rattle.session.specs.Rules.{equal, numbered, live, for_us, ruled_in, ruled}
use Rattle.session.specs.State.{last, take}
use Rattle.session.specs.Held.{state_number}
use Rattle.session.specs.Turn.{is_due_header, due_in, due_length, due_taken, take_due}
use Rattle.session.proofs.FrontLaws.{front-good, front-most}
use Rattle.session.proofs.TypeLaws.{above-eight}
use Rattle.session.proofs.StepLaws.{front-within}

-- what a length that is not 0 tells of what was read
pub record IsDue (s : Session) (left : List ℕ) (read : Result Reading Refusal) (n : ℕ) : Type 0 where
  pub live : s.state ≡ Live
  pub header : Header
  pub good : read ≡ Good header n
  pub ours : is_ours s.ours left ≡ true
  pub business : 8 < header.messagetype
  pub number : header.number ≡ s.expected
  pub more : s.expected < last

module _ (s : Session) (left : List ℕ) where
  due-good : (h : Header) (n : ℕ) → s.state ≡ Live → is_due_header h s.expected && is_ours s.ours left ≡ true → IsDue s left (Good h n) n
  unfolding is_due_header
  due-good h n l t =
      let a = and-true (is_due_header h s.expected) (is_ours s.ours left) t in
      let b = and-true (ltb 8 h.messagetype && eqb h.number s.expected) (ltb s.expected last) a.0 in
      let c = and-true (ltb 8 h.messagetype) (eqb h.number s.expected) b.0 in
      record {
        live = l;
        header = h;
        good = refl;
        ours = a.1;
        business = ltb-true 8 h.messagetype c.0;
        number = eqb-true h.number s.expected c.1;
        more = ltb-true s.expected last b.1;
      }

  pub is-due : (read : Result Reading Refusal) (n : ℕ) → n ≡ due_length s left read → (n ≡ 0 → ⊥) → IsDue s left read n
  unfolding due_length due_in
  is-due read n e some = by_state s.state refl e
    where
      by_read : s.state ≡ Live → (x : Result Reading Refusal) → n ≡ due_in s left x → IsDue s left x n
      by_read l (Err q) e = absurd (some e)
      by_read l (Ok x) e = by-test (is_due_header x.header s.expected && is_ours s.ours left) refl e
        where
          by-test : (b : Bool) → is_due_header x.header s.expected && is_ours s.ours left ≡ b → n ≡ cond b x.length 0 → IsDue s left (Ok x) n
          by-test true t e = subst (IsDue s left (Ok x)) (sym e) (due-good x.header x.length l t)
          by-test false t e = absurd (some e)

      by_state : (p : State) → s.state ≡ p → n ≡ cond (eqb (state_number p) (state_number Live)) (due_in s left read) 0 → IsDue s left read n
      by_state Down q e = absurd (some e)
      by_state Waiting q e = absurd (some e)
      by_state Live q e = by_read q read e

-- what is taken so, d: the message at the front of `left`
pub record Took (s : Session) (left : List ℕ) (d : Due) : Type 0 where
  pub step : step s left ≡ take s (s.expected + 1) s.own Nothing (row.Business s.expected)
  pub session : d.session ≡ due_taken s
  pub size : d.length ≡ front_length left
  pub within : d.length ≤ length left
  pub most : d.length ≤ 4096

-- the step takes it and does nothing else
taken-by : (s : Session) (left : List ℕ) (read : Result Reading Refusal) (n : ℕ) (q : IsDue s left read n) → read_of left ≡ Good q.header n
    → step s left ≡ take s (s.expected + 1) s.own Nothing (row.Business s.expected)
unfolding step step_by step_in arrived arrival_by message_in ruled ruled_in for_us live numbered equal
taken-by s left read n q f =
    let m = q.more in
    simp (q.live, f, q.ours, sym (above-eight q.header.messagetype (map_in left) (body_in n left) q.business), q.number, le-ltb s.expected s.expected (omega arith), ne_eqb s.expected last (omega arith))

pub due-step : (s : Session) (left : List ℕ) (read : Result Reading Refusal) (d : Due) → read ≡ read_of left → d ≡ take_due s left read → (d.length ≡ 0 → ⊥) → Took s left d
unfolding take_due
due-step s left read d r e some =
    let n : d.length ≡ due_length s left read = ap (λ (x : Due). x.length) e in
    let q = is-due s left read d.length n some in
    let f = sym r ∙ q.good in
    let g = front-good left q.header d.length f in
    record {
      step = taken-by s left read d.length q f;
      session = ap (λ (x : Due). x.session) e ∙ rw (ne_eqb (due_length s left read) 0 (λ z. some (n ∙ z)));
      size = sym g;
      within = omega (arith, g, front-within left);
      most = omega (arith, g, front-most left);
    }
