-- A good message lies within its own bytes. Where some bytes have a good message of n bytes at the front, their first n bytes, with anything behind
-- them, say the same, and a session makes the same step on them.
use Prim.Native.Nat.{ℕ, ◌≤◌}
use mathlib.Core.Path.{◌≡◌, refl, sym, ap, ◌∙◌}
use mathlib.Core.List.{List, [], ◌∷◌, ◌++◌}
use native.Mathlib.Omega.{arith}
use lib.ListN.{length, take}
use lib.Seq.{take-length}
use Rattle.std.specs.Prelude.{Err}
use Rattle.message.specs.declared.frame.Header.{Header}
use Rattle.message.specs.declared.refusal.Refusal.TheVariants.{Short}
use Rattle.message.specs.Frame.{comp_id_in, map_in, body_in, front_length}
use Rattle.message.specs.Read.{Good, read_of}
use Rattle.message.proofs.FrameLaws.{own-comp-id, own-map, own_body}
use Rattle.message.proofs.ReadLaws.{WholeAt, read-front, read-own}
use Rattle.session.specs.Arrival.{arrival_of}
use Rattle.session.specs.declared.state.Session.{Session}
use Rattle.session.specs.declared.state.State.{State}
use Rattle.session.specs.declared.state.State.TheVariants.{Down, Waiting, Live}
use Rattle.session.specs.Day.{step_by, arrived, step_in, step}
use Rattle.session.proofs.FrontLaws.{front-good}
use Rattle.session.proofs.StepLaws.{arrival-more}
use Rattle.demands.specs.Content.{Content, content_in, said}
use Rattle.demands.proofs.Arrivals.{said-good}

module _ (s : List ℕ) (h : Header) (n : ℕ) (e : read_of s ≡ Good h n) where
  whole : WholeAt s n
  whole = (read-front s h n e).0

  -- it has 58 bytes at the least
  pub good-least : 58 ≤ n
  good-least = whole.least

  -- the reader finds the same message, with the same parts
  own-good : (r : List ℕ) → read_of (take n s ++ r) ≡ Good h n
  own-good r =
      let w = whole in
      ap (λ (k : ℕ). read_of (take k s ++ r)) w.size
      ∙ read-own s r (omega (arith, w.least, w.size)) (omega (arith, w.there, w.size))
      ∙ e

  own-parts : (r : List ℕ)
      → (comp_id_in (take n s ++ r) ≡ comp_id_in s) × (map_in (take n s ++ r) ≡ map_in s) × (body_in n (take n s ++ r) ≡ body_in n s)
  own-parts r =
      let w = whole in
      let l = w.there in
      (own-comp-id n s r l (omega (arith, w.least)), own-map n s r l (omega (arith, w.least)), own_body n s r l n w.least (omega arith))

  -- so the message says the same
  pub own-said : (r : List ℕ) → said (take n s ++ r) ≡ said s
  unfolding content_in
  own-said r =
      let p = own-parts r in
      let same : content_in (take n s ++ r) h n ≡ content_in s h n = rw (p.0, p.1, p.2) in
      said-good (take n s ++ r) h n (own-good r) ∙ ap (λ (c : Content). c ∷ []) same ∙ sym (said-good s h n e)

-- where some bytes are one good message and no more, what stands behind them changes neither the step nor the Length
module _ (b r : List ℕ) (h : Header) (n : ℕ) (e : read_of b ≡ Good h n) (w : front_length b ≡ length b) where
  own-whole : take n b ≡ b
  own-whole = ap (λ (k : ℕ). take k b) (sym (front-good b h n e) ∙ w) ∙ take-length b

  long : (k : ℕ) → read_of b ≡ Err (Short k) → ⊥
  long k f = let z : ◌≡◌ {A = ℕ} 0 1 = cc in omega arith

  pub more-step : (x : Session) → step x (b ++ r) ≡ step x b
  unfolding step step_by step_in arrival_of
  more-step x = go x.state
    where
      go : (p : State) → step_in p x (b ++ r) (read_of (b ++ r)) ≡ step_in p x b (read_of b)
      go Down = refl
      go Waiting = ap (arrived x) (arrival-more b r long x.ours)
      go Live = ap (arrived x) (arrival-more b r long x.ours)

  pub more-front : front_length (b ++ r) ≡ length b
  more-front =
      let g : read_of (b ++ r) ≡ Good h n = ap (λ (y : List ℕ). read_of (y ++ r)) (sym own-whole) ∙ own-good b h n e r in
      front-good (b ++ r) h n g ∙ sym (front-good b h n e) ∙ w
