-- The row that hands up a business message bears its number: the one message that arrived, which is business and was expected. Assumes nothing.
use Prim.Native.Nat.{ℕ}
use mathlib.Core.Path.{◌≡◌, sym, ap, ◌∙◌}
use mathlib.Core.List.{List}
use native.Mathlib.Omega.{arith}
use Rattle.session.specs.declared.state.Row.{Row}
use Rattle.session.specs.declared.state.Row.TheVariants as row
use Rattle.session.specs.declared.state.Session.{Session}
use Rattle.session.specs.Arrival.{arrival_of}
use Rattle.session.specs.Day.{step}
use Rattle.session.proofs.Effect.{Moves, still, business, session, filled, reset, step-effect, good-arrives}
use Rattle.demands.specs.Content.{content_in}
use Rattle.demands.specs.Gateway.{handed_by, handed}
use Rattle.demands.specs.Whole.{HandsUp}
use Rattle.demands.proofs.Arrivals.{said-good, says-business}
use Rattle.demands.proofs.FairStep.{arrives-number, arrives-sort}

bears : (s : Session) (b : List ℕ) (n : ℕ) → (step s b).answer.row ≡ row.Business n → Moves s (arrival_of s.ours b) (step s b) → HandsUp s b n
unfolding handed handed_by content_in
bears s b n r (still x w) = let z : ◌≡◌ {A = ℕ} 0 1 = cc in absurd (omega arith)
bears s b n r (business m e o c d u x w) =
    let a = good-arrives s.ours b m e in
    let q : n ≡ m.number = cc in
    record {
      message = content_in b a.header a.length;
      handed = ap (λ (y : Row). handed_by y b) r ∙ said-good b a.header a.length a.read;
      business = says-business b a.header a.length a.read (arrives-sort a ∙ c);
      number = arrives-number a ∙ sym q;
      expected = q ∙ d;
    }
bears s b n r (session m e o c d u x w) = let z : ◌≡◌ {A = ℕ} 0 1 = cc in absurd (omega arith)
bears s b n r (filled m new e o c d u x w) = let z : ◌≡◌ {A = ℕ} 0 1 = cc in absurd (omega arith)
bears s b n r (reset m new e o c d x w) = let z : ◌≡◌ {A = ℕ} 0 1 = cc in absurd (omega arith)

pub business-row-bears-number : (s : Session) (b : List ℕ) (n : ℕ) → (step s b).answer.row ≡ row.Business n → HandsUp s b n
business-row-bears-number s b n r = bears s b n r (step-effect s b).moves
