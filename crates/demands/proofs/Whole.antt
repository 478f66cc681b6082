-- Demand 3, its two halves together: fair events from a fresh day on, and then, if the session is live, an unbroken run of true copies. The first half
-- says that what was handed up is the list's business below E; the second that E ends one past the run. So everything below that was handed up.
use Prim.Native.Nat.{ℕ, ◌≤◌}
use mathlib.Core.Path.{◌≡◌, refl, ap, subst, ◌∙◌}
use mathlib.Core.List.{List, [], ◌∷◌, ◌++◌}
use native.Mathlib.Omega.{arith}
use Rattle.session.specs.declared.state.Session.{Session}
use Rattle.session.specs.declared.state.State.TheVariants.{Live}
use Rattle.session.specs.Day.{fresh}
use Rattle.demands.specs.Content.{Content}
use Rattle.demands.specs.Gateway.{below, Event, AllFair, none, more, after, after_all}
use Rattle.demands.specs.Run.{Run, lend_all, Taken}
use Rattle.demands.specs.Whole.{Whole}
use Rattle.demands.proofs.First.{first-half-from, fresh-expected, below-first}
use Rattle.demands.proofs.Second.{second-half}

pub fair-both : {L : List Content} {es fs : List Event} → AllFair L es → AllFair L fs → AllFair L (es ++ fs)
fair-both none g = g
fair-both (more f h) g = more f (fair-both h g)

after_both : (s : Session) (es fs : List Event) → after_all s (es ++ fs) ≡ after_all (after_all s es) fs
unfolding after_all
after_both s [] fs = refl
after_both s (e ∷ es) fs = after_both (after s e) es fs

-- from any session that has handed up the list's business below its E, a saved one too
pub both-halves-from : (L : List Content) (s : Session) (es : List Event) (bs : List (List ℕ)) (f : ℕ) → 1 ≤ s.expected → AllFair L es
    → (after_all s es).state ≡ Live → Run (after_all s es).ours (after_all s es).expected bs f → AllFair L (lend_all bs)
    → Whole L (below L s.expected) s es bs f
both-halves-from L s es bs f l fair p run copies =
    let t : Taken (after_all s es) bs f = second-half (after_all s es) bs f p run in
    let a = after_both s es (lend_all bs) in
    let e : (after_all s (es ++ lend_all bs)).expected ≡ f = ap (λ (x : Session). x.expected) a ∙ t.expected in
    record {
      state = ap (λ (x : Session). x.state) a ∙ t.state;
      expected = e;
      handed = first-half-from L s (es ++ lend_all bs) l (fair-both fair copies) ∙ ap (below L) e;
    }

-- from a fresh day
pub both_halves : (L : List Content) (comp_id : List ℕ) (es : List Event) (bs : List (List ℕ)) (f : ℕ) → AllFair L es
    → (after_all (fresh comp_id).session es).state ≡ Live
    → Run (after_all (fresh comp_id).session es).ours (after_all (fresh comp_id).session es).expected bs f → AllFair L (lend_all bs)
    → Whole L [] (fresh comp_id).session es bs f
both_halves L comp_id es bs f fair p run copies =
    let s : Session = (fresh comp_id).session in
    let e : s.expected ≡ 1 = fresh-expected comp_id in
    let z : below L s.expected ≡ [] = rw e (below-first L) in
    subst (λ (x : List Content). Whole L x s es bs f) z (both-halves-from L s es bs f (omega arith) fair p run copies)
