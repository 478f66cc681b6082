-- `capi::write::CWrittenFromResultUsizeNotLaid::from` meets its contract: each answer's numbers.
use Rattle.std.proofs.Common.{◌≡◌, ℕ, Err, sym, refl, ap, ◌∙◌, ap₂}
use Rattle.wire.specs.declared.laying.NotLaid.{NotLaid}
use Rattle.wire.specs.declared.laying.NotLaid.TheVariants.{BadText, NoRoom}
use Rattle.wire.specs.Laying.{refusal, besides}
use Rattle.capi.specs.Writing.{wrote, shown_laid}
use Rattle.capi.proofs.write.CWrittenFromResultUsizeNotLaid.from.Goals as goal

-- a refusal's numbers
numbers : (why : NotLaid) → wrote (refusal (Err why)) (besides (Err why)) 0 ≡ shown_laid (Err why)
unfolding shown_laid besides
numbers BadText = refl
numbers (NoRoom n) = refl

pub returns-in-Ok : goal.returns-in-Ok
unfolding shown_laid
returns-in-Ok c = simp (c.wrote.ensures, c.in-Ok.is)

pub returns-in-Err : goal.returns-in-Err
returns-in-Err c =
    c.wrote-in-Err.ensures ∙ ap₂ (λ (n k : ℕ). wrote n k 0) c.number.ensures c.besides.ensures
    ∙ numbers c.in-Err.not_laid ∙ ap shown_laid (sym c.in-Err.is)
