-- `sheet::line::read_line` meets its contract: text by text.
use mathlib.Core.Path.{◌≡◌, sym, ◌∙◌}
use mathlib.Core.Bool.{true, false}
use Rattle.wire.specs.Spelled.{spelled}
use Rattle.sheet.specs.declared.line.Kind.TheVariants.{Logon, Business, GapFill, Reset}
use Rattle.sheet.specs.Line.{begins, numbers_of, said_of}
use Rattle.sheet.proofs.LineLaws.{begins-by, after-good}
use Rattle.sheet.proofs.line.read_line.Goals as goal

pub returns-in-Some : goal.returns-in-Some
unfolding spelled said_of
returns-in-Some c =
    let s = c.args.s.now in
    let m = c.in-Some.ensures.cases in
    let e1 : begins (spelled "kind=logon n=") s ≡ true = begins-by (spelled "kind=logon n=") s true m.0 in
    c.numbers_of.ensures ∙ sym (rw (e1) (after-good (spelled "kind=logon n=") (numbers_of Logon) s m.0 c.in-Some.rest.now m.1))

pub returns-in-Some-strip_prefix : goal.returns-in-Some-strip_prefix
unfolding spelled said_of
returns-in-Some-strip_prefix c =
    let s = c.args.s.now in
    let e1 : begins (spelled "kind=logon n=") s ≡ false = begins-by (spelled "kind=logon n=") s false c.in_default.ensures.cases in
    let m = c.in-Some-strip_prefix.ensures.cases in
    let e2 : begins (spelled "kind=business n=") s ≡ true = begins-by (spelled "kind=business n=") s true m.0 in
    c.numbers_of-in-Some-strip_prefix.ensures ∙ sym (rw (e1, e2) (after-good (spelled "kind=business n=") (numbers_of Business) s m.0 c.in-Some-strip_prefix.rest.now m.1))

pub returns-in-Some-strip_prefix-2 : goal.returns-in-Some-strip_prefix-2
unfolding spelled said_of
returns-in-Some-strip_prefix-2 c =
    let s = c.args.s.now in
    let e1 : begins (spelled "kind=logon n=") s ≡ false = begins-by (spelled "kind=logon n=") s false c.in_default.ensures.cases in
    let e2 : begins (spelled "kind=business n=") s ≡ false = begins-by (spelled "kind=business n=") s false c.in_default-strip_prefix.ensures.cases in
    let m = c.in-Some-strip_prefix-2.ensures.cases in
    let e3 : begins (spelled "kind=gapfill n=") s ≡ true = begins-by (spelled "kind=gapfill n=") s true m.0 in
    c.numbers_of-in-Some-strip_prefix-2.ensures ∙ sym (rw (e1, e2, e3) (after-good (spelled "kind=gapfill n=") (numbers_of GapFill) s m.0 c.in-Some-strip_prefix-2.rest.now m.1))

pub returns-in-Some-strip_prefix-3 : goal.returns-in-Some-strip_prefix-3
unfolding spelled said_of
returns-in-Some-strip_prefix-3 c =
    let s = c.args.s.now in
    let e1 : begins (spelled "kind=logon n=") s ≡ false = begins-by (spelled "kind=logon n=") s false c.in_default.ensures.cases in
    let e2 : begins (spelled "kind=business n=") s ≡ false = begins-by (spelled "kind=business n=") s false c.in_default-strip_prefix.ensures.cases in
    let e3 : begins (spelled "kind=gapfill n=") s ≡ false = begins-by (spelled "kind=gapfill n=") s false c.in_default-strip_prefix-2.ensures.cases in
    let m = c.in-Some-strip_prefix-3.ensures.cases in
    let e4 : begins (spelled "kind=reset n=") s ≡ true = begins-by (spelled "kind=reset n=") s true m.0 in
    c.numbers_of-in-Some-strip_prefix-3.ensures ∙ sym (rw (e1, e2, e3, e4) (after-good (spelled "kind=reset n=") (numbers_of Reset) s m.0 c.in-Some-strip_prefix-3.rest.now m.1))

pub returns-in_default-strip_prefix-3 : goal.returns-in_default-strip_prefix-3
unfolding spelled said_of
returns-in_default-strip_prefix-3 c =
    let s = c.args.s.now in
    let e1 : begins (spelled "kind=logon n=") s ≡ false = begins-by (spelled "kind=logon n=") s false c.in_default.ensures.cases in
    let e2 : begins (spelled "kind=business n=") s ≡ false = begins-by (spelled "kind=business n=") s false c.in_default-strip_prefix.ensures.cases in
    let e3 : begins (spelled "kind=gapfill n=") s ≡ false = begins-by (spelled "kind=gapfill n=") s false c.in_default-strip_prefix-2.ensures.cases in
    let e4 : begins (spelled "kind=reset n=") s ≡ false = begins-by (spelled "kind=reset n=") s false c.in_default-strip_prefix-3.ensures.cases in
    rw (e1, e2, e3, e4)
