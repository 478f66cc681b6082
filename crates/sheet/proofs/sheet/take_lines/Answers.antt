use mathlib.Core.Path.{◌≡◌, refl, sym, ap, ◌∙◌, subst}
use Prim.Native.Nat.{ℕ, ◌+◌, ◌-◌, ◌<◌}
use native.Mathlib.Omega.{arith}
use lib.ListN.{length, take, drop}
use borrow.Rule.Slice.PartMut.{put_mid}
use Rattle.wire.specs.Laying.{laid, laid_answer}
use Rattle.session.specs.declared.state.Stepped.{Stepped}
use Rattle.session.specs.Rules.{ruled}
use Rattle.std.specs.Prelude.{Some, None}
use Rattle.sheet.specs.Line.{said_of}
use Rattle.sheet.specs.Print.{printed, printed_bad}
use Rattle.sheet.specs.declared.sheet.End.{End}
use Rattle.sheet.specs.declared.sheet.Taken.{Taken}
use Rattle.sheet.specs.Sheet.{message_of}
use Rattle.sheet.proofs.SheetLaws.{Taking, taking-none, taking-length, lent_length, answer-fits, answer-full, take_none, take-line, take-full, take-bad, take-bad-full}
use Rattle.sheet.proofs.sheet.take_lines.Goals as goal

pub loop-rest-init : goal.loop-rest-init
loop-rest-init c =
    let a = c.args in
    (taking-none a.d.now a.s.now a.session a.count, refl)

pub returns-then-n-rest : goal.returns-then-n-rest
returns-then-n-rest c =
    let a = c.args in
    let bytes = a.s.now in
    let d = c.loop-rest.d in
    let used = c.loop-rest.so_far.used in
    let written = c.loop-rest.so_far.written in
    let lent = take (length bytes - used) (drop used bytes) in
    let f = c.line_length-n in
    let h : f.result ≡ length lent = omega (arith, lent_length used bytes, c.if-n-rest.true) in
    let day : Taken = c.loop-rest.so_far in
    let o = take_none a.d.now bytes a.session a.count d c.loop-rest.so_far.session c.loop-rest.so_far.count used written c.loop-rest.invariant.0 f.result f.ensures.0 h in
    record { value = ap (λ (e : End). record { session = day.session; count = day.count; used = day.used; written = day.written; end = e }) c.loop-rest.invariant.1 ∙ o.answer; d_after = o.buffer }

pub returns-in_default : goal.returns-in_default
returns-in_default c =
    let a = c.args in
    let bytes = a.s.now in
    let d = c.loop-rest.d in
    let used = c.loop-rest.so_far.used in
    let written = c.loop-rest.so_far.written in
    let lent = take (length bytes - used) (drop used bytes) in
    let f = c.line_length-n in
    let h : f.result < length lent = omega (arith, f.ensures.1, lent_length used bytes, c.if-n-rest.false) in
    let x = take (length d - written) (drop written d) in
    let r = c.put_printed in
    let l = c.in-Some.line in
    let e : said_of (take f.result lent) ≡ Some l = sym c.read_line.ensures ∙ c.in-Some.is in
    let st : c.ruled-stepped.result ≡ ruled c.loop-rest.so_far.session (message_of l) = c.ruled-stepped.ensures ∙ ap (ruled c.loop-rest.so_far.session) c.message_of.ensures in
    let bs = printed (ruled c.loop-rest.so_far.session (message_of l)) in
    let an : r.result ≡ laid_answer bs x = r.ensures.0 ∙ ap (λ (z : Stepped). laid_answer (printed z) x) st in
    let p : r.new.d ≡ laid bs x = r.ensures.1 ∙ ap (λ (z : Stepped). laid (printed z) x) st in
    let full = answer-full bs x _ (sym an ∙ c.in_default.is) in
    let o = take-full a.d.now bytes a.session a.count d c.loop-rest.so_far.session c.loop-rest.so_far.count used written c.loop-rest.invariant.0 f.result f.ensures.0 h r.new.d l e p full in
    record { value = o.answer; d_after = o.buffer }

pub overflow_add-so_far-in-Some-2 : goal.overflow_add-so_far-in-Some-2
overflow_add-so_far-in-Some-2 c =
    let a = c.args in
    let bytes = a.s.now in
    let d = c.loop-rest.d in
    let used = c.loop-rest.so_far.used in
    let written = c.loop-rest.so_far.written in
    let lent = take (length bytes - used) (drop used bytes) in
    let f = c.line_length-n in
    let h : f.result < length lent = omega (arith, f.ensures.1, lent_length used bytes, c.if-n-rest.false) in
    let x = take (length d - written) (drop written d) in
    let r = c.put_printed in
    let l = c.in-Some.line in
    let e : said_of (take f.result lent) ≡ Some l = sym c.read_line.ensures ∙ c.in-Some.is in
    let st : c.ruled-stepped.result ≡ ruled c.loop-rest.so_far.session (message_of l) = c.ruled-stepped.ensures ∙ ap (ruled c.loop-rest.so_far.session) c.message_of.ensures in
    let bs = printed (ruled c.loop-rest.so_far.session (message_of l)) in
    let an : r.result ≡ laid_answer bs x = r.ensures.0 ∙ ap (λ (z : Stepped). laid_answer (printed z) x) st in
    let p : r.new.d ≡ laid bs x = r.ensures.1 ∙ ap (λ (z : Stepped). laid (printed z) x) st in
    let fit = answer-fits bs x c.in-Ok.laid (sym an ∙ c.in-Ok.is) in
    let k : length x ≡ length d - written = lent_length written d in
    let g = taking-length a.d.now bytes a.session a.count d c.loop-rest.so_far.session c.loop-rest.so_far.count used written c.loop-rest.invariant.0 in
    omega arith

pub loop-rest-preserved : goal.loop-rest-preserved
loop-rest-preserved c =
    let a = c.args in
    let bytes = a.s.now in
    let d = c.loop-rest.d in
    let used = c.loop-rest.so_far.used in
    let written = c.loop-rest.so_far.written in
    let lent = take (length bytes - used) (drop used bytes) in
    let f = c.line_length-n in
    let h : f.result < length lent = omega (arith, f.ensures.1, lent_length used bytes, c.if-n-rest.false) in
    let x = take (length d - written) (drop written d) in
    let r = c.put_printed in
    let l = c.in-Some.line in
    let e : said_of (take f.result lent) ≡ Some l = sym c.read_line.ensures ∙ c.in-Some.is in
    let st : c.ruled-stepped.result ≡ ruled c.loop-rest.so_far.session (message_of l) = c.ruled-stepped.ensures ∙ ap (ruled c.loop-rest.so_far.session) c.message_of.ensures in
    let bs = printed (ruled c.loop-rest.so_far.session (message_of l)) in
    let an : r.result ≡ laid_answer bs x = r.ensures.0 ∙ ap (λ (z : Stepped). laid_answer (printed z) x) st in
    let p : r.new.d ≡ laid bs x = r.ensures.1 ∙ ap (λ (z : Stepped). laid (printed z) x) st in
    let fit = answer-fits bs x c.in-Ok.laid (sym an ∙ c.in-Ok.is) in
    let y = put_mid written (length d - written) d r.new.d in
    let next = used + (f.result + 1) in
    let more = written + c.in-Ok.laid in (
      subst (λ (z : Stepped). Taking a.d.now bytes a.session a.count y z.session c.next_count.result next more) (sym st)
          (subst (λ (z : ℕ). Taking a.d.now bytes a.session a.count y (ruled c.loop-rest.so_far.session (message_of l)).session z next more) (sym c.next_count.ensures)
          (take-line a.d.now bytes a.session a.count d c.loop-rest.so_far.session c.loop-rest.so_far.count used written c.loop-rest.invariant.0 f.result f.ensures.0 h r.new.d l e p fit.0 c.in-Ok.laid fit.1)),
      c.loop-rest.invariant.1,
    )

pub returns-in_default-put_bad : goal.returns-in_default-put_bad
returns-in_default-put_bad c =
    let a = c.args in
    let bytes = a.s.now in
    let d = c.loop-rest.d in
    let used = c.loop-rest.so_far.used in
    let written = c.loop-rest.so_far.written in
    let lent = take (length bytes - used) (drop used bytes) in
    let f = c.line_length-n in
    let h : f.result < length lent = omega (arith, f.ensures.1, lent_length used bytes, c.if-n-rest.false) in
    let x = take (length d - written) (drop written d) in
    let r = c.put_bad in
    let k = c.loop-rest.so_far.count in
    let e : said_of (take f.result lent) ≡ None = sym c.read_line.ensures ∙ c.in-None.is in
    let full = answer-full (printed_bad k) x _ (sym r.ensures.0 ∙ c.in_default-put_bad.is) in
    let o = take-bad-full a.d.now bytes a.session a.count d c.loop-rest.so_far.session c.loop-rest.so_far.count used written c.loop-rest.invariant.0 f.result f.ensures.0 h r.new.d e r.ensures.1 full in
    record { value = o.answer; d_after = o.buffer }

pub overflow_add-result-in-None-2 : goal.overflow_add-result-in-None-2
overflow_add-result-in-None-2 c =
    let a = c.args in
    let bytes = a.s.now in
    let d = c.loop-rest.d in
    let used = c.loop-rest.so_far.used in
    let written = c.loop-rest.so_far.written in
    let lent = take (length bytes - used) (drop used bytes) in
    let f = c.line_length-n in
    let h : f.result < length lent = omega (arith, f.ensures.1, lent_length used bytes, c.if-n-rest.false) in
    let x = take (length d - written) (drop written d) in
    let r = c.put_bad in
    let k = c.loop-rest.so_far.count in
    let e : said_of (take f.result lent) ≡ None = sym c.read_line.ensures ∙ c.in-None.is in
    let fit = answer-fits (printed_bad k) x c.in-Ok-put_bad.laid (sym r.ensures.0 ∙ c.in-Ok-put_bad.is) in
    let j : length x ≡ length d - written = lent_length written d in
    let g = taking-length a.d.now bytes a.session a.count d c.loop-rest.so_far.session c.loop-rest.so_far.count used written c.loop-rest.invariant.0 in
    omega arith

pub returns-in-None : goal.returns-in-None
returns-in-None c =
    let a = c.args in
    let bytes = a.s.now in
    let d = c.loop-rest.d in
    let used = c.loop-rest.so_far.used in
    let written = c.loop-rest.so_far.written in
    let lent = take (length bytes - used) (drop used bytes) in
    let f = c.line_length-n in
    let h : f.result < length lent = omega (arith, f.ensures.1, lent_length used bytes, c.if-n-rest.false) in
    let x = take (length d - written) (drop written d) in
    let r = c.put_bad in
    let k = c.loop-rest.so_far.count in
    let e : said_of (take f.result lent) ≡ None = sym c.read_line.ensures ∙ c.in-None.is in
    let fit = answer-fits (printed_bad k) x c.in-Ok-put_bad.laid (sym r.ensures.0 ∙ c.in-Ok-put_bad.is) in
    let o = take-bad a.d.now bytes a.session a.count d c.loop-rest.so_far.session c.loop-rest.so_far.count used written c.loop-rest.invariant.0 f.result f.ensures.0 h r.new.d e r.ensures.1 fit.0 c.in-Ok-put_bad.laid fit.1 in
    record { value = o.answer; d_after = o.buffer }
