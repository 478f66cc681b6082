-- `writer::write::put_message` meets its contract: by the room the answer is NoRoom, or the message, laid in three goes.
use mathlib.Core.Path.{◌≡◌, sym, ap}
use Prim.Native.Nat.{ℕ, ◌+◌}
use native.Mathlib.Omega.{arith}
use lib.ListN.{length}
use Rattle.tables.specs.Tables.{row_of}
use Rattle.fields.specs.Plain.{plain_fields}
use Rattle.message.proofs.LongestLaws.{never-long}
use Rattle.writer.specs.Plain.{plain_message}
use Rattle.writer.proofs.WriteLaws.{vetted-text, vetted-low, vetted-length, vetted-room, message-laid, write-full, write_done}
use Rattle.writer.proofs.write.put_message.Goals as goal

pub overflow_add-n : goal.overflow_add-n
overflow_add-n c =
    omega (arith, never-long c.args.header c.args.comp.now c.args.map.now c.args.body.now c.args.plain c.requires.1)

pub returns-then-d-n : goal.returns-then-d-n
returns-then-d-n c =
    write-full c.args.header c.args.comp.now c.args.map.now c.args.body.now c.args.d.now c.args.plain c.requires.1 c.if-d-n.true

pub overflow_cast-n : goal.overflow_cast-n
overflow_cast-n c =
    omega (arith, never-long c.args.header c.args.comp.now c.args.map.now c.args.body.now c.args.plain c.requires.1)

pub put_head-requires : goal.put_head-requires
put_head-requires c =
    (omega arith, vetted-text c.args.header c.args.comp.now c.args.map.now c.args.body.now c.args.d.now c.args.plain c.requires.1, c.requires.0)

pub put_fields-requires : goal.put_fields-requires
put_fields-requires c =
    let x = c.put_head in
    record {
      in_bounds = (omega arith, vetted-low c.args.header c.args.comp.now c.args.map.now c.args.body.now c.args.d.now c.args.plain c.requires.1);
      body_in_bounds = vetted-room c.args.header c.args.comp.now c.args.map.now c.args.body.now c.args.d.now c.args.plain c.requires.1 x.new.d (omega (arith, x.auto.d));
    }

pub returns : goal.returns
unfolding plain_message
returns c =
    let h = c.args.header in
    let m = c.args.map.now in
    let p = plain_fields (row_of h.messagetype) m c.args.body.now in
    let n = 58 + c.args.plain in
    let e : n ≡ 58 + length p = ap (λ (k : ℕ). 58 + k) (sym (vetted-length c.args.header c.args.comp.now c.args.map.now c.args.body.now c.args.d.now c.args.plain c.requires.1)) in
    write_done c.args.header c.args.comp.now c.args.map.now c.args.body.now c.args.d.now c.args.plain c.requires.1 c.requires.0 (omega arith) _
    (message-laid h c.args.comp.now m p (vetted-text c.args.header c.args.comp.now c.args.map.now c.args.body.now c.args.d.now c.args.plain c.requires.1) c.requires.0 n c.args.d.now _ _ _ e (omega arith)
    c.put_head.ensures c.put_fields.ensures c.put_sum.ensures)
