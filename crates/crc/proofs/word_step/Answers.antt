-- `crc::word_step` meets its contract: the four bytes of the register, and the four that are looked up by themselves.
use Rattle.std.proofs.Common.{bit_xor, rules, sym, ap, subst, ◌∙◌}
use Rattle.std.proofs.NetLemmas.Arrays.{eight_items}
use Rattle.std.proofs.lemmas.Nat.{xor_of_32}
use Rattle.wire.specs.Number.{Bytes}
use Rattle.crc.specs.Register.{register}
use Rattle.crc.proofs.Linear.{register-word}
use Rattle.crc.proofs.word_step.Goals as goal

pub returns : goal.returns
returns c =
    let s = c.args.s.now in
    let items = eight_items s c.told-s in
    let bytes : Bytes s = search rules in
    rw (
      c.entry.ensures,
      c.entry-2.ensures,
      c.entry-3.ensures,
      c.entry-4.ensures,
      c.entry-5.ensures,
      c.entry-6.ensures,
      c.entry-7.ensures,
      c.entry-8.ensures,
      c.to_le_bytes.ensures,
    )
    (sym (ap (register c.args.c) items
    ∙ register-word c.args.c _ _ _ _ _ _ _ _ _ (subst Bytes items bytes) (xor_of_32 _ _ c.ranges.c.fits (search rules)) (ap (bit_xor c.args.c) c.from_le_bytes.ensures)))
