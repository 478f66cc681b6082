use Rattle.std.proofs.Common.{◌≡◌, ◌++◌, ◌∷◌, [], List, rules}
use Rattle.std.proofs.lemmas.List.{nil_from_length}
use mathlib.Core.Path.{refl, sym, ap, ap₂, ◌∙◌}
use mathlib.Core.List.{append-nil, append_assoc}
use Rattle.tables.specs.declared.dictionary.Field.{Field}
use Rattle.tables.specs.Tables.{row_of}
use Rattle.wire.specs.Map.{with_position}
use Rattle.writer.specs.Send.{map_with}
use Rattle.writer.proofs.send.map_of.Goals as goal

pub loop-field-init : goal.loop-field-init
unfolding map_with
loop-field-init c =
    let e : c.into_iter-field-iterator.result.iter.rest.now ≡ c.args.fields.now = search rules in
    ([], sym (append-nil _ ∙ e), refl)

pub loop-field-preserved : goal.loop-field-preserved
unfolding map_with
loop-field-preserved c =
    let i = c.loop-field.invariant in
    let x = c.in-Some.field.now in
    let rows = row_of c.args.messagetype in
    let e : c.loop-field.field-iterator.iter.rest.now ≡ c.next.new.self.iter.rest.now ++ x ∷ [] = search rules in (
      x ∷ i.0,
      i.1 ∙ ap (λ (s : List Field). s ++ i.0) e ∙ search (rules, append_assoc),
      c.set_present.ensures ∙ ap₂ with_position c.position_of.ensures i.2,
    )

pub returns : goal.returns
returns c =
    let i = c.loop-field.invariant in
    let e = nil_from_length c.loop-field.field-iterator.iter.rest.now (search rules) in
    i.2 ∙ ap (map_with (row_of c.args.messagetype)) (sym (i.1 ∙ ap (λ (s : List Field). s ++ i.0) e))
