-- The fields' names as bytes.
use Rattle.std.specs.Prelude.{ℕ, ◌+◌, ◌/◌, ◌%◌, cond, List, [], ◌∷◌, ltb}
use Rattle.wire.specs.Spelled.{spelled}
use Rattle.tables.specs.declared.dictionary.Field.{Field}
use Rattle.tables.specs.Dictionary.{entry}

-- UTF-8 of characters below 128, and of those of three bytes: the dash of Time In Force – TIF, U+2013, is the only one
unfoldable pub utf8 : List ℕ → List ℕ
utf8 [] = []
utf8 (c ∷ cs) = cond (ltb c 128) (c ∷ utf8 cs) ((224 + c / 4096) ∷ (128 + c / 64 % 64) ∷ (128 + c % 64) ∷ utf8 cs)

-- the name that the row of section 8.2 has
unfoldable pub name_of : Field → List ℕ
name_of f = utf8 (spelled (entry f).1)
