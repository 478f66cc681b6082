-- All fields of a message at once: `a_field` numbers for each set position, rising, which say what the questions answer there.
use Rattle.std.specs.Prelude.{ℕ, ◌/◌, true, Result, Ok, Err, cond, leb, length}
use mathlib.Core.List.{List, [], ◌∷◌, ◌++◌, foldr}
use Rattle.tables.specs.declared.table.Row.{Row}
use Rattle.tables.specs.Tables.{row_of}
use Rattle.wire.specs.Decimal.{unsigned}
use Rattle.fields.specs.declared.value.Value.{Value}
use Rattle.fields.specs.declared.value.Value.TheVariants as value
use Rattle.fields.specs.declared.value.NoValue.{NoValue}
use Rattle.fields.specs.Cut.{Piece, extent_of, cut}
use Rattle.fields.specs.Value.{row_value}
use Rattle.message.specs.declared.list.Listed.{Listed}
use Rattle.message.specs.declared.read.Reading.{Reading}
use Rattle.message.specs.declared.refusal.Refusal.{Refusal}
use Rattle.message.specs.declared.refusal.Refusal.TheVariants.{NoRoom}
use Rattle.message.specs.Frame.{map_in, body_in}
use Rattle.message.specs.Read.{read_of}
use Rattle.message.specs.Ask.{text_start}

abbrev pub a_field : ℕ
a_field = 5

-- the sorts
abbrev pub number_sort : ℕ
number_sort = 1

abbrev pub decimal_sort : ℕ
decimal_sort = 2

abbrev pub text_sort : ℕ
text_sort = 3

-- position; sort; where it begins; its bytes, or a text's characters; its value, a Decimal's as 64 bits. No field of a good message has sort 0
unfoldable pub five : ℕ → ℕ → ℕ → Result Value NoValue → List ℕ
five p at wide (Ok (value.Number n)) = p ∷ number_sort ∷ at ∷ wide ∷ n ∷ []
five p at wide (Ok (value.Decimal z)) = p ∷ decimal_sort ∷ at ∷ wide ∷ unsigned z ∷ []
five p at wide (Ok (value.Text n)) = p ∷ text_sort ∷ at ∷ n ∷ 0 ∷ []
five p at wide (Err why) = p ∷ 0 ∷ at ∷ 0 ∷ 0 ∷ []

-- of a field of a message of n bytes
unfoldable pub five_of : Row → ℕ → ℕ → List ℕ → List ℕ
five_of row n p s = five p (text_start row n (length s)) (extent_of row s) (row_value row true s)

unfoldable pub list_of : (ℕ → Row) → ℕ → List Piece → List ℕ
list_of rows n = foldr (λ (x : Piece) (rest : List ℕ). five_of (rows x.position) n x.position x.bytes ++ rest) []

-- the list of what was read, none on a refusal
unfoldable pub list_by : List ℕ → Result Reading Refusal → List ℕ
list_by s (Ok x) = list_of (row_of x.header.messagetype) x.length (cut (row_of x.header.messagetype) (map_in s) (body_in x.length s))
list_by s (Err r) = []

-- the answer, where so many numbers have room
unfoldable pub listed_by : ℕ → ℕ → Result Reading Refusal → Result Listed Refusal
listed_by need room (Ok x) = cond (leb need room) (Ok (record { header = x.header; length = x.length; fields = need / a_field })) (Err (NoRoom need))
listed_by need room (Err r) = Err r

unfoldable pub list_fields : List ℕ → List ℕ → Result Listed Refusal
list_fields s d = listed_by (length (list_by s (read_of s))) (length d) (read_of s)
