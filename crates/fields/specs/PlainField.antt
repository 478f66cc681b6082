-- What the plain form of a field must be (document 01, "The frame").
use Rattle.std.specs.Prelude.{◌≡◌, List, ◌++◌, ℕ, length}
use Rattle.tables.specs.declared.dictionary.Sort.{Sort}
use Rattle.fields.specs.Check.{check_sort, good_field}
use Rattle.fields.specs.Plain.{plain_sort}
use Rattle.fields.specs.Value.{sort_value, sort_text}

-- with any bytes r behind it, it is a good field of `plain` bytes, with the value and the characters of the field at the front of s, and its own plain form
pub record PlainField (sort : Sort) (s : List ℕ) (plain : ℕ) : Type 0 where
  pub size : length (plain_sort sort s) ≡ plain
  pub checked : (r : List ℕ) → check_sort sort (plain_sort sort s ++ r) ≡ good_field plain plain
  pub same-value : (r : List ℕ) → sort_value sort (plain_sort sort s ++ r) ≡ sort_value sort s
  pub same_text : (r : List ℕ) → sort_text sort (plain_sort sort s ++ r) ≡ sort_text sort s
  pub again : (r : List ℕ) → plain_sort sort (plain_sort sort s ++ r) ≡ plain_sort sort s
