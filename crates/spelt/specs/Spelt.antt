-- Numbers and Decimals as decimal text. A Decimal is a signed count of hundred-millionths (004 section 6.1, row 4; document 01, "The frame").
use Rattle.std.specs.Prelude.{ℕ, zero, suc, ◌+◌, ◌/◌, ◌%◌, ◌^◌, cond, List, [], ◌∷◌, ◌++◌, eqb, ltb, ℤ, pos, negsuc}

-- a number in decimal digits, the fewest; twenty hold 64 bits
unfoldable pub digits : ℕ → ℕ → List ℕ
digits zero n = []
digits (suc k) n = cond (ltb n 10) ((48 + n) ∷ []) (digits k (n / 10) ++ (48 + n % 10) ∷ [])

unfoldable pub number_text : ℕ → List ℕ
number_text n = digits 20 n

-- the first k digits after the point, down to the last that is not 0
unfoldable pub fraction : ℕ → ℕ → List ℕ
fraction zero n = []
fraction (suc k) n = cond (eqb n 0) [] ((48 + n / 10 ^ k) ∷ fraction k (n % 10 ^ k))

-- a count of hundred-millionths as the shortest exact decimal text: no point where nothing stands after it
unfoldable pub hundred_millionths : ℕ → List ℕ
hundred_millionths n = number_text (n / 10 ^ 8) ++ cond (eqb (n % 10 ^ 8) 0) [] (46 ∷ fraction 8 (n % 10 ^ 8))

-- with its sign; `negsuc n` is -(n + 1)
unfoldable pub amount_text : ℤ → List ℕ
amount_text (pos n) = hundred_millionths n
amount_text (negsuc n) = 45 ∷ hundred_millionths (suc n)
