-- Numbers in decimal digits, high digit first.
use Rattle.std.specs.Prelude.{ℕ, zero, suc, ◌+◌, ◌-◌, ◌/◌, ◌%◌, List, [], ◌∷◌, ◌++◌, ltb}
use Rattle.base.specs.Pick.{pick}

-- how many digits x has, if at most k + 1
unfoldable pub width_of : ℕ → ℕ → ℕ
width_of zero x = 1
width_of (suc k) x = pick (ltb x 10) 1 (suc (width_of k (x / 10)))

-- the last n digits of x
unfoldable pub digits_of : ℕ → ℕ → List ℕ
digits_of zero x = []
digits_of (suc n) x = digits_of n (x / 10) ++ (48 + x % 10) ∷ []

-- a number of 64 bits has at most 20 digits
abbrev pub decimal_of : ℕ → List ℕ
decimal_of x = digits_of (width_of 19 x) x

-- 64 bits as a signed number
unfoldable pub signed_of : ℕ → List ℕ
signed_of x = pick (ltb x 9223372036854775808) (decimal_of x) (45 ∷ decimal_of (18446744073709551616 - x))

-- ---- a line: a name, which has its blanks, and a number
abbrev pub line_of : List ℕ → ℕ → List ℕ
line_of name x = name ++ decimal_of x ++ 10 ∷ []

abbrev pub signed_line_of : List ℕ → ℕ → List ℕ
signed_line_of name x = name ++ signed_of x ++ 10 ∷ []

abbrev pub field_line_of : List ℕ → ℕ → List ℕ → ℕ → List ℕ
field_line_of name id field x = name ++ decimal_of id ++ line_of field x
