-- Numbers in lower-case hexadecimal digits, high digit first.
use Rattle.std.specs.Prelude.{ℕ, zero, suc, ◌+◌, ◌*◌, ◌-◌, ◌/◌, ◌%◌, Bool, true, false, List, [], ◌∷◌, ◌++◌, take, drop, ltb, leb}
use Rattle.base.specs.Pick.{pick}

-- what a byte is worth: 0 to 9 are the bytes 48 to 57, a to f the bytes 97 to 102, and 16 is no digit
unfoldable pub digit_of : ℕ → ℕ
digit_of b = pick (ltb b 48) 16 (pick (leb b 57) (b - 48) (pick (ltb b 97) 16 (pick (leb b 102) (b - 97 + 10) 16)))

-- the byte of a digit
unfoldable pub hex_of : ℕ → ℕ
hex_of d = pick (ltb d 10) (48 + d) (97 + (d - 10))

unfoldable pub all_digits : List ℕ → Bool
all_digits [] = true
all_digits (b ∷ l) = pick (ltb (digit_of b) 16) (all_digits l) false

-- the number whose digits are those of v and then l
unfoldable pub number_from : ℕ → List ℕ → ℕ
number_from v [] = v
number_from v (b ∷ l) = number_from (v * 16 + digit_of b) l

abbrev pub number_of : List ℕ → ℕ
number_of l = number_from 0 l

-- the number of the n digits from at on
abbrev pub field : ℕ → ℕ → List ℕ → ℕ
field at n l = number_of (take n (drop at l))

-- the last n digits of x
unfoldable pub digits_of : ℕ → ℕ → List ℕ
digits_of zero x = []
digits_of (suc n) x = digits_of n (x / 16) ++ hex_of (x % 16) ∷ []
