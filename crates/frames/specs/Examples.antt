-- Lines worked out: frames of document 01, lines that are none, and the last answer of its example.
use Rattle.std.specs.Prelude.{ℕ, ◌≡◌, refl, true, List, [], ◌∷◌, ◌++◌, replicate}
use Rattle.rules.specs.declared.Operation.TheVariants.{Acquire, Retire}
use Rattle.frames.specs.Hex.{digit_of, hex_of, all_digits, number_from, digits_of}
use Rattle.frames.specs.Frames.{fields_in, framed, line_of, answer_of}
use Rattle.frames.specs.declared.Line.TheVariants.{Step, Start, Bad}

-- n digits 0
zeros : ℕ → List ℕ
zeros n = replicate n 48

-- 00 03 0001 0000 00000000000000ff
step : line_of (zeros 3 ++ 51 ∷ zeros 3 ++ 49 ∷ zeros 18 ++ 102 ∷ 102 ∷ []) ≡ Step 3 true 255
unfolding zeros digit_of all_digits number_from fields_in framed line_of
step = refl

-- 01 00 0000 0000 0000000000000000
acquire : line_of (48 ∷ 49 ∷ zeros 26) ≡ Start 0 Acquire
unfolding zeros digit_of all_digits number_from fields_in framed line_of
acquire = refl

-- 09 ff 1000 0000 0000000000000100
retire : line_of (48 ∷ 57 ∷ 102 ∷ 102 ∷ 49 ∷ zeros 20 ++ 49 ∷ zeros 2) ≡ Start 255 (Retire 4096 256)
unfolding zeros digit_of all_digits number_from fields_in framed line_of
retire = refl

-- ---- no frames: an empty line, a carriage return, upper case, a flag of 2, an unused field, an unknown kind
empty : line_of [] ≡ Bad
unfolding line_of
empty = refl

carriage_return : line_of (48 ∷ 49 ∷ zeros 26 ++ 13 ∷ []) ≡ Bad
unfolding zeros line_of
carriage_return = refl

upper_case : line_of (48 ∷ 65 ∷ zeros 26) ≡ Bad
unfolding zeros digit_of all_digits line_of
upper_case = refl

flag_of_two : line_of (zeros 7 ++ 50 ∷ zeros 20) ≡ Bad
unfolding zeros digit_of all_digits number_from fields_in framed line_of
flag_of_two = refl

unused-field : line_of (48 ∷ 49 ∷ zeros 25 ++ 49 ∷ []) ≡ Bad
unfolding zeros digit_of all_digits number_from fields_in framed line_of
unused-field = refl

unknown_kind : line_of (48 ∷ 100 ∷ zeros 26) ≡ Bad
unfolding zeros digit_of all_digits number_from fields_in framed line_of
unknown_kind = refl

-- ---- 02 00 0000000000000001
acquired : answer_of 2 0 1 ≡ 48 ∷ 50 ∷ zeros 17 ++ 49 ∷ 10 ∷ []
unfolding zeros hex_of digits_of answer_of
acquired = refl
