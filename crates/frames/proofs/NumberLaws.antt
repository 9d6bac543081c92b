-- A number and its digits: each is read back from the other. They stand apart from the definitions, so that an edit of the
-- definition is refused here.
use Rattle.std.specs.Prelude.{ℕ, zero, suc, ◌+◌, ◌*◌, ◌/◌, ◌%◌, ◌^◌, ◌<◌, ◌≡◌, refl, true, List, [], ◌∷◌, ◌++◌, length}
use Rattle.std.proofs.Common.{sym, ap, ◌∙◌, append_assoc, append-nil, lit<, arith, pow-suc, zero-add, add-zero, mul_assoc, div-add-mod', mod-lt, mod-eq_of_lt}
use Rattle.std.proofs.Math.Nat.{one-le-pow, mod-one, mul-add-mod_self_right}
use Rattle.frames.specs.Hex.{digit_of, hex_of, all_digits, number_from, number_of, digits_of}
use Rattle.frames.specs.HexLaws.{digit_hex, hex_digit, all_cons, one_more}

number_append : (v : ℕ) (l m : List ℕ) → number_from v (l ++ m) ≡ number_from (number_from v l) m
unfolding number_from
number_append v [] m = refl
number_append v (b ∷ l) m = number_append (v * 16 + digit_of b) l m

-- n digits are read back as the number cut to them
mod_step : (p x : ℕ) → 0 < p → x / 16 % p * 16 + x % 16 ≡ x % (p * 16)
mod_step p x h =
    let q : ℕ = x / 16 / p in
    let r : ℕ = x / 16 % p * 16 + x % 16 in
    let e : x ≡ q * (p * 16) + r = omega (arith, div-add-mod' (x / 16) p, mul_assoc q p 16) in
    let b : r < p * 16 = omega (arith, mod-lt (x / 16) h) in
    sym (ap (λ (y : ℕ). y % (p * 16)) e ∙ mul-add-mod_self_right q (p * 16) r ∙ mod-eq_of_lt b)

pub number_cut : (n x : ℕ) → number_of (digits_of n x) ≡ x % 16 ^ n
unfolding number_from digits_of
number_cut zero x = sym (mod-one x)
number_cut (suc n) x =
    number_append 0 (digits_of n (x / 16)) (hex_of (x % 16) ∷ [])
    ∙ rw (number_cut n (x / 16), digit_hex (x % 16) (omega arith), pow-suc) (mod_step (16 ^ n) x (one-le-pow n 16 (lit< tt)))

pub number_digits : (n x : ℕ) → x < 16 ^ n → number_of (digits_of n x) ≡ x
number_digits n x h = number_cut n x ∙ mod-eq_of_lt h

-- after the digits of v, those of l are the last
digits_after : (l : List ℕ) (k v : ℕ) → all_digits l ≡ true → digits_of (length l + k) (number_from v l) ≡ digits_of k v ++ l
unfolding all_digits number_from digits_of
digits_after [] k v h = rw (zero-add, append-nil)
digits_after (b ∷ l) k v h =
    let t : (digit_of b < 16) × (all_digits l ≡ true) = all_cons b l h in
    let n : suc (length l) + k ≡ length l + suc k = omega arith in
    let front : (v * 16 + digit_of b) / 16 ≡ v = omega arith in
    let last : (v * 16 + digit_of b) % 16 ≡ digit_of b = omega arith in
    rw (n, digits_after l (suc k) (v * 16 + digit_of b) t.1, append_assoc, front, last, hex_digit b t.0)

-- the text of a number is unique
pub digits_number : (l : List ℕ) → all_digits l ≡ true → digits_of (length l) (number_of l) ≡ l
unfolding digits_of
digits_number l h = rw add-zero at (digits_after l 0 0 h)

-- as many digits hold a number
number-below : (l : List ℕ) (k v : ℕ) → all_digits l ≡ true → v < 16 ^ k → number_from v l < 16 ^ (length l + k)
unfolding all_digits number_from
number-below [] k v h q = rw zero-add q
number-below (b ∷ l) k v h q =
    let t : (digit_of b < 16) × (all_digits l ≡ true) = all_cons b l h in
    let n : suc (length l) + k ≡ length l + suc k = omega arith in
    rw n (number-below l (suc k) (v * 16 + digit_of b) t.1 (one_more k v (digit_of b) q t.0))

pub number_fits : (l : List ℕ) → all_digits l ≡ true → number_of l < 16 ^ length l
number_fits l h = rw add-zero at (number-below l 0 0 h (omega arith))
