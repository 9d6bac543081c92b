-- Digits: each is read back from its byte, and what is made of digits has no other bytes.
use Rattle.std.specs.Prelude.{ℕ, zero, suc, ◌+◌, ◌*◌, ◌-◌, ◌/◌, ◌%◌, ◌^◌, ◌≤◌, ◌<◌, ◌≡◌, refl, true, List, [], ◌∷◌, ◌++◌, length, take, drop, ltb}
use Rattle.std.proofs.Common.{length-append, lt-ltb, le-ltb, le-leb, ltb-true, arith, pow-suc}
use Rattle.std.proofs.Math.Decide.{dec_lt, dec_le}
use Rattle.std.proofs.lemmas.Bool.{lt-leb}
use Rattle.base.specs.Pick.{is-both}
use Rattle.frames.specs.Hex.{digit_of, hex_of, all_digits, digits_of}

-- ---- a digit
pub digit_hex : (d : ℕ) → d < 16 → digit_of (hex_of d) ≡ d
unfolding digit_of hex_of
digit_hex d h = go (dec_lt d 10)
  where
    go : Dec (d < 10) → digit_of (hex_of d) ≡ d
    go (yes p) = rw (lt-ltb d 10, le-ltb (48 + d) 48 (omega arith), le-leb (48 + d) 57 (omega arith)) (omega arith)
    go (no p) =
        let b : ℕ = 97 + (d - 10) in
        rw (le-ltb d 10 (omega arith), le-ltb b 48 (omega arith), lt-leb b 57 (omega arith), le-ltb b 97 (omega arith), le-leb b 102 (omega arith)) (omega arith)

pub hex_digit : (b : ℕ) → digit_of b < 16 → hex_of (digit_of b) ≡ b
unfolding digit_of hex_of
hex_digit b h = go (dec_lt b 48) (dec_le b 57) (dec_lt b 97) (dec_le b 102)
  where
    go : Dec (b < 48) → Dec (b ≤ 57) → Dec (b < 97) → Dec (b ≤ 102) → hex_of (digit_of b) ≡ b
    go (yes p) q r s = let e : digit_of b ≡ 16 = rw (lt-ltb b 48) in omega arith
    go (no p) (yes q) r s = rw (le-ltb b 48 (omega arith), le-leb b 57, lt-ltb (b - 48) 10 (omega arith)) (omega arith)
    go (no p) (no q) (yes r) s = let e : digit_of b ≡ 16 = rw (le-ltb b 48 (omega arith), lt-leb b 57 (omega arith), lt-ltb b 97) in omega arith
    go (no p) (no q) (no r) (yes s) = rw (le-ltb b 48 (omega arith), lt-leb b 57 (omega arith), le-ltb b 97 (omega arith), le-leb b 102, le-ltb (b - 97 + 10) 10 (omega arith)) (omega arith)
    go (no p) (no q) (no r) (no s) = let e : digit_of b ≡ 16 = rw (le-ltb b 48 (omega arith), lt-leb b 57 (omega arith), le-ltb b 97 (omega arith), lt-leb b 102 (omega arith)) in omega arith

-- ---- digits only
pub all_cons : (b : ℕ) (l : List ℕ) → all_digits (b ∷ l) ≡ true → (digit_of b < 16) × (all_digits l ≡ true)
unfolding all_digits
all_cons b l h = let t : (ltb (digit_of b) 16 ≡ true) × (all_digits l ≡ true) = is-both _ _ h in (ltb-true _ _ t.0, t.1)

pub all_append : (l m : List ℕ) → all_digits l ≡ true → all_digits m ≡ true → all_digits (l ++ m) ≡ true
unfolding all_digits
all_append [] m h q = q
all_append (b ∷ l) m h q = rw (lt-ltb _ _ (all_cons b l h).0) (all_append l m (all_cons b l h).1 q)

pub take_digits : (n : ℕ) (l : List ℕ) → all_digits l ≡ true → all_digits (take n l) ≡ true
unfolding all_digits
take_digits zero l h = refl
take_digits (suc n) [] h = refl
take_digits (suc n) (b ∷ l) h = let t : (digit_of b < 16) × (all_digits l ≡ true) = all_cons b l h in rw (lt-ltb _ _ t.0) (take_digits n l t.1)

pub drop_digits : (n : ℕ) (l : List ℕ) → all_digits l ≡ true → all_digits (drop n l) ≡ true
unfolding all_digits
drop_digits zero l h = h
drop_digits (suc n) [] h = refl
drop_digits (suc n) (b ∷ l) h = drop_digits n l (all_cons b l h).1

pub all_of_digits : (n x : ℕ) → all_digits (digits_of n x) ≡ true
unfolding all_digits digits_of
all_of_digits zero x = refl
all_of_digits (suc n) x = all_append (digits_of n (x / 16)) _ (all_of_digits n (x / 16)) (rw (digit_hex (x % 16) (omega arith), lt-ltb (x % 16) 16 (omega arith)))

pub digits_length : (n x : ℕ) → length (digits_of n x) ≡ n
unfolding digits_of
digits_length zero x = refl
digits_length (suc n) x = simp (length-append, digits_length n (x / 16)) (omega arith)

-- as many digits hold a number
pub one_more : (k v d : ℕ) → v < 16 ^ k → d < 16 → v * 16 + d < 16 ^ suc k
one_more k v d q h = rw pow-suc (omega arith)
