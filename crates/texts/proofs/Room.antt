-- What a number and a line take at most: where there is so much room, nothing of them is cut.
use Rattle.std.specs.Prelude.{ℕ, zero, suc, ◌+◌, ◌-◌, ◌/◌, ◌≤◌, ◌≡◌, Bool, true, false, ltb, List, [], ◌∷◌, ◌++◌, length, take}
use Rattle.std.proofs.Common.{arith, length-append, length-take, take_all, ◌∙◌}
use Rattle.base.specs.Pick.{pick}
use Rattle.texts.specs.TextLaws.{digits_length}
use Rattle.texts.specs.Texts.{width_of, decimal_of, signed_of, line_of, signed_line_of, field_line_of}

-- ---- bytes that are at most k, behind others
module _ (n k : ℕ) (a b new : List ℕ) (e : new ≡ take n (a ++ b)) (h : length b ≤ k) where
  pub whole : length a + k ≤ n → new ≡ a ++ b
  whole q = e ∙ take_all n (a ++ b) (simp length-append (omega arith))

  pub within : length new ≤ length a + k
  within = simp (e, length-take, length-append) (omega arith)

-- ---- how long they are
pick_most : (c : Bool) (m n k : ℕ) → m ≤ k → n ≤ k → pick c m n ≤ k
pick_most true m n k p q = p
pick_most false m n k p q = q

width_most : (k x : ℕ) → width_of k x ≤ suc k
unfolding width_of
width_most zero x = omega arith
width_most (suc k) x = pick_most (ltb x 10) 1 (suc (width_of k (x / 10))) (suc (suc k)) (omega arith) (omega (arith, width_most k (x / 10)))

pub decimal_most : (x : ℕ) → length (decimal_of x) ≤ 20
decimal_most x = rw (digits_length (width_of 19 x) x) (width_most 19 x)

pub signed_most : (x : ℕ) → length (signed_of x) ≤ 21
unfolding signed_of
signed_most x = by (ltb x 9223372036854775808)
  where
    by : (c : Bool) → length (pick c (decimal_of x) (45 ∷ decimal_of (18446744073709551616 - x))) ≤ 21
    by true = omega (arith, decimal_most x)
    by false = omega (arith, decimal_most (18446744073709551616 - x))

pub line_most : (name : List ℕ) (x : ℕ) → length (line_of name x) ≤ length name + 21
line_most name x = simp length-append (omega (arith, decimal_most x))

pub signed_line_most : (name : List ℕ) (x : ℕ) → length (signed_line_of name x) ≤ length name + 22
signed_line_most name x = simp length-append (omega (arith, signed_most x))

pub field_line_most : (name : List ℕ) (id : ℕ) (field : List ℕ) (x : ℕ) → length (field_line_of name id field x) ≤ length name + length field + 41
field_line_most name id field x = simp length-append (omega (arith, decimal_most id, decimal_most x))
