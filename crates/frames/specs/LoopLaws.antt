-- How the loops that read and write digits meet the definitions: what is left, at each turn.
use Prim.Native.Nat.{ℕ, zero, suc, ◌+◌, ◌*◌, ◌-◌, ◌/◌, ◌%◌, ◌^◌, ◌≤◌, ◌<◌}
use Rattle.std.specs.Prelude.{◌≡◌, true, false, List, [], ◌∷◌, ◌++◌, length, get_or, set, take, drop, ltb}
use Rattle.std.proofs.Math.Path.{sym, ap}
use Rattle.std.proofs.Common.{◌∙◌, drop_of_length-le, lit<, lt-ltb, le-ltb, add-one, add-zero, lt_of_lt_of_le}
use Rattle.std.proofs.Math.Seq.{drop-cons, sets}
use Rattle.std.proofs.lemmas.List.{set_comm}
use Rattle.std.proofs.Math.Nat.{sub-zero, pow-le-pow_right}
use native.Mathlib.Omega.{arith}
use Rattle.base.specs.Pick.{pick}
use Rattle.frames.specs.Hex.{digit_of, hex_of, all_digits, number_from, number_of, field, digits_of}
use Rattle.frames.specs.HexLaws.{digits_length, all_cons, one_more}

-- ---- every byte is a digit if every byte of what is left is
module _ (l : List ℕ) (i : ℕ) (v : all_digits l ≡ all_digits (drop i l)) where
  next : i < length l → all_digits l ≡ pick (ltb (digit_of (get_or l i 0)) 16) (all_digits (drop (i + 1) l)) false
  unfolding all_digits
  next h = v ∙ rw (add-one, drop-cons l i 0)

  pub digits_no : (d : ℕ) → d ≡ digit_of (get_or l i 0) → i < length l → 16 ≤ d → false ≡ all_digits l
  digits_no d e h q = sym (next h ∙ rw (sym e, le-ltb d 16))

  pub digits_on : (d : ℕ) → d ≡ digit_of (get_or l i 0) → i < length l → d < 16 → all_digits l ≡ all_digits (drop (i + 1) l)
  digits_on d e h q = next h ∙ rw (sym e, lt-ltb d 16)

  pub digits_yes : length l ≤ i → true ≡ all_digits l
  unfolding all_digits
  digits_yes h = sym (v ∙ rw drop_of_length-le)

pub digit_at : (l : List ℕ) (i : ℕ) → all_digits l ≡ true → i < length l → digit_of (get_or l i 0) < 16
unfolding all_digits
digit_at [] i h q = omega arith
digit_at (b ∷ l) zero h q = (all_cons b l h).0
digit_at (b ∷ l) (suc i) h q = digit_at l i (all_cons b l h).1 (omega arith)

-- ---- the i digits that are passed make v, and d is the next of at most 16
module _ (l : List ℕ) (at n i v d : ℕ) (a : all_digits l ≡ true) (s : at + n ≤ length l) (h : i < n) (b : v < 16 ^ i) (e : d ≡ digit_of (get_or l (at + i) 0)) where
  pub passed : v * 16 + d < 16 ^ (i + 1)
  passed = rw add-one (one_more i v d b (rw e (digit_at l (at + i) a (omega arith))))

  pub fits : n ≤ 16 → v * 16 + d < 2 ^ 64
  fits q = lt_of_lt_of_le passed (pow-le-pow_right (lit< tt) {i = i + 1} {j = 16} (omega arith))

-- ---- i of n digits from at on are read, and make v
abbrev pub Reading : List ℕ → ℕ → ℕ → ℕ → ℕ → Type 0
Reading l at n i v = field at n l ≡ number_from v (take (n - i) (drop (at + i) l))

module _ (l : List ℕ) (at n : ℕ) where
  pub reading_none : Reading l at n 0 0
  reading_none = rw (sub-zero, add-zero)

  pub reading_more : (i v d : ℕ) → Reading l at n i v → d ≡ digit_of (get_or l (at + i) 0) → i < n → at + n ≤ length l → Reading l at n (i + 1) (v * 16 + d)
  unfolding number_from
  reading_more i v d r e h q =
      let m : n - i ≡ suc (n - (i + 1)) = omega arith in
      let k : suc (at + i) ≡ at + (i + 1) = omega arith in
      r ∙ rw (m, drop-cons l (at + i) 0 (omega arith), k, e)

  pub reading_all : (i v : ℕ) → Reading l at n i v → n ≤ i → v ≡ field at n l
  unfolding number_from
  reading_all i v r h = let z : n - i ≡ 0 = omega arith in sym (r ∙ rw z)

-- ---- the same of a whole list of digits
module _ (l : List ℕ) (i v d : ℕ) (e : d ≡ digit_of (get_or l i 0)) (h : i < length l) where
  pub reads_below : all_digits l ≡ true → v < 16 ^ i → v * 16 + d < 16 ^ (i + 1)
  reads_below a b = rw add-one (one_more i v d b (rw e (digit_at l i a h)))

  pub reads_fit : all_digits l ≡ true → v < 16 ^ i → length l ≤ 16 → v * 16 + d < 2 ^ 64
  reads_fit a b q = lt_of_lt_of_le (reads_below a b) (pow-le-pow_right (lit< tt) {i = i + 1} {j = 16} (omega arith))

  pub reads_more : number_of l ≡ number_from v (drop i l) → number_of l ≡ number_from (v * 16 + d) (drop (i + 1) l)
  unfolding number_from
  reads_more r = r ∙ rw (add-one, drop-cons l i 0, e)

pub reads_all : (l : List ℕ) (i v : ℕ) → number_of l ≡ number_from v (drop i l) → length l ≤ i → v ≡ number_of l
unfolding number_from
reads_all l i v r h = sym (r ∙ rw drop_of_length-le)

-- ---- all but k of n digits of x are written from at on, and rest is what is left of x
abbrev pub Writing : List ℕ → ℕ → ℕ → ℕ → List ℕ → ℕ → ℕ → Type 0
Writing o at n x l k rest = sets o at (digits_of n x) ≡ sets l at (digits_of k rest)

-- the last of a run of stores may be the first
sets_last : (l : List ℕ) (i j : ℕ) (vs : List ℕ) (b : ℕ) → i + length vs ≡ j → sets l i (vs ++ b ∷ []) ≡ sets (set l j b) i vs
sets_last l i j [] b e = ap (λ (k : ℕ). set l k b) (let p : i ≡ j = omega arith in p)
sets_last l i j (a ∷ vs) b e =
    sets_last (set l i a) (suc i) j vs b (omega arith)
    ∙ ap (λ (m : List ℕ). sets m (suc i) vs) (set_comm l i j a b (λ p. omega arith))

module _ (o : List ℕ) (at n x : ℕ) where
  pub writing_more : (l : List ℕ) (k rest b : ℕ) → Writing o at n x l k rest → 0 < k → b ≡ hex_of (rest % 16) → Writing o at n x (set l (at + (k - 1)) b) (k - 1) (rest / 16)
  unfolding digits_of
  writing_more l k rest b w h e =
      let m : k ≡ suc (k - 1) = omega arith in
      w ∙ ap (λ (j : ℕ). sets l at (digits_of j rest)) m
      ∙ sets_last l at (at + (k - 1)) (digits_of (k - 1) (rest / 16)) _ (ap (λ (j : ℕ). at + j) (digits_length (k - 1) (rest / 16)))
      ∙ ap (λ (c : ℕ). sets (set l (at + (k - 1)) c) at (digits_of (k - 1) (rest / 16))) (sym e)

  pub writing_all : (l : List ℕ) (k rest : ℕ) → Writing o at n x l k rest → k ≤ 0 → l ≡ sets o at (digits_of n x)
  unfolding digits_of
  writing_all l k rest w h = let z : k ≡ 0 = omega arith in sym (w ∙ ap (λ (j : ℕ). sets l at (digits_of j rest)) z)
