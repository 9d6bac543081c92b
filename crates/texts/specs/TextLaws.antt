-- How the loops that write bytes meet the definitions: what is left, at each turn.
use Prim.Native.Nat.{ℕ, zero, suc, ◌+◌, ◌-◌, ◌/◌, ◌%◌, ◌≤◌, ◌<◌}
use Rattle.std.specs.Prelude.{◌≡◌, refl, List, [], ◌∷◌, ◌++◌, length, get_or, set, take, drop}
use Rattle.std.proofs.Math.Path.{sym, ap}
use Rattle.std.proofs.Common.{◌∙◌, length-append, drop_of_length-le, drop-cons, take_all, length-take-le, add-one, add-zero}
use Rattle.std.proofs.Math.Seq.{sets}
use Rattle.std.proofs.lemmas.List.{set_comm}
use borrow.Author.Tests.{lt-ltb, le-ltb}
use native.Mathlib.Omega.{arith}
use Rattle.texts.specs.Texts.{width_of, digits_of, decimal_of, signed_of}

pub digits_length : (n x : ℕ) → length (digits_of n x) ≡ n
unfolding digits_of
digits_length zero x = refl
digits_length (suc n) x = length-append (digits_of n (x / 10)) ((48 + x % 10) ∷ []) ∙ ap (λ (k : ℕ). k + 1) (digits_length n (x / 10)) ∙ add-one n

-- ---- n - 1 digits are counted, and rest is what is left of x
abbrev pub Counting : ℕ → ℕ → ℕ → Type 0
Counting x n rest = width_of 19 x + 1 ≡ n + width_of (20 - n) rest

module _ (x n rest : ℕ) (w : Counting x n rest) where
  pub counting_more : n < 20 → 10 ≤ rest → Counting x (n + 1) (rest / 10)
  unfolding width_of
  counting_more h q =
      let m : 20 - n ≡ suc (20 - (n + 1)) = omega arith in
      let v : width_of (20 - n) rest ≡ suc (width_of (20 - (n + 1)) (rest / 10)) = rw (m, le-ltb rest 10) in
      omega (arith, w, v)

  pub counting-last : n < 20 → rest < 10 → n ≡ width_of 19 x
  unfolding width_of
  counting-last h q =
      let m : 20 - n ≡ suc (20 - (n + 1)) = omega arith in
      let v : width_of (20 - n) rest ≡ 1 = rw (m, lt-ltb rest 10) in
      omega (arith, w, v)

  pub counting-all : n ≡ 20 → n ≡ width_of 19 x
  unfolding width_of
  counting-all h =
      let m : 20 - n ≡ 0 = omega arith in
      let v : width_of (20 - n) rest ≡ 1 = rw m in
      omega (arith, w, v)

-- ---- all but k of n digits of x are written from at on, and rest is what is left of x
abbrev pub Writing : List ℕ → ℕ → ℕ → ℕ → List ℕ → ℕ → ℕ → Type 0
Writing o at n x l k rest = sets o at (digits_of n x) ≡ sets l at (digits_of k rest)

-- the last of a run of stores may be the first
sets_last : (l : List ℕ) (i j : ℕ) (vs : List ℕ) (b : ℕ) → i + length vs ≡ j → sets l i (vs ++ b ∷ []) ≡ sets (set l j b) i vs
sets_last l i j [] b e = ap (λ (k : ℕ). set l k b) (let p : i ≡ j = omega arith in p)
sets_last l i j (a ∷ vs) b e =
    sets_last (set l i a) (suc i) j vs b (omega arith)
    ∙ ap (λ (m : List ℕ). sets m (suc i) vs) (set_comm l i j a b (λ p. omega arith))

module _ (o : List ℕ) (at n x : ℕ) where
  pub writing_more : (l : List ℕ) (k rest b : ℕ) → Writing o at n x l k rest → 0 < k → b ≡ 48 + rest % 10 → Writing o at n x (set l (at + (k - 1)) b) (k - 1) (rest / 10)
  unfolding digits_of
  writing_more l k rest b w h e =
      let m : k ≡ suc (k - 1) = omega arith in
      w ∙ ap (λ (j : ℕ). sets l at (digits_of j rest)) m
      ∙ sets_last l at (at + (k - 1)) (digits_of (k - 1) (rest / 10)) _ (ap (λ (j : ℕ). at + j) (digits_length (k - 1) (rest / 10)))
      ∙ ap (λ (c : ℕ). sets (set l (at + (k - 1)) c) at (digits_of (k - 1) (rest / 10))) (sym e)

  pub writing_all : (l : List ℕ) (k rest : ℕ) → Writing o at n x l k rest → k ≤ 0 → l ≡ sets o at (digits_of n x)
  unfolding digits_of
  writing_all l k rest w h = let z : k ≡ 0 = omega arith in sym (w ∙ ap (λ (j : ℕ). sets l at (digits_of j rest)) z)

-- ---- i of the bytes are copied from at on
abbrev pub Copying : List ℕ → ℕ → List ℕ → List ℕ → ℕ → Type 0
Copying o at bytes l i = sets o at bytes ≡ sets l (at + i) (drop i bytes)

module _ (o : List ℕ) (at : ℕ) (bytes : List ℕ) where
  pub copying_none : Copying o at bytes o 0
  copying_none = ap (λ (k : ℕ). sets o k bytes) (sym (add-zero at))

  pub copying_more : (l : List ℕ) (i : ℕ) → Copying o at bytes l i → i < length bytes → Copying o at bytes (set l (at + i) (get_or bytes i 0)) (i + 1)
  copying_more l i w h =
      let k : suc (at + i) ≡ at + (i + 1) = omega arith in
      w ∙ ap (λ (v : List ℕ). sets l (at + i) v) (drop-cons bytes i 0 h)
      ∙ ap (λ (j : ℕ). sets (set l (at + i) (get_or bytes i 0)) j (drop (suc i) bytes)) k
      ∙ ap (λ (j : ℕ). sets (set l (at + i) (get_or bytes i 0)) (at + (i + 1)) (drop j bytes)) (sym (add-one i))

  pub copying_all : (l : List ℕ) (i : ℕ) → Copying o at bytes l i → length bytes ≤ i → l ≡ sets o at bytes
  copying_all l i w h = sym (w ∙ ap (λ (v : List ℕ). sets l (at + i) v) (drop_of_length-le bytes h))

-- ---- as many of the bytes as there is room for
abbrev pub Filled : List ℕ → ℕ → List ℕ → List ℕ → ℕ → Type 0
Filled o at bytes l r = (l ≡ sets o at (take (length o - at) bytes)) × (r ≡ at + length (take (length o - at) bytes)) × (r ≤ at + (length o - at))

module _ (o : List ℕ) (at : ℕ) (bytes : List ℕ) where
  pub filled_none : length o ≤ at → Filled o at bytes o at
  filled_none h = let z : length o - at ≡ 0 = omega arith in rw z (refl, sym (add-zero at), omega arith)

  pub filled_all : (l : List ℕ) (r : ℕ) → (l ≡ sets o at bytes) × (r ≡ at + length bytes) → length bytes ≤ length o - at → Filled o at bytes l r
  filled_all l r s h = rw (take_all (length o - at) bytes h) (s.0, s.1, omega (arith, s.1, h))

  -- the part that there is room for, as it is cut out
  abbrev part : ℕ → List ℕ
  part n = take (n - 0) bytes

  cut : (n : ℕ) → part n ≡ take n bytes
  cut n = ap (λ (k : ℕ). take k bytes) (let z : n - 0 ≡ n = omega arith in z)

  pub part-fits : at < length o → length o - at < length bytes → at + length (part (length o - at)) ≤ length o
  part-fits p h = rw cut (omega (arith, p, length-take-le (length o - at) bytes (omega arith)))

  pub filled_some : (l : List ℕ) (r : ℕ) → (l ≡ sets o at (part (length o - at))) × (r ≡ at + length (part (length o - at))) → length o - at < length bytes → Filled o at bytes l r
  filled_some l r s h =
      let e = cut (length o - at) in
      let w = length-take-le (length o - at) bytes (omega arith) in
      let x : r ≡ at + length (take (length o - at) bytes) = s.1 ∙ ap (λ (p : List ℕ). at + length p) e in
      (s.0 ∙ ap (sets o at) e, x, omega (arith, x, w))

-- ---- what was written, and the index after it
pub decimal_stands : (o l : List ℕ) (at n x : ℕ) → l ≡ sets o at (digits_of n x) → (n ≡ width_of 19 x) × (n ≤ 20) → (l ≡ sets o at (decimal_of x)) × (at + n ≡ at + length (decimal_of x)) × (at + n ≤ at + 20)
decimal_stands o l at n x e h =
    (e ∙ ap (λ (k : ℕ). sets o at (digits_of k x)) h.0, ap (λ (k : ℕ). at + k) (h.0 ∙ sym (digits_length (width_of 19 x) x)), omega (arith, h.1))

pub signed_low : (o l : List ℕ) (at x r : ℕ) → x < 9223372036854775808 → (l ≡ sets o at (decimal_of x)) × (r ≡ at + length (decimal_of x)) × (r ≤ at + 20) → (l ≡ sets o at (signed_of x)) × (r ≡ at + length (signed_of x)) × (r ≤ at + 21)
unfolding signed_of
signed_low o l at x r h s = (rw (lt-ltb x 9223372036854775808) s.0, rw (lt-ltb x 9223372036854775808) s.1, omega (arith, s.2))

pub signed_high : (o l : List ℕ) (at x y r : ℕ) → 9223372036854775808 ≤ x → y ≡ 18446744073709551616 - x → (l ≡ sets (set o at 45) (at + 1) (decimal_of y)) × (r ≡ at + 1 + length (decimal_of y)) × (r ≤ at + 1 + 20) → (l ≡ sets o at (signed_of x)) × (r ≡ at + length (signed_of x)) × (r ≤ at + 21)
unfolding signed_of
signed_high o l at x y r h e s =
    (rw (le-ltb x 9223372036854775808, sym e) (s.0 ∙ ap (λ (j : ℕ). sets (set o at 45) j (decimal_of y)) (add-one at)), rw (le-ltb x 9223372036854775808, sym e) (omega (arith, s.1)), omega (arith, s.2))

-- ---- one text behind the other
pub sets_append : (l : List ℕ) (i : ℕ) (a b : List ℕ) → sets (sets l i a) (i + length a) b ≡ sets l i (a ++ b)
sets_append l i [] b = ap (λ (k : ℕ). sets l k b) (add-zero i)
sets_append l i (v ∷ a) b =
    let k : i + suc (length a) ≡ suc i + length a = omega arith in
    ap (λ (j : ℕ). sets (sets (set l i v) (suc i) a) j b) k ∙ sets_append (set l i v) (suc i) a b

behind : (o l m : List ℕ) (at e r : ℕ) (a b : List ℕ) → l ≡ sets o at a → e ≡ at + length a → m ≡ sets l e b → r ≡ e + length b → (m ≡ sets o at (a ++ b)) × (r ≡ at + length (a ++ b))
behind o l m at e r a b p q s t =
    (s ∙ ap (λ (k : List ℕ). sets k e b) p ∙ ap (λ (k : ℕ). sets (sets o at a) k b) q ∙ sets_append o at a b, omega (arith, q, t, length-append a b))

pub three : (o l m f : List ℕ) (at d e r : ℕ) (a b c : List ℕ) → (l ≡ sets o at a) × (d ≡ at + length a) → m ≡ sets l d b → e ≡ d + length b → f ≡ sets m e c → r ≡ e + length c → (f ≡ sets o at (a ++ b ++ c)) × (r ≡ at + length (a ++ b ++ c))
three o l m f at d e r a b c p q s t u =
    let two = behind o l m at d e a b p.0 p.1 q s in
    behind o m f at e r (a ++ b) c two.0 two.1 t u
