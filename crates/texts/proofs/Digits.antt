-- How the loop that writes digits meets the definition: what is left of a number, before the digits that are written.
use Rattle.std.specs.Prelude.{ℕ, zero, suc, ◌+◌, ◌-◌, ◌/◌, ◌%◌, ◌≤◌, ◌<◌, ◌≡◌, refl, List, [], ◌∷◌, ◌++◌, length, drop, set}
use Rattle.std.proofs.Common.{arith, append_assoc, ap, sym, ◌∙◌}
use Rattle.std.proofs.lemmas.List.{drop-set}
use borrow.Author.Tests.{lt-ltb, le-ltb}
use Rattle.texts.specs.Texts.{width_of, digits_of, decimal_of}

abbrev pub ending : ℕ → ℕ → List ℕ → List ℕ
ending k x written = digits_of (width_of k x) x ++ written

ending_more : (k x : ℕ) (written : List ℕ) → 10 ≤ x → ending (suc k) x written ≡ ending k (x / 10) ((48 + x % 10) ∷ written)
unfolding width_of digits_of
ending_more k x written h = rw (le-ltb x 10 h) (append_assoc (digits_of (width_of k (x / 10)) (x / 10)) ((48 + x % 10) ∷ []) written)

ending_last : (k x : ℕ) (written : List ℕ) → x < 10 → ending k x written ≡ (48 + x % 10) ∷ written
unfolding width_of digits_of
ending_last zero x written h = refl
ending_last (suc k) x written h = rw (lt-ltb x 10 h) refl

pub decimal_digit : (x : ℕ) → x < 10 → decimal_of x ≡ (48 + x) ∷ []
unfolding width_of digits_of
decimal_digit x h = let e : x % 10 ≡ x = omega (arith, h) in rw (lt-ltb x 10 h, e) refl

-- one more digit is written, in front of those from at on
module _ (l : List ℕ) (at x : ℕ) (h : 0 < at) (q : at ≤ length l) where
  abbrev written : List ℕ
  written = drop (at - 1) (set l (at - 1) (48 + x % 10))

  stored : written ≡ (48 + x % 10) ∷ drop at l
  stored = drop-set l (at - 1) (48 + x % 10) (omega arith) ∙ ap (λ (k : ℕ). (48 + x % 10) ∷ drop k l) (let e : at - 1 + 1 ≡ at = omega arith in e)

  pub written_more : 0 < at - 1 → (x / 10 ≡ 0 → ⊥) → ending (at - 1) x (drop at l) ≡ ending (at - 1 - 1) (x / 10) (drop (at - 1) (set l (at - 1) (48 + x % 10)))
  written_more p n =
      let e : at - 1 ≡ suc (at - 1 - 1) = omega arith in
      ap (λ (k : ℕ). ending k x (drop at l)) e ∙ ending_more (at - 1 - 1) x (drop at l) (omega arith) ∙ ap (ending (at - 1 - 1) (x / 10)) (sym stored)

  pub written_last : x / 10 ≡ 0 → ending (at - 1) x (drop at l) ≡ drop (at - 1) (set l (at - 1) (48 + x % 10))
  written_last e = ending_last (at - 1) x (drop at l) (omega arith) ∙ sym stored

  pub written_all : at - 1 ≡ 0 → ending (at - 1) x (drop at l) ≡ drop (at - 1) (set l (at - 1) (48 + x % 10))
  unfolding width_of digits_of
  written_all e = ap (λ (k : ℕ). ending k x (drop at l)) e ∙ sym stored
