-- Where the first newline stands, and what is before it.
use Rattle.std.proofs.lemmas.Bool.{eqb-false}
use Rattle.std.specs.Prelude.{Bool, true, false, eqb, ℕ, zero, suc, ◌≤◌, ◌<◌, ◌≡◌, ◌≢◌, refl, List, [], ◌∷◌, length, take}
use Rattle.std.proofs.Common.{arith, eqb-true, get_or, length-take-le, ap, ◌∙◌}
use Rattle.texts.specs.Lines.{up_to}
use Rattle.texts.specs.LineLaws.{up_none, up_on}

pub up_to_take : (l : List ℕ) (n : ℕ) → ((k : ℕ) → k < n → get_or l k 0 ≢ 10) → (n < length l → get_or l n 0 ≡ 10) → n ≤ length l → up_to l ≡ take n l
unfolding up_to
up_to_take [] n before at h = let z : n ≡ 0 = omega arith in rw z refl
up_to_take (b ∷ l) zero before at h = up_none b l (at (omega arith))
up_to_take (b ∷ l) (suc n) before at h = up_on b l (before 0 (omega arith)) ∙ ap (λ (u : List ℕ). b ∷ u) (up_to_take l n (λ k q. before (suc k) (omega arith)) (λ q. at (omega arith)) (omega arith))

pub up_to_length : (l : List ℕ) (n : ℕ) → ((k : ℕ) → k < n → get_or l k 0 ≢ 10) → (n < length l → get_or l n 0 ≡ 10) → n ≤ length l → length (up_to l) ≡ n
up_to_length l n before at h = ap length (up_to_take l n before at h) ∙ length-take-le n l h

pub up_to_first : (l : List ℕ) → take (length (up_to l)) l ≡ up_to l
unfolding up_to
up_to_first [] = refl
up_to_first (b ∷ l) = by (eqb b 10) refl (up_to_first l)
  where
    by : (t : Bool) → eqb b 10 ≡ t → take (length (up_to l)) l ≡ up_to l → take (length (up_to (b ∷ l))) (b ∷ l) ≡ up_to (b ∷ l)
    by true e more = rw (up_none b l (eqb-true b 10 e)) refl
    by false e more = rw (up_on b l (eqb-false b 10 e)) (ap (λ (u : List ℕ). b ∷ u) more)
