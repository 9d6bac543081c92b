-- How the loop that gathers a line meets the definition.
use Rattle.std.specs.Prelude.{ℕ, zero, suc, ◌+◌, ◌≤◌, ◌<◌, ◌≡◌, refl, Bool, true, false, List, [], ◌∷◌, ◌++◌, length, get_or, set, take, drop, eqb}
use Rattle.std.proofs.Common.{sym, ap, ◌∙◌, append_assoc, append-nil, length-append, length-take, drop_of_length-le, drop-cons, take_all, take-suc-set, eqb-true, eq-eqb, ne_eqb, add-one, add-zero, arith}
use Rattle.std.proofs.Math.Seq.{take-append_seam, take-length}
use Rattle.std.proofs.lemmas.Bool.{eqb-false}
use Rattle.texts.specs.Lines.{up_to}

pub up_none : (b : ℕ) (l : List ℕ) → b ≡ 10 → up_to (b ∷ l) ≡ []
unfolding up_to
up_none b l e = rw (eq-eqb b 10 e)

pub up_on : (b : ℕ) (l : List ℕ) → (b ≡ 10 → ⊥) → up_to (b ∷ l) ≡ b ∷ up_to l
unfolding up_to
up_on b l e = rw (ne_eqb b 10 e)

-- nothing stands before the newline that was found, and where nothing does, there is a newline
pub up_all : (l : List ℕ) → up_to (drop (length (up_to l)) l) ≡ []
unfolding up_to
up_all [] = refl
up_all (b ∷ l) = by (eqb b 10) refl (up_all l)
  where
    by : (t : Bool) → eqb b 10 ≡ t → up_to (drop (length (up_to l)) l) ≡ [] → up_to (drop (length (up_to (b ∷ l))) (b ∷ l)) ≡ []
    by true e more = let z = up_none b l (eqb-true b 10 e) in ap (λ (u : List ℕ). up_to (drop (length u) (b ∷ l))) z ∙ z
    by false e more = ap (λ (u : List ℕ). up_to (drop (length u) (b ∷ l))) (up_on b l (eqb-false b 10 e)) ∙ more

pub up_first : (b : ℕ) (l : List ℕ) → up_to (b ∷ l) ≡ [] → b ≡ 10
up_first b l h = by (eqb b 10) refl
  where
    by : (t : Bool) → eqb b 10 ≡ t → b ≡ 10
    by true e = eqb-true b 10 e
    by false e = let z : suc (length (up_to l)) ≡ 0 = ap length (sym (up_on b l (eqb-false b 10 e)) ∙ h) in omega arith

-- what is cut off twice is cut off once
pub take-front : (n : ℕ) (a b : List ℕ) → take n (take n a ++ b) ≡ take n (a ++ b)
take-front zero a b = refl
take-front (suc n) [] b = refl
take-front (suc n) (x ∷ a) b = ap (λ (l : List ℕ). x ∷ l) (take-front n a b)

-- ---- a byte goes behind the first n of a buffer
module _ (l : List ℕ) (n b : ℕ) where
  pub kept_more : n < length l → take (n + 1) (set l n b) ≡ take (length l) (take n l ++ b ∷ [])
  kept_more h =
      let k : length (take n l ++ b ∷ []) ≤ length l = simp (length-append, length-take) (omega arith) in
      rw add-one (take-suc-set l n b h ∙ sym (take_all (length l) (take n l ++ b ∷ []) k))

  pub kept_full : length l ≤ n → take n l ≡ take (length l) (take n l ++ b ∷ [])
  kept_full h = rw (take_all n l h) (sym (take-append_seam l (b ∷ [])))

pub held_all : (l : List ℕ) (len : ℕ) → length l < len → take (length l) l ≡ take len l
held_all l len h = take-length l ∙ sym (take_all len l (omega arith))

-- ---- the line holds what line₀ held of len bytes, and the input's bytes from at up to i
abbrev pub Gathering : List ℕ → ℕ → List ℕ → ℕ → List ℕ → ℕ → ℕ → Type 0
Gathering line₀ len input at line n i =
    (take (length line₀) (take len line₀ ++ up_to (drop at input)) ≡ take (length line₀) (take n line ++ up_to (drop i input)))
    × (at + length (up_to (drop at input)) ≡ i + length (up_to (drop i input)))

abbrev Found : List ℕ → ℕ → List ℕ → ℕ → List ℕ → ℕ → ℕ → Type 0
Found line₀ len input at line n i =
    (take n line ≡ take (length line₀) (take len line₀ ++ up_to (drop at input)))
    × (i ≡ at + length (up_to (drop at input)))
    × (n ≤ length line₀)

module _ (line₀ : List ℕ) (len : ℕ) (input : List ℕ) (at : ℕ) where
  pub gathering : (n : ℕ) → take n line₀ ≡ take len line₀ → Gathering line₀ len input at line₀ n at
  gathering n e = (ap (λ (l : List ℕ). take (length line₀) (l ++ up_to (drop at input))) (sym e), refl)

  module _ (line : List ℕ) (n i : ℕ) (v : Gathering line₀ len input at line n i) where
    pub gathering-more : (line' : List ℕ) (n' : ℕ) → i < length input → (get_or input i 0 ≡ 10 → ⊥) → length line ≡ length line₀ → take n' line' ≡ take (length line) (take n line ++ get_or input i 0 ∷ []) → Gathering line₀ len input at line' n' (i + 1)
    gathering-more line' n' h z q e =
        let b = get_or input i 0 in
        let u = up_to (drop (i + 1) input) in
        let d : up_to (drop i input) ≡ b ∷ u = ap up_to (drop-cons input i 0 h) ∙ up_on b (drop (suc i) input) z ∙ ap (λ (k : ℕ). b ∷ up_to (drop k input)) (sym (add-one i)) in
        let l = length line₀ in
        let w : take l (take n line ++ b ∷ u) ≡ take l (take n' line' ++ u) =
        ap (take l) (sym (append_assoc (take n line) (b ∷ []) u)) ∙ sym (take-front l (take n line ++ b ∷ []) u)
        ∙ ap (λ (k : List ℕ). take l (k ++ u)) (ap (λ (k : ℕ). take k (take n line ++ b ∷ [])) (sym q) ∙ sym e) in
        (v.0 ∙ ap (λ (k : List ℕ). take l (take n line ++ k)) d ∙ w, v.1 ∙ ap (λ (k : List ℕ). i + length k) d ∙ let s : i + suc (length u) ≡ i + 1 + length u = omega arith in s)

    -- where no byte is left before the newline
    found : n ≤ length line₀ → length line ≡ length line₀ → up_to (drop i input) ≡ [] → Found line₀ len input at line n i
    found h q e =
        let l = length line₀ in
        let k : length (take n line) ≤ l = simp length-take (omega arith) in
        (sym (v.0 ∙ ap (λ (u : List ℕ). take l (take n line ++ u)) e ∙ ap (take l) (append-nil (take n line)) ∙ take_all l (take n line) k), sym (v.1 ∙ ap (λ (u : List ℕ). i + length u) e ∙ add-zero i), h)

    pub found-newline : n ≤ length line₀ → length line ≡ length line₀ → i < length input → get_or input i 0 ≡ 10 → Found line₀ len input at line n i
    found-newline h q k z = found h q (ap up_to (drop-cons input i 0 k) ∙ up_none (get_or input i 0) (drop (suc i) input) z)

    pub found_end : n ≤ length line₀ → length line ≡ length line₀ → length input ≤ i → Found line₀ len input at line n i
    unfolding up_to
    found_end h q k = found h q (ap up_to (drop_of_length-le input k))
