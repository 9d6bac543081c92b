-- The loop that copies a row's words from a table into an array.
use Rattle.std.specs.Prelude.{ℕ, ◌+◌, ◌*◌, ◌≤◌, ◌<◌, ◌≡◌, true, List, [], ◌∷◌, length, set, ltb}
use Rattle.std.proofs.Common.{sym, ◌∙◌, ltb-true}
use Rattle.std.proofs.Math.Path.{ap}
use Rattle.std.proofs.Math.ListN.{get_or}
use Rattle.std.proofs.Math.Seq.{get_or-set_same, get_or-set_other}
use Rattle.std.proofs.Math.Decide.{ℕ_discrete}
use native.Mathlib.Omega.{arith}
use Rattle.rules.specs.Sizes.{row32, row64}
use Rattle.rules.specs.Rows.{row_from, row_at}

-- the first i words of w are those of l from b on
unfoldable pub Copied : List ℕ → List ℕ → ℕ → ℕ → Type 0
Copied w l b i = (k : ℕ) → k < i → get_or w k 0 ≡ get_or l (b + k) 0

module _ (w l : List ℕ) (b : ℕ) where
  pub copied_none : Copied w l b 0
  unfolding Copied
  copied_none k q = omega arith

  pub copied_more : (i n x : ℕ) → Copied w l b i → length w ≡ n → i < n → x ≡ get_or l (b + i) 0 → Copied (set w i x) l b (i + 1)
  unfolding Copied
  copied_more i n x v z h e k q = go (ℕ_discrete k i)
    where
      go : Dec (k ≡ i) → get_or (set w i x) k 0 ≡ get_or l (b + k) 0
      go (yes p) = ap (λ (j : ℕ). get_or (set w i x) j 0) p ∙ get_or-set_same w i x 0 (omega arith) ∙ e ∙ ap (λ (j : ℕ). get_or l (b + j) 0) (sym p)
      go (no p) = get_or-set_other w i k x 0 p ∙ v k (omega arith)

  pub copied_all : (i n : ℕ) → Copied w l b i → n ≤ i → Copied w l b n
  unfolding Copied
  copied_all i n v h k q = v k (omega arith)

-- a row is made of the words that were copied
pub loaded : (a d l m : List ℕ) (t : ℕ) → Copied a l (t * row32) row32 → Copied d m (t * row64) row64 → row_from a 0 d 0 ≡ row_at l m t
unfolding Copied row_at
loaded a d l m t p q = simp (at32, at64)
  where
    at32 : (k : ℕ) → ltb k row32 ≡ true → get_or a k 0 ≡ get_or l (t * row32 + k) 0
    at32 k h = p k (ltb-true _ _ h)

    at64 : (k : ℕ) → ltb k row64 ≡ true → get_or d k 0 ≡ get_or m (t * row64 + k) 0
    at64 k h = q k (ltb-true _ _ h)

-- words of any size, stored one behind the other from b on
unfoldable pub stores : {X : Type 0} → List X → ℕ → List X → List X
stores l b [] = l
stores l b (w ∷ ws) = stores (set l b w) (b + 1) ws
