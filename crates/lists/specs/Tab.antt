-- A list made by a function of the index.
use Prim.Native.Nat.{ℕ, zero, suc, ◌<◌}
use Rattle.std.specs.Prelude.{◌≡◌, ◌≢◌, length, get_or, set, replicate}
use Rattle.std.proofs.Math.Path.{refl, ap, ap₂}
use mathlib.Core.List.{List, [], ◌∷◌}
use Rattle.std.proofs.Common.{not-suc-le-zero, le_of_suc-le-suc, arith}

module _ {A : Type 0} where
  unfoldable pub tab : ℕ → (ℕ → A) → List A
  tab zero f = []
  tab (suc n) f = f 0 ∷ tab n (λ i. f (suc i))

  pub tab-length : (n : ℕ) (f : ℕ → A) → length (tab n f) ≡ n
  unfolding tab
  tab-length zero f = refl
  tab-length (suc n) f = ap suc (tab-length n (λ i. f (suc i)))

  pub tab-get : (n : ℕ) (f : ℕ → A) (i : ℕ) (d : A) → i < n → get_or (tab n f) i d ≡ f i
  unfolding tab
  tab-get zero f i d h = absurd (not-suc-le-zero h)
  tab-get (suc n) f zero d h = refl
  tab-get (suc n) f (suc i) d h = tab-get n (λ i. f (suc i)) i d (le_of_suc-le-suc h)

  pub tab_ext : (n : ℕ) (f g : ℕ → A) → ((i : ℕ) → i < n → f i ≡ g i) → tab n f ≡ tab n g
  unfolding tab
  tab_ext zero f g h = refl
  tab_ext (suc n) f g h = ap₂ ◌∷◌ (h 0 (omega arith)) (tab_ext n (λ i. f (suc i)) (λ i. g (suc i)) (λ i q. h (suc i) (omega arith)))

  -- one entry is v, the others are as they were
  pub tab-set : (n : ℕ) (f g : ℕ → A) (i : ℕ) (v : A) → i < n → g i ≡ v → ((j : ℕ) → j < n → j ≢ i → g j ≡ f j) → tab n g ≡ set (tab n f) i v
  unfolding tab
  tab-set zero f g i v h e k = absurd (not-suc-le-zero h)
  tab-set (suc n) f g zero v h e k = ap₂ ◌∷◌ e (tab_ext n (λ i. g (suc i)) (λ i. f (suc i)) (λ i q. k (suc i) (omega arith) (omega arith)))
  tab-set (suc n) f g (suc i) v h e k =
      ap₂ ◌∷◌ (k 0 (omega arith) (omega arith)) (tab-set n (λ i. f (suc i)) (λ i. g (suc i)) i v (le_of_suc-le-suc h) e (λ j q ne. k (suc j) (omega arith) (λ z. ne (omega arith))))

  pub tab-same : (n : ℕ) (a : A) → tab n (λ i. a) ≡ replicate n a
  unfolding tab
  tab-same zero a = refl
  tab-same (suc n) a = ap (λ (x : List A). a ∷ x) (tab-same n a)

-- a list of zeros is 0 everywhere, past its end too
pub zeros : (n i : ℕ) → ◌≡◌ {A = ℕ} (get_or (replicate n 0) i 0) 0
zeros zero i = refl
zeros (suc n) zero = refl
zeros (suc n) (suc i) = zeros n i
