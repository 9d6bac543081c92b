-- One field of a table of rows, as a list by id: entry 0 is nobody's, as ids are numbered from 1.
use Rattle.std.specs.Prelude.{ℕ, zero, suc, ◌+◌, ◌*◌, ◌-◌, ◌≤◌, ◌<◌, ◌≡◌, ◌≢◌, List, ◌∷◌, length, get_or, set, replicate}
use Rattle.std.proofs.Common.{sym, ap, ◌∙◌, get_or-set_same, get_or-set_other, mul-le-mul_right, suc-mul, arith}
use Rattle.std.proofs.Math.Decide.{dec_lt}
use Rattle.lists.specs.Tab.{tab, tab-length, tab-get, tab_ext, tab-set, tab-same, zeros}

abbrev pub field : ℕ → ℕ → ℕ → List ℕ → List ℕ
field w j n l = 0 ∷ tab n (λ i. get_or l (i * w + j) 0)

-- an id of n rows
abbrev pub IsId : ℕ → ℕ → Type 0
IsId n x = (0 < x) × (x ≤ n)

-- a list by id with nothing in it
abbrev pub cleared : List ℕ → List ℕ
cleared l = replicate (length l) 0

-- words of different rows stand at different places, and each in its table
pub apart : (w i k j m : ℕ) → j < w → m < w → i ≢ k → i * w + j ≢ k * w + m
apart w i k j m hj hm ne e = go (dec_lt i k)
  where
    go : Dec (i < k) → ⊥
    go (yes p) = omega (arith, mul-le-mul_right w p, suc-mul i w)
    go (no p) = omega (arith, mul-le-mul_right w (let q : suc k ≤ i = omega arith in q), suc-mul k w)

pub inside : (w n i j : ℕ) → i < n → j < w → i * w + j < n * w
inside w n i j hi hj = omega (arith, mul-le-mul_right w hi, suc-mul i w)

module _ (w n : ℕ) (l : List ℕ) where
  pub field-length : (j : ℕ) → length (field w j n l) ≡ suc n
  field-length j = ap suc (tab-length n (λ i. get_or l (i * w + j) 0))

  pub field-get : (j id : ℕ) → IsId n id → get_or (field w j n l) id 0 ≡ get_or l ((id - 1) * w + j) 0
  field-get j zero h = absurd (omega arith)
  field-get j (suc m) h = tab-get n (λ i. get_or l (i * w + j) 0) m 0 (omega arith) ∙ ap (λ (i : ℕ). get_or l (i * w + j) 0) (let q : m ≡ suc m - 1 = omega arith in q)

  pub field-same : (j id v : ℕ) → j < w → length l ≡ n * w → IsId n id → field w j n (set l ((id - 1) * w + j) v) ≡ set (field w j n l) id v
  field-same j zero v hj hl h = absurd (omega arith)
  field-same j (suc m) v hj hl h = ap (λ (x : List ℕ). 0 ∷ x) (ap (λ (k : ℕ). tab n (λ i. get_or (set l (k * w + j) v) (i * w + j) 0)) (let q : suc m - 1 ≡ m = omega arith in q) ∙ at m (omega arith))
    where
      at : (m : ℕ) → m < n → tab n (λ i. get_or (set l (m * w + j) v) (i * w + j) 0) ≡ set (tab n (λ i. get_or l (i * w + j) 0)) m v
      at m q = tab-set n (λ i. get_or l (i * w + j) 0) (λ i. get_or (set l (m * w + j) v) (i * w + j) 0) m v q (get_or-set_same l (m * w + j) v 0 (omega (arith, inside w n m j q hj))) (λ i r ne. get_or-set_other l (m * w + j) (i * w + j) v 0 (apart w i m j j hj hj ne))

  pub field-other : (j k i v : ℕ) → j < w → k < w → j ≢ k → field w j n (set l (i * w + k) v) ≡ field w j n l
  field-other j k i v hj hk ne = ap (λ (x : List ℕ). 0 ∷ x) (tab_ext n (λ u. get_or (set l (i * w + k) v) (u * w + j) 0) (λ u. get_or l (u * w + j) 0) (λ u q. get_or-set_other l (i * w + k) (u * w + j) v 0 (differ u (dec_lt u i) (dec_lt i u))))
    where
      differ : (u : ℕ) → Dec (u < i) → Dec (i < u) → u * w + j ≢ i * w + k
      differ u (yes p) b = apart w u i j k hj hk (omega arith)
      differ u (no p) (yes q) = apart w u i j k hj hk (omega arith)
      differ u (no p) (no q) = λ e. let z : u ≡ i = omega arith in let y : u * w ≡ i * w = ap (λ (x : ℕ). x * w) z in ne (omega arith)

  pub field-cleared : (j : ℕ) → field w j n (replicate (length l) 0) ≡ cleared (field w j n l)
  field-cleared j = ap (λ (x : List ℕ). 0 ∷ x) (tab_ext n (λ i. get_or (replicate (length l) 0) (i * w + j) 0) (λ i. 0) (λ i q. zeros (length l) (i * w + j)) ∙ tab-same n 0 ∙ ap (λ (k : ℕ). replicate k 0) (sym (tab-length n (λ i. get_or l (i * w + j) 0))))
