-- Words stored one behind the other: what the table then holds, and how a loop that stores them meets the rules.
use Rattle.std.specs.Prelude.{◌≡◌, ℕ, zero, suc, ◌+◌, ◌-◌, ◌<◌, ◌≤◌, ◌≢◌, List, [], ◌∷◌, length, take, drop, set, replicate, slice_index, slice_set, refl}
use Rattle.std.proofs.Math.Path.{sym, ap}
use Rattle.std.proofs.Common.{◌∙◌, length-set, drop_of_length-le, drop-cons, get_or-set_same, get_or-set_other, drop-set-lt, add-one}
use Rattle.std.proofs.lemmas.List.{length-replicate, get_or-replicate, take-set-le, drop-set-add}
use Rattle.std.proofs.Math.ListN.{get_or-eq_default}
use Rattle.std.proofs.Math.Decide.{ℕ_discrete, dec_lt}
use native.Mathlib.Omega.{arith}
use Rattle.rules.specs.Rows.{stored_from}
use Rattle.rules.specs.Step.{part}

-- ---- any words ws stored from b on
pub stored-length : (ws l : List ℕ) (b : ℕ) → length (stored_from l b ws) ≡ length l
unfolding stored_from
stored-length [] l b = refl
stored-length (w ∷ ws) l b = stored-length ws (slice_set l b w) (b + 1) ∙ length-set l b w

pub stored-below : (ws l : List ℕ) (b i : ℕ) → i < b → slice_index (stored_from l b ws) i ≡ slice_index l i
unfolding stored_from
stored-below [] l b i h = refl
stored-below (w ∷ ws) l b i h = stored-below ws (slice_set l b w) (b + 1) i (omega arith) ∙ get_or-set_other l b i w 0 (omega arith)

pub stored-above : (ws l : List ℕ) (b i : ℕ) → b + length ws ≤ i → slice_index (stored_from l b ws) i ≡ slice_index l i
unfolding stored_from
stored-above [] l b i h = refl
stored-above (w ∷ ws) l b i h = stored-above ws (slice_set l b w) (b + 1) i (omega arith) ∙ get_or-set_other l b i w 0 (omega arith)

pub stored_at : (ws l : List ℕ) (b j : ℕ) → b + length ws ≤ length l → j < length ws → slice_index (stored_from l b ws) (b + j) ≡ slice_index ws j
unfolding stored_from
stored_at [] l b j h q = omega arith
stored_at (w ∷ ws) l b zero h q =
    stored-below ws (slice_set l b w) (b + 1) (b + 0) (omega arith)
    ∙ ap (λ (i : ℕ). slice_index (slice_set l b w) i) (let e : b + 0 ≡ b = omega arith in e)
    ∙ get_or-set_same l b w 0 (omega arith)
stored_at (w ∷ ws) l b (suc j) h q =
    ap (λ (i : ℕ). slice_index (stored_from (slice_set l b w) (b + 1) ws) i) (let e : b + suc j ≡ b + 1 + j = omega arith in e)
    ∙ stored_at ws (slice_set l b w) (b + 1) j (omega (arith, length-set l b w)) (omega arith)

-- zeros, also past the table's end
pub stored-zeros : (n : ℕ) (l : List ℕ) (b i : ℕ) → b ≤ i → i < b + n → slice_index (stored_from l b (replicate n 0)) i ≡ 0
unfolding stored_from
stored-zeros zero l b i p q = absurd (omega arith)
stored-zeros (suc n) l b i p q = go (ℕ_discrete i b) (λ ne. stored-zeros n (slice_set l b 0) (b + 1) i (omega arith) (omega arith))
  where
    here : Dec (b < length l) → slice_index (slice_set l b 0) b ≡ 0
    here (yes h) = get_or-set_same l b 0 0 h
    here (no h) = get_or-eq_default (slice_set l b 0) 0 {n = b} (omega (arith, length-set l b 0))

    go : Dec (i ≡ b) → (i ≢ b → slice_index (stored_from (slice_set l b 0) (b + 1) (replicate n 0)) i ≡ 0) → slice_index (stored_from (slice_set l b 0) (b + 1) (replicate n 0)) i ≡ 0
    go (yes e) on = stored-below (replicate n 0) (slice_set l b 0) (b + 1) i (omega arith) ∙ ap (λ (k : ℕ). slice_index (slice_set l b 0) k) e ∙ here (dec_lt b (length l))
    go (no ne) on = on ne

-- behind k, and before it
pub stored-drop : (ws l : List ℕ) (k b : ℕ) → drop k (stored_from l (k + b) ws) ≡ stored_from (drop k l) b ws
unfolding stored_from
stored-drop [] l k b = refl
stored-drop (w ∷ ws) l k b =
    ap (λ (i : ℕ). drop k (stored_from (slice_set l (k + b) w) i ws)) (let e : k + b + 1 ≡ k + (b + 1) = omega arith in e)
    ∙ stored-drop ws (slice_set l (k + b) w) k (b + 1)
    ∙ ap (λ (m : List ℕ). stored_from m (b + 1) ws) (drop-set-add k l b w)

pub stored-take : (ws l : List ℕ) (k b : ℕ) → k ≤ b → take k (stored_from l b ws) ≡ take k l
unfolding stored_from
stored-take [] l k b h = refl
stored-take (w ∷ ws) l k b h = stored-take ws (slice_set l b w) k (b + 1) (omega arith) ∙ take-set-le k l b w h

pub stored-part : (ws l : List ℕ) (k n b : ℕ) → k + n ≤ b → part k n (stored_from l b ws) ≡ part k n l
unfolding part
stored-part ws l k n b h =
    ap (λ (i : ℕ). take n (drop k (stored_from l i ws))) (let q : b ≡ k + (b - k) = omega arith in q)
    ∙ ap (take n) (stored-drop ws l k (b - k))
    ∙ stored-take ws (drop k l) n (b - k) (omega arith)

pub stored_past : (ws l : List ℕ) (k b : ℕ) → b + length ws ≤ k → drop k (stored_from l b ws) ≡ drop k l
unfolding stored_from
stored_past [] l k b h = refl
stored_past (w ∷ ws) l k b h = stored_past ws (slice_set l b w) k (b + 1) (omega arith) ∙ drop-set-lt k l b w (omega arith)

-- ---- the first i words of ws are stored in t, and the others are to be, from b on
abbrev pub Storing : List ℕ → ℕ → List ℕ → List ℕ → ℕ → Type 0
Storing l b ws t i = stored_from l b ws ≡ stored_from t (b + i) (drop i ws)

module _ (l : List ℕ) (b : ℕ) (ws : List ℕ) where
  pub storing_none : Storing l b ws l 0
  storing_none = ap (λ (k : ℕ). stored_from l k ws) (let q : b ≡ b + 0 = omega arith in q)

  pub storing_more : (t t' : List ℕ) (i : ℕ) → Storing l b ws t i → i < length ws → t' ≡ slice_set t (b + i) (slice_index ws i) → Storing l b ws t' (i + 1)
  unfolding stored_from
  storing_more t t' i v h e =
      v
      ∙ ap (stored_from t (b + i)) (drop-cons ws i 0 h)
      ∙ λ j. stored_from (sym e j) ((let q : b + i + 1 ≡ b + (i + 1) = omega arith in q) j) (drop (sym (add-one i) j) ws)

  pub storing_all : (t : List ℕ) (i : ℕ) → Storing l b ws t i → length ws ≤ i → t ≡ stored_from l b ws
  unfolding stored_from
  storing_all t i v h = sym (v ∙ ap (stored_from t (b + i)) (drop_of_length-le ws h))

-- zeros are stored
pub zeros-more : (l : List ℕ) (b n : ℕ) (t t' : List ℕ) (i : ℕ) → Storing l b (replicate n 0) t i → i < n → t' ≡ slice_set t (b + i) 0 → Storing l b (replicate n 0) t' (i + 1)
zeros-more l b n t t' i v h e =
    storing_more l b (replicate n 0) t t' i v (omega (arith, length-replicate {A = ℕ} n 0)) (e ∙ ap (set t (b + i)) (sym (get_or-replicate n i 0 0 h)))

pub zeros-all : (l : List ℕ) (b n : ℕ) (t : List ℕ) (i : ℕ) → Storing l b (replicate n 0) t i → n ≤ i → t ≡ stored_from l b (replicate n 0)
zeros-all l b n t i v h = storing_all l b (replicate n 0) t i v (omega (arith, length-replicate {A = ℕ} n 0))
