-- Laws of a thread's row in its tables: what was stored is loaded, another thread's row is as it was, and lengths are kept.
use Rattle.std.specs.Prelude.{ℕ, zero, suc, ◌+◌, ◌*◌, ◌≤◌, ◌<◌, ◌≡◌, refl, ◌≢◌, true, List, [], ◌∷◌, length, get_or, drop, ltb}
use Rattle.std.proofs.Common.{sym, ap, ◌∙◌, drop_of_length-le, drop-cons, ltb-true, mul-le-mul_right, suc-mul, arith}
use Rattle.std.proofs.Math.Decide.{dec_lt}
use Rattle.rules.specs.Sizes.{records, sources, row32, row64, threads, head_cells, counter_cells, from_sources, from_records, from_rows}
use Rattle.rules.specs.Rows.{row_at, words32, words64, stored_from, stored32, stored64}
use Rattle.rules.specs.declared.Row.{Row}
use Rattle.rules.specs.Step.{State, shared, state, lent}
use Rattle.tables.specs.StoredLaws.{stored-length, stored-below, stored-above, stored_at, stored-drop, stored-part}

-- ---- rows of w words: thread t's is stored, and thread u's is as it was
module _ (ws l : List ℕ) (w t u j : ℕ) where
  pub stored_else : length ws ≡ w → j < w → u ≢ t → get_or (stored_from l (t * w) ws) (u * w + j) 0 ≡ get_or l (u * w + j) 0
  stored_else e h ne = go (dec_lt u t)
    where
      go : Dec (u < t) → get_or (stored_from l (t * w) ws) (u * w + j) 0 ≡ get_or l (u * w + j) 0
      go (yes p) = stored-below ws l (t * w) (u * w + j) (omega (arith, mul-le-mul_right w p, suc-mul u w))
      go (no p) = stored-above ws l (t * w) (u * w + j) (omega (arith, mul-le-mul_right w (let q : suc t ≤ u = omega arith in q), suc-mul t w))

-- the n elements of xs from i on, one by one
abbrev listed : List ℕ → ℕ → ℕ → List ℕ
listed xs i zero = []
listed xs i (suc n) = get_or xs i 0 ∷ listed xs (suc i) n

listed-all : (xs : List ℕ) (i n : ℕ) → length xs ≡ i + n → listed xs i n ≡ drop i xs
listed-all xs i zero e = sym (drop_of_length-le xs {i = i} (omega arith))
listed-all xs i (suc n) e = ap (λ (l : List ℕ). get_or xs i 0 ∷ l) (listed-all xs (suc i) n (omega arith)) ∙ sym (drop-cons xs i 0 (omega arith))

module _ (l m : List ℕ) (t : ℕ) (r : Row) where
  pub stored32-length : length (stored32 l t r) ≡ length l
  stored32-length = stored-length (words32 r) l (t * row32)

  pub stored64-length : length (stored64 m t r) ≡ length m
  stored64-length = stored-length (words64 r) m (t * row64)

module _ (l m : List ℕ) (t : ℕ) (r : Row) (ht : t < threads) (hl : length l ≡ row32 * threads) (hm : length m ≡ row64 * threads) where
  pub stored32-at : (j : ℕ) → ltb j row32 ≡ true → get_or (stored32 l t r) (t * row32 + j) 0 ≡ get_or (words32 r) j 0
  stored32-at j h = stored_at (words32 r) l (t * row32) j (omega arith) (ltb-true _ _ h)

  pub stored64-at : (j : ℕ) → ltb j row64 ≡ true → get_or (stored64 m t r) (t * row64 + j) 0 ≡ get_or (words64 r) j 0
  stored64-at j h = stored_at (words64 r) m (t * row64) j (omega arith) (ltb-true _ _ h)

  pub load_store : length r.stolen ≡ 8 → row_at (stored32 l t r) (stored64 m t r) t ≡ r
  unfolding row_at
  load_store h = simp (stored32-at, stored64-at) (simp (listed-all r.stolen 0 8 h))

module _ (l m : List ℕ) (t u : ℕ) (r : Row) (ne : u ≢ t) where
  pub stored32_else : (j : ℕ) → ltb j row32 ≡ true → get_or (stored32 l t r) (u * row32 + j) 0 ≡ get_or l (u * row32 + j) 0
  stored32_else j h = stored_else (words32 r) l row32 t u j refl (ltb-true _ _ h) ne

  pub stored64_else : (j : ℕ) → ltb j row64 ≡ true → get_or (stored64 m t r) (u * row64 + j) 0 ≡ get_or m (u * row64 + j) 0
  stored64_else j h = stored_else (words64 r) m row64 t u j refl (ltb-true _ _ h) ne

  pub load_else : row_at (stored32 l t r) (stored64 m t r) u ≡ row_at l m u
  unfolding row_at
  load_else = simp (stored32_else, stored64_else)

-- ---- a thread's row becomes r in the lent tables
unfoldable pub with_row : ℕ → Row → State → State
with_row t r s = state s.cells (stored32 s.rows32 t r) (stored64 s.rows64 t r) s.guards

pub seated : (i w i' w' : List ℕ) (t : ℕ) (r : Row) → i' ≡ stored_from i (from_rows + t * row32) (words32 r) → w' ≡ stored_from w (counter_cells + t * row64) (words64 r) → (n m g : List ℕ) → lent i' n m w' g ≡ with_row t r (lent i n m w g)
unfolding lent with_row
seated i w i' w' t r p q n m g =
    (λ j. lent (p j) n m (q j) g)
    ∙ λ j. state (shared (stored-part x i 0 head_cells a (omega arith) j) (stored-part y w 0 counter_cells b (omega arith) j) (stored-part x i from_records (4 * records) a (omega arith) j) (stored-part x i from_sources sources a (omega arith) j) n m) (stored-drop x i from_rows (t * row32) j) (stored-drop y w counter_cells (t * row64) j) g
  where
    x : List ℕ
    x = words32 r

    y : List ℕ
    y = words64 r

    a : ℕ
    a = from_rows + t * row32

    b : ℕ
    b = counter_cells + t * row64
