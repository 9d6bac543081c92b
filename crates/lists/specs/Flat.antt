-- A table of equal rows seen as one list.
use Rattle.std.specs.Prelude.{◌≡◌, refl, List, [], ◌∷◌, ◌++◌, map, ℕ, zero, suc, ◌+◌, ◌*◌, ◌<◌, length, get_or, set}
use Rattle.std.proofs.Common.{sym, ap, ◌∙◌, not-suc-le-zero, le_of_suc-le-suc, zero-add, suc-add, arith, length-set, length-append, get_or-append-add, get_or-set_same, set-set}
use Rattle.std.proofs.lemmas.List.{set-append_left}
use Rattle.std.proofs.Math.ListN.{get_or-append}

module _ {A : Type 0} where
  pub set_append_add : (s t : List A) (n : ℕ) (a : A) → set (s ++ t) (length s + n) a ≡ s ++ set t n a
  set_append_add [] t n a = rw (zero-add n)
  set_append_add (x ∷ s) t n a = rw (suc-add (length s) n) (ap (λ (l : List A). x ∷ l) (set_append_add s t n a))

  abbrev pub cat : List (List A) → List A
  cat [] = []
  cat (r ∷ rs) = r ++ cat rs

  -- every row has w elements
  abbrev pub Rows : ℕ → List (List A) → Type 0
  Rows w [] = Unit {0}
  Rows w (r ∷ rs) = (length r ≡ w) × Rows w rs

  pub rows-set : (w : ℕ) (rs : List (List A)) (t : ℕ) (r : List A) → length r ≡ w → Rows w rs → Rows w (set rs t r)
  rows-set w [] t r e h = h
  rows-set w (x ∷ rs) zero r e h = (e, h.1)
  rows-set w (x ∷ rs) (suc t) r e h = (h.0, rows-set w rs t r e h.1)

  pub rows_get : (w : ℕ) (rs : List (List A)) (t : ℕ) (d : List A) → t < length rs → Rows w rs → length (get_or rs t d) ≡ w
  rows_get w [] t d b h = absurd (not-suc-le-zero b)
  rows_get w (x ∷ rs) zero d b h = h.0
  rows_get w (x ∷ rs) (suc t) d b h = rows_get w rs t d (le_of_suc-le-suc b) h.1

  pub cat-length : (w : ℕ) (rs : List (List A)) → Rows w rs → length (cat rs) ≡ length rs * w
  cat-length w [] h = omega arith
  cat-length w (x ∷ rs) h = let r = cat-length w rs h.1 in let a = length-append x (cat rs) in let e = h.0 in omega arith

  pub cat-get : (w : ℕ) (rs : List (List A)) (t j : ℕ) (d : A) → Rows w rs → t < length rs → j < w → get_or (cat rs) (t * w + j) d ≡ get_or (get_or rs t []) j d
  cat-get w [] t j d h b c = absurd (not-suc-le-zero b)
  cat-get w (x ∷ rs) zero j d h b c = get_or-append x (cat rs) d (zero * w + j) (let e = h.0 in omega arith) ∙ ap (λ (i : ℕ). get_or x i d) (omega arith)
  cat-get w (x ∷ rs) (suc t) j d h b c =
      let e = h.0 in
      ap (λ (i : ℕ). get_or (x ++ cat rs) i d) (let q : suc t * w + j ≡ length x + (t * w + j) = omega arith in q)
      ∙ get_or-append-add x (cat rs) (t * w + j) d ∙ cat-get w rs t j d h.1 (le_of_suc-le-suc b) c

  pub cat-set : (w : ℕ) (rs : List (List A)) (t j : ℕ) (v : A) → Rows w rs → t < length rs → j < w → cat (set rs t (set (get_or rs t []) j v)) ≡ set (cat rs) (t * w + j) v
  cat-set w [] t j v h b c = absurd (not-suc-le-zero b)
  cat-set w (x ∷ rs) zero j v h b c = let e = h.0 in sym (ap (λ (i : ℕ). set (x ++ cat rs) i v) (let q : zero * w + j ≡ j = omega arith in q) ∙ set-append_left x (cat rs) j v (omega arith))
  cat-set w (x ∷ rs) (suc t) j v h b c =
      let e = h.0 in
      ap (λ (l : List A). x ++ l) (cat-set w rs t j v h.1 (le_of_suc-le-suc b) c)
      ∙ sym (set_append_add x (cat rs) (t * w + j) v)
      ∙ ap (λ (i : ℕ). set (x ++ cat rs) i v) (let q : length x + (t * w + j) ≡ suc t * w + j = omega arith in q)

  -- two words of one row
  pub cat_set2 : (w : ℕ) (rs : List (List A)) (t i j : ℕ) (a b : A) → Rows w rs → t < length rs → i < w → j < w → cat (set rs t (set (set (get_or rs t []) i a) j b)) ≡ set (set (cat rs) (t * w + i) a) (t * w + j) b
  cat_set2 w rs t i j a b h c hi hj =
      let y = set (get_or rs t []) i a in
      let rs' = set rs t y in
      let same : get_or rs' t [] ≡ y = get_or-set_same rs t y [] c in
      ap cat (sym (set-set rs t y (set y j b)) ∙ ap (λ (x : List A). set rs' t (set x j b)) (sym same))
      ∙ cat-set w rs' t j b (rows-set w rs t y (length-set (get_or rs t []) i a ∙ rows_get w rs t [] c h) h) (rw length-set c) hj
      ∙ ap (λ (x : List A). set x (t * w + j) b) (cat-set w rs t i a h c hi)

pub map-set : {A B : Type 0} (f : A → B) (l : List A) (i : ℕ) (a : A) → map f (set l i a) ≡ set (map f l) i (f a)
map-set f [] i a = refl
map-set f (x ∷ l) zero a = refl
map-set f (x ∷ l) (suc i) a = ap (λ k. f x ∷ k) (map-set f l i a)

pub map_get : {A B : Type 0} (f : A → B) (l : List A) (i : ℕ) (d : A) (e : B) → i < length l → get_or (map f l) i e ≡ f (get_or l i d)
map_get f [] i d e h = absurd (not-suc-le-zero h)
map_get f (x ∷ l) zero d e h = refl
map_get f (x ∷ l) (suc i) d e h = map_get f l i d e (le_of_suc-le-suc h)
