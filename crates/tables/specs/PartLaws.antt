-- The parts of a lent table: a word of a part read and written, and what that leaves of the others.
use Rattle.std.specs.Prelude.{◌≡◌, ℕ, ◌+◌, ◌-◌, ◌<◌, ◌≤◌, min, Bool, true, false, ◌⊎◌, List, length, take, drop, set, replicate, nat_lt, slice_index, slice_index_or, slice_set}
use Rattle.std.proofs.Math.Path.{refl, sym, ap}
use Rattle.std.proofs.Common.{◌∙◌, inl, inr, length-drop, get_or-take, get_or-drop, ext_get_or}
use Rattle.std.proofs.Math.ListN.{length-take, get_or-eq_default}
use Rattle.std.proofs.lemmas.List.{length-replicate, get_or-replicate, drop-set-add}
use Rattle.std.proofs.Math.Seq.{take-set-le, take-set-lt, drop-set-lt, set_out}
use borrow.Author.Tests.{lt-ltb, le-ltb, ltb-true, ltb-false}
use native.Mathlib.Omega.{arith}
use Rattle.base.specs.Pick.{pick, pick_yes, pick_no}
use Rattle.rules.specs.Rows.{stored_from}
use Rattle.rules.specs.Step.{Shared, State, state, part}
use Rattle.tables.specs.StoredLaws.{stored-length, stored-zeros}

-- the shared cells are changed, the rows and the guarded sets are as they were
abbrev pub on_cells : (Shared → Shared) → State → State
on_cells f s = state (f s.cells) s.rows32 s.rows64 s.guards

-- word `at` of the part of n words from `from` on becomes v
unfoldable pub set_in : ℕ → ℕ → List ℕ → ℕ → ℕ → List ℕ
set_in from n l at v = pick (nat_lt at n) (slice_set l (from + at) v) l

-- ---- reading
module _ (from : ℕ) (l : List ℕ) (at : ℕ) where
  pub here : slice_index_or l (from + at) 0 ≡ slice_index (drop from l) at
  here = sym (get_or-drop from l at 0)

  pub behind : length l - from ≤ at → 0 ≡ slice_index (drop from l) at
  behind h = sym (get_or-eq_default (drop from l) 0 (omega (arith, length-drop from l)))

  pub beyond : length l ≤ from → 0 ≡ slice_index (drop from l) at
  beyond h = behind (omega arith)

module _ (from n : ℕ) (l : List ℕ) (at : ℕ) where
  pub get_in : (x : ℕ) → at < n → x ≡ slice_index (drop from l) at → x ≡ slice_index (part from n l) at
  unfolding part
  get_in x h e = e ∙ sym (get_or-take n (drop from l) at 0 h)

  pub get-out : n ≤ at → 0 ≡ slice_index (part from n l) at
  unfolding part
  get-out h = sym (get_or-eq_default (part from n l) 0 (omega (arith, length-take n (drop from l))))

  -- ---- writing
  module _ (v : ℕ) where
    pub put-here : (l' : List ℕ) → at < n → l' ≡ slice_set l (from + at) v → l' ≡ set_in from n l at v
    unfolding set_in
    put-here l' h e = e ∙ sym (pick_yes _ _ _ (lt-ltb _ _ h))

    pub put-behind : at < n → length l ≤ from + at → l ≡ set_in from n l at v
    put-behind h q = put-here l h (sym (set_out l (from + at) v q))

    pub put-out : n ≤ at → l ≡ set_in from n l at v
    unfolding set_in
    put-out h = sym (pick_no _ _ _ (le-ltb _ _ h))

    -- the part itself, a part before or behind it, and all from k on behind it
    pub part_same : part from n (set_in from n l at v) ≡ slice_set (part from n l) at v
    unfolding set_in part
    part_same = go (nat_lt at n) refl
      where
        go : (b : Bool) → nat_lt at n ≡ b → part from n (pick b (slice_set l (from + at) v) l) ≡ slice_set (part from n l) at v
        go true e = ap (take n) (drop-set-add from l at v) ∙ take-set-lt n (drop from l) at v (ltb-true at n e)
        go false e = let q = ltb-false at n e in sym (set_out (part from n l) at v (omega (arith, length-take n (drop from l))))

    pub part-other : (k m : ℕ) → (k + m ≤ from) ⊎ (from + n ≤ k) → part k m (set_in from n l at v) ≡ part k m l
    unfolding set_in part
    part-other k m w = go (nat_lt at n) refl w
      where
        go : (b : Bool) → nat_lt at n ≡ b → (k + m ≤ from) ⊎ (from + n ≤ k) → part k m (pick b (slice_set l (from + at) v) l) ≡ part k m l
        go false e w = refl
        go true e (inl h) =
            let q : from + at ≡ k + (from + at - k) = omega arith in
            ap (λ (i : ℕ). part k m (slice_set l i v)) q ∙ ap (take m) (drop-set-add k l (from + at - k) v) ∙ take-set-le m (drop k l) (from + at - k) v (omega arith)
        go true e (inr h) = let q = ltb-true at n e in ap (take m) (drop-set-lt k l (from + at) v (omega arith))

    pub rest-other : (k : ℕ) → from + n ≤ k → drop k (set_in from n l at v) ≡ drop k l
    unfolding set_in
    rest-other k h = go (nat_lt at n) refl
      where
        go : (b : Bool) → nat_lt at n ≡ b → drop k (pick b (slice_set l (from + at) v) l) ≡ drop k l
        go true e = let q = ltb-true at n e in drop-set-lt k l (from + at) v (omega arith)
        go false e = refl

-- a word of the first n
pub put_first : (n : ℕ) (l : List ℕ) (at v : ℕ) (l' : List ℕ) → at < n → l' ≡ slice_set l at v → l' ≡ set_in 0 n l at v
put_first n l at v l' h e = put-here 0 n l at v l' h (e ∙ ap (λ (i : ℕ). set l i v) (let q : at ≡ 0 + at = omega arith in q))

-- a part in which zeros were stored
pub part-zeros : (from n : ℕ) (l : List ℕ) → part from n (stored_from l from (replicate n 0)) ≡ replicate (length (part from n l)) 0
unfolding part
part-zeros from n l =
    ext_get_or 0 (part from n z) (replicate (length (part from n l)) 0) (same ∙ sym (length-replicate (length (part from n l)) 0))
    (λ i h. let q : i < n = omega (arith, length-take n (drop from z)) in
    get_or-take n (drop from z) i 0 q ∙ get_or-drop from z i 0 ∙ stored-zeros n l from (from + i) (omega arith) (omega arith)
    ∙ sym (get_or-replicate (length (part from n l)) i 0 0 (omega (arith, same))))
  where
    z : List ℕ
    z = stored_from l from (replicate n 0)

    same : length (part from n z) ≡ length (part from n l)
    same = length-take n (drop from z) ∙ ap (min n) (length-drop from z ∙ ap (λ (k : ℕ). k - from) (stored-length (replicate n 0) l from) ∙ sym (length-drop from l)) ∙ sym (length-take n (drop from l))
