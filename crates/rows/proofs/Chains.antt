-- How a test of each of a range's numbers meets the rules' searches, which go up by themselves.
use Rattle.std.proofs.Common.{◌≡◌, ℕ, zero, suc, ◌+◌, ◌*◌, refl, Bool, true, false, ◌||◌, ◌&&◌, ◌∙◌, ap, List, ◌∷◌, length, get_or, drop, zip, drop-cons, add-one, eqb, ltb, leb, sym, drop_of_length-le, lt-ltb, le-ltb, le-leb, ◌<◌, ◌≤◌, arith}
use Rattle.std.proofs.Math.Decide.{dec_lt}
use Rattle.std.proofs.lemmas.Bool.{lt-leb}
use Rattle.std.specs.List.{list_any, list_all, range_with_len}
use Rattle.base.specs.Pick.{pick}
use Rattle.rules.specs.Start.{any_is, any_above}
use Rattle.rules.specs.Rows.{within}

or_pick : (a b c : Bool) → b ≡ c → a || b ≡ pick a true c
or_pick true b c p = refl
or_pick false b c p = p

pub any_is-listed : (l : List ℕ) (x i n : ℕ) → list_any (λ j. eqb (get_or l j 0) x) (range_with_len i n) ≡ any_is l x i n
unfolding any_is
any_is-listed l x i zero = refl
any_is-listed l x i (suc n) = or_pick (eqb (get_or l i 0) x) _ _ (any_is-listed l x (i + 1) n)

pub any_above-listed : (l : List ℕ) (m w k i n : ℕ) → list_any (λ j. ltb m (get_or l (j * w + k) 0)) (range_with_len i n) ≡ any_above l m w k i n
unfolding any_above
any_above-listed l m w k i zero = refl
any_above-listed l m w k i (suc n) = or_pick (ltb m (get_or l (i * w + k) 0)) _ _ (any_above-listed l m w k (i + 1) n)

not_above : (m x : ℕ) (b c : Bool) → b ≡ c → leb x m && b ≡ pick (ltb m x) false c
not_above m x b c p = go (dec_lt m x)
  where
    go : Dec (m < x) → leb x m && b ≡ pick (ltb m x) false c
    go (yes h) = rw (lt-ltb m x h, lt-leb x m h) refl
    go (no h) = let k : x ≤ m = omega arith in rw (le-ltb m x k, le-leb x m k) p

pub within-listed : (most l : List ℕ) (b i n : ℕ) → i + n ≡ length most → list_all (λ (p : ℕ × ℕ). leb (get_or l p.1 0) p.0) (zip (drop i most) (range_with_len (b + i) n)) ≡ within most l b i n
unfolding within
within-listed most l b i zero h = rw (drop_of_length-le most {i = i} (omega arith)) refl
within-listed most l b i (suc n) h =
    ap (λ (xs : List ℕ). list_all (λ (p : ℕ × ℕ). leb (get_or l p.1 0) p.0) (zip xs ((b + i) ∷ range_with_len (b + i + 1) n))) (drop-cons most i 0 (omega arith))
    ∙ not_above (get_or most i 0) (get_or l (b + i) 0) _ _
    ((λ j. list_all (λ (p : ℕ × ℕ). leb (get_or l p.1 0) p.0) (zip (drop (sym (add-one i) j) most) (range_with_len ((let q : b + i + 1 ≡ b + (i + 1) = omega arith in q) j) n)))
    ∙ within-listed most l b (i + 1) n (omega arith))

pub within-all : (most l : List ℕ) (b n : ℕ) → n ≡ length most → list_all (λ (p : ℕ × ℕ). leb (get_or l p.1 0) p.0) (zip most (range_with_len b n)) ≡ within most l b 0 n
within-all most l b n h =
    ap (λ (k : ℕ). list_all (λ (p : ℕ × ℕ). leb (get_or l p.1 0) p.0) (zip most (range_with_len k n))) (let q : b ≡ b + 0 = omega arith in q)
    ∙ within-listed most l b 0 n (omega arith)
