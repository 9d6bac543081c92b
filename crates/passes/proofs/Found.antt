-- The rules' search of the stolen heads, said of what is at each of them.
use Rattle.std.specs.Prelude.{ℕ, zero, suc, ◌+◌, ◌-◌, ◌<◌, ◌≤◌, ◌≡◌, ◌≢◌, max, List, slice_index, Option, None, Some, MatchOption, refl}
use Rattle.std.specs.Option.{unwrap_or}
use Rattle.std.proofs.Common.{arith, subst}
use Rattle.std.proofs.Math.Decide.{dec_lt}
use Rattle.base.specs.Searches.{Going}
use Rattle.rules.specs.Rows.{stolen_from}
use Rattle.passes.specs.Stolen.{stolen-found, stolen-on, stolen-out}

module _ (l : List ℕ) (e from : ℕ) where
  abbrev r : ℕ
  r = stolen_from l from (e - from)

  abbrev NoneTo : ℕ → Type 0
  NoneTo k = (i : ℕ) → from ≤ i → i < k → slice_index l i ≡ 0

  abbrev At : ℕ → Type 0
  At k = Going (stolen_from l) e k r

  none_to : (m k : ℕ) → k ≡ from + m → k ≤ e → NoneTo k → At k
  none_to zero k q h z = subst At {x = from} {y = k} (omega arith) refl
  none_to (suc m) k q h z =
      let before : At (from + m) = none_to m (from + m) refl (omega arith) (λ i a b. z i a (omega arith)) in
      subst At {x = from + m + 1} {y = k} (omega arith) (stolen-on l e (from + m) r before (omega arith) (z (from + m) (omega arith) (omega arith)))

  -- what a search from `from` up to e finds, or past the last
  pub found_or_past : (o : Option ℕ) → MatchOption o ((k : ℕ) → from ≤ k → k < e → slice_index l k ≡ 0) (λ k. (from ≤ k) × (k < e) × (slice_index l k ≢ 0) × NoneTo k) → unwrap_or o (max from e) ≡ r
  found_or_past None z = go (dec_lt e from)
    where
      go : Dec (e < from) → max from e ≡ r
      go (yes p) = omega (arith, stolen-out l e from r refl (omega arith))
      go (no q) = omega (arith, stolen-out l e e r (none_to (e - from) e (omega arith) (omega arith) z) (omega arith))
  found_or_past (Some k) (low, high, some, none) =
      stolen-found l e k r (none_to (k - from) k (omega arith) (omega arith) none) high some
