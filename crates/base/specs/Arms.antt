-- How a `match` on a number meets a definition that is a list of cases.
use Rattle.std.specs.Prelude.{ℕ, zero, suc, ◌≤◌, ◌≡◌}
use Rattle.std.proofs.Common.{zero-le, arith}

-- what is known past the arms 0 to n - 1
abbrev pub Past : ℕ → ℕ → Type 0
Past zero p = Unit
Past (suc n) p = Past n p × (p ≡ n → ⊥)

pub past : (n p : ℕ) → Past n p → n ≤ p
past zero p h = zero-le
past (suc n) p h = let a : n ≤ p = past n p h.0 in let b : p ≡ n → ⊥ = h.1 in omega arith
