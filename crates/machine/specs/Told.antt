-- A step's effect has a number and a value: those that the rules' effects have.
use Rattle.std.specs.Prelude.{ℕ, ◌≡◌, ◌⊎◌}
use Rattle.rules.specs.declared.Effect.{Effect}

-- it goes on, is done, is to be tried again or reclaims, or is refused by 25, 26 or 29
abbrev pub Tellable : ℕ → ℕ → Type 0
Tellable n v = ((n ≡ 0) × (v ≡ 0)) ⊎ ((n ≡ 2) ⊎ ((n ≡ 3) ⊎ ((n ≡ 4) ⊎ (((n ≡ 25) × (v ≡ 0)) ⊎ (((n ≡ 26) × (v ≡ 0)) ⊎ ((n ≡ 29) × (v ≡ 0)))))))

pub record Told (e : Effect) : Type 0 where
  pub by : Tellable e.number e.value
