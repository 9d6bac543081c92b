-- How a loop that goes up meets a definition that recurses on what is left.
use Rattle.std.specs.Prelude.{ℕ, suc, ◌+◌, ◌-◌, ◌≤◌, ◌<◌, ◌≡◌}
use Rattle.std.proofs.Common.{ap, ◌∙◌, arith}

-- ---- any search: f i n is what is found in n places from i on; the loop ends at e and stands at i, and all finds r
abbrev pub Going : {A : Type 0} → (ℕ → ℕ → A) → ℕ → ℕ → A → Type 0
Going f e i r = r ≡ f i (e - i)

pub going : {A : Type 0} (f : ℕ → ℕ → A) (e : ℕ) → Going f e 0 (f 0 e)
going f e = ap (f 0) (let q : e ≡ e - 0 = omega arith in q)

module _ {A : Type 0} (f : ℕ → ℕ → A) (e i : ℕ) (r : A) (v : Going f e i r) where
  pub here : i < e → r ≡ f i (suc (e - (i + 1)))
  here h = v ∙ ap (f i) (let q : e - i ≡ suc (e - (i + 1)) = omega arith in q)

  pub ends : e ≤ i → r ≡ f i 0
  ends h = v ∙ ap (f i) (let q : e - i ≡ 0 = omega arith in q)
