-- How a loop that goes up meets a definition that recurses on what is left: what is found where it stops, goes on, or ends.
use Rattle.std.specs.Prelude.{ℕ, zero, suc, ◌+◌, ◌*◌, ◌≤◌, ◌<◌, ◌≡◌, refl, Bool, true, false, List, get_or, take, drop, ltb}
use Rattle.std.proofs.Math.Path.{sym}
use Rattle.std.proofs.Common.{ap, ◌∙◌, get_or-take, eq-eqb, ne_eqb, lt-ltb, le-ltb, mul-le-mul_right, suc-mul, le_trans, arith}
use Rattle.base.specs.Pick.{pick, pick_yes, pick_no}
use Rattle.base.specs.Searches.{Going, here, ends}
use Rattle.rules.specs.Sizes.{threads}
use Rattle.rules.specs.Rows.{within}
use Rattle.rules.specs.Step.{part, untaken_from}
use Rattle.rules.specs.Start.{any_is, any_above}

-- ---- a word x above its most
module _ (most l : List ℕ) (b e i : ℕ) (r : Bool) (v : Going (within most l b) e i r) where
  pub within-found : (x : ℕ) → x ≡ get_or l (b + i) 0 → i < e → get_or most i 0 < x → false ≡ r
  unfolding within
  within-found x p h n = sym (here (within most l b) e i r v h ∙ pick_yes _ _ _ (lt-ltb _ _ (rw p at n)))

  pub within_on : (x : ℕ) → x ≡ get_or l (b + i) 0 → i < e → x ≤ get_or most i 0 → Going (within most l b) e (i + 1) r
  unfolding within
  within_on x p h n = here (within most l b) e i r v h ∙ pick_no _ _ _ (le-ltb _ _ (rw p at n))

  pub within-out : e ≤ i → true ≡ r
  unfolding within
  within-out h = sym (ends (within most l b) e i r v h)

-- ---- the lowest record row whose holder x is none or no holder
module _ (l : List ℕ) (e i r : ℕ) (v : Going (untaken_from l) e i r) where
  pub untaken_unused : (x : ℕ) → x ≡ get_or l (i * 4 + 3) 0 → i < e → x ≡ 0 → i + 1 ≡ r
  unfolding untaken_from
  untaken_unused x p h n = sym (here (untaken_from l) e i r v h ∙ pick_yes _ _ _ (eq-eqb _ _ (sym p ∙ n)))

  pub untaken_damaged : (x : ℕ) → x ≡ get_or l (i * 4 + 3) 0 → i < e → (x ≡ 0 → ⊥) → threads + 1 < x → i + 1 ≡ r
  unfolding untaken_from
  untaken_damaged x p h z n = sym (here (untaken_from l) e i r v h ∙ pick_no _ _ _ (ne_eqb _ _ (rw p at z)) ∙ pick_yes _ _ _ (lt-ltb _ _ (rw p at n)))

  pub untaken_on : (x : ℕ) → x ≡ get_or l (i * 4 + 3) 0 → i < e → (x ≡ 0 → ⊥) → x ≤ threads + 1 → Going (untaken_from l) e (i + 1) r
  unfolding untaken_from
  untaken_on x p h z n = here (untaken_from l) e i r v h ∙ pick_no _ _ _ (ne_eqb _ _ (rw p at z)) ∙ pick_no _ _ _ (le-ltb _ _ (rw p at n))

  pub untaken_out : e ≤ i → 0 ≡ r
  unfolding untaken_from
  untaken_out h = sym (ends (untaken_from l) e i r v h)

-- ---- a word x above m
module _ (l : List ℕ) (m w k e i : ℕ) (r : Bool) (v : Going (any_above l m w k) e i r) where
  pub above-found : (x : ℕ) → x ≡ get_or l (i * w + k) 0 → i < e → m < x → true ≡ r
  unfolding any_above
  above-found x p h n = sym (here (any_above l m w k) e i r v h ∙ pick_yes _ _ _ (lt-ltb _ _ (rw p at n)))

  pub above_on : (x : ℕ) → x ≡ get_or l (i * w + k) 0 → i < e → x ≤ m → Going (any_above l m w k) e (i + 1) r
  unfolding any_above
  above_on x p h n = here (any_above l m w k) e i r v h ∙ pick_no _ _ _ (le-ltb _ _ (rw p at n))

  pub above-out : e ≤ i → false ≡ r
  unfolding any_above
  above-out h = sym (ends (any_above l m w k) e i r v h)

-- a part of rows is searched as all that stands from its beginning on
above-take : (l : List ℕ) (m w k i n len : ℕ) → k < w → (i + n) * w ≤ len → any_above l m w k i n ≡ any_above (take len l) m w k i n
unfolding any_above
above-take l m w k i zero len hk h = refl
above-take l m w k i (suc n) len hk h =
    let q : suc i * w ≤ len = le_trans (mul-le-mul_right w (let z : suc i ≤ i + suc n = omega arith in z)) h in
    (λ j. pick (ltb m (sym (get_or-take len l (i * w + k) 0 (omega (arith, suc-mul i w))) j)) true (any_above l m w k (i + 1) n))
    ∙ ap (pick (ltb m (get_or (take len l) (i * w + k) 0)) true) (above-take l m w k (i + 1) n len hk (let z : i + 1 + n ≡ i + suc n = omega arith in rw z h))

pub above-part : (from len : ℕ) (l : List ℕ) (m w k n : ℕ) (r : Bool) → r ≡ any_above (drop from l) m w k 0 n → k < w → n * w ≤ len → r ≡ any_above (part from len l) m w k 0 n
unfolding part
above-part from len l m w k n r e hk h = e ∙ above-take (drop from l) m w k 0 n len hk (let q : 0 + n ≡ n = omega arith in rw q h)

-- ---- a word x that is n
module _ (l : List ℕ) (n e i : ℕ) (r : Bool) (v : Going (any_is l n) e i r) where
  pub is_found : (x : ℕ) → x ≡ get_or l i 0 → i < e → x ≡ n → true ≡ r
  unfolding any_is
  is_found x p h q = sym (here (any_is l n) e i r v h ∙ pick_yes _ _ _ (eq-eqb _ _ (sym p ∙ q)))

  pub is-on : (x : ℕ) → x ≡ get_or l i 0 → i < e → (x ≡ n → ⊥) → Going (any_is l n) e (i + 1) r
  unfolding any_is
  is-on x p h q = here (any_is l n) e i r v h ∙ pick_no _ _ _ (ne_eqb _ _ (rw p at q))

  pub is-out : e ≤ i → false ≡ r
  unfolding any_is
  is-out h = sym (ends (any_is l n) e i r v h)
