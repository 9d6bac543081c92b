-- How a search that has come to i meets the search of the stolen heads that the rules define.
use Rattle.std.specs.Prelude.{◌≡◌, ℕ, ◌+◌, ◌<◌, ◌≤◌, List, ◌≢◌, slice_index}
use Rattle.std.proofs.Math.Path.{sym}
use Rattle.std.proofs.Common.{◌∙◌, eq-eqb, ne_eqb}
use Rattle.base.specs.Pick.{pick_yes, pick_no}
use Rattle.base.specs.Searches.{Going, here, ends}
use Rattle.rules.specs.Rows.{stolen_from}

module _ (l : List ℕ) (e i r : ℕ) (v : Going (stolen_from l) e i r) where
  pub stolen-found : i < e → (slice_index l i ≢ 0) → i ≡ r
  unfolding stolen_from
  stolen-found h n = sym (here (stolen_from l) e i r v h ∙ pick_no _ _ _ (ne_eqb _ _ n))

  pub stolen-on : i < e → slice_index l i ≡ 0 → Going (stolen_from l) e (i + 1) r
  unfolding stolen_from
  stolen-on h n = here (stolen_from l) e i r v h ∙ pick_yes _ _ _ (eq-eqb _ _ n)

  pub stolen-out : e ≤ i → i ≡ r
  unfolding stolen_from
  stolen-out h = sym (ends (stolen_from l) e i r v h)
