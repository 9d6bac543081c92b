-- What CellLaws says of the tables with no guarded sets, said of all five.
use Rattle.std.proofs.Common.{◌≡◌, ◌∙◌, ◌*◌, List, [], ℕ, replicate, slice_index, slice_set}
use Rattle.base.specs.Pick.{pick}
use Rattle.rules.specs.Sizes.{records, from_records}
use Rattle.rules.specs.Cells.{address, nothing}
use Rattle.rules.specs.Rows.{stored_from}
use Rattle.rules.specs.Words.{plus}
use Rattle.rules.specs.Step.{Shared, State, state, lent, written, cells_given}
use Rattle.rules.specs.declared.Cell.{Cell}
use Rattle.rules.specs.declared.Effect.{Effect}
use Rattle.tables.specs.PartLaws.{on_cells}
use Rattle.tables.specs.CellLaws.{gave}

-- the same change with the guarded sets g
pub with_guards : (f : Shared → Shared) (s s' : State) (g : List ℕ) → s' ≡ on_cells f s → state s'.cells s'.rows32 s'.rows64 g ≡ on_cells f (state s.cells s.rows32 s.rows64 g)
with_guards f s s' g p = λ j. state (p j).cells (p j).rows32 (p j).rows64 g

module _ (c : Cell) (e : Effect) (d a : Cell) (i₀ n₀ m₀ w₀ g₀ i₁ n₁ m₁ w₁ g₁ i n m w g i' w' : List ℕ) where
  pub has-given : d ≡ pick e.writes c nothing → lent i₁ n₁ m₁ w₁ g₁ ≡ on_cells (λ x. written x d e.put) (lent i₀ n₀ m₀ w₀ g₀) → a ≡ address e.also → lent i n m w g ≡ on_cells (λ x. written x a e.to) (lent i₁ n₁ m₁ w₁ g₁) → i' ≡ pick e.closes (stored_from (slice_set (slice_set i 0 0) 1 0) from_records (replicate (4 * records) 0)) i → w' ≡ slice_set w 4 (plus (slice_index w 4) 1) → lent i' n m w' g ≡ on_cells (λ x. cells_given x c e) (lent i₀ n₀ m₀ w₀ g₀)
  unfolding lent
  has-given pd p1 pa p2 pi pw =
      let q = gave (lent i₀ n₀ m₀ w₀ []) c e d a i₁ n₁ m₁ w₁ i n m w i' w' pd (with_guards (λ x. written x d e.put) (lent i₀ n₀ m₀ w₀ g₀) (lent i₁ n₁ m₁ w₁ g₁) [] p1) pa (with_guards (λ x. written x a e.to) (lent i₁ n₁ m₁ w₁ g₁) (lent i n m w g) [] p2) pi pw in
      let k : g ≡ g₀ = (λ j. (p2 j).guards) ∙ (λ j. (p1 j).guards) in
      λ j. state (q j).cells (q j).rows32 (q j).rows64 (k j)
