-- The tables after a step, put together: the shared cells, then the row, then the guarded set.
use Rattle.std.proofs.Common.{ℕ, ◌≡◌, ◌∙◌, List, ap}
use Rattle.rules.specs.Step.{State, state, cells_given, guards_given, given}
use Rattle.rules.specs.declared.Cell.{Cell}
use Rattle.rules.specs.declared.Effect.{Effect}
use Rattle.tables.specs.PartLaws.{on_cells}
use Rattle.rows.specs.RowLaws.{with_row}

pub has-given : (s a b : State) (t : ℕ) (c : Cell) (e : Effect) (g : List ℕ) → a ≡ on_cells (λ x. cells_given x c e) s → b ≡ with_row t e.row a → g ≡ guards_given b.guards t e.guards → state b.cells b.rows32 b.rows64 g ≡ given s t c e
unfolding with_row given
has-given s a b t c e g p q r =
    let z : b ≡ with_row t e.row (on_cells (λ x. cells_given x c e) s) = q ∙ ap (with_row t e.row) p in
    λ j. state (z j).cells (z j).rows32 (z j).rows64 ((r ∙ ap (λ (x : State). guards_given x.guards t e.guards) z) j)
