-- How the start is put together of its parts.
use Rattle.std.specs.Prelude.{ℕ, ◌≤◌, ◌<◌, ◌≡◌, Bool, true, false, List, []}
use Rattle.std.proofs.Common.{ap, sym, ◌∙◌, eq-eqb, ne_eqb}
use Rattle.base.specs.Pick.{pick_yes, pick_no}
use Rattle.rules.specs.Sizes.{threads, Settings}
use Rattle.rules.specs.Cells.{address}
use Rattle.rules.specs.Step.{State, state, lent, Out, out, answer, refused, sizes, written}
use Rattle.rules.specs.Start.{begins, refuse_of, entered, of_null, start_by, start_in, start_of}
use Rattle.rules.specs.declared.Cell.{Cell}
use Rattle.tables.specs.PartLaws.{on_cells}
use Rattle.rows.specs.RowLaws.{with_row}
use Rattle.machine.specs.StepLaws.{sized_16, sized_17, sized_on}
use Rattle.rules.specs.declared.Operation.{Operation}
use Rattle.rules.specs.declared.Entry.{Entry}

-- what a start writes, put together: a cell, then the row; the guarded sets g are not lent
pub has-entered : (i n m w : List ℕ) (t : ℕ) (e : Entry) (c : Cell) (i₁ n₁ m₁ w₁ i' w' : List ℕ) → lent i₁ n₁ m₁ w₁ [] ≡ on_cells (λ x. written x c e.put) (lent i n m w []) → c ≡ address e.cell → ((n m g : List ℕ) → lent i' n m w' g ≡ with_row t e.row (lent i₁ n m w₁ g)) → (g : List ℕ) → lent i' n₁ m₁ w' g ≡ entered (lent i n m w g) t e
unfolding lent with_row entered
has-entered i n m w t e c i₁ n₁ m₁ w₁ i' w' p u q g =
    q n₁ m₁ g ∙ λ j. with_row t e.row (let x = (p ∙ ap (λ (d : Cell). on_cells (λ y. written y d e.put) (lent i n m w [])) u) j in state x.cells x.rows32 x.rows64 g)

module _ (g : Settings) (s : State) (t : ℕ) (o : Operation) (n : ℕ) (e : Entry) (p : n ≡ refuse_of s t o) (q : e ≡ begins g o) where
  begins-by : start_by s t n e ≡ start_in g s t o
  unfolding start_in
  begins-by = λ i. start_by s t (p i) (q i)

  pub start_no : (n ≡ 0 → ⊥) → refused n s ≡ start_in g s t o
  start_no h = sym (pick_no _ _ (refused n s) (ne_eqb _ _ h)) ∙ begins-by

  module _ (b : Bool) (z : n ≡ 0) (u : b ≡ of_null e) where
    pub start-null : b ≡ true → out (answer 2 0) s ≡ start_in g s t o
    start-null h = sym (pick_yes _ _ (refused n s) (eq-eqb _ _ z) ∙ pick_yes (of_null e) _ (out (answer 1 0) (entered s t e)) (sym u ∙ h)) ∙ begins-by

    pub start-goes : b ≡ false → (s' : State) → s' ≡ entered s t e → out (answer 1 0) s' ≡ start_in g s t o
    start-goes h s' r = ap (out (answer 1 0)) r ∙ sym (pick_yes _ _ (refused n s) (eq-eqb _ _ z) ∙ pick_no (of_null e) (out (answer 2 0) s) _ (sym u ∙ h)) ∙ begins-by

module _ (g : Settings) (s : State) (t : ℕ) (o : Operation) (ok : Bool) (p : ok ≡ sizes s) where
  pub start_16 : ok ≡ false → refused 16 s ≡ start_of g s t o
  unfolding start_of
  start_16 h = sized_16 s t ok (start_in g s t o) p h

  pub start_17 : ok ≡ true → threads ≤ t → refused 17 s ≡ start_of g s t o
  unfolding start_of
  start_17 h l = sized_17 s t ok (start_in g s t o) p h l

  pub start-on : ok ≡ true → t < threads → (a : Out) → a ≡ start_in g s t o → a ≡ start_of g s t o
  unfolding start_of
  start-on h l a e = sized_on s t ok (start_in g s t o) p h l a e
