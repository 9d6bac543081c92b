-- The state as which the five tables are read has every word of each: a promise about it leaves one content of each table.
use Rattle.std.specs.Prelude.{ℕ, ◌+◌, ◌*◌, ◌≡◌, take, drop}
use Rattle.std.proofs.Common.{sym, ◌∙◌, take-append-drop, drop-drop}
use Rattle.std.proofs.Math.Path.{ap}
use mathlib.Core.List.{List, ◌++◌}
use Rattle.rules.specs.Sizes.{records, sources, head_cells, counter_cells, from_sources, from_records}
use Rattle.rules.specs.Step.{State, lent, part}

-- a part and what is behind it
joined : (from n : ℕ) (l : List ℕ) → part from n l ++ drop (from + n) l ≡ drop from l
unfolding part
joined from n l = ap (λ (x : List ℕ). take n (drop from l) ++ x) (sym (drop-drop n from l)) ∙ take-append-drop n (drop from l)

abbrev ids_of : State → List ℕ
ids_of s = s.cells.heads ++ (s.cells.sources ++ (s.cells.records ++ s.rows32))

abbrev words_of : State → List ℕ
words_of s = s.cells.counters ++ s.rows64

module _ (i n m w g : List ℕ) where
  ids_whole : ids_of (lent i n m w g) ≡ i
  unfolding lent
  ids_whole =
      ap (λ (x : List ℕ). part 0 head_cells i ++ (part from_sources sources i ++ x)) (joined from_records (4 * records) i)
      ∙ ap (λ (x : List ℕ). part 0 head_cells i ++ x) (joined from_sources sources i)
      ∙ joined 0 head_cells i

  words-whole : words_of (lent i n m w g) ≡ w
  unfolding lent
  words-whole = joined 0 counter_cells w

pub lent_one : (i n m w g i' n' m' w' g' : List ℕ) → lent i n m w g ≡ lent i' n' m' w' g' → (i ≡ i') × (n ≡ n') × (m ≡ m') × (w ≡ w') × (g ≡ g')
unfolding lent
lent_one i n m w g i' n' m' w' g' p = (
  sym (ids_whole i n m w g) ∙ ap ids_of p ∙ ids_whole i' n' m' w' g',
  ap (λ (s : State). s.cells.next) p,
  ap (λ (s : State). s.cells.state) p,
  sym (words-whole i n m w g) ∙ ap words_of p ∙ words-whole i' n' m' w' g',
  ap (λ (s : State). s.guards) p,
)
