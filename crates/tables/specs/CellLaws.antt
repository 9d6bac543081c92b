-- How the code that reads and writes one cell meets the rules.
use Rattle.std.specs.Prelude.{◌≡◌, ℕ, ◌+◌, ◌*◌, ◌%◌, ◌^◌, ◌<◌, ◌≤◌, Bool, true, false, List, [], ◌∷◌, length, take, drop, set, replicate, slice_index, slice_index_or, slice_set, refl}
use Rattle.std.proofs.Common.{sym, ◌∙◌, inl, inr, get_or-take, drop-set-lt, mul-le-mul_right, arith}
use Rattle.std.proofs.Math.Path.{ap}
use Rattle.std.proofs.lemmas.List.{length-replicate}
use Rattle.std.proofs.Math.ListN.{get_or-eq_default}
use Rattle.std.proofs.Math.Seq.{take-set-lt}
use Rattle.base.specs.Pick.{pick}
use Rattle.rules.specs.Sizes.{records, sources, head_cells, counter_cells, from_sources, from_records, from_rows}
use Rattle.rules.specs.Words.{plus}
use Rattle.rules.specs.Rows.{stored_from}
use Rattle.rules.specs.declared.Class.{Class}
use Rattle.rules.specs.declared.Cell.{Cell}
use Rattle.rules.specs.declared.Effect.{Effect}
use Rattle.rules.specs.declared.Named.{Named}
use Rattle.rules.specs.declared.Access.{Access}
use Rattle.rules.specs.Cells.{in_range, address, accessed, nothing, heads, counters, in_records, in_sources, in_next, in_state}
use Rattle.rules.specs.Step.{Shared, shared, State, state, part, lent, fetched, at_in, written, closed, ticked, cells_given}
use Rattle.tables.specs.StoredLaws.{stored-take, stored-drop, stored_past}
use Rattle.tables.specs.PartLaws.{on_cells, set_in, part_same, part-other, rest-other, part-zeros}

abbrev lists : Shared → List (List ℕ)
lists s = [] ∷ s.heads ∷ s.counters ∷ s.records ∷ s.sources ∷ s.next ∷ s.state ∷ []

pub fetched_in : (s : Shared) (c : Cell) (v k : ℕ) → c.table ≡ k → v ≡ slice_index (slice_index_or (lists s) k []) c.at → v ≡ fetched s c
unfolding fetched
fetched_in s c v k e p = p ∙ sym (ap (λ (n : ℕ). slice_index (slice_index_or (lists s) n []) c.at) e)

pub fetched-none : (s : Shared) (c : Cell) → 7 ≤ c.table → 0 ≡ fetched s c
unfolding fetched
fetched-none s c h = sym (ap (λ (l : List ℕ). slice_index l c.at) (get_or-eq_default (lists s) [] h))

-- a word of one of n rows of w words stands below a bound that holds for them all
pub in_rows : (n w k i b : ℕ) → i ≤ n → n * w + k < b → i * w + k < b
in_rows n w k i b h q = omega (arith, mul-le-mul_right w h)

-- an arm of a `match` on a class, on a name, and on an access
pub ranged : (r : Bool) (k l : Class) (x : ℕ) → k ≡ l → r ≡ in_range l x → r ≡ in_range k x
ranged r k l x e p = p ∙ sym (ap (λ (m : Class). in_range m x) e)

pub addressed : (r : Cell) (n m : Named) → n ≡ m → r ≡ address m → r ≡ address n
addressed r n m e p = p ∙ sym (ap address e)

pub accessed-by : (r : Cell) (a b : Access) → a ≡ b → r ≡ accessed b → r ≡ accessed a
accessed-by r a b e p = p ∙ sym (ap accessed e)

-- ---- a cell is written
-- the table of ids
unfoldable pub ids_put : Cell → ℕ → List ℕ → List ℕ
ids_put c y i =
    set_in from_sources sources (set_in from_records (4 * records) (set_in 0 head_cells i (at_in c heads) y) (at_in c in_records) y) (at_in c in_sources) y

module _ (c : Cell) (y : ℕ) (i : List ℕ) where
  abbrev i₁ : List ℕ
  i₁ = set_in 0 head_cells i (at_in c heads) y

  abbrev i₂ : List ℕ
  i₂ = set_in from_records (4 * records) i₁ (at_in c in_records) y

  put-heads : part 0 head_cells (ids_put c y i) ≡ slice_set (part 0 head_cells i) (at_in c heads) y
  unfolding ids_put
  put-heads =
      part-other from_sources sources i₂ (at_in c in_sources) y 0 head_cells (inl (omega arith))
      ∙ part-other from_records (4 * records) i₁ (at_in c in_records) y 0 head_cells (inl (omega arith))
      ∙ part_same 0 head_cells i (at_in c heads) y

  put-records : part from_records (4 * records) (ids_put c y i) ≡ slice_set (part from_records (4 * records) i) (at_in c in_records) y
  unfolding ids_put
  put-records =
      part-other from_sources sources i₂ (at_in c in_sources) y from_records (4 * records) (inr (omega arith))
      ∙ part_same from_records (4 * records) i₁ (at_in c in_records) y
      ∙ ap (λ (l : List ℕ). set l (at_in c in_records) y) (part-other 0 head_cells i (at_in c heads) y from_records (4 * records) (inr (omega arith)))

  put-sources : part from_sources sources (ids_put c y i) ≡ slice_set (part from_sources sources i) (at_in c in_sources) y
  unfolding ids_put
  put-sources =
      part_same from_sources sources i₂ (at_in c in_sources) y
      ∙ ap (λ (l : List ℕ). set l (at_in c in_sources) y)
      (part-other from_records (4 * records) i₁ (at_in c in_records) y from_sources sources (inl (omega arith)) ∙ part-other 0 head_cells i (at_in c heads) y from_sources sources (inr (omega arith)))

  put-rows : drop from_rows (ids_put c y i) ≡ drop from_rows i
  unfolding ids_put
  put-rows =
      rest-other from_sources sources i₂ (at_in c in_sources) y from_rows (omega arith)
      ∙ rest-other from_records (4 * records) i₁ (at_in c in_records) y from_rows (omega arith)
      ∙ rest-other 0 head_cells i (at_in c heads) y from_rows (omega arith)

pub wrote : (i n m w i' n' m' w' : List ℕ) (c : Cell) (v : ℕ) → i' ≡ ids_put c (v % 2 ^ 32) i → n' ≡ slice_set n (at_in c in_next) (v % 2 ^ 32) → m' ≡ slice_set m (at_in c in_state) (v % 2 ^ 32) → w' ≡ set_in 0 counter_cells w (at_in c counters) v → lent i' n' m' w' [] ≡ on_cells (λ s. written s c v) (lent i n m w [])
unfolding written lent
wrote i n m w i' n' m' w' c v pi pn pm pw =
    (λ j. lent (pi j) (pn j) (pm j) (pw j) [])
    ∙ together (v % 2 ^ 32)
  where
    together : (y : ℕ) → lent (ids_put c y i) (slice_set n (at_in c in_next) y) (slice_set m (at_in c in_state) y) (set_in 0 counter_cells w (at_in c counters) v) []
        ≡ state (shared (slice_set (part 0 head_cells i) (at_in c heads) y) (slice_set (part 0 counter_cells w) (at_in c counters) v) (slice_set (part from_records (4 * records) i) (at_in c in_records) y) (slice_set (part from_sources sources i) (at_in c in_sources) y) (slice_set n (at_in c in_next) y) (slice_set m (at_in c in_state) y)) (drop from_rows i) (drop counter_cells w) []
    together y = λ j.
        state (shared (put-heads c y i j) (part_same 0 counter_cells w (at_in c counters) v j) (put-records c y i j) (put-sources c y i j) (slice_set n (at_in c in_next) y) (slice_set m (at_in c in_state) y))
        (put-rows c y i j) (rest-other 0 counter_cells w (at_in c counters) v counter_cells (omega arith) j) []

-- ---- a shutdown is over, and a step is counted
abbrev cut : List ℕ → List ℕ
cut i = slice_set (slice_set i 0 0) 1 0

abbrev zeros : List ℕ
zeros = replicate (4 * records) 0

module _ (i : List ℕ) where
  cut_apart : (k : ℕ) → 1 < k → drop k (cut i) ≡ drop k i
  cut_apart k h = drop-set-lt k (slice_set i 0 0) 1 0 (omega arith) ∙ drop-set-lt k i 0 0 (omega arith)

  shut-heads : part 0 head_cells (stored_from (cut i) from_records zeros) ≡ cut (part 0 head_cells i)
  unfolding part
  shut-heads = stored-take zeros (cut i) head_cells from_records (omega arith) ∙ take-set-lt head_cells (slice_set i 0 0) 1 0 (omega arith) ∙ ap (λ (x : List ℕ). set x 1 0) (take-set-lt head_cells i 0 0 (omega arith))

  shut-records : part from_records (4 * records) (stored_from (cut i) from_records zeros) ≡ replicate (length (part from_records (4 * records) i)) 0
  unfolding part
  shut-records = part-zeros from_records (4 * records) (cut i) ∙ ap (λ (x : List ℕ). replicate (length (take (4 * records) x)) 0) (cut_apart from_records (omega arith))

  shut-sources : part from_sources sources (stored_from (cut i) from_records zeros) ≡ part from_sources sources i
  unfolding part
  shut-sources = ap (take sources) (stored-drop zeros (cut i) from_sources sources) ∙ stored-take zeros (drop from_sources (cut i)) sources sources (omega arith) ∙ ap (take sources) (cut_apart from_sources (omega arith))

  shut-rows : drop from_rows (stored_from (cut i) from_records zeros) ≡ drop from_rows i
  shut-rows = stored_past zeros (cut i) from_rows from_records (omega (arith, length-replicate {A = ℕ} (4 * records) 0)) ∙ cut_apart from_rows (omega arith)

pub shuts : (i n m w : List ℕ) (b : Bool) → lent (pick b (stored_from (cut i) from_records zeros) i) n m w [] ≡ on_cells (λ s. closed s b) (lent i n m w [])
unfolding lent
shuts i n m w false = refl
shuts i n m w true = λ j. state (shared (shut-heads i j) (part 0 counter_cells w) (shut-records i j) (shut-sources i j) n m) (shut-rows i j) (drop counter_cells w) []

pub ticks : (i n m w : List ℕ) → lent i n m (slice_set w 4 (plus (slice_index w 4) 1)) [] ≡ on_cells ticked (lent i n m w [])
unfolding lent part
ticks i n m w = λ j. state (shared (part 0 head_cells i) (at_counters j) (part from_records (4 * records) i) (part from_sources sources i) n m) (drop from_rows i) (drop-set-lt counter_cells w 4 (plus (slice_index w 4) 1) (omega arith) j) []
  where
    at_counters : part 0 counter_cells (slice_set w 4 (plus (slice_index w 4) 1)) ≡ slice_set (part 0 counter_cells w) 4 (plus (slice_index (part 0 counter_cells w) 4) 1)
    at_counters = take-set-lt counter_cells w 4 (plus (slice_index w 4) 1) (omega arith) ∙ ap (λ (x : ℕ). set (take counter_cells w) 4 (plus x 1)) (sym (get_or-take counter_cells w 4 0 (omega arith)))

-- the tables that a step leaves: two cells are written, then the records are cleared or not, then the step is counted
pub gave : (s : State) (c : Cell) (e : Effect) (d a : Cell) (i₁ n₁ m₁ w₁ i n m w i' w' : List ℕ) → d ≡ pick e.writes c nothing → lent i₁ n₁ m₁ w₁ [] ≡ on_cells (λ x. written x d e.put) s → a ≡ address e.also → lent i n m w [] ≡ on_cells (λ x. written x a e.to) (lent i₁ n₁ m₁ w₁ []) → i' ≡ pick e.closes (stored_from (cut i) from_records zeros) i → w' ≡ slice_set w 4 (plus (slice_index w 4) 1) → lent i' n m w' [] ≡ on_cells (λ x. cells_given x c e) s
unfolding cells_given
gave s c e d a j₁ n₁ m₁ w₁ i n m w i' w' pd p1 pa p2 pi pw =
    (λ j. lent (pi j) n m (pw j) [])
    ∙ ticks (pick e.closes (stored_from (cut i) from_records zeros) i) n m w
    ∙ ap (on_cells ticked) (shuts i n m w e.closes ∙ ap (on_cells (λ x. closed x e.closes)) (p2 ∙ λ j. on_cells (λ x. written x (pa j) e.to) ((p1 ∙ ap (λ (k : Cell). on_cells (λ x. written x k e.put) s) pd) j)))
