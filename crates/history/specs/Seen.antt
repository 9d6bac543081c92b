-- What the statements of demand 3 read from the tables is what the layers' view has.
use Rattle.std.specs.Prelude.{◌≡◌, List, length}
use Rattle.std.proofs.Math.Path.{refl, ap}
use Rattle.std.proofs.Common.{sym, ap₂, ◌∙◌}
use Prim.Native.Nat.{ℕ, zero, suc, ◌+◌, ◌*◌, ◌<◌}
use Rattle.std.proofs.Math.Decide.{dec_lt}
use native.Mathlib.Omega.{arith}
use Rattle.std.proofs.Math.ListN.{get_or, get_or-eq_default}
use borrow.Author.Tests.{lt-ltb, ne_eqb}
use Rattle.rules.specs.Sizes.{records, nodes, threads}
use Rattle.rules.specs.Cells.{address}
use Rattle.rules.specs.Step.{State, fetched}
use Rattle.rules.specs.declared.Row.{Row}
use Rattle.rules.specs.declared.Named.TheVariants as cell
use Rattle.lists.specs.Occ.{eq01, eq01-other, sum}
use Rattle.lists.specs.Tab.{tab, tab_ext, tab-get}
use Rattle.lists.specs.Heap
use Rattle.view.specs.View.{view_of, rows_in, guards_in}
use Rattle.view.specs.Field.{IsId}
use Rattle.view.specs.Long.{long}
use Rattle.view.specs.Written.{fetched-view}
use Rattle.view.specs.Turn.{row_in, row-view}
use Rattle.records.specs.Hold
use Rattle.balance.specs.Balance
use Rattle.history.specs.Demand3.{holds, AllIdle, used, waits, waiting}

sum-tab : {A B : Type 0} (F : A → ℕ) (G : B → ℕ) (n : ℕ) (f : ℕ → A) (g : ℕ → B) → ((i : ℕ) → i < n → F (f i) ≡ G (g i)) → sum F (tab n f) ≡ sum G (tab n g)
unfolding tab
sum-tab F G zero f g h = refl
sum-tab F G (suc n) f g h = ap₂ ◌+◌ (h 0 (omega arith)) (sum-tab F G n (λ i. f (suc i)) (λ i. g (suc i)) (λ i q. h (suc i) (omega arith)))

-- an id that is none has 0 either way
by-id : (n : ℕ) (l : List ℕ) (f : ℕ → ℕ) → length l ≡ suc n → f 0 ≡ 0 → get_or l 0 0 ≡ 0 → ((i : ℕ) → n < i → f i ≡ 0) → ((i : ℕ) → IsId n i → f i ≡ get_or l i 0) → (i : ℕ) → f i ≡ get_or l i 0
by-id n l f hl a b out at zero = a ∙ sym b
by-id n l f hl a b out at (suc i) = go (dec_lt i n)
  where
    go : Dec (i < n) → f (suc i) ≡ get_or l (suc i) 0
    go (yes h) = at (suc i) (omega arith, omega arith)
    go (no h) = out (suc i) (omega arith) ∙ sym (get_or-eq_default l 0 {n = suc i} (omega arith))

module _ (s : State) where
  pub next-is : (n : ℕ) → 0 < n → n < suc nodes → holds s (cell.NodeNext n) ≡ get_or (view_of s).nodes.next n 0
  unfolding view_of
  next-is n a b = fetched-view s.cells (rows_in s.rows32 s.rows64) (guards_in s.guards) (cell.NodeNext n) (a, omega arith)

  pub shards_are : tab 8 (λ k. holds s (cell.ShardHead k)) ≡ (view_of s).heads.shards
  unfolding view_of fetched address
  shards_are = tab_ext 8 _ _ (λ k h. rw (lt-ltb k 8 h) refl)

  pub count-is : holds s cell.RecordCount ≡ (view_of s).counters.record_count
  unfolding view_of fetched address
  count-is = refl

  pub state-is : (n : ℕ) → holds s (cell.NodeState n) ≡ get_or (view_of s).nodes.state n 0
  unfolding view_of fetched address
  state-is =
      by-id nodes (view_of s).nodes.state (λ n. holds s (cell.NodeState n)) (long s).state refl refl (λ i h. rw (ne_eqb i 0 (omega arith), lt-ltb nodes i h) refl)
      (λ i h. fetched-view s.cells (rows_in s.rows32 s.rows64) (guards_in s.guards) (cell.NodeState i) h)

  pub hazard-is : (c : ℕ) → holds s (cell.Hazard c) ≡ get_or (view_of s).records.hazard c 0
  unfolding view_of fetched address
  hazard-is =
      by-id records (view_of s).records.hazard (λ c. holds s (cell.Hazard c)) (long s).hazard refl refl (λ i h. rw (ne_eqb i 0 (omega arith), lt-ltb records i h) refl)
      (λ i h. fetched-view s.cells (rows_in s.rows32 s.rows64) (guards_in s.guards) (cell.Hazard i) h)

  pub mark-is : holds s cell.Shutdown ≡ (view_of s).heads.mark
  unfolding view_of fetched address
  mark-is = refl

  pub used-is : used s ≡ sum Hold.used (view_of s).records.holder
  unfolding view_of
  used-is =
      let e = sum-tab (λ (c : ℕ). Hold.used (holds s (cell.Holder c))) Hold.used records suc (λ i. get_or s.cells.records (i * 4 + 3) 0)
      (λ i q. ap Hold.used (fetched-view s.cells (rows_in s.rows32 s.rows64) (guards_in s.guards) (cell.Holder (suc i)) (omega arith, omega arith) ∙ tab-get records (λ i. get_or s.cells.records (i * 4 + 3) 0) i 0 q)) in
      omega arith

  pub waits-is : (n : ℕ) → waits s n ≡ Heap.waits (view_of s).nodes.state n
  waits-is n = ap (λ (x : ℕ). eq01 x 2) (state-is n)

  pub waiting-is : waiting s ≡ Balance.waiting (view_of s).nodes.state
  unfolding view_of
  waiting-is =
      let e = sum-tab (waits s) (λ (x : ℕ). eq01 x 2) nodes suc (λ i. get_or s.cells.state (i * 1 + 0) 0) (λ i q. waits-is (suc i) ∙ ap (λ (x : ℕ). eq01 x 2) (tab-get nodes (λ i. get_or s.cells.state (i * 1 + 0) 0) i 0 q)) in
      let z = eq01-other 0 2 (omega arith) in omega arith

  pub all-idle : AllIdle s → (u : ℕ) → u < length (view_of s).rows → (row_in (view_of s) u).place ≡ 0
  all-idle q u hu = let hu' : u < threads = rw (long s).rows at hu in ap (λ (r : Row). r.place) (row-view s u hu') ∙ q u hu'
