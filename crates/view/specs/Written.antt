-- A write to the tables is a write to the view.
use Rattle.std.specs.Prelude.{ℕ, ◌+◌, ◌*◌, ◌-◌, ◌%◌, ◌^◌, ◌<◌, ◌≡◌, ◌≢◌, Bool, true, false, List, [], length, set}
use Rattle.std.proofs.Math.Path.{refl, sym}
use Rattle.std.proofs.Common.{ap, ◌∙◌, get_or-set_same, get_or-set_other, ne_eqb, lt-ltb, le-ltb, arith}
use Rattle.std.proofs.Math.ListN.{get_or}
use Rattle.std.proofs.Math.Seq.{set_out}
use Rattle.base.specs.Pick.{pick, pick_yes, pick_no}
use Rattle.rules.specs.Sizes.{records, sources, nodes}
use Rattle.rules.specs.Cells
use Rattle.rules.specs.Cells.{address, cell_at, nothing, word_of, in_records, in_sources, in_next, in_state}
use Rattle.rules.specs.declared.Class.{Class}
use Rattle.rules.specs.declared.Class.TheVariants.{Anything, ARecord, ANode, AnAvailable, AState, AHolder}
use Rattle.rules.specs.Step.{Shared, shared, fetched, written}
use Rattle.rules.specs.declared.Cell.{Cell}
use Rattle.rules.specs.declared.Row.{Row}
use Rattle.rules.specs.declared.Named.{Named}
use Rattle.rules.specs.declared.Named.TheVariants as cell
use Rattle.lists.specs.Tab.{tab, tab-get, tab_ext, tab-set}
use Rattle.view.specs.Field.{field, IsId, field-get, field-same, field-other}
use Rattle.view.specs.View.{View, shard_heads, view, InTable, get, put, with_heads, with_counters, with_records, with_sources, with_nodes}

-- ---- tables of the sizes of document 01
pub record SizedCells (s : Shared) : Type 0 where
  pub heads : length s.heads ≡ 11
  pub counters : length s.counters ≡ 5
  pub records : length s.records ≡ records * 4
  pub sources : length s.sources ≡ sources * 1
  pub next : length s.next ≡ nodes * 1
  pub state : length s.state ≡ nodes * 1

-- ---- a name that is a cell's has a plain address
abbrev pub plain : Named → Cell
plain cell.Nothing = nothing
plain cell.RecordHead = cell_at Cells.heads 0 ARecord
plain cell.HeadAvailable = cell_at Cells.heads 1 AnAvailable
plain cell.Shutdown = cell_at Cells.heads 2 AState
plain (cell.ShardHead k) = cell_at Cells.heads (k + 3) ANode
plain cell.RecordCount = cell_at Cells.counters 0 Anything
plain cell.Count = cell_at Cells.counters 1 Anything
plain cell.DueTime = cell_at Cells.counters 2 Anything
plain cell.BulkReclaims = cell_at Cells.counters 3 Anything
plain (cell.Hazard r) = cell_at in_records ((r - 1) * 4 + 0) ANode
plain (cell.AvailableNext r) = cell_at in_records ((r - 1) * 4 + 1) ARecord
plain (cell.RecordNext r) = cell_at in_records ((r - 1) * 4 + 2) ARecord
plain (cell.Holder r) = cell_at in_records ((r - 1) * 4 + 3) AHolder
plain (cell.Source b) = cell_at in_sources ((b - 1) * 1 + 0) ANode
plain (cell.NodeNext n) = cell_at in_next ((n - 1) * 1 + 0) ANode
plain (cell.NodeState n) = cell_at in_state ((n - 1) * 1 + 0) AState

word_in : (table n w id k : ℕ) (class : Class) → IsId n id → word_of table n w id k class ≡ cell_at table ((id - 1) * w + k) class
word_in table n w id k class h = pick_no _ _ _ (ne_eqb id 0 (omega arith)) ∙ pick_no _ _ _ (le-ltb n id h.1)

pub address_in : (c : Named) → InTable c → address c ≡ plain c
unfolding address
address_in cell.Nothing h = refl
address_in cell.RecordHead h = refl
address_in cell.HeadAvailable h = refl
address_in cell.Shutdown h = refl
address_in (cell.ShardHead k) h = pick_yes _ _ _ (lt-ltb k 8 h)
address_in cell.RecordCount h = refl
address_in cell.Count h = refl
address_in cell.DueTime h = refl
address_in cell.BulkReclaims h = refl
address_in (cell.Hazard r) h = word_in in_records records 4 r 0 ANode h
address_in (cell.AvailableNext r) h = word_in in_records records 4 r 1 ARecord h
address_in (cell.RecordNext r) h = word_in in_records records 4 r 2 ARecord h
address_in (cell.Holder r) h = word_in in_records records 4 r 3 AHolder h
address_in (cell.Source b) h = word_in in_sources sources 1 b 0 ANode h
address_in (cell.NodeNext n) h = word_in in_next nodes 1 n 0 ANode h
address_in (cell.NodeState n) h = word_in in_state nodes 1 n 0 AState h

-- ---- reading
module _ (s : Shared) (r : List Row) (q : List (List ℕ)) where
  fetched-plain : (c : Named) → InTable c → fetched s (plain c) ≡ get c (view s r q)
  unfolding fetched
  fetched-plain cell.Nothing h = refl
  fetched-plain cell.RecordHead h = refl
  fetched-plain cell.HeadAvailable h = refl
  fetched-plain cell.Shutdown h = refl
  fetched-plain (cell.ShardHead k) h = sym (tab-get shard_heads (λ i. get_or s.heads (i + 3) 0) k 0 h)
  fetched-plain cell.RecordCount h = refl
  fetched-plain cell.Count h = refl
  fetched-plain cell.DueTime h = refl
  fetched-plain cell.BulkReclaims h = refl
  fetched-plain (cell.Hazard r) h = sym (field-get 4 records s.records 0 r h)
  fetched-plain (cell.AvailableNext r) h = sym (field-get 4 records s.records 1 r h)
  fetched-plain (cell.RecordNext r) h = sym (field-get 4 records s.records 2 r h)
  fetched-plain (cell.Holder r) h = sym (field-get 4 records s.records 3 r h)
  fetched-plain (cell.Source b) h = sym (field-get 1 sources s.sources 0 b h)
  fetched-plain (cell.NodeNext n) h = sym (field-get 1 nodes s.next 0 n h)
  fetched-plain (cell.NodeState n) h = sym (field-get 1 nodes s.state 0 n h)

  pub fetched-view : (c : Named) → InTable c → fetched s (address c) ≡ get c (view s r q)
  fetched-view c h = ap (fetched s) (address_in c h) ∙ fetched-plain c h

-- ---- writing
abbrev far : ℕ
far = 4294967295

-- whether a cell is one of 32 bits
abbrev pub narrow : Named → Bool
narrow cell.Nothing = false
narrow cell.RecordHead = true
narrow cell.HeadAvailable = true
narrow cell.Shutdown = true
narrow (cell.ShardHead k) = true
narrow cell.RecordCount = false
narrow cell.Count = false
narrow cell.DueTime = false
narrow cell.BulkReclaims = false
narrow (cell.Hazard r) = true
narrow (cell.AvailableNext r) = true
narrow (cell.RecordNext r) = true
narrow (cell.Holder r) = true
narrow (cell.Source b) = true
narrow (cell.NodeNext n) = true
narrow (cell.NodeState n) = true

-- what is put into the cell fits it
abbrev pub FitsIn : Bool → ℕ → Type 0
FitsIn true x = x < 2 ^ 32
FitsIn false x = Unit {0}

abbrev pub Fits : Named → ℕ → Type 0
Fits c x = FitsIn (narrow c) x

module _ (s : Shared) (z : SizedCells s) (rs : List Row) (q : List (List ℕ)) (x : ℕ) where
  abbrev seen : List ℕ → List ℕ → List ℕ → List ℕ → List ℕ → List ℕ → View
  seen h c r b n m = view (shared h c r b n m) rs q

  abbrev y : ℕ
  y = x % 2 ^ 32

  h0 : set s.heads far y ≡ s.heads
  h0 = set_out s.heads far y (omega (arith, z.heads))

  c0 : set s.counters far x ≡ s.counters
  c0 = set_out s.counters far x (omega (arith, z.counters))

  r0 : set s.records far y ≡ s.records
  r0 = set_out s.records far y (omega (arith, z.records))

  b0 : set s.sources far y ≡ s.sources
  b0 = set_out s.sources far y (omega (arith, z.sources))

  n0 : set s.next far y ≡ s.next
  n0 = set_out s.next far y (omega (arith, z.next))

  m0 : set s.state far y ≡ s.state
  m0 = set_out s.state far y (omega (arith, z.state))

  -- only one table changes
  at_heads : (k : ℕ) → seen (set s.heads k y) (set s.counters far x) (set s.records far y) (set s.sources far y) (set s.next far y) (set s.state far y) ≡ seen (set s.heads k y) s.counters s.records s.sources s.next s.state
  at_heads k = λ i. seen (set s.heads k y) (c0 i) (r0 i) (b0 i) (n0 i) (m0 i)

  at_counters : (k : ℕ) → seen (set s.heads far y) (set s.counters k x) (set s.records far y) (set s.sources far y) (set s.next far y) (set s.state far y) ≡ seen s.heads (set s.counters k x) s.records s.sources s.next s.state
  at_counters k = λ i. seen (h0 i) (set s.counters k x) (r0 i) (b0 i) (n0 i) (m0 i)

  at_records : (k : ℕ) → seen (set s.heads far y) (set s.counters far x) (set s.records k y) (set s.sources far y) (set s.next far y) (set s.state far y) ≡ seen s.heads s.counters (set s.records k y) s.sources s.next s.state
  at_records k = λ i. seen (h0 i) (c0 i) (set s.records k y) (b0 i) (n0 i) (m0 i)

  at_sources : (k : ℕ) → seen (set s.heads far y) (set s.counters far x) (set s.records far y) (set s.sources k y) (set s.next far y) (set s.state far y) ≡ seen s.heads s.counters s.records (set s.sources k y) s.next s.state
  at_sources k = λ i. seen (h0 i) (c0 i) (r0 i) (set s.sources k y) (n0 i) (m0 i)

  at_next : (k : ℕ) → seen (set s.heads far y) (set s.counters far x) (set s.records far y) (set s.sources far y) (set s.next k y) (set s.state far y) ≡ seen s.heads s.counters s.records s.sources (set s.next k y) s.state
  at_next k = λ i. seen (h0 i) (c0 i) (r0 i) (b0 i) (set s.next k y) (m0 i)

  at_state : (k : ℕ) → seen (set s.heads far y) (set s.counters far x) (set s.records far y) (set s.sources far y) (set s.next far y) (set s.state k y) ≡ seen s.heads s.counters s.records s.sources s.next (set s.state k y)
  at_state k = λ i. seen (h0 i) (c0 i) (r0 i) (b0 i) (n0 i) (set s.state k y)

  shard-low : (k : ℕ) → k < 3 → tab shard_heads (λ j. get_or (set s.heads k y) (j + 3) 0) ≡ tab shard_heads (λ j. get_or s.heads (j + 3) 0)
  shard-low k h = tab_ext shard_heads (λ j. get_or (set s.heads k y) (j + 3) 0) (λ j. get_or s.heads (j + 3) 0) (λ j _. get_or-set_other s.heads k (j + 3) y 0 (omega arith))

  shard-same : (k : ℕ) → k < shard_heads → tab shard_heads (λ j. get_or (set s.heads (k + 3) y) (j + 3) 0) ≡ set (tab shard_heads (λ j. get_or s.heads (j + 3) 0)) k y
  shard-same k h = tab-set shard_heads (λ j. get_or s.heads (j + 3) 0) (λ j. get_or (set s.heads (k + 3) y) (j + 3) 0) k y h (get_or-set_same s.heads (k + 3) y 0 (omega (arith, z.heads))) (λ j _ ne. get_or-set_other s.heads (k + 3) (j + 3) y 0 (λ e. ne (omega arith)))

  head-same : (k : ℕ) → k < 11 → get_or (set s.heads k y) k 0 ≡ y
  head-same k h = get_or-set_same s.heads k y 0 (omega (arith, z.heads))

  head-other : (k j : ℕ) → j ≢ k → get_or (set s.heads k y) j 0 ≡ get_or s.heads j 0
  head-other k j ne = get_or-set_other s.heads k j y 0 ne

  count_same : (k : ℕ) → k < 5 → get_or (set s.counters k x) k 0 ≡ x
  count_same k h = get_or-set_same s.counters k x 0 (omega (arith, z.counters))

  count-other : (k j : ℕ) → j ≢ k → get_or (set s.counters k x) j 0 ≡ get_or s.counters j 0
  count-other k j ne = get_or-set_other s.counters k j x 0 ne

  rec-same : (j id : ℕ) → j < 4 → IsId records id → field 4 j records (set s.records ((id - 1) * 4 + j) y) ≡ set (field 4 j records s.records) id y
  rec-same j id hj h = field-same 4 records s.records j id y hj z.records h

  rec-other : (j k id : ℕ) → j < 4 → k < 4 → j ≢ k → field 4 j records (set s.records ((id - 1) * 4 + k) y) ≡ field 4 j records s.records
  rec-other j k id hj hk ne = field-other 4 records s.records j k (id - 1) y hj hk ne

  -- what the cell becomes
  abbrev cut : Named → ℕ
  cut c = pick (narrow c) y x

  cut_fits : (c : Named) → Fits c x → cut c ≡ x
  cut_fits c = go (narrow c)
    where
      go : (b : Bool) → FitsIn b x → pick b y x ≡ x
      go true h = omega arith
      go false h = refl

  written-plain : (c : Named) → InTable c → view (written s (plain c) x) rs q ≡ put c (cut c) (view s rs q)
  unfolding written
  written-plain cell.Nothing h = λ i. seen (h0 i) (c0 i) (r0 i) (b0 i) (n0 i) (m0 i)
  written-plain cell.RecordHead h = at_heads 0 ∙ λ i. with_heads (record { record_head = head-same 0 (omega arith) i; head_available = head-other (0) 1 (omega arith) i; mark = head-other (0) 2 (omega arith) i; shards = shard-low 0 (omega arith) i }) (view s rs q)
  written-plain cell.HeadAvailable h = at_heads 1 ∙ λ i. with_heads (record { record_head = head-other (1) 0 (omega arith) i; head_available = head-same 1 (omega arith) i; mark = head-other (1) 2 (omega arith) i; shards = shard-low 1 (omega arith) i }) (view s rs q)
  written-plain cell.Shutdown h = at_heads 2 ∙ λ i. with_heads (record { record_head = head-other (2) 0 (omega arith) i; head_available = head-other (2) 1 (omega arith) i; mark = head-same 2 (omega arith) i; shards = shard-low 2 (omega arith) i }) (view s rs q)
  written-plain (cell.ShardHead k) h = at_heads (k + 3) ∙ λ i. with_heads (record { record_head = head-other (k + 3) 0 (omega arith) i; head_available = head-other (k + 3) 1 (omega arith) i; mark = head-other (k + 3) 2 (omega arith) i; shards = shard-same k h i }) (view s rs q)
  written-plain cell.RecordCount h = at_counters 0 ∙ λ i. with_counters (record { record_count = count_same 0 (omega arith) i; count = count-other 0 1 (omega arith) i; due_time = count-other 0 2 (omega arith) i; bulk_reclaims = count-other 0 3 (omega arith) i; ticks = count-other 0 4 (omega arith) i }) (view s rs q)
  written-plain cell.Count h = at_counters 1 ∙ λ i. with_counters (record { record_count = count-other 1 0 (omega arith) i; count = count_same 1 (omega arith) i; due_time = count-other 1 2 (omega arith) i; bulk_reclaims = count-other 1 3 (omega arith) i; ticks = count-other 1 4 (omega arith) i }) (view s rs q)
  written-plain cell.DueTime h = at_counters 2 ∙ λ i. with_counters (record { record_count = count-other 2 0 (omega arith) i; count = count-other 2 1 (omega arith) i; due_time = count_same 2 (omega arith) i; bulk_reclaims = count-other 2 3 (omega arith) i; ticks = count-other 2 4 (omega arith) i }) (view s rs q)
  written-plain cell.BulkReclaims h = at_counters 3 ∙ λ i. with_counters (record { record_count = count-other 3 0 (omega arith) i; count = count-other 3 1 (omega arith) i; due_time = count-other 3 2 (omega arith) i; bulk_reclaims = count_same 3 (omega arith) i; ticks = count-other 3 4 (omega arith) i }) (view s rs q)
  written-plain (cell.Hazard r) h = at_records ((r - 1) * 4 + 0) ∙ λ i. with_records (record { hazard = rec-same 0 r (omega arith) h i; available_next = rec-other 1 0 r (omega arith) (omega arith) (omega arith) i; next = rec-other 2 0 r (omega arith) (omega arith) (omega arith) i; holder = rec-other 3 0 r (omega arith) (omega arith) (omega arith) i }) (view s rs q)
  written-plain (cell.AvailableNext r) h = at_records ((r - 1) * 4 + 1) ∙ λ i. with_records (record { hazard = rec-other 0 1 r (omega arith) (omega arith) (omega arith) i; available_next = rec-same 1 r (omega arith) h i; next = rec-other 2 1 r (omega arith) (omega arith) (omega arith) i; holder = rec-other 3 1 r (omega arith) (omega arith) (omega arith) i }) (view s rs q)
  written-plain (cell.RecordNext r) h = at_records ((r - 1) * 4 + 2) ∙ λ i. with_records (record { hazard = rec-other 0 2 r (omega arith) (omega arith) (omega arith) i; available_next = rec-other 1 2 r (omega arith) (omega arith) (omega arith) i; next = rec-same 2 r (omega arith) h i; holder = rec-other 3 2 r (omega arith) (omega arith) (omega arith) i }) (view s rs q)
  written-plain (cell.Holder r) h = at_records ((r - 1) * 4 + 3) ∙ λ i. with_records (record { hazard = rec-other 0 3 r (omega arith) (omega arith) (omega arith) i; available_next = rec-other 1 3 r (omega arith) (omega arith) (omega arith) i; next = rec-other 2 3 r (omega arith) (omega arith) (omega arith) i; holder = rec-same 3 r (omega arith) h i }) (view s rs q)
  written-plain (cell.Source b) h = at_sources ((b - 1) * 1 + 0) ∙ λ i. with_sources (field-same 1 sources s.sources 0 b y (omega arith) z.sources h i) (view s rs q)
  written-plain (cell.NodeNext n) h = at_next ((n - 1) * 1 + 0) ∙ λ i. with_nodes (record { next = field-same 1 nodes s.next 0 n y (omega arith) z.next h i; state = field 1 0 nodes s.state }) (view s rs q)
  written-plain (cell.NodeState n) h = at_state ((n - 1) * 1 + 0) ∙ λ i. with_nodes (record { next = field 1 0 nodes s.next; state = field-same 1 nodes s.state 0 n y (omega arith) z.state h i }) (view s rs q)

  pub written-view : (c : Named) → InTable c → Fits c x → view (written s (address c) x) rs q ≡ put c x (view s rs q)
  written-view c h f = ap (λ (k : Cell). view (written s k x) rs q) (address_in c h) ∙ written-plain c h ∙ ap (λ (k : ℕ). put c k (view s rs q)) (cut_fits c f)

-- what is no cell is written nowhere
pub written_none : (s : Shared) → SizedCells s → (x : ℕ) → written s nothing x ≡ s
unfolding written
written_none s z x = λ i. shared (h0 s z [] [] x i) (c0 s z [] [] x i) (r0 s z [] [] x i) (b0 s z [] [] x i) (n0 s z [] [] x i) (m0 s z [] [] x i)
