-- The lent tables by name: a number for each shared cell, a list by id for each field of a row, the threads' rows and their guarded sets.
-- Demand 3 speaks of these and never of an offset.
use Rattle.std.specs.Prelude.{ℕ, ◌+◌, ◌<◌, Bool, List, [], get_or, set}
use Rattle.base.specs.Pick.{pick}
use Rattle.rules.specs.Sizes.{records, sources, nodes, threads}
use Rattle.rules.specs.Words.{plus}
use Rattle.rules.specs.Rows.{row_at}
use Rattle.rules.specs.Step.{Shared, State, guards_of, guards_after}
use Rattle.rules.specs.declared.Row.{Row}
use Rattle.rules.specs.declared.Effect.{Effect}
use Rattle.rules.specs.declared.Guards.{Guards}
use Rattle.rules.specs.declared.Entry.{Entry}
use Rattle.rules.specs.declared.Named.{Named}
use Rattle.rules.specs.declared.Named.TheVariants as cell
use Rattle.rules.specs.declared.Access.{Access}
use Rattle.rules.specs.declared.Access.TheVariants as by
use Rattle.lists.specs.Tab.{tab}
use Rattle.view.specs.Field.{field, IsId, cleared}

-- the shard heads that the tables hold; the settings may use fewer
abbrev pub shard_heads : ℕ
shard_heads = 8

pub record Heads : Type 0 where
  pub record_head : ℕ
  pub head_available : ℕ
  pub mark : ℕ
  pub shards : List ℕ

pub record Counters : Type 0 where
  pub record_count : ℕ
  pub count : ℕ
  pub due_time : ℕ
  pub bulk_reclaims : ℕ
  pub ticks : ℕ

pub record Records : Type 0 where
  pub hazard : List ℕ
  pub available_next : List ℕ
  pub next : List ℕ
  pub holder : List ℕ

pub record Nodes : Type 0 where
  pub next : List ℕ
  pub state : List ℕ

pub record View : Type 0 where
  pub heads : Heads
  pub counters : Counters
  pub records : Records
  pub sources : List ℕ
  pub nodes : Nodes
  pub rows : List Row
  pub guards : List (List ℕ)

abbrev pub heads_in : List ℕ → Heads
heads_in l = record { record_head = get_or l 0 0; head_available = get_or l 1 0; mark = get_or l 2 0; shards = tab shard_heads (λ k. get_or l (k + 3) 0) }

abbrev pub counters_in : List ℕ → Counters
counters_in l = record { record_count = get_or l 0 0; count = get_or l 1 0; due_time = get_or l 2 0; bulk_reclaims = get_or l 3 0; ticks = get_or l 4 0 }

abbrev pub records_in : List ℕ → Records
records_in l = record { hazard = field 4 0 records l; available_next = field 4 1 records l; next = field 4 2 records l; holder = field 4 3 records l }

abbrev pub sources_in : List ℕ → List ℕ
sources_in l = field 1 0 sources l

abbrev pub nodes_in : List ℕ → List ℕ → Nodes
nodes_in n m = record { next = field 1 0 nodes n; state = field 1 0 nodes m }

abbrev pub view : Shared → List Row → List (List ℕ) → View
view s r g = record { heads = heads_in s.heads; counters = counters_in s.counters; records = records_in s.records; sources = sources_in s.sources; nodes = nodes_in s.next s.state; rows = r; guards = g }

abbrev pub rows_in : List ℕ → List ℕ → List Row
rows_in l m = tab threads (λ t. row_at l m t)

abbrev pub guards_in : List ℕ → List (List ℕ)
guards_in l = tab threads (λ t. guards_of l t)

unfoldable pub view_of : State → View
view_of s = view s.cells (rows_in s.rows32 s.rows64) (guards_in s.guards)

-- ---- the cells of a view
-- whether a name is that of a cell
abbrev pub InTable : Named → Type 0
InTable cell.Nothing = Unit {0}
InTable cell.RecordHead = Unit {0}
InTable cell.HeadAvailable = Unit {0}
InTable cell.Shutdown = Unit {0}
InTable (cell.ShardHead k) = k < shard_heads
InTable cell.RecordCount = Unit {0}
InTable cell.Count = Unit {0}
InTable cell.DueTime = Unit {0}
InTable cell.BulkReclaims = Unit {0}
InTable (cell.Hazard r) = IsId records r
InTable (cell.AvailableNext r) = IsId records r
InTable (cell.RecordNext r) = IsId records r
InTable (cell.Holder r) = IsId records r
InTable (cell.Source b) = IsId sources b
InTable (cell.NodeNext n) = IsId nodes n
InTable (cell.NodeState n) = IsId nodes n

abbrev pub get : Named → View → ℕ
get cell.Nothing v = 0
get cell.RecordHead v = v.heads.record_head
get cell.HeadAvailable v = v.heads.head_available
get cell.Shutdown v = v.heads.mark
get (cell.ShardHead k) v = get_or v.heads.shards k 0
get cell.RecordCount v = v.counters.record_count
get cell.Count v = v.counters.count
get cell.DueTime v = v.counters.due_time
get cell.BulkReclaims v = v.counters.bulk_reclaims
get (cell.Hazard r) v = get_or v.records.hazard r 0
get (cell.AvailableNext r) v = get_or v.records.available_next r 0
get (cell.RecordNext r) v = get_or v.records.next r 0
get (cell.Holder r) v = get_or v.records.holder r 0
get (cell.Source b) v = get_or v.sources b 0
get (cell.NodeNext n) v = get_or v.nodes.next n 0
get (cell.NodeState n) v = get_or v.nodes.state n 0

abbrev pub with_heads : Heads → View → View
with_heads h v = record { heads = h; counters = v.counters; records = v.records; sources = v.sources; nodes = v.nodes; rows = v.rows; guards = v.guards }

abbrev pub with_counters : Counters → View → View
with_counters c v = record { heads = v.heads; counters = c; records = v.records; sources = v.sources; nodes = v.nodes; rows = v.rows; guards = v.guards }

abbrev pub with_records : Records → View → View
with_records r v = record { heads = v.heads; counters = v.counters; records = r; sources = v.sources; nodes = v.nodes; rows = v.rows; guards = v.guards }

abbrev pub with_sources : List ℕ → View → View
with_sources s v = record { heads = v.heads; counters = v.counters; records = v.records; sources = s; nodes = v.nodes; rows = v.rows; guards = v.guards }

abbrev pub with_nodes : Nodes → View → View
with_nodes n v = record { heads = v.heads; counters = v.counters; records = v.records; sources = v.sources; nodes = n; rows = v.rows; guards = v.guards }

abbrev pub with_rows : List Row → View → View
with_rows r v = record { heads = v.heads; counters = v.counters; records = v.records; sources = v.sources; nodes = v.nodes; rows = r; guards = v.guards }

abbrev pub with_guards : List (List ℕ) → View → View
with_guards g v = record { heads = v.heads; counters = v.counters; records = v.records; sources = v.sources; nodes = v.nodes; rows = v.rows; guards = g }

-- the cell becomes x
abbrev pub put : Named → ℕ → View → View
put cell.Nothing x v = v
put cell.RecordHead x v = with_heads (record { record_head = x; head_available = v.heads.head_available; mark = v.heads.mark; shards = v.heads.shards }) v
put cell.HeadAvailable x v = with_heads (record { record_head = v.heads.record_head; head_available = x; mark = v.heads.mark; shards = v.heads.shards }) v
put cell.Shutdown x v = with_heads (record { record_head = v.heads.record_head; head_available = v.heads.head_available; mark = x; shards = v.heads.shards }) v
put (cell.ShardHead k) x v = with_heads (record { record_head = v.heads.record_head; head_available = v.heads.head_available; mark = v.heads.mark; shards = set v.heads.shards k x }) v
put cell.RecordCount x v = with_counters (record { record_count = x; count = v.counters.count; due_time = v.counters.due_time; bulk_reclaims = v.counters.bulk_reclaims; ticks = v.counters.ticks }) v
put cell.Count x v = with_counters (record { record_count = v.counters.record_count; count = x; due_time = v.counters.due_time; bulk_reclaims = v.counters.bulk_reclaims; ticks = v.counters.ticks }) v
put cell.DueTime x v = with_counters (record { record_count = v.counters.record_count; count = v.counters.count; due_time = x; bulk_reclaims = v.counters.bulk_reclaims; ticks = v.counters.ticks }) v
put cell.BulkReclaims x v = with_counters (record { record_count = v.counters.record_count; count = v.counters.count; due_time = v.counters.due_time; bulk_reclaims = x; ticks = v.counters.ticks }) v
put (cell.Hazard r) x v = with_records (record { hazard = set v.records.hazard r x; available_next = v.records.available_next; next = v.records.next; holder = v.records.holder }) v
put (cell.AvailableNext r) x v = with_records (record { hazard = v.records.hazard; available_next = set v.records.available_next r x; next = v.records.next; holder = v.records.holder }) v
put (cell.RecordNext r) x v = with_records (record { hazard = v.records.hazard; available_next = v.records.available_next; next = set v.records.next r x; holder = v.records.holder }) v
put (cell.Holder r) x v = with_records (record { hazard = v.records.hazard; available_next = v.records.available_next; next = v.records.next; holder = set v.records.holder r x }) v
put (cell.Source b) x v = with_sources (set v.sources b x) v
put (cell.NodeNext n) x v = with_nodes (record { next = set v.nodes.next n x; state = v.nodes.state }) v
put (cell.NodeState n) x v = with_nodes (record { next = v.nodes.next; state = set v.nodes.state n x }) v

-- ---- an effect on a view
abbrev pub named : Access → Named
named (by.Load c) = c
named (by.Store c) = c
named (by.HazardStore c) = c
named (by.Update c) = c
named (by.Private c) = c

abbrev pub put_if : Bool → Named → ℕ → View → View
put_if b c x v = pick b (put c x v) v

-- shutdown is over
abbrev pub shut : View → View
shut v =
    with_heads (record { record_head = 0; head_available = 0; mark = v.heads.mark; shards = v.heads.shards })
    (with_records (record { hazard = cleared v.records.hazard; available_next = cleared v.records.available_next; next = cleared v.records.next; holder = cleared v.records.holder }) v)

abbrev pub shut_if : Bool → View → View
shut_if b v = pick b (shut v) v

-- the step is counted
abbrev pub tick : View → View
tick v = with_counters (record { record_count = v.counters.record_count; count = v.counters.count; due_time = v.counters.due_time; bulk_reclaims = v.counters.bulk_reclaims; ticks = plus v.counters.ticks 1 }) v

-- thread t's row becomes r, and its guarded set what m makes of it
abbrev pub seat : ℕ → Row → Guards → View → View
seat t r m v = with_rows (set v.rows t r) (with_guards (set v.guards t (guards_after (get_or v.guards t []) m)) v)

-- the effect e of thread t, whose step accessed c
abbrev pub applies : ℕ → Named → Effect → View → View
applies t c e v = tick (shut_if e.closes (put e.also e.to (put_if e.writes c e.put (seat t e.row e.guards v))))

-- a start of thread t
abbrev pub enters : ℕ → Entry → View → View
enters t e v = put e.cell e.put (with_rows (set v.rows t e.row) v)
