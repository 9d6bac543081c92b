-- The shared cells by name: where each stands in the lent tables, and the range of what it may hold.
use Rattle.std.specs.Prelude.{ℕ, ◌+◌, ◌*◌, ◌-◌, ◌^◌, Bool, false, eqb, ltb, leb}
use Rattle.base.specs.Pick.{pick}
use Rattle.rules.specs.Sizes.{records, sources, nodes, threads}
use Rattle.rules.specs.declared.Class.{Class}
use Rattle.rules.specs.declared.Class.TheVariants.{Anything, ARecord, ANode, AnAvailable, AState, AHolder}
use Rattle.rules.specs.declared.Class.TheVariants.{NoCell}
use Rattle.rules.specs.declared.Cell.{Cell}
use Rattle.rules.specs.declared.Named.{Named}
use Rattle.rules.specs.declared.Named.TheVariants as cell
use Rattle.rules.specs.declared.Access.{Access}
use Rattle.rules.specs.declared.Access.TheVariants as by

-- ---- the range of each class of cells
unfoldable pub in_range : Class → ℕ → Bool
in_range Anything x = leb x (2 ^ 64 - 1)
in_range ARecord x = leb x records
in_range ANode x = leb x nodes
-- `head_available`: 0 or 2 to 2,049
in_range AnAvailable x = pick (eqb x 1) false (leb x (2 * records + 1))
-- a node: 0 free, 1 live, 2 waiting; shutdown: 0 no, 1 under way, 2 over
in_range AState x = leb x 2
-- a record's row: 0 unused, 1 used and owned by no thread, t + 2 owned by thread t
in_range AHolder x = leb x (threads + 1)
-- an id that is none
in_range NoCell x = false

-- ---- where each cell stands
abbrev pub cell_at : ℕ → ℕ → Class → Cell
cell_at table at class = record { table = table; at = at; class = class }

-- read as 0, and not written
abbrev pub nothing : Cell
nothing = cell_at 0 0 Anything

abbrev pub nowhere : Cell
nowhere = cell_at 0 0 NoCell

-- word k of row id in a table of rows of w words, the ids being 1 to n
abbrev pub word_of : ℕ → ℕ → ℕ → ℕ → ℕ → Class → Cell
word_of table n w id k class = pick (eqb id 0) nowhere (pick (ltb n id) nowhere (cell_at table ((id - 1) * w + k) class))

abbrev pub heads : ℕ
heads = 1

abbrev pub counters : ℕ
counters = 2

abbrev pub in_records : ℕ
in_records = 3

abbrev pub in_sources : ℕ
in_sources = 4

abbrev pub in_next : ℕ
in_next = 5

abbrev pub in_state : ℕ
in_state = 6

unfoldable pub address : Named → Cell
address cell.Nothing = nothing
address cell.RecordHead = cell_at heads 0 ARecord
address cell.HeadAvailable = cell_at heads 1 AnAvailable
address cell.Shutdown = cell_at heads 2 AState
address (cell.ShardHead k) = pick (ltb k 8) (cell_at heads (k + 3) ANode) nowhere
address cell.RecordCount = cell_at counters 0 Anything
address cell.Count = cell_at counters 1 Anything
address cell.DueTime = cell_at counters 2 Anything
address cell.BulkReclaims = cell_at counters 3 Anything
address (cell.Hazard r) = word_of in_records records 4 r 0 ANode
address (cell.AvailableNext r) = word_of in_records records 4 r 1 ARecord
address (cell.RecordNext r) = word_of in_records records 4 r 2 ARecord
address (cell.Holder r) = word_of in_records records 4 r 3 AHolder
address (cell.Source b) = word_of in_sources sources 1 b 0 ANode
address (cell.NodeNext n) = word_of in_next nodes 1 n 0 ANode
address (cell.NodeState n) = word_of in_state nodes 1 n 0 AState

-- a store does not read its cell, so that any content will do; 0 is in the range of every cell but of none
abbrev pub unread : Cell → Cell
unread c = pick (in_range c.class 0) (cell_at c.table c.at Anything) c

abbrev pub accessed : Access → Cell
accessed (by.Load c) = address c
accessed (by.Store c) = unread (address c)
accessed (by.HazardStore c) = unread (address c)
accessed (by.Update c) = address c
accessed (by.Private c) = address c
