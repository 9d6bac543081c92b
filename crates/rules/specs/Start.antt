-- The starts: what each operation's start refuses, in document 01's order, and what it writes. A start takes no step.
use Rattle.std.specs.Prelude.{ℕ, zero, suc, ◌+◌, ◌*◌, ◌%◌, ◌^◌, Bool, true, false, List, get_or, eqb, ltb}
use Rattle.base.specs.Pick.{pick, both}
use Rattle.rules.specs.Sizes.{records, sources, nodes, threads, row32, Settings}
use Rattle.rules.specs.Words.{shard_of}
use Rattle.rules.specs.Pc.{code}
use Rattle.rules.specs.declared.pc.Pc.{Pc}
use Rattle.rules.specs.Cells
use Rattle.rules.specs.Cells.{address}
use Rattle.rules.specs.Rows.{stored32, stored64, idle, with}
use Rattle.rules.specs.Field
use Rattle.rules.specs.Step.{State, state, Out, out, answer, refused, sizes, at_in, written}
use Rattle.rules.specs.declared.Operation.{Operation}
use Rattle.rules.specs.declared.Operation.TheVariants.{Acquire, Release, Protect, Try, TryProtect, Reset, Raw}
use Rattle.rules.specs.declared.Operation.TheVariants.{Swap, Retire, Eager, Cleanup, Shutdown}
use Rattle.rules.specs.declared.Named.{Named}
use Rattle.rules.specs.declared.Named.TheVariants as cell
use Rattle.rules.specs.declared.Row.{Row}
use Rattle.rules.specs.declared.Entry.{Entry}

-- ---- searches
-- whether one of n words, from l's i on, is x
unfoldable pub any_is : List ℕ → ℕ → ℕ → ℕ → Bool
any_is l x i zero = false
any_is l x i (suc n) = pick (eqb (get_or l i 0) x) true (any_is l x (i + 1) n)

-- whether word k of one of n rows of w words, from row i on, is above m
unfoldable pub any_above : List ℕ → ℕ → ℕ → ℕ → ℕ → ℕ → Bool
any_above l m w k i zero = false
any_above l m w k i (suc n) = pick (ltb m (get_or l (i * w + k) 0)) true (any_above l m w k (i + 1) n)

-- a node is narrowed to 32 bits after it was compared
abbrev pub narrow : ℕ → ℕ
narrow n = n % 2 ^ 32

-- ---- refusals, 0 for none
abbrev pub or_else : ℕ → ℕ → ℕ
or_else n m = pick (eqb n 0) m n

-- 22: the record is not the thread's
unfoldable pub not_owned : List ℕ → ℕ → ℕ → ℕ
not_owned records t a = pick (eqb (get_or records (at_in (address (cell.Holder a)) Cells.in_records) 0) (t + 2)) 0 22

-- 23: no such source
abbrev pub not_source : ℕ → ℕ
not_source b = pick (eqb b 0) 23 (pick (ltb sources b) 23 0)

-- 24: no such node
abbrev pub not_node : ℕ → ℕ
not_node n = pick (ltb nodes n) 24 0

-- 24 for null too; 25: not live, or in a source; 29: a source is damaged
abbrev pub retire_by : ℕ → ℕ → Bool → Bool → ℕ
retire_by n state linked damaged =
    pick (eqb n 0) 24 (pick (ltb nodes n) 24 (pick (eqb state 1) (pick linked 25 (pick damaged 29 0)) 25))

unfoldable pub not_retirable : List ℕ → List ℕ → ℕ → ℕ
not_retirable sources' state n =
    retire_by n (get_or state (at_in (address (cell.NodeState (narrow n))) Cells.in_state) 0)
    (any_is sources' (narrow n) 0 sources) (any_above sources' nodes 1 0 0 sources)

-- 27: a thread is inside an operation, or a record is owned
abbrev pub busy_by : Bool → Bool → ℕ
busy_by inside owned = pick inside 27 (pick owned 27 0)

unfoldable pub busy : List ℕ → List ℕ → ℕ
busy rows32 records' = busy_by (any_above rows32 0 row32 0 0 threads) (any_above records' 1 4 3 0 records)

-- the first of the operation's own, in the table's order
unfoldable pub refusal : List ℕ → List ℕ → List ℕ → List ℕ → ℕ → Operation → ℕ
refusal records' sources' state rows32 t Acquire = 0
refusal records' sources' state rows32 t (Release a) = not_owned records' t a
refusal records' sources' state rows32 t (Protect a b) = or_else (not_owned records' t a) (not_source b)
refusal records' sources' state rows32 t (Try a b n) = or_else (not_owned records' t a) (or_else (not_source b) (not_node n))
refusal records' sources' state rows32 t (TryProtect a b n) =
    or_else (not_owned records' t a) (or_else (not_source b) (not_node n))
refusal records' sources' state rows32 t (Reset a) = not_owned records' t a
refusal records' sources' state rows32 t (Raw a n) = or_else (not_owned records' t a) (not_node n)
refusal records' sources' state rows32 t (Swap b n) = or_else (not_source b) (not_node n)
refusal records' sources' state rows32 t (Retire n x) = not_retirable sources' state n
refusal records' sources' state rows32 t Eager = 0
refusal records' sources' state rows32 t Cleanup = 0
refusal records' sources' state rows32 t Shutdown = busy rows32 records'

-- 18, 20, the operation's own n, and 29 for a damaged shutdown mark
abbrev pub refuse_by : ℕ → ℕ → ℕ → ℕ
refuse_by mark place n =
    pick (eqb mark 1) 18 (pick (eqb mark 2) 18
    (pick (eqb place (code Pc.Idle)) (pick (eqb n 0) (pick (ltb 2 mark) 29 0) n) 20))

unfoldable pub refuse_of : State → ℕ → Operation → ℕ
refuse_of s t o =
    refuse_by (get_or s.cells.heads 2 0) (get_or s.rows32 (t * row32) 0)
    (refusal s.cells.records s.cells.sources s.cells.state s.rows32 t o)

-- ---- what a start writes
abbrev pub fresh_at : ℕ → ℕ → ℕ → ℕ → ℕ → ℕ → ℕ → Row
fresh_at operation place rec source node lone shard =
    with Field.Operation operation (with Field.Place place (with Field.Rec rec (with Field.Source source
    (with Field.Node node (with Field.Lone lone (with Field.Shard shard idle))))))

abbrev pub entry : Row → Named → ℕ → Entry
entry r c v = record { row = r; cell = c; put = v }

-- only the row
abbrev pub quietly : ℕ → ℕ → ℕ → ℕ → ℕ → Entry
quietly operation place rec source node = entry (fresh_at operation place rec source node 0 0) cell.Nothing 0

-- a release gives up the record, a retire makes its node waiting, a shutdown sets the mark; the operation is kept as
-- its kind in a frame
unfoldable pub begins : Settings → Operation → Entry
begins g Acquire = quietly 1 (code Pc.A1) 0 0 0
begins g (Release a) = entry (fresh_at 2 (code Pc.D1) a 0 0 0 0) (cell.Holder a) 1
begins g (Protect a b) = quietly 3 (code Pc.V0) a b 0
begins g (Try a b n) = quietly 4 (code Pc.V1) a b (narrow n)
begins g (TryProtect a b n) = quietly 5 (code Pc.V1) a b (narrow n)
begins g (Reset a) = quietly 6 (code Pc.Reset) a 0 0
begins g (Raw a n) = quietly 7 (code Pc.Raw) a 0 (narrow n)
begins g (Swap b n) = quietly 8 (code Pc.Swap) 0 b (narrow n)
begins g (Retire n x) = entry (fresh_at 9 (code Pc.T1) 0 0 0 (narrow n) (shard_of g x)) (cell.NodeState (narrow n)) 2
begins g Eager = quietly 10 (code Pc.B1) 0 0 0
begins g Cleanup = quietly 11 (code Pc.B1) 0 0 0
begins g Shutdown = entry (fresh_at 12 (code Pc.S1) 0 0 0 0 0) cell.Shutdown 1

unfoldable pub entered : State → ℕ → Entry → State
entered s t e =
    state (written s.cells (address e.cell) e.put) (stored32 s.rows32 t e.row)
    (stored64 s.rows64 t e.row) s.guards

-- ---- the start: `try_protect` (5) of null is done at once
abbrev pub of_null : Entry → Bool
of_null e = both (eqb e.row.operation 5) (eqb e.row.node 0)

abbrev pub start_by : State → ℕ → ℕ → Entry → Out
start_by s t n e = pick (eqb n 0) (pick (of_null e) (out (answer 2 0) s) (out (answer 1 0) (entered s t e))) (refused n s)

unfoldable pub start_in : Settings → State → ℕ → Operation → Out
start_in g s t o = start_by s t (refuse_of s t o) (begins g o)

unfoldable pub start_of : Settings → State → ℕ → Operation → Out
start_of g s t o = pick (sizes s) (pick (ltb t threads) (start_in g s t o) (refused 17 s)) (refused 16 s)
