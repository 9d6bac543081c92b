-- Demand 3 in whole: what a run is, what its history says, where a node may wait, and the statements. The proofs are
-- in Proved.antt.
-- Beside the rules this needs four words of lists: `tab n f` is f 0 to f (n - 1), `cat` joins lists, `occ n l` counts n
-- in l, `sum f l` adds f over l.
use Rattle.std.specs.Prelude.{ℕ, zero, suc, ◌+◌, ◌*◌, ◌^◌, ◌≤◌, ◌<◌, min, max, ◌≡◌, ◌≢◌, Bool, List, [], ◌∷◌, ◌++◌, map, get_or, set, replicate, eqb, ltb, leb}
use Rattle.base.specs.Pick.{pick, both}
use Rattle.rules.specs.Sizes.{records, nodes, threads, words, row32, row64, counter_cells, from_rows, Settings}
use Rattle.rules.specs.Pc.{code, pc_of}
use Rattle.rules.specs.declared.pc.Pc.{Pc}
use Rattle.rules.specs.declared.pc.Pc.TheVariants as Pc
use Rattle.rules.specs.Cells.{address}
use Rattle.rules.specs.Rows.{row_at}
use Rattle.rules.specs.Places.{accesses}
use Rattle.rules.specs.Step.{State, Out, lent, fetched, step_of}
use Rattle.rules.specs.Start.{start_of}
use Rattle.rules.specs.declared.Operation.{Operation}
use Rattle.rules.specs.declared.Operation.TheVariants.{Acquire, Release, Protect, Try, TryProtect, Reset, Raw, Swap}
use Rattle.rules.specs.declared.Operation.TheVariants.{Retire, Eager, Cleanup, Shutdown}
use Rattle.rules.specs.declared.answer.Answer.{Answer}
use Rattle.rules.specs.declared.Row.{Row}
use Rattle.rules.specs.declared.Named.{Named}
use Rattle.rules.specs.declared.Named.TheVariants as cell
use Rattle.rules.specs.declared.Access.{Access}
use Rattle.rules.specs.declared.Access.TheVariants as by
use Rattle.lists.specs.Occ.{eq01, occ, sum}
use Rattle.lists.specs.Flat.{cat}
use Rattle.lists.specs.Tab.{tab}

-- ---- a fresh domain: every word of the five tables is 0
unfoldable pub fresh : State
fresh =
    lent (replicate (from_rows + row32 * threads) 0) (replicate nodes 0) (replicate nodes 0)
    (replicate (counter_cells + row64 * threads) 0) (replicate (words * threads) 0)

abbrev pub row : State → ℕ → Row
row s t = row_at s.rows32 s.rows64 t

abbrev pub holds : State → Named → ℕ
holds s c = fetched s.cells (address c)

-- ---- a move: a start or a step of any thread, with any fields, flag and clock
pub data Move : Type 0 where
  start : ℕ → Operation → Move
  step : ℕ → Bool → ℕ → Move

abbrev pub act : Settings → State → Move → Out
act g s (start t o) = start_of g s t o
act g s (step t flag clock) = step_of g s t flag clock

-- ---- what a move is to somebody who watches hazards and nodes
-- thread t stored to record c's hazard; every hazard was cleared; thread t's protection of node n was validated;
-- node n's retirement was accepted; node n was reclaimed
pub data Event : Type 0 where
  quiet : Event
  stored : ℕ → ℕ → Event
  cleared : Event
  validated : ℕ → ℕ → Event
  retired : ℕ → Event
  reclaimed : ℕ → Event

-- thread t's step stores to the cell: a record's hazard, or the mark, which shutdown's last step stores as it clears
-- the records
abbrev pub stored_in : ℕ → Named → Event
stored_in t cell.Nothing = quiet
stored_in t cell.RecordHead = quiet
stored_in t cell.HeadAvailable = quiet
stored_in t (cell.ShardHead k) = quiet
stored_in t cell.Shutdown = cleared
stored_in t cell.RecordCount = quiet
stored_in t cell.Count = quiet
stored_in t cell.DueTime = quiet
stored_in t cell.BulkReclaims = quiet
stored_in t (cell.Hazard c) = stored t c
stored_in t (cell.AvailableNext c) = quiet
stored_in t (cell.RecordNext c) = quiet
stored_in t (cell.Holder c) = quiet
stored_in t (cell.Source b) = quiet
stored_in t (cell.NodeNext n) = quiet
stored_in t (cell.NodeState n) = quiet

-- a store always stores; whether another access does is not asked, as no hazard changes by one (statement 2)
abbrev pub stored_by : ℕ → Access → Event
stored_by t (by.Load c) = quiet
stored_by t (by.Store c) = stored_in t c
stored_by t (by.HazardStore c) = stored_in t c
stored_by t (by.Update c) = quiet
stored_by t (by.Private c) = quiet

-- V0 to V3 are the places of protect, try and try_protect
abbrev pub protecting : Pc → Bool
protecting p = both (leb (code Pc.V0) (code p)) (leb (code p) (code Pc.V3))

-- 4 is a reclaimed node; from 16 on nothing was accessed
abbrev pub event_by : ℕ → Pc → Row → Answer → Event
event_by t p r a =
    pick (eqb a.number 4) (reclaimed a.value)
    (pick (ltb 15 a.number) quiet
    (pick (both (protecting p) (eqb a.number 2)) (validated t a.value) (stored_by t (accesses p r))))

abbrev pub event_of : Answer → Operation → Event
event_of a Acquire = quiet
event_of a (Release c) = quiet
event_of a (Protect c b) = quiet
event_of a (Try c b n) = quiet
event_of a (TryProtect c b n) = quiet
event_of a (Reset c) = quiet
event_of a (Raw c n) = quiet
event_of a (Swap b n) = quiet
event_of a (Retire n x) = pick (eqb a.number 1) (retired n) quiet
event_of a Eager = quiet
event_of a Cleanup = quiet
event_of a Shutdown = quiet

abbrev pub event : Settings → State → Move → Event
event g s (start t o) = event_of (start_of g s t o).answer o
event g s (step t flag clock) = event_by t (pc_of (row s t).place) (row s t) (step_of g s t flag clock).answer

-- ---- a run: any moves from the fresh domain; its history: their events, the last first
pub data Run (g : Settings) : State → List Event → Type 0 where
  untouched : Run g fresh []
  goes : {s : State} {h : List Event} → Run g s h → (m : Move) → Run g (act g s m).state (event g s m ∷ h)

-- ---- a claim: the node that record c last validated, 0 where its hazard was stored to since
-- the record for which thread t validates is that whose hazard it stored to last
abbrev pub aim : ℕ → List Event → ℕ
aim t [] = 0
aim t (quiet ∷ h) = aim t h
aim t (stored u c ∷ h) = pick (eqb u t) c (aim t h)
aim t (cleared ∷ h) = aim t h
aim t (validated u n ∷ h) = aim t h
aim t (retired n ∷ h) = aim t h
aim t (reclaimed n ∷ h) = aim t h

abbrev pub claims : List Event → List ℕ
claims [] = replicate (suc records) 0
claims (quiet ∷ h) = claims h
claims (stored t c ∷ h) = set (claims h) c 0
claims (cleared ∷ h) = replicate (suc records) 0
claims (validated t n ∷ h) = set (claims h) (aim t h) n
claims (retired n ∷ h) = claims h
claims (reclaimed n ∷ h) = claims h

-- ---- 1 where the event is a store to record c's hazard
abbrev pub overwrites : ℕ → Event → ℕ
overwrites c =
    elim [ quiet ↦ 0 | stored t d ↦ eq01 c d | cleared ↦ 1 | validated t m ↦ 0 | retired m ↦ 0 | reclaimed m ↦ 0 ]

-- ---- how often node n's retirement was accepted, and how often n was reclaimed
abbrev pub retirements : ℕ → Event → ℕ
retirements n =
    elim [ quiet ↦ 0 | stored t c ↦ 0 | cleared ↦ 0 | validated t m ↦ 0 | retired m ↦ eq01 n m | reclaimed m ↦ 0 ]

abbrev pub reclamations : ℕ → Event → ℕ
reclamations n =
    elim [ quiet ↦ 0 | stored t c ↦ 0 | cleared ↦ 0 | validated t m ↦ 0 | retired m ↦ 0 | reclaimed m ↦ eq01 n m ]

-- ---- waiting: 1 where node n waits; how many do
abbrev pub waits : State → ℕ → ℕ
waits s n = eq01 (holds s (cell.NodeState n)) 2

abbrev pub waiting : State → ℕ
waiting s = sum (waits s) (tab nodes suc)

-- ---- no thread is inside an operation
abbrev pub AllIdle : State → Type 0
AllIdle s = (t : ℕ) → t < threads → (row s t).place ≡ 0

-- ---- how many records are used: those whose holder is not 0
abbrev pub used : State → ℕ
used s = sum (λ c. min 1 (holds s (cell.Holder c))) (tab records suc)

-- ---- the places of waiting nodes: the head of a list, and the node after which it ends, 0 where it ends by itself.
-- A shard's list; in a thread's row what is left of its stolen lists, its reclaim list, its kept list, and a retire's
-- lone node
abbrev pub in_row : Row → List (ℕ × ℕ)
in_row r = map (λ h. (h, 0)) r.stolen ++ ((r.reclaimable, 0) ∷ (r.unreclaimed, r.tail) ∷ (r.lone, r.lone) ∷ [])

abbrev pub places : State → List (ℕ × ℕ)
places s = map (λ h. (h, 0)) (tab 8 (λ k. holds s (cell.ShardHead k))) ++ cat (map in_row (tab threads (row s)))

-- at most k nodes from h on, followed by `next`
unfoldable pub follow : (ℕ → ℕ) → ℕ → ℕ → ℕ → List ℕ
follow next end zero h = []
follow next end (suc k) h = pick (eqb h 0) [] (h ∷ pick (eqb h end) [] (follow next end k (next h)))

-- one node more than there are, so that a list which runs back into itself is seen
abbrev pub list_at : State → ℕ × ℕ → List ℕ
list_at s p = follow (λ n. holds s (cell.NodeNext n)) p.1 (suc nodes) p.0

-- ---- the statements, for 1, 2, 4 or 8 shards, any floor and any clock rule
abbrev pub Choice : Settings → Type 0
Choice g = (k : ℕ) × (k ≤ 3) × (g.shards ≡ 2 ^ k)

-- 1. A step that reclaims a node finds no record whose claim is that node.
abbrev pub Safe : Settings → Type 0
Safe g =
    (s : State) (h : List Event) → Run g s h → (t : ℕ) (flag : Bool) (clock c : ℕ)
    → (step_of g s t flag clock).answer.number ≡ 4 → get_or (claims h) c 0 ≢ (step_of g s t flag clock).answer.value

-- 2. A claimed node is what its record's hazard holds, and a hazard changes only in a move that is a store to it.
abbrev pub Hazards : Settings → Type 0
Hazards g =
    (s : State) (h : List Event) → Run g s h → (c : ℕ)
    → (get_or (claims h) c 0 ≢ 0 → holds s (cell.Hazard c) ≡ get_or (claims h) c 0)
    × ((m : Move)
    → holds (act g s m).state (cell.Hazard c) ≢ holds s (cell.Hazard c) → overwrites c (event g s m) ≡ 1)

-- 3. Over all places together a waiting node stands once, and nothing else stands there.
abbrev pub OnePlace : Settings → Type 0
OnePlace g =
    (s : State) (h : List Event) → Run g s h → (n : ℕ) → sum (λ p. occ n (list_at s p)) (places s) ≡ waits s n

-- 4. A node was retired as often as it was reclaimed, and once more if it waits: at every moment, so that the two
-- alternate.
abbrev pub Once : Settings → Type 0
Once g =
    (s : State) (h : List Event) → Run g s h → (n : ℕ) → sum (retirements n) h ≡ sum (reclamations n) h + waits s n

-- 5. When no thread is inside an operation, at most max(floor, 2 x records) nodes wait.
abbrev pub Bound : Settings → Type 0
Bound g =
    (s : State) (h : List Event) → Run g s h → AllIdle s → waiting s ≤ max g.floor (2 * holds s cell.RecordCount)

-- 6. The record count is at most 1,024, and when no thread is inside an operation, until shutdown's last step sets the
-- mark to 2, it is the number of used records.
abbrev pub Counted : Settings → Type 0
Counted g =
    (s : State) (h : List Event) → Run g s h
    → (holds s cell.RecordCount ≤ records)
    × (AllIdle s → holds s cell.Shutdown ≢ 2 → holds s cell.RecordCount ≡ used s)

-- 7. On the tables of a run no start and no step answers 16 or 29.
abbrev pub Unbroken : Settings → Type 0
Unbroken g =
    (s : State) (h : List Event) → Run g s h → (m : Move)
    → ((act g s m).answer.number ≢ 16) × ((act g s m).answer.number ≢ 29)
