-- One step of a thread over the lent tables: what it reads, whether that is in range, and how its effect is applied.
use Rattle.std.specs.Prelude.{ℕ, zero, suc, ◌+◌, ◌*◌, ◌%◌, ◌^◌, Bool, List, [], ◌∷◌, ◌++◌, length, get_or, set, take, drop, replicate, eqb, ltb, leb}
use Rattle.base.specs.Pick.{pick, both}
use Rattle.rules.specs.Sizes.{records, sources, nodes, threads, words, row32, row64, head_cells, counter_cells}
use Rattle.rules.specs.Sizes.{from_sources, from_records, from_rows, steps, Settings}
use Rattle.rules.specs.Words.{is_guarded, guarded_also, none_guarded, plus}
use Rattle.rules.specs.declared.pc.Pc.TheVariants as Pc
use Rattle.rules.specs.Pc.{code}
use Rattle.rules.specs.Cells
use Rattle.rules.specs.Cells.{in_range, address, accessed, nothing}
use Rattle.rules.specs.Rows.{row_at, row_fits, stored32, stored64, first}
use Rattle.rules.specs.Places.{access_of, follow_of, effect_of, damaged}
use Rattle.rules.specs.declared.answer.Answer.{Answer}
pub use Rattle.rules.specs.Answers.{answer}
use Rattle.rules.specs.declared.Row.{Row}
use Rattle.rules.specs.declared.Cell.{Cell}
use Rattle.rules.specs.declared.Seen.{Seen}
use Rattle.rules.specs.declared.Effect.{Effect}
use Rattle.rules.specs.declared.Guards.{Guards}
use Rattle.rules.specs.declared.Guards.TheVariants as guards

-- ---- what the tables hold: the shared cells, the threads' rows and their guarded sets
pub record Shared : Type 0 where
  pub heads : List ℕ
  pub counters : List ℕ
  pub records : List ℕ
  pub sources : List ℕ
  pub next : List ℕ
  pub state : List ℕ

abbrev pub shared : List ℕ → List ℕ → List ℕ → List ℕ → List ℕ → List ℕ → Shared
shared h c r s n m = record { heads = h; counters = c; records = r; sources = s; next = n; state = m }

pub record State : Type 0 where
  pub cells : Shared
  pub rows32 : List ℕ
  pub rows64 : List ℕ
  pub guards : List ℕ

abbrev pub state : Shared → List ℕ → List ℕ → List ℕ → State
state s a b g = record { cells = s; rows32 = a; rows64 = b; guards = g }

-- ---- the five lent tables: ids and words hold their parts one behind the other
unfoldable pub part : ℕ → ℕ → List ℕ → List ℕ
part from n l = take n (drop from l)

abbrev pub shared_in : List ℕ → List ℕ → List ℕ → List ℕ → Shared
shared_in ids next state words =
    shared (part 0 head_cells ids) (part 0 counter_cells words) (part from_records (4 * records) ids)
    (part from_sources sources ids) next state

unfoldable pub lent : List ℕ → List ℕ → List ℕ → List ℕ → List ℕ → State
lent ids next state' words guards =
    state (shared_in ids next state' words) (drop from_rows ids) (drop counter_cells words) guards

pub record Out : Type 0 where
  pub answer : Answer
  pub state : State

abbrev pub out : Answer → State → Out
out a s = record { answer = a; state = s }

-- a refusal changes nothing
abbrev pub refused : ℕ → State → Out
refused n s = out (answer n 0) s

abbrev pub sizes : State → Bool
sizes s =
    both (eqb (length s.cells.heads) head_cells) (both (eqb (length s.cells.counters) counter_cells)
    (both (eqb (length s.cells.records) (4 * records)) (both (eqb (length s.cells.sources) sources)
    (both (eqb (length s.cells.next) nodes) (both (eqb (length s.cells.state) nodes)
    (both (eqb (length s.rows32) (row32 * threads)) (both (eqb (length s.rows64) (row64 * threads))
    (eqb (length s.guards) (words * threads)))))))))

-- ---- one cell
unfoldable pub fetched : Shared → Cell → ℕ
fetched s c =
    let tables = [] ∷ s.heads ∷ s.counters ∷ s.records ∷ s.sources ∷ s.next ∷ s.state ∷ [] in
    get_or (get_or tables c.table []) c.at 0

-- where the cell stands in table k; past every table's end if it is of another
abbrev pub at_in : Cell → ℕ → ℕ
at_in c k = pick (eqb c.table k) c.at 4294967295

unfoldable pub written : Shared → Cell → ℕ → Shared
written s c v =
    shared (set s.heads (at_in c Cells.heads) (v % 2 ^ 32)) (set s.counters (at_in c Cells.counters) v)
    (set s.records (at_in c Cells.in_records) (v % 2 ^ 32)) (set s.sources (at_in c Cells.in_sources) (v % 2 ^ 32))
    (set s.next (at_in c Cells.in_next) (v % 2 ^ 32)) (set s.state (at_in c Cells.in_state) (v % 2 ^ 32))

-- ---- what a step reads
-- the first of n record rows after row i that is not taken: unused, or damaged; 0 if there is none
unfoldable pub untaken_from : List ℕ → ℕ → ℕ → ℕ
untaken_from l i zero = 0
untaken_from l i (suc n) =
    pick (eqb (get_or l (i * 4 + 3) 0) 0) (i + 1)
    (pick (ltb (threads + 1) (get_or l (i * 4 + 3) 0)) (i + 1) (untaken_from l (i + 1) n))

-- only N1 looks for it
unfoldable pub untaken_for : List ℕ → ℕ → ℕ
untaken_for l place = pick (eqb place (code Pc.N1)) (untaken_from l 0 records) 0

-- the thread's guarded set, and the table with another in its place
abbrev pub guards_of : List ℕ → ℕ → List ℕ
guards_of g t = take words (drop (t * words) g)

abbrev pub guards_put : List ℕ → ℕ → List ℕ → List ℕ
guards_put g t p = take (t * words) g ++ (p ++ drop words (drop (t * words) g))

abbrev pub seen : ℕ → ℕ → ℕ → Bool → ℕ → Bool → ℕ → Seen
seen x y u on t f k =
    record { x = x; v = x % 2 ^ 32; y = y; w = y % 2 ^ 32; untaken = u; guarded = on; thread = t; flag = f; clock = k }

-- the row's step reads its cell c, and l beside it
unfoldable pub read_by : State → ℕ → Bool → ℕ → Row → Cell → Cell → ℕ → Seen
read_by s t flag clock r c l untaken =
    let guarded = is_guarded (guards_of s.guards t) (first r) in
    seen (fetched s.cells c) (fetched s.cells l) untaken guarded t flag clock

-- 25 and 26 come before 29
abbrev pub judge : Row → Bool → Effect → Effect
judge r fits e = pick (eqb e.number 25) e (pick (eqb e.number 26) e (pick fits e (damaged r)))

-- 29 where something that the step reads is out of its range, or a cell that it needs is none
unfoldable pub judged : Row → Bool → Cell → Cell → Seen → Effect → Effect
judged r fits c l i e =
    judge r
    (both fits (both (in_range c.class i.x)
    (both (in_range l.class i.y) (in_range (address e.also).class 0)))) e

unfoldable pub look_by : Settings → State → ℕ → Bool → ℕ → Row → Cell → Cell → ℕ → Effect
look_by g s t flag clock r c l untaken =
    let i = read_by s t flag clock r c l untaken in judged r (row_fits g s.rows32 t) c l i (effect_of g r i)

unfoldable pub look_of : Settings → State → ℕ → Bool → ℕ → Row → Effect
look_of g s t flag clock r =
    let untaken = untaken_for s.cells.records r.place in
    look_by g s t flag clock r (accessed (access_of r)) (address (follow_of r untaken)) untaken

-- ---- how its effect is applied
abbrev pub closed : Shared → Bool → Shared
closed s b =
    pick b
    (shared (set (set s.heads 0 0) 1 0) s.counters (replicate (length s.records) 0) s.sources
    s.next s.state) s

abbrev pub ticked : Shared → Shared
ticked s =
    shared s.heads (set s.counters 4 (plus (get_or s.counters 4 0) 1)) s.records s.sources
    s.next s.state

unfoldable pub cells_given : Shared → Cell → Effect → Shared
cells_given s c e =
    ticked (closed (written (written s (pick e.writes c nothing) e.put) (address e.also) e.to) e.closes)

unfoldable pub guards_after : List ℕ → Guards → List ℕ
guards_after set guards.Keep = set
guards_after set guards.Clear = none_guarded set
guards_after set (guards.Set n) = guarded_also set n

unfoldable pub guards_given : List ℕ → ℕ → Guards → List ℕ
guards_given g t m = guards_put g t (guards_after (guards_of g t) m)

unfoldable pub given : State → ℕ → Cell → Effect → State
given s t c e =
    state (cells_given s.cells c e) (stored32 s.rows32 t e.row) (stored64 s.rows64 t e.row)
    (guards_given s.guards t e.guards)

-- ---- the step
abbrev pub take_by : State → ℕ → Cell → Effect → Out
take_by s t c e = pick (eqb e.number 29) (refused 29 s) (out (answer e.number e.value) (given s t c e))

unfoldable pub take_of : Settings → State → ℕ → Bool → ℕ → Out
take_of g s t flag clock =
    let r = row_at s.rows32 s.rows64 t in
    take_by s t (accessed (access_of r)) (look_of g s t flag clock r)

-- 19 and 21
unfoldable pub step_in : Settings → State → ℕ → Bool → ℕ → Out
step_in g s t flag clock =
    pick (leb steps (get_or s.cells.counters 4 0)) (refused 19 s)
    (pick (eqb (get_or s.rows32 (t * row32) 0) (code Pc.Idle)) (refused 21 s) (take_of g s t flag clock))

-- 16 and 17
unfoldable pub step_of : Settings → State → ℕ → Bool → ℕ → Out
step_of g s t flag clock = pick (sizes s) (pick (ltb t threads) (step_in g s t flag clock) (refused 17 s)) (refused 16 s)
