-- The sizes and settings, each named once.
use Rattle.std.specs.Prelude.{ℕ, ◌+◌, ◌*◌, Bool, leb}

-- records, sources and nodes are numbered from 1, threads from 0
abbrev pub records : ℕ
records = 1024

abbrev pub sources : ℕ
sources = 64

abbrev pub nodes : ℕ
nodes = 4096

abbrev pub threads : ℕ
threads = 16

-- the 64-bit words of a guarded set
abbrev pub words : ℕ
words = 64

-- the words of a thread's row among the 32-bit and among the 64-bit numbers
abbrev pub row32 : ℕ
row32 = 21

abbrev pub row64 : ℕ
row64 = 5

-- the heads and the mark, and the counters
abbrev pub head_cells : ℕ
head_cells = 11

abbrev pub counter_cells : ℕ
counter_cells = 5

-- where the parts of the table of ids begin: the heads, the sources, the record rows, the threads' rows
abbrev pub from_sources : ℕ
from_sources = head_cells

abbrev pub from_records : ℕ
from_records = from_sources + sources

abbrev pub from_rows : ℕ
from_rows = from_records + 4 * records

-- the steps after which every step is refused: 2^40
abbrev pub steps : ℕ
steps = 1099511627776

-- what later editions choose: the number of shards, the threshold's floor, and whether a clock is due
pub record Settings : Type 0 where
  pub shards : ℕ
  pub floor : ℕ
  pub due : ℕ → ℕ → Bool

-- the crate's: a clock is due unless it is below `due_time`
abbrev pub base : Settings
base = record { shards = 8; floor = 1000; due = λ clock time. leb time clock }
