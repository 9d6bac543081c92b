-- Words: the lock bit, the shard rule, the guarded set, and counters that wrap at 64 bits.
use Rattle.std.specs.Prelude.{ℕ, ◌+◌, ◌-◌, ◌/◌, ◌%◌, ◌^◌, Bool, false, List, length, get_or, set, replicate, eqb, ltb}
use Rattle.std.specs.Int.Bits.{bit_and, bit_or}
use Rattle.base.specs.Pick.{pick}
use Rattle.rules.specs.Sizes.{Settings}

-- ---- `head_available` is 2 x record, with the lock in the low bit
abbrev pub locked : ℕ → Bool
locked v = eqb (bit_and v 1) 1

abbrev pub with_lock : ℕ → ℕ
with_lock v = bit_or v 1

-- ---- the shard of a `Retired` box's address
abbrev pub shard_of : Settings → ℕ → ℕ
shard_of g address = bit_and (address / 2 ^ 8) (g.shards - 1)

-- ---- a guarded set: node n at bit n - 1 from the lowest, over any number of words; 0 is no node
unfoldable pub is_guarded : List ℕ → ℕ → Bool
is_guarded words n = pick (eqb n 0) false (eqb (get_or words ((n - 1) / 64) 0 / 2 ^ ((n - 1) % 64) % 2) 1)

unfoldable pub guarded_also : List ℕ → ℕ → List ℕ
guarded_also words n =
    pick (eqb n 0) words (set words ((n - 1) / 64) (bit_or (get_or words ((n - 1) / 64) 0) (2 ^ ((n - 1) % 64))))

unfoldable pub none_guarded : List ℕ → List ℕ
none_guarded words = replicate (length words) 0

-- ---- counters
abbrev pub plus : ℕ → ℕ → ℕ
plus a b = (a + b) % 2 ^ 64

abbrev pub less : ℕ → ℕ → ℕ
less a b = (a + (2 ^ 64 - b)) % 2 ^ 64

abbrev pub due_time : ℕ → ℕ
due_time clock = plus clock 2000000000

-- a word whose top bit is set is negative
abbrev pub negative : ℕ → Bool
negative n = ltb (2 ^ 63 - 1) n

-- the larger of the floor and 2 x records, as signed numbers
unfoldable pub threshold : Settings → ℕ → ℕ
threshold g n = pick (negative (plus n n)) g.floor (pick (ltb g.floor (plus n n)) (plus n n) g.floor)

-- whether `count` is above it, as signed numbers
unfoldable pub over : Settings → ℕ → ℕ → Bool
over g count n = pick (negative count) false (ltb (threshold g n) count)
