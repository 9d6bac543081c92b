-- To clear all is to clear those from i on in what the table is now.
use Rattle.std.proofs.Common.{◌≡◌, ◌*◌, length, replicate}
use Rattle.rules.specs.Sizes.{records, from_records}
use Rattle.tables.specs.StoredLaws.{Storing}
use Rattle.tables.proofs.lent.clear_records.Given as goal

abbrev pub invariant-loop-i : goal.invariant-loop-i
invariant-loop-i l = (length l.ids ≡ length l.initial.ids) × Storing l.initial.ids from_records (replicate (4 * records) 0) l.ids l.i
