-- What is found from i on is what is found in all.
use Rattle.std.proofs.Common.{◌*◌}
use Rattle.base.specs.Searches.{Going}
use Rattle.rules.specs.Step.{part, untaken_from}
use Rattle.rules.specs.Sizes.{records, from_records}
use Rattle.rows.proofs.searches.lowest.Given as goal

abbrev pub invariant-loop-i : goal.invariant-loop-i
invariant-loop-i l = Going (untaken_from (part from_records (4 * records) l.ids)) records l.i (untaken_from (part from_records (4 * records) l.ids) 0 records)
