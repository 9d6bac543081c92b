-- What stands in a record's cell for who holds it.
use Rattle.std.specs.Prelude.{ℕ, ◌+◌}
use Rattle.rules.specs.declared.Holder.{Holder}
use Rattle.rules.specs.declared.Holder.TheVariants.{Unused, Nobody, Thread}

abbrev pub held_by : Holder → ℕ
held_by Unused = 0
held_by Nobody = 1
held_by (Thread t) = t + 2
