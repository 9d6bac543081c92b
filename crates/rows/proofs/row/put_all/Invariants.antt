-- To store all words is to store those from i on in what the table is now.
use Rattle.std.proofs.Common.{◌≡◌, length}
use Rattle.rows.proofs.Copies.{Storing}
use Rattle.rows.proofs.row.put_all.Given as goal

abbrev pub invariant-loop-i : goal.invariant-loop-i
invariant-loop-i g l = (length l.t ≡ length l.initial.t) × Storing l.initial.t l.b l.ws l.t l.i
