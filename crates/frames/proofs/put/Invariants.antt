-- What is left to store is the last digits of `rest`, as many as places are left.
use Rattle.std.proofs.Common.{length, ◌≡◌}
use Rattle.frames.specs.LoopLaws.{Writing}
use Rattle.frames.proofs.put.Given as goal

abbrev pub invariant-loop-k : goal.invariant-loop-k
invariant-loop-k l = (length l.out ≡ length l.fn.out) × Writing l.fn.out l.at l.n l.x l.out l.k l.rest
