-- `v` is the number of the digits passed, and below 16 to their count.
use Rattle.std.proofs.Common.{◌≡◌, ◌<◌, ◌^◌, drop}
use Rattle.frames.specs.Hex.{number_of, number_from}
use Rattle.frames.proofs.number.Given as goal

abbrev pub invariant-loop-b : goal.invariant-loop-b
invariant-loop-b l = (l.v < 16 ^ l.b-index) × (number_of l.digits ≡ number_from l.v (drop l.b-index l.digits))
