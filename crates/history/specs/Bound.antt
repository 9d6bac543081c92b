-- Demand 3, the bound.
use Rattle.rules.specs.Sizes.{Settings}
use Rattle.view.specs.View.{view_of}
use Rattle.view.specs.Long.{long}
use Rattle.balance.specs.CountStep.{few}
use Rattle.history.specs.Demand3.{Bound}
use Rattle.history.specs.Seen.{waiting-is, count-is, all-idle}
use Rattle.history.specs.Invariant.{Chosen, inv-run}

pub bound : (g : Settings) → Chosen g → Bound g
bound g C s h run q = let I = (inv-run g C run).at in rw (waiting-is s, count-is s) (few g (view_of s) I.count I.used.most (long s) (all-idle s q))
