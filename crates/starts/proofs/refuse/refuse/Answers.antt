use Rattle.base.specs.Pick.{cases}
use Rattle.std.proofs.Common.{rules}
use Rattle.rules.specs.Step.{fetched, lent, part}
use Rattle.rules.specs.Cells.{address}
use Rattle.rules.specs.Start.{refuse_of}
use Rattle.starts.proofs.refuse.refuse.Goals as goal

pub returns-then-place : goal.returns-then-place
unfolding refuse_of fetched address lent part
returns-then-place c = search (cases, rules)
