use Rattle.base.specs.Pick.{cases}
use Rattle.std.proofs.Common.{rules}
use Rattle.rules.specs.Step.{lent, part}
use Rattle.machine.proofs.step.ready.Goals as goal

pub returns : goal.returns
unfolding lent part
returns c = search (cases, rules)
