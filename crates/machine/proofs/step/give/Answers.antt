use Rattle.rules.specs.Step.{lent}
use Rattle.machine.proofs.Given.{has-given}
use Rattle.machine.proofs.step.give.Goals as goal

pub returns-clause-does : goal.returns-clause-does
unfolding lent
returns-clause-does c = has-given _ _ _ _ _ _ _ c.cells_given.ensures.holds c.store_row.ensures.holds c.guards_given.ensures
