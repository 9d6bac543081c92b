use Rattle.std.proofs.Common.{rules}
use Rattle.base.specs.Pick.{cases}
use Rattle.tables.proofs.Guarded.{has-given}
use Rattle.tables.proofs.lent.Lent.cells_given.Goals as goal

pub returns-clause-holds : goal.returns-clause-holds
returns-clause-holds c = has-given _ _ _ _ _ _ _ _ _ _ _ _ _ _ _ _ _ _ _ _ _ (search (cases, rules)) c.write.ensures.holds c.address.ensures c.write-2.ensures.holds c.close.ensures c.tick.ensures
