use Rattle.std.proofs.Common.{rules}
use Rattle.rules.specs.Step.{written, lent}
use Rattle.tables.specs.PartLaws.{set_in}
use Rattle.tables.specs.CellLaws.{wrote}
use Rattle.tables.proofs.Guarded.{with_guards}
use Rattle.tables.proofs.lent.Lent.write.Goals as goal

pub returns-clause-holds : goal.returns-clause-holds
unfolding lent set_in
returns-clause-holds c =
    with_guards (λ s. written s c.args.c c.args.v) _ _ c.args.self.now.guards.now
    (wrote _ _ _ _ _ _ _ _ _ _ (rw c.cut-id.ensures at c.write_ids.ensures) (search rules) (search rules) (search rules))
