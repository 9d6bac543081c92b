use Rattle.std.proofs.Common.{◌∙◌}
use Rattle.rows.specs.RowLaws.{seated}
use Rattle.rows.proofs.Copies.{stores-numbers}
use Rattle.rows.proofs.row.store_row.Goals as goal

pub returns-clause-holds : goal.returns-clause-holds
returns-clause-holds c = seated _ _ _ _ c.args.t c.args.r (c.put_all.ensures ∙ stores-numbers _ _ _) (c.put_all-2.ensures ∙ stores-numbers _ _ _) _ _ _
