use Rattle.std.proofs.Common.{arith}
use Rattle.rows.specs.SearchLaws.{above-part}
use Rattle.rows.proofs.searches.unsound.Goals as goal

pub returns : goal.returns
returns c = above-part _ _ _ _ _ _ _ _ c.any_above.ensures (omega arith) (omega arith)
