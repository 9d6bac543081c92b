use Rattle.std.proofs.Common.{arith}
use Rattle.tables.specs.StoredLaws.{zeros-more, zeros-all}
use Rattle.tables.proofs.lent.clear_records.Goals as goal

pub loop-i-preserved : goal.loop-i-preserved
loop-i-preserved c = (omega arith, search zeros-more)

pub returns : goal.returns
returns c = search zeros-all
