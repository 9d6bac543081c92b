use Rattle.std.proofs.Common.{arith, length-set}
use Rattle.frames.specs.LoopLaws.{writing_more, writing_all}
use Rattle.frames.proofs.put.Goals as goal

pub loop-k-preserved : goal.loop-k-preserved
loop-k-preserved c = (simp length-set (omega arith), search writing_more)

pub returns : goal.returns
returns c = search writing_all
