use Rattle.frames.specs.LineLaws.{answer-laid}
use Rattle.frames.proofs.answer_line.Goals as goal

pub returns : goal.returns
returns c = search answer-laid
