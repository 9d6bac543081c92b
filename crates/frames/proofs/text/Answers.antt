use Rattle.frames.specs.LineLaws.{text-laid}
use Rattle.frames.proofs.text.Goals as goal

pub returns : goal.returns
returns c = search text-laid
