use Rattle.std.proofs.Common.{◌∙◌}
use Rattle.replays.specs.BlockLaws.{ends_bad}
use Rattle.replays.proofs.runner.finish.Goals as goal

pub returns : goal.returns
returns c = ends_bad c.args.kept c.text.result (λ z. c.if-len-eq0.false (c.len.ensures.len ∙ z)) c.text.ensures
