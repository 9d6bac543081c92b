use Rattle.replays.specs.ReplayLaws.{steps, starts, refuses}
use Rattle.replays.proofs.reply_to.Goals as goal

pub returns-in-Step : goal.returns-in-Step
returns-in-Step c = search steps

pub returns-in-Start : goal.returns-in-Start
returns-in-Start c = search starts

pub returns-in-Bad : goal.returns-in-Bad
returns-in-Bad c = search refuses
