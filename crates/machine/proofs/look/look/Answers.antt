use Rattle.std.proofs.Common.{sym, subst}
use Rattle.rules.specs.Sizes.{base}
use Rattle.machine.specs.Told.{Told}
use Rattle.machine.proofs.Told.{effect-told, judged-told}
use Rattle.machine.proofs.look.look.Goals as goal

pub returns-clause-told : goal.returns-clause-told
returns-clause-told c = subst Told (sym c.judged.ensures) (judged-told base c.args.r _ _ _ _ _ (subst Told (sym c.effect.ensures) (effect-told base c.args.r _)))
