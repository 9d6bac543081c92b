use Rattle.std.proofs.Common.{◌∙◌, ◌*◌, ap, List, ℕ}
use Rattle.rules.specs.Words.{is_guarded}
use Rattle.machine.proofs.Sets.{set-taken}
use Rattle.machine.proofs.guards.guarded_at.Goals as goal

pub returns : goal.returns
returns c = c.is_guarded.ensures ∙ ap (λ (s : List ℕ). is_guarded s c.args.n) (set-taken c.args.guards.now (c.args.t * 64) _ _ c.min-a.ensures c.min-z.ensures)
