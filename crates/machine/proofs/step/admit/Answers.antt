use Rattle.std.proofs.Common.{◌≡◌, ◌∙◌, Bool, true, false, sym, rules, length}
use Rattle.base.specs.Pick.{cases}
use Rattle.rules.specs.Step.{sizes}
use Rattle.tables.specs.Lent.{held}
use Rattle.tables.specs.declared.lent.Lent.{Lent}
use Rattle.machine.specs.StepLaws.{sizes_by, sized-lent}
use Rattle.machine.proofs.step.admit.Goals as goal

-- the lengths tell whether the parts have their sizes
fit : (l : Lent) (b ok : Bool) → b ≡ sizes_by (length l.ids.now) (length l.next.now) (length l.state.now) (length l.words.now) (length l.guards.now) → b ≡ ok → sizes (held l) ≡ ok
fit l b ok p h = sym (sized-lent l.ids.now l.next.now l.state.now l.words.now l.guards.now b p) ∙ h

pub returns-then-not-fit : goal.returns-then-not-fit
returns-then-not-fit c = let h = fit c.args.tables.now _ false c.sized-fit.ensures (search rules) in search (cases, rules)

pub returns-then-t-ge-THREADS : goal.returns-then-t-ge-THREADS
returns-then-t-ge-THREADS c = let h = fit c.args.tables.now _ true c.sized-fit.ensures (search rules) in search (cases, rules)

pub returns : goal.returns
returns c = let h = fit c.args.tables.now _ true c.sized-fit.ensures (search rules) in search (cases, rules)
