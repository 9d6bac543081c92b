-- Demand 3, exactly once.
use Rattle.std.proofs.Common.{sym, ap, ◌∙◌}
use Rattle.std.specs.Prelude.{ℕ, ◌+◌}
use Rattle.rules.specs.Sizes.{Settings}
use Rattle.lists.specs.Occ.{sum}
use Rattle.history.specs.Demand3.{Once, reclamations}
use Rattle.history.specs.Seen.{waits-is}
use Rattle.history.specs.Invariant.{Chosen, inv-run}

pub once : (g : Settings) → Chosen g → Once g
once g C s h run n = (inv-run g C run).at.ledger n ∙ ap (λ (x : ℕ). sum (reclamations n) h + x) (sym (waits-is s n))
