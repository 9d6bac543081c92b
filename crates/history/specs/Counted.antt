-- Demand 3, the record count.
use Rattle.std.proofs.Common.{sym, ◌∙◌}
use Rattle.rules.specs.Sizes.{Settings}
use Rattle.view.specs.View.{view_of}
use Rattle.balance.specs.Used.{all-counted}
use Rattle.history.specs.Demand3.{Counted}
use Rattle.history.specs.Seen.{count-is, mark-is, used-is, all-idle}
use Rattle.history.specs.Invariant.{Chosen, inv-run}

pub counted : (g : Settings) → Chosen g → Counted g
counted g C s h run =
    let I = (inv-run g C run).at.used in
    (rw (count-is s) I.most, λ q m. count-is s ∙ all-counted (view_of s) I (all-idle s q) (λ z. m (mark-is s ∙ z)) ∙ sym (used-is s))
