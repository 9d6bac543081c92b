use Rattle.std.proofs.Common.{◌∙◌, ◌*◌, ◌-◌, ap, List, ℕ}
use borrow.Rule.Slice.PartMut.{put_mid}
use Rattle.rules.specs.Step.{guards_after, guards_given}
use Rattle.machine.proofs.Sets.{set-taken, set_put}
use Rattle.machine.proofs.guards.guards_given.Goals as goal

pub returns : goal.returns
unfolding guards_given
returns c =
    let g = c.args.guards.now in
    let put = λ (s : List ℕ). put_mid c.min-a.result (c.min-z.result - c.min-a.result) g s in
    ap put c.give.ensures
    ∙ ap (λ (s : List ℕ). put (guards_after s c.args.g)) (set-taken g (c.args.t * 64) _ _ c.min-a.ensures c.min-z.ensures)
    ∙ set_put g (c.args.t * 64) _ _ c.min-a.ensures c.min-z.ensures _
