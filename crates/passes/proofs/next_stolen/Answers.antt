-- `next_stolen` meets its contract by what `find` says of the numbers in its range. Assumes nothing.
use Rattle.std.proofs.Common.{◌≡◌, ◌≢◌, slice_index, arith, rules, tests}
use Rattle.std.proofs.lemmas.Iterator.{first_from_Range}
use Rattle.passes.proofs.Found.{found_or_past}
use Rattle.passes.proofs.next_stolen.Goals as goal

pub returns : goal.returns
returns c =
    let l = c.args.stolen in
    let first =
    first_from_Range _ _ _ _ (λ k. slice_index l k ≢ 0) (λ k. slice_index l k ≡ 0) c.find.ensures.ran
    (λ x q k. grind (arith, tests))
    (λ x q k. (search rules, grind (arith, tests))) in
    let found = found_or_past l 8 c.args.from _ first in
    grind (arith, found)
