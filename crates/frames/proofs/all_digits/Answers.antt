use Rattle.std.proofs.Common.{rules, tests, ◌∙◌, ltb}
use Rattle.std.proofs.lemmas.Iterator.{YieldsList-from_slice}
use Rattle.std.proofs.lemmas.Iterator.Search.{all_from_yields_List}
use Rattle.frames.specs.Hex.{digit_of}
use Rattle.frames.proofs.Listed.{all_listed}
use Rattle.frames.proofs.all_digits.Goals as goal

pub returns : goal.returns
returns c =
    all_from_yields_List (λ b. ltb (digit_of b) 16) _ _ _ c.all.ensures.ran (YieldsList-from_slice _ (cc)) (λ x b q k. search (rules, tests))
    ∙ all_listed _
