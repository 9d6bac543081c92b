use Rattle.std.proofs.Common.{rules, tests, ◌∙◌, ◌+◌, ◌*◌, get_or, drop, ltb, refl, arith}
use Rattle.std.proofs.lemmas.Iterator.{YieldsList-from_range}
use Rattle.std.proofs.lemmas.Iterator.Search.{any_from_yields_List}
use Rattle.rows.proofs.Chains.{any_above-listed}
use Rattle.rows.proofs.searches.any_above.Goals as goal

pub returns : goal.returns
returns c =
    any_from_yields_List (λ j. ltb c.args.m (get_or (drop c.args.from c.args.ids.now) (j * c.args.w + c.args.k) 0)) _ _ _ c.any.ensures.ran (YieldsList-from_range 0 c.args.n c.args.n refl (omega arith)) (λ x b q k. search (rules, tests))
    ∙ any_above-listed (drop c.args.from c.args.ids.now) c.args.m c.args.w c.args.k 0 c.args.n
