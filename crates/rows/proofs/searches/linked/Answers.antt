use Rattle.std.proofs.Common.{rules, tests, ◌∙◌, get_or, eqb, refl}
use Rattle.std.proofs.lemmas.Iterator.{YieldsList-from_range}
use Rattle.std.proofs.lemmas.Iterator.Search.{any_from_yields_List}
use Rattle.rules.specs.Sizes.{sources, from_sources}
use Rattle.rules.specs.Step.{part}
use Rattle.rows.proofs.Chains.{any_is-listed}
use Rattle.rows.proofs.searches.linked.Goals as goal

pub returns : goal.returns
unfolding part
returns c =
    any_from_yields_List (λ j. eqb (get_or (part from_sources sources c.args.ids.now) j 0) c.args.n) _ _ _ c.any.ensures.ran (YieldsList-from_range 0 64 64 refl refl) (λ x b q k. search (rules, tests))
    ∙ any_is-listed (part from_sources sources c.args.ids.now) c.args.n 0 sources
