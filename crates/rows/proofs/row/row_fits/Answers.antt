use Rattle.std.proofs.Common.{rules, tests, ◌∙◌, ◌+◌, ◌*◌, ℕ, get_or, drop, leb, refl, arith}
use Rattle.std.proofs.lemmas.Iterator.{YieldsList-from_range, YieldsList-from_slice, YieldsList-from_zip}
use Rattle.std.proofs.lemmas.Iterator.Search.{all_from_yields_List}
use Rattle.rules.specs.Sizes.{base, from_rows}
use Rattle.rules.specs.Rows.{row_most}
use Rattle.rows.proofs.Chains.{within-all}
use Rattle.rows.proofs.row.row_fits.Goals as goal

pub returns : goal.returns
returns c =
    all_from_yields_List (λ (p : ℕ × ℕ). leb (get_or (drop from_rows c.args.ids.now) p.1 0) p.0) c.all.new.self _ _ c.all.ensures.ran (YieldsList-from_zip (YieldsList-from_slice (row_most base) (cc)) (YieldsList-from_range (c.args.t * 21) (c.args.t * 21 + 21) 21 (cc) (omega arith))) (λ x b q k. search (rules, tests))
    ∙ within-all (row_most base) (drop from_rows c.args.ids.now) (c.args.t * 21) 21 refl
