use Rattle.rows.specs.SearchLaws.{untaken_unused, untaken_damaged, untaken_on, untaken_out}
use Rattle.rules.specs.Step.{part}
use Rattle.rows.proofs.searches.lowest.Goals.{then-holder-eq0-via-then-holder-eq0, then-holder-eq0-via-else-holder-eq0+then-holder-gt-HOLDER}
use Rattle.rows.proofs.searches.lowest.Goals as goal

pub returns-then-holder-eq0 : goal.returns-then-holder-eq0
unfolding part
returns-then-holder-eq0 c = elim c.then-holder-eq0.branch [ then-holder-eq0-via-then-holder-eq0 w ↦ search untaken_unused | then-holder-eq0-via-else-holder-eq0+then-holder-gt-HOLDER w ↦ search untaken_damaged ]

pub loop-i-preserved : goal.loop-i-preserved
unfolding part
loop-i-preserved c = search untaken_on

pub returns : goal.returns
returns c = search untaken_out
