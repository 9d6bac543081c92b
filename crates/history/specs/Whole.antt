-- Demand 3, corollaries: on the tables of a run the test for 16 passes, and the steps counted, `nbulk_reclaims`, `count` and the totals do not wrap.
use Rattle.std.specs.Prelude.{◌≡◌, ◌⊎◌, true, List, ℕ, ◌+◌, ◌%◌, ◌^◌, ◌≤◌, ◌<◌, get_or}
use Rattle.std.proofs.Common.{arith}
use Rattle.rules.specs.Sizes.{steps, threads, Settings}
use Rattle.rules.specs.Step.{State, sizes}
use Rattle.lists.specs.Occ.{sum}
use Rattle.view.specs.View.{view_of}
use Rattle.view.specs.Given.{sizes-of}
use Rattle.view.specs.Long.{long}
use Rattle.view.specs.Turn.{row_in}
use Rattle.balance.specs.Balance.{owes, waiting}
use Rattle.balance.specs.CountStep.{waiting-le}
use Rattle.balance.specs.Tally.{inside, few}
use Rattle.balance.specs.Swing.{near-zero}
use Rattle.history.specs.Demand3.{Event, Run}
use Rattle.history.specs.Invariant.{Chosen, inv-run}

module _ (g : Settings) (C : Chosen g) {s : State} {h : List Event} (run : Run g s h) where
  -- the test for 16 passes
  pub sized : sizes s ≡ true
  sized = sizes-of s (inv-run g C run).sized

  pub ticks-below : (view_of s).counters.ticks ≤ steps
  ticks-below = (inv-run g C run).at.count.early

  -- `nbulk_reclaims` is the number of threads between B1 and C3
  pub bulk-is : (view_of s).counters.bulk_reclaims ≡ sum inside (view_of s).rows
  bulk-is = (inv-run g C run).at.tally.tally

  pub bulk-below : (view_of s).counters.bulk_reclaims ≤ threads
  bulk-below = few g (view_of s) (inv-run g C run).at.tally (long s).rows 0 (rw (long s).rows (omega arith))

  -- what an operation has reclaimed so far
  pub total-below : (t : ℕ) → t < threads → (row_in (view_of s) t).total ≤ (view_of s).counters.ticks
  total-below t h = (inv-run g C run).at.total t (rw (long s).rows h)

  pub count_fits : (view_of s).counters.count < 2 ^ 64
  count_fits = (inv-run g C run).at.count.fits

  -- as a signed number it is at most the steps counted away from 0, and so does not wrap
  pub count-near : ((view_of s).counters.count ≤ (view_of s).counters.ticks) ⊎ (2 ^ 64 ≤ (view_of s).counters.count + (view_of s).counters.ticks)
  count-near = near-zero (view_of s).counters.count (view_of s).counters.ticks count_fits (let a = (inv-run g C run).at.swing in omega arith)

  -- until shutdown starts, `count` and what the threads owe come to what waits, as words of 64 bits
  pub count-is : (view_of s).heads.mark ≡ 0 → ((view_of s).counters.count + sum owes (view_of s).rows) % 2 ^ 64 ≡ waiting (view_of s).nodes.state
  count-is m = let b = ((inv-run g C run).at.count.balance m).bal in let w = waiting-le (view_of s).nodes.state in let l = (long s).state in omega arith

  -- a node's state is one of the three
  pub states-below : (n : ℕ) → get_or (view_of s).nodes.state n 0 ≤ 2
  states-below n = (inv-run g C run).at.claim.states n
