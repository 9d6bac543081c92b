-- The tables stay the caller's, and what is left of the block is what is left to run.
use Rattle.std.proofs.Common.{length, ◌-◌, ◌≡◌, ◌≤◌}
use Rattle.rules.specs.Sizes.{base}
use Rattle.tables.specs.Lent.{held, AreSame}
use Rattle.replays.specs.BlockLaws.{Running}
use Rattle.replays.specs.Runner.{stand}
use Rattle.replays.proofs.runner.run_block.Given as goal

abbrev pub invariant-loop-at : goal.invariant-loop-at
invariant-loop-at l = record {
  same : AreSame l.fn.tables l.tables;
  long : length l.out ≡ length l.fn.out;
  room : l.used ≤ length l.out;
  short : length l.line ≤ 29;
  running : Running base (stand (held l.fn.tables) l.initial.line l.initial.number) (stand (held l.tables) l.line l.number) l.input l.fn.out l.out l.initial.used l.used l.initial.at l.at;
}

abbrev pub decreases-loop-at : goal.decreases-loop-at
decreases-loop-at l = length l.input - l.at
