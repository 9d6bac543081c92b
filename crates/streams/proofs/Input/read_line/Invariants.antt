-- The line and what is left begin with what was left at first. A round that finds no newline takes all.
use Rattle.std.proofs.Common.{◌≡◌, ◌<◌, ◌≤◌, [], ◌++◌, length, take}
use Rattle.texts.specs.Lines.{up_to}
use Rattle.streams.proofs.Input.read_line.Given as goal

abbrev pub invariant-loop : goal.invariant-loop
invariant-loop g l = record {
  front : take (length (up_to l.fn.self)) (take g.row.L (l.line ++ up_to l.self)) ≡ take g.row.L (up_to l.fn.self);
  within : length l.line ≤ g.row.L;
  taken : 0 < l.counter → l.self ≡ [];
  left : length (up_to l.fn.self) < length l.fn.self → (l.line ≡ []) × (l.self ≡ l.fn.self) × (l.counter ≡ 0);
}
