-- What is left of the number stands before the digits that are written.
use Rattle.std.proofs.Common.{◌≡◌, ◌-◌, ◌≤◌, ◌<◌, drop, length}
use Rattle.texts.specs.Texts.{decimal_of}
use Rattle.texts.proofs.Digits.{ending}
use Rattle.texts.proofs.write_digits.Given as goal

abbrev pub invariant-loop-at : goal.invariant-loop-at
invariant-loop-at l = record {
  within : l.at ≤ 20;
  room : length l.out ≡ 20;
  more : 0 < l.at → decimal_of l.x ≡ ending (l.at - 1) l.rest (drop l.at l.out);
  all : l.at ≡ 0 → decimal_of l.x ≡ drop l.at l.out;
}
