use Rattle.std.proofs.Common.{length-take, length-drop, arith}
use Rattle.frames.specs.HexLaws.{take_digits, drop_digits}
use Rattle.frames.proofs.fields_in.Goals as goal

pub number-requires : goal.number-requires
number-requires c = (simp length-take (omega arith), search take_digits)

pub number-requires-2 : goal.number-requires-2
number-requires-2 c = (simp (length-take, length-drop) (omega arith), search (take_digits, drop_digits))

pub number-requires-3 : goal.number-requires-3
number-requires-3 c = (simp (length-take, length-drop) (omega arith), search (take_digits, drop_digits))

pub number-requires-4 : goal.number-requires-4
number-requires-4 c = (simp (length-take, length-drop) (omega arith), search (take_digits, drop_digits))

pub number-requires-5 : goal.number-requires-5
number-requires-5 c = (simp (length-take, length-drop) (omega arith), search (take_digits, drop_digits))
