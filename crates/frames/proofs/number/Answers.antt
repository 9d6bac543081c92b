use Rattle.std.proofs.Common.{◌+◌, ◌*◌, ◌^◌, ◌<◌, get_or, refl, arith}
use Rattle.frames.specs.Hex.{digit_of}
use Rattle.frames.specs.LoopLaws.{reads_below, reads_fit, reads_more, reads_all}
use Rattle.frames.proofs.number.Goals as goal

pub overflow_mul-v : goal.overflow_mul-v
overflow_mul-v c =
    let f : c.loop-b.v * 16 + digit_of (get_or c.args.digits.now c.loop-b.b-index 0) < 2 ^ 64 =
    reads_fit _ _ _ _ refl c.loop-b-test.true c.requires.1 c.loop-b.invariant.0 c.requires.0
    in omega arith

pub overflow_add-v : goal.overflow_add-v
overflow_add-v c = search reads_fit

pub loop-b-preserved : goal.loop-b-preserved
loop-b-preserved c = (search reads_below, search reads_more)

pub returns : goal.returns
returns c = search reads_all
