-- What a reply is as an answer line's number, thread and value.
use Rattle.rules.specs.Answers.{answer_of}
use Rattle.replays.specs.Replay as replay
use Rattle.replays.specs.Replay.{reply}
use Rattle.replays.specs.declared.Reply.{Reply}
use Rattle.replays.specs.declared.Reply.TheVariants.{Thread, Bad}

abbrev pub told : Reply → replay.Reply
told (Thread t a) = reply (answer_of a).number t (answer_of a).value
told (Bad n) = reply 28 0 n
