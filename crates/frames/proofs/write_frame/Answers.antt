use Rattle.frames.specs.Frames.{frame_of}
use Rattle.frames.proofs.write_frame.Goals as goal

pub returns : goal.returns
unfolding frame_of
returns c = cc
