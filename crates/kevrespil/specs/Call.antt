-- A start by the numbers of its frame.
use Rattle.std.specs.Prelude.{◌≡◌}
use Rattle.std.proofs.Common.{ap, sym, ◌∙◌}
use Rattle.rules.specs.Sizes.{Settings}
use Rattle.rules.specs.Step.{State, Out, refused}
use Rattle.rules.specs.Start.{start_of}
use Rattle.frames.specs.declared.Line.{Line}
use Rattle.frames.specs.declared.Line.TheVariants.{Step, Start, Bad}

-- a line that is no start answers 28 and does not touch the machine
unfoldable pub begun : Settings → State → Line → Out
begun g s (Step t flag clock) = refused 28 s
begun g s (Start t o) = start_of g s t o
begun g s Bad = refused 28 s

-- an arm of the match on a line
pub begins : (g : Settings) (s : State) (l m : Line) (o : Out) → l ≡ m → o ≡ begun g s m → o ≡ begun g s l
begins g s l m o p q = q ∙ ap (begun g s) (sym p)

-- a line that was read from numbers
pub meant : (g : Settings) (s : State) (l m : Line) (o : Out) → o ≡ begun g s l → l ≡ m → o ≡ begun g s m
meant g s l m o p q = p ∙ ap (begun g s) q
