-- One line of a replay: what it answers, and the tables after it.
use Rattle.std.specs.Prelude.{ℕ, Bool, List}
use Rattle.base.specs.Pick.{pick}
use Rattle.rules.specs.Sizes.{Settings}
use Rattle.rules.specs.Step.{State, Out, step_of}
use Rattle.rules.specs.Start.{start_of}
use Rattle.frames.specs.Frames.{line_of, answer_of}
use Rattle.frames.specs.declared.Line.{Line}
use Rattle.frames.specs.declared.Line.TheVariants.{Step, Start, Bad}

pub record Reply : Type 0 where
  pub number : ℕ
  pub thread : ℕ
  pub value : ℕ

abbrev pub reply : ℕ → ℕ → ℕ → Reply
reply number thread value = record { number = number; thread = thread; value = value }

pub record Replied : Type 0 where
  pub reply : Reply
  pub state : State

abbrev pub replied : Reply → State → Replied
replied r s = record { reply = r; state = s }

-- the answer with the line's own thread
abbrev pub by_thread : ℕ → Out → Replied
by_thread t o = replied (reply o.answer.number t o.answer.value) o.state

-- a bad line, the n-th, answers 28 with thread 0 and does not touch the machine
unfoldable pub reply_to : Settings → State → ℕ → Line → Replied
reply_to g s n (Step t flag clock) = by_thread t (step_of g s t flag clock)
reply_to g s n (Start t o) = by_thread t (start_of g s t o)
reply_to g s n Bad = replied (reply 28 0 n) s

-- a last line without its newline is bad
abbrev pub line_in : List ℕ → Bool → Line
line_in bytes whole = pick whole (line_of bytes) Bad

pub record Ran : Type 0 where
  pub text : List ℕ
  pub state : State

abbrev pub ran : List ℕ → State → Ran
ran text s = record { text = text; state = s }

abbrev pub written : Replied → Ran
written r = ran (answer_of r.reply.number r.reply.thread r.reply.value) r.state

unfoldable pub ran_line : Settings → State → List ℕ → Bool → ℕ → Ran
ran_line g s bytes whole n = written (reply_to g s n (line_in bytes whole))
