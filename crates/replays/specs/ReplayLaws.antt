-- How the answer to a line is put together: the arms of the `match` on a line.
use Rattle.std.specs.Prelude.{◌≡◌, ℕ, Bool}
use Rattle.std.proofs.Math.Path.{ap}
use Rattle.std.proofs.Common.{sym, ◌∙◌}
use Rattle.rules.specs.Sizes.{Settings}
use Rattle.rules.specs.Step.{State, out, step_of}
use Rattle.rules.specs.Start.{start_of}
use Rattle.rules.specs.declared.answer.Answer.{Answer}
use Rattle.rules.specs.declared.Operation.{Operation}
use Rattle.frames.specs.declared.Line.{Line}
use Rattle.frames.specs.declared.Line.TheVariants.{Step, Start, Bad}
use Rattle.replays.specs.Replay.{reply, replied, by_thread, reply_to}

module _ (g : Settings) (s s' : State) (n : ℕ) (l : Line) where
  pub steps : (a : Answer) (t : ℕ) (flag : Bool) (clock : ℕ) → l ≡ Step t flag clock → out a s' ≡ step_of g s t flag clock → replied (reply a.number t a.value) s' ≡ reply_to g s n l
  unfolding reply_to
  steps a t flag clock e p = ap (by_thread t) p ∙ ap (reply_to g s n) (sym e)

  pub starts : (a : Answer) (t : ℕ) (o : Operation) → l ≡ Start t o → out a s' ≡ start_of g s t o → replied (reply a.number t a.value) s' ≡ reply_to g s n l
  unfolding reply_to
  starts a t o e p = ap (by_thread t) p ∙ ap (reply_to g s n) (sym e)

pub refuses : (g : Settings) (s : State) (n : ℕ) (l : Line) → l ≡ Bad → replied (reply 28 0 n) s ≡ reply_to g s n l
unfolding reply_to
refuses g s n l e = ap (reply_to g s n) (sym e)
