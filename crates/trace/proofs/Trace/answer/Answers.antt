-- An answer that has room stands whole at the end of the text.
use Rattle.std.specs.Prelude.{ℕ, ◌+◌, ◌-◌, ◌≤◌, ◌≡◌, List, ◌++◌, length, take, drop}
use Rattle.std.proofs.Common.{arith, length-append, take_all, ap, ◌∙◌}
use Rattle.std.proofs.Math.Seq.{drop-append_seam}
use Rattle.trace.proofs.Trace.answer.Goals as goal

last_whole : (n : ℕ) (a b new : List ℕ) → new ≡ take n (a ++ b) → length a + length b ≤ n → drop (length new - length b) new ≡ b
last_whole n a b new e h =
    let whole : new ≡ a ++ b = e ∙ take_all n (a ++ b) (simp length-append (omega arith)) in
    let front : length new - length b ≡ length a = let k = ap length whole ∙ length-append a b in omega (arith, k) in
    ap (λ (m : ℕ). drop m new) front ∙ ap (drop (length a)) whole ∙ drop-append_seam a b

pub returns : goal.returns
returns c = last_whole 65536 c.room.new.self.text c.args.text.now c.say.new.self c.say.ensures (omega (arith, c.room.ensures.room, c.requires))
