use Rattle.std.proofs.Common.{arith, refl, ap, sym, ◌∙◌, ◌≡◌, ◌+◌, length, length-take, zero-add, take, drop, take_all, length-drop, ◌-◌, ℕ, List}
use Rattle.std.proofs.lemmas.List.Edits.{sets}
use Rattle.rules.specs.Sizes.{base}
use Rattle.tables.specs.Lent.{held}
use Rattle.frames.specs.Frames.{line_of}
use Rattle.texts.specs.Lines.{up_to}
use Rattle.replays.specs.Told.{told}
use Rattle.replays.specs.BlockLaws.{running, running_more, running-stops, running-ends, block_run}
use Rattle.replays.proofs.runner.run_block.Goals.{else-loop-at-test, then-loop-at-test+then-out-used-lt-ANSWER}
use Rattle.replays.proofs.runner.run_block.Goals as goal

pub loop-at-init : goal.loop-at-init
loop-at-init c =
    let a = c.args in
    let y = c.gather-at in
    record {
      same = record { ids = refl; next = refl; state = refl; words = refl; guards = refl };
      long = refl;
      room = omega arith;
      short = rw y.ensures.text (simp length-take (omega arith));
      running = running base (held a.tables.now) a.kept.line a.kept.number a.input.now a.out.now 0 _ y.result (y.ensures.taken ∙ sym (zero-add _));
    }

pub loop-at-preserved : goal.loop-at-preserved
loop-at-preserved c =
    let i = c.args.input.now in
    let l = c.loop-at in
    let k : ℕ = l.at + 1 in
    let r = c.reply_to-reply in
    let y = c.gather in
    let a = l.invariant.same in
    let b = r.ensures.same in
    let rest : take (length i - k) (drop k i) ≡ drop k i = take_all (length i - k) (drop k i) (simp length-drop (omega arith)) in
    let taken : y.result ≡ length (up_to (drop k i)) = y.ensures.taken ∙ ap (λ (x : List ℕ). length (up_to x)) rest in
    record {
      same =
          record {
            ids = b.ids ∙ a.ids;
            next = b.next ∙ a.next;
            state = b.state ∙ a.state;
            words = b.words ∙ a.words;
            guards = b.guards ∙ a.guards;
          };
      long = omega arith;
      room = omega arith;
      short = rw y.ensures.text (simp length-take (omega arith));
      running =
          running_more base _ (held l.tables) l.line l.number i _ l.out 0 l.used _ l.at l.invariant.running _ (told r.result) c.read_line.result _ _ 29 _ _
          c.loop-at-test.true c.if-out-used-lt-ANSWER.false l.invariant.room (c.read_line.ensures ∙ ap line_of c.as_bytes.ensures) r.ensures.reply (c.word.ensures.0 ∙ ap (sets l.out l.used) c.text.ensures) refl refl (y.ensures.text ∙ rw (c.clear.ensures, rest)) (omega (arith, taken));
    }

pub returns-clause-block : goal.returns-clause-block
returns-clause-block c =
    let a = c.args in
    let l = c.loop-at in
    let y = c.gather-at in
    let run = l.invariant.running in
    block_run base (held a.tables.now) a.kept.line a.kept.number a.input.now a.out.now _ y.result _ a.kept.within y.ensures.text y.ensures.taken (
    elim c.loop-at-test.branch [
      | else-loop-at-test w ↦ running-ends base _ (held l.tables) l.line l.number a.input.now a.out.now l.out 0 l.used y.result l.at run w.loop-at-test.false
      | then-loop-at-test+then-out-used-lt-ANSWER w ↦
          running-stops base _ (held l.tables) l.line l.number a.input.now a.out.now l.out 0 l.used y.result l.at run w.loop-at-test.true w.if-out-used-lt-ANSWER.true
    ]
    )
