use Rattle.std.proofs.Common.{arith, length-set, sym, ◌∙◌}
use Rattle.texts.proofs.Digits.{written_more, written_last, written_all}
use Rattle.texts.proofs.write_digits.Goals as goal

pub returns-then-rest-eq0-clause-value : goal.returns-then-rest-eq0-clause-value
returns-then-rest-eq0-clause-value c =
    let l = c.loop-at in
    sym (l.invariant.more c.loop-at-test.true ∙ written_last l.out l.at l.rest (omega arith) (omega arith) c.if-rest-eq0.true)

pub loop-at-preserved : goal.loop-at-preserved
loop-at-preserved c =
    let l = c.loop-at in
    record {
      within = omega arith;
      room = simp length-set (omega arith);
      more = λ h. l.invariant.more c.loop-at-test.true ∙ written_more l.out l.at l.rest (omega arith) (omega arith) h c.if-rest-eq0.false;
      all = λ h. l.invariant.more c.loop-at-test.true ∙ written_all l.out l.at l.rest (omega arith) (omega arith) h;
    }
