use Rattle.std.proofs.Common.{◌∙◌, ◌+◌, ap, set, length, length-set, arith}
use Rattle.rows.proofs.Copies.{storing_more, storing_all}
use Rattle.rows.proofs.row.put_all.Goals as goal

pub loop-i-preserved : goal.loop-i-preserved
loop-i-preserved g c = (ap length c.put.ensures ∙ simp length-set c.loop-i.invariant.0, storing_more _ _ _ _ _ _ c.index-ws-i.result c.loop-i.invariant.1 (omega arith) (c.put.ensures ∙ ap (set c.loop-i.t (c.args.b + c.loop-i.i)) c.index-ws-i.is))

pub returns : goal.returns
returns g c = storing_all _ _ _ _ _ c.loop-i.invariant.1 (omega arith)
