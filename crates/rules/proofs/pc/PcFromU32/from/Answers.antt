use Rattle.std.proofs.Common.{◌≤◌, arith}
use Rattle.rules.proofs.pc.PcFromU32.from.Goals as goal

pub returns : goal.returns
returns c =
    let u = c.unwrap_or.ensures in
    let p = c.copied.ensures in
    let l = c.get.ensures.lookup in
    let q : c.args.n ≤ c.args.n = omega arith in
    rw (u, p) (l.4 q Rattle.rules.specs.declared.pc.Pc.TheVariants.Unknown)
