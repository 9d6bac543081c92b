use Rattle.std.specs.Prelude.{ℕ, List, ◌++◌, take}
use Rattle.std.proofs.Common.{arith, sym, ap, ◌∙◌}
use Rattle.texts.specs.Texts.{decimal_of}
use Rattle.texts.proofs.Digits.{decimal_digit}
use Rattle.texts.proofs.Room.{whole, decimal_most}
use Rattle.texts.proofs.Text.number.Goals as goal

pub returns-then-x-lt10-clause-whole : goal.returns-then-x-lt10-clause-whole
returns-then-x-lt10-clause-whole g c h =
    let a = c.args in
    let e = ap (λ (d : List ℕ). take g.row.N (a.self.now ++ d)) (sym (decimal_digit a.x (omega arith))) in
    whole g.row.N 20 a.self.now (decimal_of a.x) c.put.new.self (c.put.ensures ∙ e) (decimal_most a.x) h
