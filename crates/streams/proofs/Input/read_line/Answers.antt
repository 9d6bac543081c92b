use Rattle.std.proofs.Common.{rules, arith, ap, sym, ◌∙◌, length, take, ◌≡◌, ◌≤◌, List, ℕ, [], ◌++◌, drop_of_length-le}
use Rattle.std.proofs.lemmas.List.{length-take}
use Rattle.texts.specs.Lines.{up_to}
use Rattle.streams.proofs.Lines.{front_on, front_none, front_end, front_stop}
use Rattle.streams.proofs.Input.read_line.Goals.{else-loop-test, then-loop-test+then-is_empty}
use Rattle.streams.proofs.Input.read_line.Goals as goal

pub returns-then-is_whole-clause-front : goal.returns-then-is_whole-clause-front
returns-then-is_whole-clause-front g c =
    let u = up_to c.args.self.now in
    ap (take (length u)) c.gather-n.ensures.text
    ∙ front_on g.row.L u c.loop.line c.loop.self c.fill-block.result.now c.loop.invariant.front c.fill-block.ensures.left c.loop.invariant.within

pub loop-preserved : goal.loop-preserved
loop-preserved g c =
    let u = up_to c.args.self.now in
    let i = c.loop.invariant in
    let front : take (length u) c.gather-n.new.self ≡ take g.row.L u = ap (take (length u)) c.gather-n.ensures.text ∙ front_on g.row.L u c.loop.line c.loop.self c.fill-block.result.now i.front c.fill-block.ensures.left i.within in
    let b = c.fill-block.result.now in
    let all : c.take.new.self ≡ [] = c.take.ensures ∙ drop_of_length-le c.fill-block.follows.lender-at-none (let k = ap length c.fill-block.follows.holds-at-none in omega (arith, k, c.if-is_whole.false)) in
    let within : length c.gather-n.new.self ≤ g.row.L = rw c.gather-n.ensures.text (let t = length-take g.row.L (c.loop.line ++ up_to b) in omega (arith, t)) in
    record {
      front = front_none g.row.L u c.gather-n.new.self c.take.new.self front all within;
      within = within;
      taken = λ _. all;
      left = λ h.
          let v = i.left h in
          let same : b ≡ c.args.self.now = c.fill-block.ensures.left (λ z. absurd (let k = ap length (sym v.1 ∙ z) in omega (arith, k, h))) ∙ v.1 in
          absurd (let k = ap length same in let m = ap (λ (s : List ℕ). length (up_to s)) same in omega (arith, k, m, h, c.gather-n.ensures.taken, c.if-is_whole.false));
    }

pub returns-then-len-eq0-clause-front : goal.returns-then-len-eq0-clause-front
returns-then-len-eq0-clause-front g c =
    let u = up_to c.args.self.now in
    let i = c.loop.invariant in
    elim c.loop-test.branch [
      | else-loop-test w ↦ front_end g.row.L u c.loop.line c.loop.self i.front (i.taken (search rules)) i.within
      | then-loop-test+then-is_empty w ↦ front_stop g.row.L u c.loop.line c.loop.self w.fill-block.result.now i.front w.fill-block.ensures.left (search rules) i.within
    ]

pub returns-else-len-eq0-clause-front : goal.returns-else-len-eq0-clause-front
returns-else-len-eq0-clause-front g c =
    let u = up_to c.args.self.now in
    let i = c.loop.invariant in
    elim c.loop-test.branch [
      | else-loop-test w ↦ front_end g.row.L u c.loop.line c.loop.self i.front (i.taken (search rules)) i.within
      | then-loop-test+then-is_empty w ↦ front_stop g.row.L u c.loop.line c.loop.self w.fill-block.result.now i.front w.fill-block.ensures.left (search rules) i.within
    ]
