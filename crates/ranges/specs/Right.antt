-- A step's effect, place by place: what it writes is in range, the row that it leaves too, the cell that it writes besides is one, and its answer is not 16 or 29.
use Rattle.std.specs.Prelude.{ℕ, ◌+◌, ◌*◌, ◌-◌, ◌/◌, ◌%◌, ◌^◌, ◌≤◌, ◌≡◌, Bool, true, false, eqb, ltb}
use Rattle.std.proofs.Common.{zero-le, subst, arith}
use borrow.Author.Tests.{eqb-true, eqb-false, ltb-false, le-ltb}
use Rattle.base.specs.Pick.{pick}
use Rattle.rules.specs.Sizes.{records, sources, nodes, threads, Settings}
use Rattle.rules.specs.Words.{with_lock}
use Rattle.rules.specs.Pc.{code}
use Rattle.rules.specs.declared.pc.Pc.{Pc}
use Rattle.rules.specs.declared.pc.Pc.TheVariants as Pc
use Rattle.rules.specs.Rows.{first, shard_in, stealing, keeping, stolen_from}
use Rattle.rules.specs.Places.{accesses, does, damaged, examine_from, examined, after_free, shut_next}
use Rattle.rules.specs.declared.Row.{Row}
use Rattle.rules.specs.declared.Seen.{Seen}
use Rattle.rules.specs.declared.Effect.{Effect}
use Rattle.rules.specs.declared.Named.{Named}
use Rattle.rules.specs.declared.Named.TheVariants as cell
use Rattle.bits.specs.BitLaws.{with-lock}
use Rattle.view.specs.Field.{IsId}
use Rattle.view.specs.View.{View, InTable, named}
use Rattle.view.specs.Ranges.{limit}
use Rattle.view.specs.Every.{every, two, At, pick_all, pick_case, either}
use Rattle.view.specs.Rest.{all-passed, all-checked, all-emptied}
use Rattle.view.specs.Turn.{beside, Sees, Fine}
use Rattle.heap.specs.Stage.{Stage, stage, ShapeOf}
use Rattle.heap.specs.Onward.{found}
use Rattle.records.specs.Hold.{Hold, hold}
use Rattle.ranges.specs.Range.{uses, Words, Below, below_set, below-idle, Fit}
use Rattle.ranges.specs.Names.{Knows, Known}

pub record Right (g : Settings) (c : Named) (e : Effect) : Type 0 where
  pub put : e.put ≤ limit c
  pub to : e.to ≤ limit e.also
  pub also : InTable e.also
  pub row : Fit g e.row

module _ (g : Settings) (v : View) (t : ℕ) (r : Row) (C : Known g v t r) where
  abbrev z : Fit g r
  z = C.fit

  -- ---- what it answers
  abbrev F : Pc → Effect → Type 0
  F p e = Fine e.number

  plain : {p : Pc} {e : Effect} → eqb e.number 16 ≡ false → eqb e.number 29 ≡ false → At F p e
  plain {p} {e} m n = record { holds = (eqb-false e.number 16 m, eqb-false e.number 29 n) }

  k_idle : (i : Seen) → Sees v t Pc.Idle r i → At F Pc.Idle (damaged r)
  k_idle i l = absurd (C.inside l.place)

  k_unknown : (i : Seen) → Sees v t Pc.Unknown r i → At F Pc.Unknown (damaged r)
  k_unknown i l = absurd (let a = z.words.place in let b = l.place in omega arith)

  -- a released record has no `available_next`
  kD2 : (i : Seen) → Sees v t Pc.D2 r i → Knows v t r Hold.clear → eqb i.v 0 ≡ false → At F Pc.D2 (damaged r)
  kD2 i l k e = absurd (eqb-false i.v 0 e (let a = k.0 in let b = l.x in let c = l.v in omega arith))

  -- the record that is taken or given back, and the kept list that is pushed, are there
  kA2 : Knows v t r Hold.looks → eqb r.rec 0 ≡ true → At F Pc.A2 (damaged r)
  kA2 k e = absurd (let a = eqb-true r.rec 0 e in omega arith)

  kP3 : Knows v t r Hold.aims → eqb r.rec 0 ≡ true → At F Pc.P3 (damaged r)
  kP3 k e = absurd (let a = eqb-true r.rec 0 e in let b = k.1 in omega arith)

  k_push2 : ShapeOf g Stage.pushes r → eqb r.unreclaimed 0 ≡ true → At F Pc.Push2 (damaged r)
  k_push2 k e = absurd (k.keep (eqb-true r.unreclaimed 0 e))

  pub fine : (p : Pc) (i : Seen) → Sees v t p r i → Fine (does g p r i).number
  fine p i l =
      (every (λ (p : Pc). Sees v t p r i → Knows v t r (hold p) → ShapeOf g (stage p) r → At F p (does g p r i))
      (search (two, either, plain, k_idle i, k_unknown i, kA2, kD2 i, kP3, k_push2) depth 16 fits 8000)
      p l (C.know p l.place) (C.shape p l.place)).holds

  -- ---- what it writes, and the row that it leaves
  abbrev K : Pc → Effect → Type 0
  K p e = Right g (named (accesses p r)) e

  fit : {x : Row} → Words g x → Below nodes x.stolen → Fit g x
  fit w s = record { words = w; stolen = s }

  leaf : {p : Pc} {e : Effect} → e.put ≤ limit (named (accesses p r)) → e.to ≤ limit e.also → InTable e.also → Fit g e.row → At K p e
  leaf a b c f = record { holds = record { put = a; to = b; also = c; row = f } }

  -- a row, word by word
  words : {x : Row} → ltb (code Pc.S3) x.place ≡ false → x.operation ≤ 12 → x.rec ≤ records → x.next ≤ records → x.source ≤ sources → uses x.place ≤ x.source → x.node ≤ nodes → x.seen ≤ nodes → x.shard ≤ g.shards - 1 → x.lone ≤ nodes → x.reclaimable ≤ nodes → x.unreclaimed ≤ nodes → x.tail ≤ nodes → x.unreclaimed ≤ nodes * x.tail → x.done ≤ 2 → Below nodes x.stolen → Fit g x
  words {x} a b c d e f h i j k l m n o p s = fit (record { place = ltb-false (code Pc.S3) x.place a; operation = b; rec = c; next = d; source = e; sourced = f; node = h; seen = i; shard = j; lone = k; reclaimable = l; unreclaimed = m; tail = n; tailed = o; done = p }) s

  least : (n : ℕ) → 0 ≤ n
  least n = zero-le

  wraps : (n : ℕ) → n % 2 ^ 64 ≤ 18446744073709551615
  wraps n = omega arith

  half : (n : ℕ) → n ≤ 2 * records + 1 → n / 2 ≤ records
  half n h = omega arith

  stole : (n : ℕ) → n ≤ nodes → Below nodes (stealing n r).stolen
  stole n h = below_set nodes r.stolen (shard_in r) n h z.stolen

  -- ---- what is read
  saw : {p : Pc} {i : Seen} → Sees v t p r i → i.v ≤ limit (named (accesses p r))
  saw {p} l = let a = (C.held (named (accesses p r))).limit in let b = l.x in let c = l.v in omega arith

  saws : {p : Pc} {i : Seen} → Sees v t p r i → i.w ≤ limit (beside p r i.untaken)
  saws {p} {i} l = let a = (C.held (beside p r i.untaken)).limit in let b = l.y in let c = l.w in omega arith

  -- what N1 takes is a record
  taken : (i : Seen) → Sees v t Pc.N1 r i → eqb i.untaken 0 ≡ false → IsId records i.untaken
  taken i l e = subst (λ (b : Bool). InTable (pick b cell.Nothing (cell.Holder i.untaken))) e l.beyond

  taken_in : (i : Seen) → Sees v t Pc.N1 r i → eqb i.untaken 0 ≡ false → i.untaken ≤ records
  taken_in i l e = (taken i l e).1

  -- ---- where a pass goes on
  fit_from : (k : ℕ) (x : Row) → k ≤ g.shards → Fit g x → Fit g (examine_from g k x)
  unfolding examine_from
  fit_from k x h f =
      let a = (found x.stolen k (g.shards - k)).high in
      pick_case (Fit g) (eqb (stolen_from x.stolen k (g.shards - k)) g.shards) _ _ (λ _. fit (omega arith) f.stolen)
      (λ e. let n = eqb-false (stolen_from x.stolen k (g.shards - k)) g.shards e in fit (omega arith) f.stolen)

  -- the shard after the row's
  onward : (x : Row) → Fit g x → shard_in x + 1 ≤ g.shards
  onward x f = let a = f.words.shard in let b = C.allowed.some in omega arith

  fit-examined : (n : ℕ) (x : Row) → Fit g x → Fit g (examined g n x)
  unfolding examined
  fit-examined n x f = pick_all (Fit g) (eqb n 0) _ _ (pick_all (Fit g) (eqb x.reclaimable 0) _ _ (fit_from (shard_in x + 1) x (onward x f) f) (fit (omega arith) f.stolen)) f

  fit-reclaimed : (n : ℕ) (x : Row) → Fit g x → Fit g (after_free g n x)
  unfolding after_free
  fit-reclaimed n x f = pick_all (Fit g) (eqb n 0) _ _ (fit_from (shard_in x + 1) x (onward x f) f) f

  fit-shut : (x : Row) → Fit g x → Fit g (shut_next g x)
  unfolding shut_next
  fit-shut x f =
      let a = onward x f in
      pick_case (Fit g) (eqb (shard_in x + 1) g.shards) _ _ (λ _. fit (omega arith) f.stolen) (λ e. let n = eqb-false (shard_in x + 1) g.shards e in fit (omega arith) f.stolen)

  -- ---- what a place knows besides
  record_in : Knows v t r Hold.clear → IsId records r.rec
  record_in k = k.1

  put_in : eqb r.node 0 ≡ false → IsId nodes r.node
  put_in e = let n = eqb-false r.node 0 e in omega arith

  lone_in : ShapeOf g Stage.lone r → IsId nodes r.lone
  lone_in k = let a = k.lone in omega arith

  tail_in : ShapeOf g Stage.pushes r → IsId nodes r.tail
  tail_in k = let a = k.keep in omega arith

  next-shard : eqb (shard_in r + 1) g.shards ≡ false → shard_in r + 1 ≤ g.shards - 1
  next-shard e = let n = eqb-false (shard_in r + 1) g.shards e in let d = onward r z in omega arith

  -- a node that is kept is the last where none was
  kept : (n : ℕ) → n ≤ nodes → IsId nodes (first r) → Fit g (keeping (first r) (pick (eqb r.unreclaimed 0) (first r) r.tail) (stealing n r))
  kept n h q = pick_case (λ (y : ℕ). Fit g (keeping (first r) y (stealing n r))) (eqb r.unreclaimed 0) _ _ (λ _. fit (omega arith) (stole n h)) (λ e. let b = eqb-false r.unreclaimed 0 e in fit (omega arith) (stole n h))

  pub right : (p : Pc) (i : Seen) → Sees v t p r i → K p (does g p r i)
  right p i l =
      let w = z.words in
      let place : ltb (code Pc.S3) r.place ≡ false = le-ltb (code Pc.S3) r.place z.words.place in
      let one : 1 ≤ 2 = omega arith in
      let both : 2 ≤ 2 = omega arith in
      let free : 1 ≤ threads + 1 = omega arith in
      let mine : i.thread + 2 ≤ threads + 1 = (let a = C.thread in let b = l.thread in omega arith) in
      let lock : with_lock (r.rec * 2) ≤ 2 * records + 1 = (let w = with-lock r.rec in omega arith) in
      let given : r.rec * 2 ≤ 2 * records + 1 = omega arith in
      let back : r.next * 2 ≤ 2 * records + 1 = omega arith in
      (every (λ (p : Pc). Sees v t p r i → i.v ≤ limit (named (accesses p r)) → i.w ≤ limit (beside p r i.untaken) → InTable (named (accesses p r)) → Knows v t r (hold p) → ShapeOf g (stage p) r → uses (code p) ≤ r.source → At K p (does g p r i))
      (search (two, either, leaf, tt, taken i, taken_in i, record_in, put_in, lone_in, tail_in, next-shard, kept, z, w.operation, w.rec, w.next, w.source, w.sourced, w.node, w.seen, w.shard, w.lone, w.reclaimable, w.unreclaimed, w.tail, w.tailed, w.done, z.stolen, below-idle, stole, least, wraps, half, pick_all (Fit g), all-passed (Fit g) g, all-checked (Fit g) g, all-emptied (Fit g) g, fit_from, fit-examined, fit-reclaimed, fit-shut, words) depth 16 fits 8000)
      p l (saw l) (saws l) l.reach (C.know p l.place) (C.shape p l.place) (subst (λ (n : ℕ). uses n ≤ r.source) l.place z.words.sourced)).holds
