-- What is in range: the words of a row that the test for 29 looks at, and the content of every cell.
use Rattle.std.specs.Prelude.{ℕ, ◌+◌, ◌*◌, ◌-◌, ◌≤◌, ◌<◌, ◌≡◌, List, eqb, ltb, length, get_or, set}
use Rattle.std.proofs.Math.Decide.{ℕ_discrete, dec_lt}
use Rattle.std.proofs.Common.{arith, get_or-set_same, get_or-set_other}
use Rattle.std.proofs.Math.Seq.{set_out}
use Rattle.base.specs.Pick.{pick}
use Rattle.rules.specs.Sizes.{records, sources, nodes, threads, Settings}
use Rattle.rules.specs.declared.pc.Pc.TheVariants as Pc
use Rattle.rules.specs.Pc.{code}
use Rattle.rules.specs.Rows.{idle}
use Rattle.rules.specs.declared.Row.{Row}
use Rattle.rules.specs.declared.Effect.{Effect}
use Rattle.rules.specs.declared.Entry.{Entry}
use Rattle.rules.specs.declared.Guards.{Guards}
use Rattle.rules.specs.declared.Named.{Named}
use Rattle.rules.specs.declared.Named.TheVariants as cell
use Rattle.lists.specs.Each.{Each, each-put}
use Rattle.lists.specs.Tab.{zeros}
use Rattle.view.specs.Field.{cleared}
use Rattle.view.specs.View.{View, put, tick, shut, seat, applies, enters}
use Rattle.view.specs.Ranges.{limit}
use Rattle.view.specs.Every.{pick_all}

-- ---- rows
-- 1 where the place uses the row's source: V0 to V3 and a swap
abbrev pub uses : ℕ → ℕ
uses p = pick (ltb p (code Pc.V0)) 0 (pick (ltb (code Pc.V3) p) (pick (eqb p (code Pc.Swap)) 1 0) 1)

pub record Words (g : Settings) (r : Row) : Type 0 where
  pub place : r.place ≤ code Pc.S3
  pub operation : r.operation ≤ 12
  pub rec : r.rec ≤ records
  pub next : r.next ≤ records
  pub source : r.source ≤ sources
  pub sourced : uses r.place ≤ r.source
  pub node : r.node ≤ nodes
  pub seen : r.seen ≤ nodes
  pub shard : r.shard ≤ g.shards - 1
  pub lone : r.lone ≤ nodes
  pub reclaimable : r.reclaimable ≤ nodes
  pub unreclaimed : r.unreclaimed ≤ nodes
  pub tail : r.tail ≤ nodes
  -- a kept list that is not empty has a last node
  pub tailed : r.unreclaimed ≤ nodes * r.tail
  pub done : r.done ≤ 2

-- every element of the list is at most m
abbrev pub Below : ℕ → List ℕ → Type 0
Below m l = (k : ℕ) → get_or l k 0 ≤ m

pub record Fit (g : Settings) (r : Row) : Type 0 where
  pub words : Words g r
  pub stolen : Below nodes r.stolen

pub below_set : (m : ℕ) (l : List ℕ) (i x : ℕ) → x ≤ m → Below m l → Below m (set l i x)
below_set m l i x h b k = go (ℕ_discrete k i) (dec_lt i (length l))
  where
    go : Dec (k ≡ i) → Dec (i < length l) → get_or (set l i x) k 0 ≤ m
    go (yes e) (yes q) = rw (e, get_or-set_same l i x 0 q) h
    go (yes e) (no q) = rw (set_out l i x (omega arith)) (b k)
    go (no e) q = rw (get_or-set_other l i k x 0 e) (b k)

pub below-idle : Below nodes idle.stolen
below-idle k = rw (zeros 8 k) (omega arith)

pub below-cleared : (m : ℕ) (l : List ℕ) → Below m (cleared l)
below-cleared m l k = rw (zeros (length l) k) (omega arith)

-- ---- the layer: every row and every cell
pub record Ranges (g : Settings) (v : View) : Type 0 where
  pub rows : Each idle (λ u r. Fit g r) v.rows
  pub record_head : v.heads.record_head ≤ records
  pub head_available : v.heads.head_available ≤ 2 * records + 1
  pub mark : v.heads.mark ≤ 2
  pub shards : Below nodes v.heads.shards
  pub record_count : v.counters.record_count ≤ 18446744073709551615
  pub count : v.counters.count ≤ 18446744073709551615
  pub due_time : v.counters.due_time ≤ 18446744073709551615
  pub bulk_reclaims : v.counters.bulk_reclaims ≤ 18446744073709551615
  pub hazard : Below nodes v.records.hazard
  pub available_next : Below records v.records.available_next
  pub record_next : Below records v.records.next
  pub holder : Below (threads + 1) v.records.holder
  pub sources : Below nodes v.sources
  pub next : Below nodes v.nodes.next
  pub state : Below 2 v.nodes.state

-- ---- how it moves
module _ (g : Settings) where
  puts : (v : View) (c : Named) (x : ℕ) → x ≤ limit c → Ranges g v → Ranges g (put c x v)
  puts v cell.Nothing x h C = C
  puts v cell.RecordHead x h C = search
  puts v cell.HeadAvailable x h C = search
  puts v cell.Shutdown x h C = search
  puts v (cell.ShardHead k) x h C = search below_set
  puts v cell.RecordCount x h C = search
  puts v cell.Count x h C = search
  puts v cell.DueTime x h C = search
  puts v cell.BulkReclaims x h C = search
  puts v (cell.Hazard r) x h C = search below_set
  puts v (cell.AvailableNext r) x h C = search below_set
  puts v (cell.RecordNext r) x h C = search below_set
  puts v (cell.Holder r) x h C = search below_set
  puts v (cell.Source b) x h C = search below_set
  puts v (cell.NodeNext n) x h C = search below_set
  puts v (cell.NodeState n) x h C = search below_set

  shuts : (v : View) → Ranges g v → Ranges g (shut v)
  shuts v C = search (below-cleared, arith)

  ticks : (v : View) → Ranges g v → Ranges g (tick v)
  ticks v C = search

  seats : (v : View) (t : ℕ) (r : Row) (m : Guards) → t < length v.rows → Fit g r → Ranges g v → Ranges g (seat t r m v)
  seats v t r m ht z C = search (each-put idle (λ u x. Fit g x) v.rows t r ht z C.rows)

  -- thread t's step at c has the effect e
  pub applied : (v : View) (t : ℕ) (c : Named) (e : Effect) → t < length v.rows → e.put ≤ limit c → e.to ≤ limit e.also → Fit g e.row → Ranges g v → Ranges g (applies t c e v)
  applied v t c e ht p q z C =
      let a = seats v t e.row e.guards ht z C in
      let b = pick_all (Ranges g) e.writes _ _ (puts _ c e.put p a) a in
      let d = puts _ e.also e.to q b in
      ticks _ (pick_all (Ranges g) e.closes _ _ (shuts _ d) d)

  -- a start of thread t
  pub entered : (v : View) (t : ℕ) (e : Entry) → t < length v.rows → e.put ≤ limit e.cell → Fit g e.row → Ranges g v → Ranges g (enters t e v)
  entered v t e ht p z C = puts _ e.cell e.put p (let a = each-put idle (λ u x. Fit g x) v.rows t e.row ht z C.rows in search a)
