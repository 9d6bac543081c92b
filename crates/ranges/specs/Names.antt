-- The names that a step uses are cells': what the other layers know of a thread's ids, place by place.
use Rattle.std.specs.Prelude.{ℕ, ◌+◌, ◌*◌, ◌≤◌, ◌<◌, ◌≡◌, ◌≢◌, eqb, get_or}
use Rattle.std.proofs.Common.{◌∙◌, subst, arith, eqb-true}
use Rattle.std.proofs.lemmas.Bool.{eqb-false}
use Rattle.rules.specs.Sizes.{records, nodes, threads, Settings}
use Rattle.rules.specs.Pc.{code}
use Rattle.rules.specs.declared.pc.Pc.{Pc}
use Rattle.rules.specs.declared.pc.Pc.TheVariants as Pc
use Rattle.rules.specs.declared.Class.{Class}
use Rattle.rules.specs.declared.Class.TheVariants.{Anything, ARecord, ANode, AnAvailable, AState, AHolder, NoCell}
use Rattle.rules.specs.Rows.{first, shard_in}
use Rattle.rules.specs.Places.{accesses}
use Rattle.rules.specs.declared.Row.{Row}
use Rattle.rules.specs.declared.Named.{Named}
use Rattle.rules.specs.declared.Named.TheVariants as cell
use Rattle.view.specs.Field.{IsId}
use Rattle.view.specs.View.{View, InTable, get, named}
use Rattle.view.specs.Written.{plain}
use Rattle.view.specs.Ranges.{limit}
use Rattle.view.specs.Every.{every, two, pick_all, pick_case}
use Rattle.view.specs.Turn.{beside}
use Rattle.heap.specs.Stage.{Allowed, Want, Is, ShapeOf, stage}
use Rattle.records.specs.Hold.{Hold, KnowOf, hold}
use Rattle.ranges.specs.Range.{uses, Fit, Ranges}

-- ---- contents
abbrev pub InClass : Class → ℕ → Type 0
InClass Anything x = x ≤ 18446744073709551615
InClass ARecord x = x ≤ records
InClass ANode x = x ≤ nodes
InClass AnAvailable x = (x ≢ 1) × (x ≤ 2 * records + 1)
InClass AState x = x ≤ 2
InClass AHolder x = x ≤ threads + 1
InClass NoCell x = ⊥

-- what a cell holds is within the limit of its kind, by name and by class
pub record Held (c : Named) (x : ℕ) : Type 0 where
  pub limit : x ≤ limit c
  pub word : x ≤ 18446744073709551615
  pub range : InClass (plain c).class x

pub holds : (g : Settings) (v : View) → Ranges g v → v.heads.head_available ≢ 1 → (c : Named) → Held c (get c v)
holds g v I ne cell.Nothing = omega arith
holds g v I ne cell.RecordHead = omega arith
holds g v I ne cell.HeadAvailable = omega arith
holds g v I ne cell.Shutdown = omega arith
holds g v I ne (cell.ShardHead k) = let q = I.shards k in omega arith
holds g v I ne cell.RecordCount = omega arith
holds g v I ne cell.Count = omega arith
holds g v I ne cell.DueTime = omega arith
holds g v I ne cell.BulkReclaims = omega arith
holds g v I ne (cell.Hazard r) = let q = I.hazard r in omega arith
holds g v I ne (cell.AvailableNext r) = let q = I.available_next r in omega arith
holds g v I ne (cell.RecordNext r) = let q = I.record_next r in omega arith
holds g v I ne (cell.Holder r) = let q = I.holder r in omega arith
holds g v I ne (cell.Source b) = let q = I.sources b in omega arith
holds g v I ne (cell.NodeNext n) = let q = I.next n in omega arith
holds g v I ne (cell.NodeState n) = let q = I.state n in omega arith

-- ---- what the layers know of thread t, whose row is r
-- at a place of class h, of its record
abbrev pub Knows : View → ℕ → Row → Hold → Type 0
Knows v t r h = KnowOf h v.heads.head_available v.records.available_next v.records.holder t r.rec r.next

pub record Known (g : Settings) (v : View) (t : ℕ) (r : Row) : Type 0 where
  pub allowed : Allowed g
  pub thread : t < threads
  pub inside : r.place ≢ 0
  pub fit : Fit g r
  pub held : (c : Named) → Held c (get c v)
  pub know : (p : Pc) → r.place ≡ code p → Knows v t r (hold p)
  pub shape : (p : Pc) → r.place ≡ code p → ShapeOf g (stage p) r
  pub scan : r.place ≡ code Pc.H2 → r.rec ≢ 0

module _ (g : Settings) (v : View) (t : ℕ) (r : Row) (K : Known g v t r) where
  record In (c : Named) : Type 0 where
    pub table : InTable c

  in_table : {c : Named} → InTable c → In c
  in_table h = record { table = h }

  -- the row's source, which V0 to V3 and a swap use
  source : 0 < r.source → In (cell.Source r.source)
  source h = let a = K.fit.words.source in record { table = omega arith }

  -- the row's record: who has the lock saw it at the head, and who holds or owns one knows it
  locked : Knows v t r Hold.locks → In (cell.AvailableNext r.rec)
  locked h = let a = K.fit.words.rec in let b = h.1 in record { table = omega arith }

  held : Knows v t r Hold.clear → In (cell.AvailableNext r.rec)
  held h = record { table = h.1 }

  given : Knows v t r Hold.clear → In (cell.Hazard r.rec)
  given h = record { table = h.1 }

  owned : Knows v t r Hold.owns → In (cell.Hazard r.rec)
  owned h = record { table = h.1 }

  scanned : r.place ≡ code Pc.H2 → In (cell.Hazard r.rec)
  scanned e = let k = K.scan e in let a = K.fit.words.rec in record { table = omega arith }

  -- a shard, and the first one, where a kept list is pushed
  shard : {gone : ℕ → Type 0} {a b c : Want} → Is gone a b c (r.shard < g.shards) r → In (cell.ShardHead r.shard)
  shard h = let k = h.here in let a = K.allowed.most in record { table = omega arith }

  shard_0 : In (cell.ShardHead 0)
  shard_0 = record { table = omega arith }

  -- the node to examine, and the node to reclaim
  examined : {gone : ℕ → Type 0} {a b c : Want} → Is gone a b c ((r.shard < g.shards) × (get_or r.stolen r.shard 0 ≢ 0)) r → In (cell.NodeNext (first r))
  examined h =
      let k = h.here.0 in
      let ne = h.here.1 in
      let e : shard_in r ≡ r.shard = let a = K.allowed.most in omega arith in
      record { table = rw e (let c = K.fit.stolen r.shard in omega arith) }

  reclaimed : {gone : ℕ → Type 0} {b c : Want} {X : Type 0} → Is gone Want.some b c X r → In (cell.NodeNext r.reclaimable)
  reclaimed h = let ne = h.reclaim in let a = K.fit.words.reclaimable in record { table = omega arith }

  -- the cell of each place's access
  pub reach : (p : Pc) → r.place ≡ code p → InTable (named (accesses p r))
  reach p e =
      (every (λ (p : Pc). r.place ≡ code p → Knows v t r (hold p) → ShapeOf g (stage p) r → uses (code p) ≤ r.source → In (named (accesses p r))) (search (two, in_table, tt, locked, held, given, owned, scanned, source, shard, shard_0, examined, reclaimed) depth 12 fits 4000)
      p e (K.know p e) (K.shape p e) (subst (λ (n : ℕ). uses n ≤ r.source) e K.fit.words.sourced)).table

  -- and the one beside it, where u is what N1 found
  pub beyond : (p : Pc) (u : ℕ) → r.place ≡ code p → (u ≢ 0 → IsId records u) → InTable (beside p r u)
  beyond p u e f =
      pick_case InTable (eqb (code p) (code Pc.H2)) _ _ (λ q. let k = K.scan (e ∙ eqb-true (code p) (code Pc.H2) q) in omega arith)
      (λ _. pick_all InTable (eqb (code p) (code Pc.Swap)) _ _ (pick_case InTable (eqb r.node 0) _ _ (λ _. tt) (λ q. let n = eqb-false r.node 0 q in omega arith))
      (pick_all InTable (eqb (code p) (code Pc.N1)) _ _ (pick_case InTable (eqb u 0) _ _ (λ _. tt) (λ q. f (eqb-false u 0 q))) tt))
