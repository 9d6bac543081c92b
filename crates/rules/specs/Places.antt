-- The rules of the steps: for each place of document 01 the access that its step makes, and what the step does.
use Rattle.std.specs.Prelude.{ℕ, ◌+◌, ◌*◌, ◌-◌, ◌/◌, Bool, true, false, eqb}
use Rattle.base.specs.Pick.{pick}
use Rattle.rules.specs.Sizes.{Settings}
use Rattle.rules.specs.Words.{locked, with_lock, plus, less, due_time, over}
use Rattle.rules.specs.Pc.{pc_of, code}
use Rattle.rules.specs.declared.pc.Pc.{Pc}
use Rattle.rules.specs.Rows.{idle, go_to, with_rec, with_next, with_node, seeing, in_shard, with_lone, reclaiming}
use Rattle.rules.specs.Rows.{keeping, with_done, stealing, counting, taking, dated, freeing, freed, shard_in}
use Rattle.rules.specs.Rows.{first, stolen_from}
use Rattle.rules.specs.declared.Row.{Row}
use Rattle.rules.specs.declared.Seen.{Seen}
use Rattle.rules.specs.declared.Effect.{Effect}
use Rattle.rules.specs.declared.Guards.{Guards}
use Rattle.rules.specs.declared.Guards.TheVariants as guards
use Rattle.rules.specs.declared.Named.{Named}
use Rattle.rules.specs.declared.Named.TheVariants as cell
use Rattle.rules.specs.declared.Access.{Access}
use Rattle.rules.specs.declared.Access.TheVariants as by

-- ---- the cell that is read beside it: H2 the record's `next`, a swap the new node's state, N1 the row it would take
unfoldable pub follow_of : Row → ℕ → Named
follow_of r untaken =
    pick (eqb r.place (code Pc.H2)) (cell.RecordNext r.rec)
    (pick (eqb r.place (code Pc.Swap)) (pick (eqb r.node 0) cell.Nothing (cell.NodeState r.node))
    (pick (eqb r.place (code Pc.N1)) (pick (eqb untaken 0) cell.Nothing (cell.Holder untaken)) cell.Nothing))

-- ---- words for effects
abbrev effect : Row → ℕ → ℕ → Bool → ℕ → Named → ℕ → Guards → Bool → Effect
effect r n v w p c t m z =
    record { row = r; number = n; value = v; writes = w; put = p; also = c; to = t; guards = m; closes = z }

abbrev pub answers : ℕ → ℕ → Row → Effect
answers n v r = effect r n v false 0 cell.Nothing 0 guards.Keep false

-- the step goes on with this row
abbrev pub becomes : Row → Effect
becomes r = answers 0 0 r

-- the operation ends
abbrev pub finishes : ℕ → Effect
finishes v = answers 2 v idle

abbrev pub retry : ℕ → Effect
retry v = answers 3 v idle

-- 25 and 26 end it too
abbrev pub ends : ℕ → Effect
ends n = answers n 0 idle

abbrev pub damaged : Row → Effect
damaged r = answers 29 0 r

-- the step's cell becomes v
abbrev pub stores : ℕ → Effect → Effect
stores v e = effect e.row e.number e.value true v e.also e.to e.guards e.closes

-- the cell c becomes v as well
abbrev pub also_stores : Named → ℕ → Effect → Effect
also_stores c v e = effect e.row e.number e.value e.writes e.put c v e.guards e.closes

abbrev pub clears_guards : Row → Effect
clears_guards r = effect r 0 0 false 0 cell.Nothing 0 guards.Clear false

abbrev pub guarding : ℕ → Row → Effect
guarding n r = effect r 0 0 false 0 cell.Nothing 0 (guards.Set n) false

-- node n is reclaimed: its row becomes 0
abbrev pub reclaims : ℕ → Row → Effect
reclaims n r = stores 0 (also_stores (cell.NodeState n) 0 (answers 4 n r))

-- shutdown is over: the record table and both record heads become 0
abbrev pub closing : ℕ → Effect
closing total = effect idle 2 total true 2 cell.Nothing 0 guards.Keep true

-- an exchange of `old` that saw v; a weak one also fails when the flag asks
abbrev pub strong : ℕ → ℕ → Effect → Effect → Effect
strong v old won lost = pick (eqb v old) won lost

abbrev pub weak : ℕ → ℕ → Bool → Effect → Effect → Effect
weak v old flag won lost = pick (eqb v old) (pick flag lost won) lost

-- ---- where a pass goes on
abbrev pub new_pass : Row → Row
new_pass r = go_to Pc.Steal (in_shard 0 r)

-- after Check, whose value is the row's rcount: a retire before its Reclaim, or the end of a pass
unfoldable pub checked : Row → Row
checked r =
    pick (eqb r.done 0) (pick (eqb r.rcount 0) (go_to Pc.E1 r) (go_to Pc.B1 r))
    (pick (eqb r.rcount 0) (pick (eqb r.done 2) (go_to Pc.C3 r) (new_pass r)) (new_pass r))

-- C1 only if there is something to give back
unfoldable pub passed : Row → Row
passed r = pick (eqb r.rcount 0) (go_to Pc.K1 r) (go_to Pc.C1 r)

-- the kept list, if any, is pushed first
unfoldable pub emptied : Row → Row
emptied r = pick (eqb r.unreclaimed 0) (passed r) (go_to Pc.Push1 r)

-- the next shard with a stolen list, from k on; after the last, the test for done
abbrev pub examine_at : Settings → ℕ → Row → Row
examine_at g k r = pick (eqb k g.shards) (go_to Pc.Empty (in_shard 0 r)) (go_to Pc.Examine (in_shard k r))

unfoldable pub examine_from : Settings → ℕ → Row → Row
examine_from g k r = examine_at g (stolen_from r.stolen k (g.shards - k)) r

-- a node was examined or reclaimed, and `rest` is what is left of its list
unfoldable pub examined : Settings → ℕ → Row → Row
examined g rest r =
    pick (eqb rest 0) (pick (eqb r.reclaimable 0) (examine_from g (shard_in r + 1) r) (go_to Pc.Reclaim r)) r

unfoldable pub after_free : Settings → ℕ → Row → Row
after_free g rest r = pick (eqb rest 0) (examine_from g (shard_in r + 1) r) r

-- shutdown's next shard, or its last step
unfoldable pub shut_next : Settings → Row → Row
shut_next g r = pick (eqb (shard_in r + 1) g.shards) (go_to Pc.S3 r) (go_to Pc.S1 (in_shard (shard_in r + 1) r))

-- ---- the rule of each place: the access that its step makes, and what the step does with what it saw
pub record Rule : Type 0 where
  pub access : Access
  pub effect : Settings → Seen → Effect

abbrev pub at : Access → (Settings → Seen → Effect) → Rule
at a e = record { access = a; effect = e }

abbrev pub rule : Pc → Row → Rule
rule Pc.Idle r = at (by.Load cell.Nothing) λ g i. damaged r
-- acquire
rule Pc.A1 r = at (by.Load cell.HeadAvailable) λ g i.
    pick (locked i.v) (becomes r)
    (pick (eqb i.v 0) (becomes (go_to Pc.N1 r)) (becomes (go_to Pc.A2 (with_rec (i.v / 2) r))))
rule Pc.A2 r = at (by.Update cell.HeadAvailable) λ g i.
    pick (eqb r.rec 0) (damaged r)
    (weak i.v (r.rec * 2) i.flag (stores (with_lock (r.rec * 2)) (becomes (go_to Pc.A3 r)))
    (becomes (go_to Pc.A1 r)))
rule Pc.A3 r = at (by.Load (cell.AvailableNext r.rec)) λ g i. becomes (go_to Pc.A4 (with_next i.v r))
rule Pc.A4 r = at (by.Store cell.HeadAvailable) λ g i. stores (r.next * 2) (becomes (go_to Pc.A5 r))
rule Pc.A5 r = at (by.Store (cell.AvailableNext r.rec)) λ g i. stores 0 (becomes (go_to Pc.A6 r))
rule Pc.A6 r = at (by.Load (cell.AvailableNext r.rec)) λ g i.
    also_stores (cell.Holder r.rec) (i.thread + 2) (finishes r.rec)
rule Pc.N1 r = at (by.Load cell.RecordHead) λ g i.
    pick (eqb i.untaken 0) (ends 26)
    (also_stores (cell.Holder i.untaken) 1 (becomes (go_to Pc.N2 (with_rec i.untaken (with_next i.v r)))))
rule Pc.N2 r = at (by.Update cell.RecordHead) λ g i.
    weak i.v r.next i.flag
    (stores r.rec (also_stores (cell.RecordNext r.rec) r.next (becomes (go_to Pc.N3 r))))
    (also_stores (cell.RecordNext r.rec) r.next (becomes (with_next i.v r)))
rule Pc.N3 r = at (by.Update cell.RecordCount) λ g i.
    stores (plus i.x 1) (also_stores (cell.Holder r.rec) (i.thread + 2) (finishes r.rec))
-- release
rule Pc.D1 r = at (by.HazardStore (cell.Hazard r.rec)) λ g i. stores 0 (becomes (go_to Pc.D2 r))
rule Pc.D2 r = at (by.Load (cell.AvailableNext r.rec)) λ g i.
    pick (eqb i.v 0) (becomes (go_to Pc.P1 r)) (damaged r)
rule Pc.P1 r = at (by.Load cell.HeadAvailable) λ g i.
    pick (locked i.v) (becomes r) (becomes (go_to Pc.P2 (with_next (i.v / 2) r)))
rule Pc.P2 r = at (by.Store (cell.AvailableNext r.rec)) λ g i. stores r.next (becomes (go_to Pc.P3 r))
rule Pc.P3 r = at (by.Update cell.HeadAvailable) λ g i.
    pick (eqb r.rec 0) (damaged r)
    (weak i.v (r.next * 2) i.flag (stores (r.rec * 2) (finishes 0)) (becomes (go_to Pc.P1 r)))
-- protect (operation 3) and the tries
rule Pc.V0 r = at (by.Load (cell.Source r.source)) λ g i. becomes (go_to Pc.V1 (with_node i.v r))
rule Pc.V1 r = at (by.HazardStore (cell.Hazard r.rec)) λ g i. stores r.node (becomes (go_to Pc.V2 r))
rule Pc.V2 r = at (by.Load (cell.Source r.source)) λ g i.
    pick (eqb i.v r.node) (finishes i.v) (becomes (go_to Pc.V3 (seeing i.v r)))
rule Pc.V3 r = at (by.HazardStore (cell.Hazard r.rec)) λ g i.
    pick (eqb r.operation 3) (stores 0 (becomes (go_to Pc.V1 (with_node r.seen r)))) (stores 0 (retry r.seen))
rule Pc.Reset r = at (by.HazardStore (cell.Hazard r.rec)) λ g i. stores 0 (finishes 0)
rule Pc.Raw r = at (by.HazardStore (cell.Hazard r.rec)) λ g i. stores r.node (finishes 0)
-- swap: w is the new node's state
rule Pc.Swap r = at (by.Update (cell.Source r.source)) λ g i.
    pick (eqb i.w 2) (ends 25)
    (pick (eqb r.node 0) (stores 0 (finishes i.v))
    (pick (eqb i.w 0) (stores r.node (also_stores (cell.NodeState r.node) 1 (finishes i.v)))
    (stores r.node (finishes i.v))))
-- retire
rule Pc.T1 r = at (by.Load (cell.ShardHead r.shard)) λ g i. becomes (go_to Pc.T2 (seeing i.v r))
rule Pc.T2 r = at (by.Update (cell.ShardHead r.shard)) λ g i.
    weak i.v r.seen i.flag
    (stores r.lone (also_stores (cell.NodeNext r.lone) r.seen (becomes (go_to Pc.T3 (with_lone 0 r)))))
    (also_stores (cell.NodeNext r.lone) r.seen (becomes (seeing i.v r)))
rule Pc.T3 r = at (by.Update cell.Count) λ g i. stores (plus i.x 1) (becomes (go_to Pc.K1 r))
-- Check
rule Pc.K1 r = at (by.Load cell.Count) λ g i. becomes (go_to Pc.K2 (counting i.x r))
rule Pc.K2 r = at (by.Load cell.RecordCount) λ g i.
    pick (over g r.count i.x) (becomes (go_to Pc.K3 r)) (becomes (checked (taking 0 r)))
rule Pc.K3 r = at (by.Update cell.Count) λ g i.
    weak i.x r.count i.flag (stores 0 (becomes (go_to Pc.K4 (taking r.count r))))
    (becomes (go_to Pc.K2 (counting i.x r)))
rule Pc.K4 r = at (by.Store cell.DueTime) λ g i. stores (due_time i.clock) (becomes (checked r))
rule Pc.E1 r = at (by.Load cell.DueTime) λ g i.
    pick (g.due i.clock i.x) (becomes (go_to Pc.E2 (dated i.x i.clock r))) (finishes 0)
rule Pc.E2 r = at (by.Update cell.DueTime) λ g i.
    strong i.x r.due (stores (due_time r.clock) (becomes (go_to Pc.E3 r))) (finishes 0)
rule Pc.E3 r = at (by.Update cell.Count) λ g i.
    pick (eqb i.x 0) (stores 0 (finishes 0)) (stores 0 (becomes (go_to Pc.B1 (taking i.x r))))
-- Reclaim
rule Pc.B1 r = at (by.Update cell.BulkReclaims) λ g i. stores (plus i.x 1) (becomes (new_pass r))
rule Pc.Steal r = at (by.Update (cell.ShardHead r.shard)) λ g i.
    pick (eqb (shard_in r + 1) g.shards)
    (pick (eqb (stolen_from (stealing i.v r).stolen 0 g.shards) g.shards)
    (stores 0 (becomes (passed (with_done 2 (stealing i.v r)))))
    (stores 0 (becomes (go_to Pc.H1 (stealing i.v r)))))
    (stores 0 (becomes (in_shard (shard_in r + 1) (stealing i.v r))))
rule Pc.H1 r = at (by.Load cell.RecordHead) λ g i.
    pick (eqb i.v 0) (clears_guards (examine_from g 0 r)) (clears_guards (go_to Pc.H2 (with_rec i.v r)))
rule Pc.H2 r = at (by.Load (cell.Hazard r.rec)) λ g i.
    pick (eqb i.w 0) (guarding i.v (examine_from g 0 r)) (guarding i.v (with_rec i.w r))
rule Pc.Examine r = at (by.Private (cell.NodeNext (first r))) λ g i.
    pick i.guarded
    (stores r.unreclaimed
    (becomes (examined g i.v
    (keeping (first r) (pick (eqb r.unreclaimed 0) (first r) r.tail) (stealing i.v r)))))
    (stores r.reclaimable (becomes (examined g i.v (reclaiming (first r) (stealing i.v r)))))
rule Pc.Reclaim r = at (by.Private (cell.NodeNext r.reclaimable)) λ g i.
    reclaims r.reclaimable (after_free g i.v (freeing (reclaiming i.v r)))
rule Pc.Empty r = at (by.Load (cell.ShardHead r.shard)) λ g i.
    pick (eqb i.v 0)
    (pick (eqb (shard_in r + 1) g.shards) (becomes (emptied (with_done 2 r))) (becomes (in_shard (shard_in r + 1) r)))
    (becomes (emptied (with_done 1 r)))
rule Pc.Push1 r = at (by.Load (cell.ShardHead 0)) λ g i. becomes (go_to Pc.Push2 (seeing i.v r))
rule Pc.Push2 r = at (by.Update (cell.ShardHead 0)) λ g i.
    pick (eqb r.unreclaimed 0) (damaged r)
    (weak i.v r.seen i.flag
    (stores r.unreclaimed (also_stores (cell.NodeNext r.tail) r.seen (becomes (passed (keeping 0 0 r)))))
    (also_stores (cell.NodeNext r.tail) r.seen (becomes (seeing i.v r))))
rule Pc.C1 r = at (by.Update cell.Count) λ g i. stores (plus i.x r.rcount) (becomes (go_to Pc.K1 (taking 0 r)))
rule Pc.C3 r = at (by.Update cell.BulkReclaims) λ g i.
    pick (eqb r.operation 11) (stores (less i.x 1) (becomes (go_to Pc.Wait r)))
    (stores (less i.x 1) (finishes r.total))
rule Pc.Wait r = at (by.Load cell.BulkReclaims) λ g i. pick (eqb i.x 0) (finishes 0) (becomes r)
-- shutdown
rule Pc.S1 r = at (by.Update (cell.ShardHead r.shard)) λ g i.
    pick (eqb i.v 0) (stores 0 (becomes (shut_next g r))) (stores 0 (becomes (go_to Pc.S2 (reclaiming i.v r))))
rule Pc.S2 r = at (by.Private (cell.NodeNext r.reclaimable)) λ g i.
    reclaims r.reclaimable
    (pick (eqb i.v 0) (shut_next g (freed (reclaiming i.v r))) (freed (reclaiming i.v r)))
rule Pc.S3 r = at (by.Store cell.Shutdown) λ g i. closing r.total
rule Pc.Unknown r = at (by.Load cell.Nothing) λ g i. damaged r

abbrev pub accesses : Pc → Row → Access
accesses p r = (rule p r).access

abbrev pub does : Settings → Pc → Row → Seen → Effect
does g p r i = (rule p r).effect g i

unfoldable pub access_of : Row → Access
access_of r = accesses (pc_of r.place) r

unfoldable pub effect_of : Settings → Row → Seen → Effect
effect_of g r i = does g (pc_of r.place) r i
