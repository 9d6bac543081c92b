-- A start over the tables as a start over the view: it is refused, it is done at once, or it is admitted and its entry is written.
use Prim.Native.Nat.{ℕ, zero, suc, ◌+◌, ◌*◌, ◌-◌, ◌^◌, ◌≤◌, ◌<◌}
use Rattle.std.specs.Prelude.{◌≡◌, ◌≢◌, ◌⊎◌, Bool, true, false, List, length, eqb, ltb}
use Rattle.std.proofs.Math.Path.{refl, ap}
use Rattle.std.proofs.Common.{sym, ◌∙◌, inl, true≢false}
use Rattle.std.proofs.Math.Logic.{inr}
use Rattle.std.proofs.Math.ListN.{get_or, get_or-eq_default}
use borrow.Author.Tests.{eqb-true, eqb-false, ltb-true, ltb-false, le-ltb}
use Rattle.std.proofs.Math.Decide.{dec_lt}
use native.Mathlib.Omega.{arith}
use Rattle.base.specs.Pick.{pick}
use Rattle.rules.specs.Sizes.{records, sources, nodes, threads, row32, Settings}
use Rattle.rules.specs.declared.pc.Pc.TheVariants as Pc
use Rattle.rules.specs.Pc.{code}
use Rattle.rules.specs.Cells
use Rattle.rules.specs.Cells.{address, cell_at, nowhere}
use Rattle.rules.specs.declared.Class.{Class}
use Rattle.rules.specs.declared.Class.TheVariants.{AState, AHolder}
use Rattle.rules.specs.Rows.{row_at}
use Rattle.rules.specs.Step.{State, Out, out, answer, refused, sizes, at_in}
use Rattle.rules.specs.Facts.{retire-unlinked, shutdown-alone}
use Rattle.rules.specs.Start.{any_is, any_above, narrow, or_else, not_owned, not_source, not_node, retire_by, not_retirable, busy_by, busy, refusal, refuse_by, refuse_of, begins, entered, of_null, start_in, start_of}
use Rattle.rules.specs.declared.Operation.{Operation}
use Rattle.rules.specs.declared.Operation.TheVariants.{Acquire, Release, Protect, Try, TryProtect, Reset, Raw, Swap, Retire, Eager, Cleanup, Shutdown}
use Rattle.rules.specs.declared.Named.TheVariants as cell
use Rattle.rules.specs.declared.Row.{Row}
use Rattle.lists.specs.Tab.{tab, tab-get, tab-length}
use Rattle.view.specs.Field.{IsId, field, field-get}
use Rattle.view.specs.View.{View, view_of, InTable, enters}
use Rattle.view.specs.Written.{Fits}
use Rattle.view.specs.Given.{Sized, sized_of, sizes-of, view-entered, sized-entered}
use Rattle.view.specs.Calm.{Eight}
use Rattle.view.specs.Every.{every-start, two, pick_all, pick_case}
use Rattle.view.specs.Turn.{row_in, row-view, Fine}

-- ---- what the checks of a start leave
abbrev pub Owned : View → ℕ → ℕ → Type 0
Owned v t a = IsId records a × (get_or v.records.holder a 0 ≡ t + 2)

abbrev pub Admitted : View → ℕ → Operation → Type 0
Admitted v t Acquire = Unit {0}
Admitted v t (Release a) = Owned v t a
Admitted v t (Protect a b) = Owned v t a × IsId sources b
Admitted v t (Try a b n) = (Owned v t a × IsId sources b) × (n ≤ nodes)
Admitted v t (TryProtect a b n) = (Owned v t a × IsId sources b) × (n ≤ nodes)
Admitted v t (Reset a) = Owned v t a
Admitted v t (Raw a n) = Owned v t a × (n ≤ nodes)
Admitted v t (Swap b n) = IsId sources b × (n ≤ nodes)
Admitted v t (Retire n x) = IsId nodes n × (get_or v.nodes.state n 0 ≡ 1) × ((b : ℕ) → get_or v.sources b 0 ≢ n)
Admitted v t Eager = Unit {0}
Admitted v t Cleanup = Unit {0}
Admitted v t Shutdown = ((u : ℕ) → u < threads → (row_in v u).place ≡ 0) × ((a : ℕ) → get_or v.records.holder a 0 ≤ 1)

-- ---- tests that passed
both_0 : (n m : ℕ) → or_else n m ≡ 0 → (n ≡ 0) × (m ≡ 0)
both_0 n m = go (eqb n 0) refl
  where
    go : (b : Bool) → eqb n 0 ≡ b → pick b m n ≡ 0 → (n ≡ 0) × (m ≡ 0)
    go true e h = (eqb-true n 0 e, h)
    go false e h = absurd (eqb-false n 0 e h)

-- a choice of k, not 0, or y that is 0 is y
fails : (b : Bool) (k y : ℕ) → k ≢ 0 → pick b k y ≡ 0 → (b ≡ false) × (y ≡ 0)
fails true k y ne h = absurd (ne h)
fails false k y ne h = (refl, h)

holds : (b : Bool) (k y : ℕ) → k ≢ 0 → pick b y k ≡ 0 → (b ≡ true) × (y ≡ 0)
holds true k y ne h = (refl, h)
holds false k y ne h = absurd (ne h)

source_in : (b : ℕ) → not_source b ≡ 0 → IsId sources b
source_in b h =
    let p = fails (eqb b 0) 23 _ (omega arith) h in
    let q = fails (ltb sources b) 23 0 (omega arith) p.1 in
    let z = eqb-false b 0 p.0 in
    (omega arith, ltb-false sources b q.0)

node_in : (n : ℕ) → not_node n ≡ 0 → n ≤ nodes
node_in n h = ltb-false nodes n (fails (ltb nodes n) 24 0 (omega arith) h).0

-- a word of a table, read through an address that may be none
module _ (l : List ℕ) (n w k : ℕ) (class : Class) (table : ℕ) (small : length l ≤ 4294967295) where
  word_at : (id v : ℕ) → get_or l (at_in (pick (eqb id 0) nowhere (pick (ltb n id) nowhere (cell_at table ((id - 1) * w + k) class))) table) 0 ≡ v → eqb 0 table ≡ false → eqb table table ≡ true → v ≢ 0 → IsId n id × (get_or (field w k n l) id 0 ≡ v)
  word_at id v h t0 t1 nz = go (eqb id 0) (ltb n id) refl refl h
    where
      none : get_or l 4294967295 0 ≡ 0
      none = get_or-eq_default l 0 small

      go : (a b : Bool) → eqb id 0 ≡ a → ltb n id ≡ b → get_or l (at_in (pick a nowhere (pick b nowhere (cell_at table ((id - 1) * w + k) class))) table) 0 ≡ v → IsId n id × (get_or (field w k n l) id 0 ≡ v)
      go true b ea eb q = absurd (nz (sym q ∙ (rw t0 none)))
      go false true ea eb q = absurd (nz (sym q ∙ (rw t0 none)))
      go false false ea eb q =
          let ne = eqb-false id 0 ea in
          let d : IsId n id = (omega arith, ltb-false n id eb) in
          (d, field-get w n l k id d ∙ (rw t1 at q))

-- ---- searches that found nothing
none_is : (l : List ℕ) (x i n : ℕ) → any_is l x i n ≡ false → (j : ℕ) → i ≤ j → j < i + n → get_or l j 0 ≢ x
unfolding any_is
none_is l x i zero h j p q = absurd (omega arith)
none_is l x i (suc n) h j p q = go (eqb (get_or l i 0) x) refl h (dec_lt i j) (λ e lt. none_is l x (i + 1) n e j (omega arith) (omega arith))
  where
    go : (b : Bool) → eqb (get_or l i 0) x ≡ b → pick b true (any_is l x (i + 1) n) ≡ false → Dec (i < j) → (any_is l x (i + 1) n ≡ false → i < j → get_or l j 0 ≢ x) → get_or l j 0 ≢ x
    go true e f d rest = absurd (true≢false f)
    go false e f (yes lt) rest = rest f lt
    go false e f (no ge) rest = let q : i ≡ j = omega arith in rw q at (eqb-false (get_or l i 0) x e)

none_above : (l : List ℕ) (m w k i n : ℕ) → any_above l m w k i n ≡ false → (j : ℕ) → i ≤ j → j < i + n → get_or l (j * w + k) 0 ≤ m
unfolding any_above
none_above l m w k i zero h j p q = absurd (omega arith)
none_above l m w k i (suc n) h j p q = go (ltb m (get_or l (i * w + k) 0)) refl h (dec_lt i j) (λ e lt. none_above l m w k (i + 1) n e j (omega arith) (omega arith))
  where
    go : (b : Bool) → ltb m (get_or l (i * w + k) 0) ≡ b → pick b true (any_above l m w k (i + 1) n) ≡ false → Dec (i < j) → (any_above l m w k (i + 1) n ≡ false → i < j → get_or l (j * w + k) 0 ≤ m) → get_or l (j * w + k) 0 ≤ m
    go true e f d rest = absurd (true≢false f)
    go false e f (yes lt) rest = rest f lt
    go false e f (no ge) rest = let q : i ≡ j = omega arith in rw q at (ltb-false m (get_or l (i * w + k) 0) e)

module _ (s : State) (z : Sized s) (t : ℕ) where
  owned : (a : ℕ) → not_owned s.cells.records t a ≡ 0 → Owned (view_of s) t a
  unfolding view_of not_owned address
  owned a h = word_at s.cells.records records 4 3 AHolder 3 (omega (arith, z.cells.records)) a (t + 2) (eqb-true _ (t + 2) (holds (eqb (get_or s.cells.records (at_in (address (cell.Holder a)) Cells.in_records) 0) (t + 2)) 22 0 (omega arith) h).0) refl refl (omega arith)

  protectable : (a b : ℕ) → or_else (not_owned s.cells.records t a) (not_source b) ≡ 0 → Owned (view_of s) t a × IsId sources b
  protectable a b h = let p = both_0 (not_owned s.cells.records t a) (not_source b) h in (owned a p.0, source_in b p.1)

  tryable : (a b n : ℕ) → or_else (not_owned s.cells.records t a) (or_else (not_source b) (not_node n)) ≡ 0 → (Owned (view_of s) t a × IsId sources b) × (n ≤ nodes)
  tryable a b n h =
      let p = both_0 (not_owned s.cells.records t a) (or_else (not_source b) (not_node n)) h in
      let q = both_0 (not_source b) (not_node n) p.1 in
      ((owned a p.0, source_in b q.0), node_in n q.1)

  raw : (a n : ℕ) → or_else (not_owned s.cells.records t a) (not_node n) ≡ 0 → Owned (view_of s) t a × (n ≤ nodes)
  raw a n h = let p = both_0 (not_owned s.cells.records t a) (not_node n) h in (owned a p.0, node_in n p.1)

  swappable : (b n : ℕ) → or_else (not_source b) (not_node n) ≡ 0 → IsId sources b × (n ≤ nodes)
  swappable b n h = let p = both_0 (not_source b) (not_node n) h in (source_in b p.0, node_in n p.1)

  sources-none : (n : ℕ) → n ≢ 0 → any_is s.cells.sources n 0 sources ≡ false → (b : ℕ) → get_or (view_of s).sources b 0 ≢ n
  unfolding view_of
  sources-none n nz h zero e = nz (sym e)
  sources-none n nz h (suc b) e = go (dec_lt b sources)
    where
      go : Dec (b < sources) → ⊥
      go (yes q) = none_is s.cells.sources n 0 sources h (b * 1 + 0) (omega arith) (omega arith) (sym (tab-get sources (λ i. get_or s.cells.sources (i * 1 + 0) 0) b 0 q) ∙ e)
      go (no q) = nz (sym e ∙ get_or-eq_default (tab sources (λ i. get_or s.cells.sources (i * 1 + 0) 0)) 0 (omega (arith, tab-length sources (λ i. get_or s.cells.sources (i * 1 + 0) 0))))

  state-at : (m : ℕ) → get_or s.cells.state (at_in (address (cell.NodeState m)) Cells.in_state) 0 ≡ 1 → IsId nodes m × (get_or (view_of s).nodes.state m 0 ≡ 1)
  unfolding view_of address
  state-at m q = word_at s.cells.state nodes 1 0 AState 6 (omega (arith, z.cells.state)) m 1 q refl refl (omega arith)

  retirable : (n x : ℕ) → not_retirable s.cells.sources s.cells.state n ≡ 0 → Admitted (view_of s) t (Retire n x)
  unfolding not_retirable
  retirable n x h =
      let a = fails (eqb n 0) 24 _ (omega arith) h in
      let b = fails (ltb nodes n) 24 _ (omega arith) a.1 in
      let c = holds (eqb (get_or s.cells.state (at_in (address (cell.NodeState (narrow n))) Cells.in_state) 0) 1) 25 _ (omega arith) b.1 in
      let le = ltb-false nodes n b.0 in
      let ne = eqb-false n 0 a.0 in
      let same : narrow n ≡ n = omega arith in
      let w = state-at (narrow n) (eqb-true _ 1 c.0) in
      (rw same at w.0, rw same at w.1, sources-none n ne (rw same at (retire-unlinked n (get_or s.cells.state (at_in (address (cell.NodeState (narrow n))) Cells.in_state) 0) (any_is s.cells.sources (narrow n) 0 sources) (any_above s.cells.sources nodes 1 0 0 sources) h)))

  nobody : any_above s.rows32 0 row32 0 0 threads ≡ false → (u : ℕ) → u < threads → (row_in (view_of s) u).place ≡ 0
  unfolding row_at
  nobody h u q = ap (λ (r : Row). r.place) (row-view s u q) ∙ (let k = none_above s.rows32 0 row32 0 0 threads h u (omega arith) (omega arith) in omega arith)

  unowned : any_above s.cells.records 1 4 3 0 records ≡ false → (a : ℕ) → get_or (view_of s).records.holder a 0 ≤ 1
  unfolding view_of
  unowned h zero = omega arith
  unowned h (suc a) = go (dec_lt a records)
    where
      go : Dec (a < records) → get_or (tab records (λ i. get_or s.cells.records (i * 4 + 3) 0)) a 0 ≤ 1
      go (yes q) = rw (tab-get records (λ i. get_or s.cells.records (i * 4 + 3) 0) a 0 q) (none_above s.cells.records 1 4 3 0 records h a (omega arith) (omega arith))
      go (no q) = rw (get_or-eq_default (tab records (λ i. get_or s.cells.records (i * 4 + 3) 0)) 0 {n = a} (omega (arith, tab-length records (λ i. get_or s.cells.records (i * 4 + 3) 0)))) (omega arith)

  idle-all : busy s.rows32 s.cells.records ≡ 0 → Admitted (view_of s) t Shutdown
  unfolding busy
  idle-all h = let a = shutdown-alone (any_above s.rows32 0 row32 0 0 threads) (any_above s.cells.records 1 4 3 0 records) h in (nobody a.0, unowned a.1)

  admitted : (o : Operation) → refusal s.cells.records s.cells.sources s.cells.state s.rows32 t o ≡ 0 → Admitted (view_of s) t o
  unfolding refusal
  admitted Acquire h = tt
  admitted (Release a) h = owned a h
  admitted (Protect a b) h = protectable a b h
  admitted (Try a b n) h = tryable a b n h
  admitted (TryProtect a b n) h = tryable a b n h
  admitted (Reset a) h = owned a h
  admitted (Raw a n) h = raw a n h
  admitted (Swap b n) h = swappable b n h
  admitted (Retire n x) h = retirable n x h
  admitted Eager h = tt
  admitted Cleanup h = tt
  admitted Shutdown h = idle-all h

-- ---- what holds of 0 and of every number from 17 on but 29 holds of a refusal, and so does what holds of 29 where a source or the mark is damaged
module _ (P : ℕ → Type 0) (none : P 0) (high : (n : ℕ) → 16 < n → n ≢ 29 → P n) where
  or_all : (n m : ℕ) → P n → P m → P (or_else n m)
  or_all n m a b = pick_case P (eqb n 0) _ _ (λ _. b) (λ _. a)

  owned-all : (l : List ℕ) (t a : ℕ) → P (not_owned l t a)
  unfolding not_owned
  owned-all l t a = pick_case P (eqb (get_or l (at_in (address (cell.Holder a)) Cells.in_records) 0) (t + 2)) _ _ (λ _. none) (λ _. high 22 (omega arith) (omega arith))

  source-all : (b : ℕ) → P (not_source b)
  source-all b = pick_case P (eqb b 0) _ _ (λ _. high 23 (omega arith) (omega arith)) (λ _. pick_case P (ltb sources b) _ _ (λ _. high 23 (omega arith) (omega arith)) (λ _. none))

  node-all : (n : ℕ) → P (not_node n)
  node-all n = pick_case P (ltb nodes n) _ _ (λ _. high 24 (omega arith) (omega arith)) (λ _. none)

  retire-all : (n st : ℕ) (a b : Bool) → (b ≡ true → P 29) → P (retire_by n st a b)
  retire-all n st a b d = pick_case P (eqb n 0) _ _ (λ _. high 24 (omega arith) (omega arith)) (λ _. pick_case P (ltb nodes n) _ _ (λ _. high 24 (omega arith) (omega arith)) (λ _. pick_case P (eqb st 1) _ _ (λ _. pick_case P a _ _ (λ _. high 25 (omega arith) (omega arith)) (λ _. pick_case P b _ _ d (λ _. none))) (λ _. high 25 (omega arith) (omega arith))))

  busy-all : (a b : Bool) → P (busy_by a b)
  busy-all a b = pick_case P a _ _ (λ _. high 27 (omega arith) (omega arith)) (λ _. pick_case P b _ _ (λ _. high 27 (omega arith) (omega arith)) (λ _. none))

  refusal-all : (s : State) (t : ℕ) (o : Operation) → (any_above s.cells.sources nodes 1 0 0 sources ≡ true → P 29) → P (refusal s.cells.records s.cells.sources s.cells.state s.rows32 t o)
  unfolding refusal not_retirable busy
  refusal-all s t Acquire d = none
  refusal-all s t (Release a) d = owned-all s.cells.records t a
  refusal-all s t (Protect a b) d = or_all _ _ (owned-all s.cells.records t a) (source-all b)
  refusal-all s t (Try a b n) d = or_all _ _ (owned-all s.cells.records t a) (or_all _ _ (source-all b) (node-all n))
  refusal-all s t (TryProtect a b n) d = or_all _ _ (owned-all s.cells.records t a) (or_all _ _ (source-all b) (node-all n))
  refusal-all s t (Reset a) d = owned-all s.cells.records t a
  refusal-all s t (Raw a n) d = or_all _ _ (owned-all s.cells.records t a) (node-all n)
  refusal-all s t (Swap b n) d = or_all _ _ (source-all b) (node-all n)
  refusal-all s t (Retire n x) d = retire-all n (get_or s.cells.state (at_in (address (cell.NodeState (narrow n))) Cells.in_state) 0) (any_is s.cells.sources (narrow n) 0 sources) (any_above s.cells.sources nodes 1 0 0 sources) d
  refusal-all s t Eager d = none
  refusal-all s t Cleanup d = none
  refusal-all s t Shutdown d = busy-all (any_above s.rows32 0 row32 0 0 threads) (any_above s.cells.records 1 4 3 0 records)

  refuse_all : (s : State) (t : ℕ) (o : Operation) → (any_above s.cells.sources nodes 1 0 0 sources ≡ true → P 29) → (2 < get_or s.cells.heads 2 0 → P 29) → P (refuse_of s t o)
  unfolding refuse_of
  refuse_all s t o d m =
      pick_case P (eqb (get_or s.cells.heads 2 0) 1) _ _ (λ _. high 18 (omega arith) (omega arith)) (λ _. pick_case P (eqb (get_or s.cells.heads 2 0) 2) _ _ (λ _. high 18 (omega arith) (omega arith))
      (λ _. pick_case P (eqb (get_or s.rows32 (t * row32) 0) (code Pc.Idle)) _ _ (λ _. pick_case P (eqb (refusal s.cells.records s.cells.sources s.cells.state s.rows32 t o) 0) _ _ (λ _. pick_case P (ltb 2 (get_or s.cells.heads 2 0)) _ _ (λ q. m (ltb-true _ _ q)) (λ _. none)) (λ _. refusal-all s t o d)) (λ _. high 20 (omega arith) (omega arith))))

-- a refusal is a number from 16 on
abbrev High : ℕ → Type 0
High n = (n ≡ 0) ⊎ (16 ≤ n)

least : {n : ℕ} → High n → n ≢ 0 → 16 ≤ n
least (inl e) ne = absurd (ne e)
least (inr h) ne = h

-- ---- the start
pub data Begin (g : Settings) (s : State) (t : ℕ) (o : Operation) (w : Out) : Type 0 where
  stays : (n : ℕ) → 16 ≤ n → w ≡ refused n s → Begin g s t o w
  nothing : w ≡ out (answer 2 0) s → Begin g s t o w
  begun : t < threads → (view_of s).heads.mark ≡ 0 → (row_in (view_of s) t).place ≡ code Pc.Idle → Admitted (view_of s) t o → w.answer ≡ answer 1 0 → view_of w.state ≡ enters t (begins g o) (view_of s) → Sized w.state → Begin g s t o w

-- the cell of an entry is one, what is put into it fits, and the row has eight heads
entry-reach : (g : Settings) (v : View) (t : ℕ) (o : Operation) → Admitted v t o → InTable (begins g o).cell
unfolding begins
entry-reach g v t = every-start (λ (o : Operation). Admitted v t o → InTable (begins g o).cell) (search (two, released, retired, tt))
  where
    released : {a : ℕ} → Owned v t a → IsId records a
    released h = h.0

    retired : {n : ℕ} (x : ℕ) → Admitted v t (Retire n x) → IsId nodes (narrow n)
    retired x h = let q = h.0 in (omega arith, omega arith)

entry-fits : (g : Settings) (o : Operation) → Fits (begins g o).cell (begins g o).put
unfolding begins
entry-fits g = let a : 1 < 2 ^ 32 = omega arith in let b : 2 < 2 ^ 32 = omega arith in every-start (λ (o : Operation). Fits (begins g o).cell (begins g o).put) (search (two, tt))

entry-eight : (g : Settings) (o : Operation) → Eight (begins g o).row
unfolding begins
entry-eight g = every-start (λ (o : Operation). Eight (begins g o).row) (search two)

module _ (g : Settings) (s : State) (z : Sized s) (t : ℕ) (ht : t < threads) (o : Operation) where
  abbrev n : ℕ
  n = refusal s.cells.records s.cells.sources s.cells.state s.rows32 t o

  abbrev mark : ℕ
  mark = get_or s.cells.heads 2 0

  abbrev place : ℕ
  place = get_or s.rows32 (t * row32) 0

  unrefused : refuse_by mark place n ≡ 0 → (mark ≡ 0) × (place ≡ 0) × (n ≡ 0)
  unrefused h =
      let a = fails (eqb mark 1) 18 _ (omega arith) h in
      let b = fails (eqb mark 2) 18 _ (omega arith) a.1 in
      let c = holds (eqb place (code Pc.Idle)) 20 _ (omega arith) b.1 in
      let d = zero_of (eqb n 0) refl c.1 in
      let x = eqb-false mark 1 a.0 in
      let y = eqb-false mark 2 b.0 in
      let w = ltb-false 2 mark d.1 in
      (omega arith, eqb-true place 0 c.0, d.0)
    where
      zero_of : (b : Bool) → eqb n 0 ≡ b → pick b (pick (ltb 2 mark) 29 0) n ≡ 0 → (n ≡ 0) × (ltb 2 mark ≡ false)
      zero_of true e q = (eqb-true n 0 e, (fails (ltb 2 mark) 29 0 (omega arith) q).0)
      zero_of false e q = absurd (eqb-false n 0 e q)

  place_is : place ≡ 0 → (row_in (view_of s) t).place ≡ code Pc.Idle
  unfolding row_at
  place_is e = ap (λ (r : Row). r.place) (row-view s t ht) ∙ ap (λ (k : ℕ). get_or s.rows32 k 0) (let q : t * row32 + 0 ≡ t * row32 = omega arith in q) ∙ e

  mark-is : mark ≡ 0 → (view_of s).heads.mark ≡ 0
  unfolding view_of
  mark-is e = e

  in_begin : Begin g s t o (start_in g s t o)
  unfolding start_in refuse_of
  in_begin =
      pick_case (Begin g s t o) (eqb (refuse_by mark place n) 0) _ _
      (λ q. pick_case (Begin g s t o) (of_null (begins g o)) _ _ (λ _. nothing refl) (λ _. enter (unrefused (eqb-true _ 0 q))))
      (λ q. stays (refuse_by mark place n) (least (refuse_all High (inl refl) (λ m h _. inr (omega arith)) s t o (λ _. inr (omega arith)) (λ _. inr (omega arith))) (eqb-false _ 0 q)) refl)
    where
      enter : (mark ≡ 0) × (place ≡ 0) × (n ≡ 0) → Begin g s t o (out (answer 1 0) (entered s t (begins g o)))
      enter k =
          let a = admitted s z t o k.2 in
          begun ht (mark-is k.0) (place_is k.1) a refl
          (view-entered s z t ht (begins g o) (entry-reach g (view_of s) t o a) (entry-fits g o) (entry-eight g o))
          (sized-entered s z t ht (begins g o) (entry-reach g (view_of s) t o a) (entry-fits g o) (entry-eight g o))

-- every start
pub start_begin : (g : Settings) (s : State) (t : ℕ) (o : Operation) → Begin g s t o (start_of g s t o)
unfolding start_of
start_begin g s t o =
    pick_case (Begin g s t o) (sizes s) _ _ (λ q. pick_case (Begin g s t o) (ltb t threads) _ _ (λ h. in_begin g s (sized_of s q) t (ltb-true t threads h) o) (λ _. stays 17 (omega arith) refl)) (λ _. stays 16 (omega arith) refl)

-- ---- on whole tables no start answers 16 or 29
all-low : (l : List ℕ) (m w k i n : ℕ) → ((j : ℕ) → get_or l j 0 ≤ m) → any_above l m w k i n ≡ false
unfolding any_above
all-low l m w k i zero h = refl
all-low l m w k i (suc n) h = rw (le-ltb m (get_or l (i * w + k) 0) (h (i * w + k))) (all-low l m w k (i + 1) n h)

pub start-whole : (g : Settings) (s : State) → Sized s → (t : ℕ) (o : Operation) → (view_of s).heads.mark ≤ 2 → ((b : ℕ) → get_or (view_of s).sources b 0 ≤ nodes) → Fine (start_of g s t o).answer.number
unfolding start_of start_in view_of
start-whole g s z t o m low =
    rw (sizes-of s z) (pick_all At (ltb t threads) _ _
    (pick_all At (eqb (refuse_of s t o) 0) _ _ (pick_all At (of_null (begins g o)) _ _ (omega arith) (omega arith))
    (refuse_all Fine (omega arith) (λ n h ne. omega arith) s t o (λ q. absurd (true≢false (sym q ∙ all-low s.cells.sources nodes 1 0 0 sources (λ k. at k (dec_lt k sources))))) (λ q. absurd (omega arith))))
    (omega arith))
  where
    At : Out → Type 0
    At w = Fine w.answer.number

    at : (k : ℕ) → Dec (k < sources) → get_or s.cells.sources k 0 ≤ nodes
    at k (yes q) = let e = field-get 1 sources s.cells.sources 0 (suc k) (omega arith) in let f = low (suc k) in rw (let j : k ≡ (suc k - 1) * 1 + 0 = omega arith in j) (rw e at f)
    at k (no q) = rw (get_or-eq_default s.cells.sources 0 {n = k} (omega (arith, z.cells.sources))) (omega arith)
