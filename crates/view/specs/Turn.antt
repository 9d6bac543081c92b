-- A step over the tables as a step over the view: it is refused, it ends with 25 or 26, or its place's effect is applied to what the view holds.
use Prim.Native.Nat.{ℕ, zero, suc, ◌+◌, ◌*◌, ◌-◌, ◌%◌, ◌^◌, ◌≤◌, ◌<◌}
use Rattle.std.specs.Prelude.{◌≡◌, ◌≢◌, ◌⊎◌, Bool, false, eqb, ltb, leb}
use Rattle.std.proofs.Math.Path.{refl, sym, ap, subst}
use Rattle.std.proofs.Common.{◌∙◌, inl, inr}
use Rattle.std.proofs.Math.Bool.{true}
use Rattle.std.proofs.lemmas.Bool.{false≢true}
use mathlib.Core.List.{List, []}
use Rattle.std.proofs.Math.ListN.{get_or}
use borrow.Author.Tests.{eqb-true, eqb-false, ltb-true, leb-false, ne_eqb}
use native.Mathlib.Omega.{arith}
use Rattle.base.specs.Pick.{pick, both, is-both}
use Rattle.rules.specs.Sizes.{records, threads, steps, row32, Settings}
use Rattle.rules.specs.Words.{is_guarded}
use Rattle.rules.specs.Pc.{pc_of, code}
use Rattle.rules.specs.declared.pc.Pc.{Pc}
use Rattle.rules.specs.Cells.{address, accessed, cell_at, in_range, unread}
use Rattle.rules.specs.declared.Class.TheVariants.{Anything}
use Rattle.rules.specs.Rows.{row_at, row_fits, first, idle}
use Rattle.rules.specs.Places.{accesses, does, ends, damaged, access_of, follow_of, effect_of}
use Rattle.rules.specs.Step.{Shared, State, Out, out, answer, refused, sizes, fetched, untaken_for, untaken_from, read_by, judge, judged, look_by, look_of, given, take_by, take_of, step_in, step_of}
use Rattle.rules.specs.declared.Cell.{Cell}
use Rattle.rules.specs.declared.Row.{Row}
use Rattle.rules.specs.declared.Seen.{Seen}
use Rattle.rules.specs.declared.Effect.{Effect}
use Rattle.rules.specs.declared.Named.{Named}
use Rattle.rules.specs.declared.Named.TheVariants as cell
use Rattle.rules.specs.declared.Access.{Access}
use Rattle.rules.specs.declared.Access.TheVariants as by
use Rattle.lists.specs.Tab.{tab-get}
use Rattle.view.specs.Field.{IsId, field, field-get}
use Rattle.view.specs.View.{View, view_of, named, InTable, get, applies}
use Rattle.view.specs.Written.{narrow, fetched-view}
use Rattle.view.specs.Given.{Sized, Sound, sized_of, sizes-of, view-given, sized-given, guards-get, idled, given-ends}
use Rattle.view.specs.Ranges.{Reads, limit, limit-narrow, reached, is-cell, access-reached, read_limit, in_limit, Small, small_of, code_of}
use Rattle.view.specs.Calm.{Eight, Calm, calm, Ended, Plain, not-ended, numbered}
use Rattle.view.specs.Every.{pick_all, pick_case}

abbrev pub row_in : View → ℕ → Row
row_in v t = get_or v.rows t idle

pub row-view : (s : State) (t : ℕ) → t < threads → row_in (view_of s) t ≡ row_at s.rows32 s.rows64 t
unfolding view_of
row-view s t ht = tab-get threads (λ u. row_at s.rows32 s.rows64 u) t idle ht

-- the cell that a step reads beside its own
abbrev pub beside : Pc → Row → ℕ → Named
beside p r u =
    pick (eqb (code p) (code Pc.H2)) (cell.RecordNext r.rec)
    (pick (eqb (code p) (code Pc.Swap)) (pick (eqb r.node 0) cell.Nothing (cell.NodeState r.node))
    (pick (eqb (code p) (code Pc.N1)) (pick (eqb u 0) cell.Nothing (cell.Holder u)) cell.Nothing))

-- a store's cell is where the cell is
unread-fetched : (s : Shared) (c : Cell) → fetched s (unread c) ≡ fetched s c
unfolding fetched
unread-fetched s c = go (in_range c.class 0)
  where
    go : (b : Bool) → fetched s (pick b (cell_at c.table c.at Anything) c) ≡ fetched s c
    go true = refl
    go false = refl

access-fetched : (s : Shared) (a : Access) → fetched s (accessed a) ≡ fetched s (address (named a))
access-fetched s (by.Load c) = refl
access-fetched s (by.Store c) = unread-fetched s (address c)
access-fetched s (by.HazardStore c) = unread-fetched s (address c)
access-fetched s (by.Update c) = refl
access-fetched s (by.Private c) = refl

-- what N1's search finds is a row that no thread took
found_untaken : (l : List ℕ) (i n : ℕ) → untaken_from l i n ≢ 0 → (i < untaken_from l i n) × (untaken_from l i n ≤ i + n) × ((get_or l ((untaken_from l i n - 1) * 4 + 3) 0 ≡ 0) ⊎ (threads + 1 < get_or l ((untaken_from l i n - 1) * 4 + 3) 0))
unfolding untaken_from
found_untaken l i zero ne = absurd (ne refl)
found_untaken l i (suc n) ne = go (eqb (get_or l (i * 4 + 3) 0) 0) refl (ltb (threads + 1) (get_or l (i * 4 + 3) 0)) refl ne (found_untaken l (i + 1) n)
  where
    At : ℕ → Type 0
    At m = (i < m) × (m ≤ i + suc n) × ((get_or l ((m - 1) * 4 + 3) 0 ≡ 0) ⊎ (threads + 1 < get_or l ((m - 1) * 4 + 3) 0))

    here : (get_or l (i * 4 + 3) 0 ≡ 0) ⊎ (threads + 1 < get_or l (i * 4 + 3) 0) → At (i + 1)
    here h = (omega arith, omega arith, subst (λ (j : ℕ). (get_or l (j * 4 + 3) 0 ≡ 0) ⊎ (threads + 1 < get_or l (j * 4 + 3) 0)) (let q : i ≡ i + 1 - 1 = omega arith in q) h)

    go : (a : Bool) → eqb (get_or l (i * 4 + 3) 0) 0 ≡ a → (b : Bool) → ltb (threads + 1) (get_or l (i * 4 + 3) 0) ≡ b → pick a (i + 1) (pick b (i + 1) (untaken_from l (i + 1) n)) ≢ 0
        → (untaken_from l (i + 1) n ≢ 0 → (i + 1 < untaken_from l (i + 1) n) × (untaken_from l (i + 1) n ≤ i + 1 + n) × ((get_or l ((untaken_from l (i + 1) n - 1) * 4 + 3) 0 ≡ 0) ⊎ (threads + 1 < get_or l ((untaken_from l (i + 1) n - 1) * 4 + 3) 0)))
        → At (pick a (i + 1) (pick b (i + 1) (untaken_from l (i + 1) n)))
    go true ea b eb q f = here (inl (eqb-true _ 0 ea))
    go false ea true eb q f = here (inr (ltb-true _ _ eb))
    go false ea false eb q f = let k = f q in (omega arith, omega arith, k.2)

lowest-view : (l : List ℕ) (place : ℕ) → untaken_for l place ≢ 0 → (get_or (field 4 3 records l) (untaken_for l place) 0 ≡ 0) ⊎ (threads + 1 < get_or (field 4 3 records l) (untaken_for l place) 0)
unfolding untaken_for
lowest-view l place = pick_case (λ (u : ℕ). u ≢ 0 → (get_or (field 4 3 records l) u 0 ≡ 0) ⊎ (threads + 1 < get_or (field 4 3 records l) u 0)) (eqb place (code Pc.N1)) _ _
    (λ _ ne. let k = found_untaken l 0 records ne in rw (field-get 4 records l 3 (untaken_from l 0 records) (k.0, k.1)) k.2) (λ _ ne. absurd (ne refl))

lowest-id : (l : List ℕ) (place : ℕ) → untaken_for l place ≢ 0 → IsId records (untaken_for l place)
unfolding untaken_for
lowest-id l place = pick_all (λ (u : ℕ). u ≢ 0 → IsId records u) (eqb place (code Pc.N1)) _ _ (λ ne. let k = found_untaken l 0 records ne in (k.0, omega arith)) (λ ne. absurd (ne refl))

-- what a step that is taken at place p, with row r, knows of what it saw
pub record Look (g : Settings) (k : View) (t : ℕ) (p : Pc) (r : Row) (i : Seen) : Type 0 where
  pub place : r.place ≡ code p
  pub small : Small g r
  pub reach : InTable (named (accesses p r))
  pub x : i.x ≡ get (named (accesses p r)) k
  pub v : i.v ≡ i.x % 2 ^ 32
  pub fits : Reads (accesses p r) → i.x ≤ limit (named (accesses p r))
  pub y : i.y ≡ get (beside p r i.untaken) k
  pub w : i.w ≡ i.y % 2 ^ 32
  pub beyond : InTable (beside p r i.untaken)
  pub fit : i.y ≤ limit (beside p r i.untaken)
  pub lowest : i.untaken ≢ 0 → (get_or k.records.holder i.untaken 0 ≡ 0) ⊎ (threads + 1 < get_or k.records.holder i.untaken 0)
  pub guarded : i.guarded ≡ is_guarded (get_or k.guards t []) (first r)
  pub thread : i.thread ≡ t
  pub also : InTable (does g p r i).also
  pub low : (does g p r i).number < 16
  pub early : k.counters.ticks < steps

-- what is read of a narrow cell is what it holds, and within its limit
pub sees : {g : Settings} {v : View} {t : ℕ} {p : Pc} {r : Row} {i : Seen} → Look g v t p r i → Reads (accesses p r) → narrow (named (accesses p r)) ≡ true → (i.v ≡ get (named (accesses p r)) v) × (i.v ≤ limit (named (accesses p r)))
sees {p = p} {r = r} l q n =
    let a = l.fits q in
    let b = limit-narrow (named (accesses p r)) n in
    let c = l.v in
    let d = l.x in
    (omega arith, omega arith)

-- the node that a swap makes live was free
pub swap_free : {g : Settings} {v : View} {t : ℕ} {r : Row} {i : Seen} → Look g v t Pc.Swap r i → eqb r.node 0 ≡ false → i.w ≡ 0 → get_or v.nodes.state r.node 0 ≡ 0
swap_free {v = v} {r = r} {i = i} l e w0 =
    let y : i.y ≡ get_or v.nodes.state r.node 0 = subst (λ (b : Bool). i.y ≡ get (pick b cell.Nothing (cell.NodeState r.node)) v) e l.y in
    let f : i.y ≤ 2 = subst (λ (b : Bool). InTable (pick b cell.Nothing (cell.NodeState r.node)) → i.y ≤ limit (pick b cell.Nothing (cell.NodeState r.node))) e (λ _. l.fit) (let q = l.small.node in let z = eqb-false r.node 0 e in (omega arith, q)) in
    let w = l.w in omega arith

-- what it knows before any test, if the names that it uses are cells'
pub record Sees (k : View) (t : ℕ) (p : Pc) (r : Row) (i : Seen) : Type 0 where
  pub place : r.place ≡ code p
  pub reach : InTable (named (accesses p r))
  pub x : i.x ≡ get (named (accesses p r)) k
  pub v : i.v ≡ i.x % 2 ^ 32
  pub beyond : InTable (beside p r i.untaken)
  pub y : i.y ≡ get (beside p r i.untaken) k
  pub w : i.w ≡ i.y % 2 ^ 32
  pub thread : i.thread ≡ t

pub seen_of : {g : Settings} {k : View} {t : ℕ} {p : Pc} {r : Row} {i : Seen} → Look g k t p r i → Sees k t p r i
seen_of l = record { place = l.place; reach = l.reach; x = l.x; v = l.v; beyond = l.beyond; y = l.y; w = l.w; thread = l.thread }

-- an answer that whole tables give
abbrev pub Fine : ℕ → Type 0
Fine n = (n ≢ 16) × (n ≢ 29)

-- the names that a step of row r uses are cells', and what it answers is fine
pub record Whole (g : Settings) (k : View) (t : ℕ) (r : Row) : Type 0 where
  pub reach : (p : Pc) → r.place ≡ code p → InTable (named (accesses p r))
  pub beyond : (p : Pc) (u : ℕ) → r.place ≡ code p → (u ≢ 0 → IsId records u) → InTable (beside p r u)
  pub also : (p : Pc) (i : Seen) → Sees k t p r i → InTable (does g p r i).also
  pub fine : (p : Pc) (i : Seen) → Sees k t p r i → Fine (does g p r i).number

-- every content is in its range, and 0 is in each
pub record InRange (k : View) : Type 0 where
  pub held : (a : Access) → InTable (named a) → in_range (accessed a).class (get (named a) k) ≡ true
  pub null : (c : Named) → InTable c → in_range (address c).class 0 ≡ true

pub data Turn (g : Settings) (s : State) (t : ℕ) (o : Out) : Type 0 where
  stays : (n : ℕ) → 16 ≤ n → n ≢ 25 → n ≢ 26 → o ≡ refused n s → Turn g s t o
  stops : (n : ℕ) → (n ≡ 25) ⊎ (n ≡ 26) → (pc_of (row_in (view_of s) t).place ≡ Pc.N1) ⊎ (pc_of (row_in (view_of s) t).place ≡ Pc.Swap) → (view_of s).counters.ticks < steps → t < threads → o.answer ≡ answer n 0 → view_of o.state ≡ applies t cell.Nothing (ends n) (view_of s) → Sized o.state → o.state ≡ idled s t → Turn g s t o
  takes : (p : Pc) (i : Seen) → t < threads → Look g (view_of s) t p (row_in (view_of s) t) i → o.answer ≡ answer (does g p (row_in (view_of s) t) i).number (does g p (row_in (view_of s) t) i).value
      → view_of o.state ≡ applies t (named (accesses p (row_in (view_of s) t))) (does g p (row_in (view_of s) t) i) (view_of s) → Sized o.state → Turn g s t o

module _ (g : Settings) (s : State) (z : Sized s) (t : ℕ) (ht : t < threads) (flag : Bool) (clock : ℕ) (hk : get_or s.cells.counters 4 0 < steps) where
  abbrev R : Row
  R = row_at s.rows32 s.rows64 t

  abbrev p : Pc
  p = pc_of R.place

  abbrev u : ℕ
  u = untaken_for s.cells.records R.place

  abbrev c : Cell
  c = accessed (accesses p R)

  abbrev l : Cell
  l = address (follow_of R u)

  abbrev i : Seen
  i = read_by s t flag clock R c l u

  abbrev e : Effect
  e = does g p R i

  abbrev fits : Bool
  fits = both (row_fits g s.rows32 t) (both (in_range c.class i.x) (both (in_range l.class i.y) (in_range (address e.also).class 0)))

  -- the effect is in the tables' reach
  eight : Eight R
  unfolding row_at
  eight = refl

  follow-is : R.place ≡ code p → follow_of R u ≡ beside p R u
  unfolding follow_of
  follow-is q = ap f q
    where
      f : ℕ → Named
      f n =
          pick (eqb n (code Pc.H2)) (cell.RecordNext R.rec)
          (pick (eqb n (code Pc.Swap)) (pick (eqb R.node 0) cell.Nothing (cell.NodeState R.node))
          (pick (eqb n (code Pc.N1)) (pick (eqb u 0) cell.Nothing (cell.Holder u)) cell.Nothing))

  look : fits ≡ true → e.number < 16 → Look g (view_of s) t p R i
  unfolding view_of read_by
  look h low =
      let a = is-both (row_fits g s.rows32 t) _ h in
      let b = is-both (in_range c.class i.x) _ a.1 in
      let d = is-both (in_range l.class i.y) _ b.1 in
      let m : Small g R = small_of g s.rows32 s.rows64 t a.0 in
      let k : R.place ≡ code p = sym (code_of R.place m.place) in
      let w : follow_of R u ≡ beside p R u = follow-is k in
      let reach = access-reached (accesses p R) i.x b.0 in
      let y : in_range (address (beside p R u)).class i.y ≡ true = subst (λ (n : Named). in_range (address n).class i.y ≡ true) w d.0 in
      let far = reached (beside p R u) (is-cell _ i.y y) in
      record {
        place = k;
        small = m;
        reach = reach;
        x = access-fetched s.cells (accesses p R) ∙ fetched-view s.cells _ _ (named (accesses p R)) reach;
        v = refl;
        fits = λ q. read_limit (accesses p R) i.x q b.0;
        y = ap (λ (n : Named). fetched s.cells (address n)) w ∙ fetched-view s.cells _ _ (beside p R u) far;
        w = refl;
        beyond = far;
        fit = in_limit (beside p R u) i.y y;
        lowest = lowest-view s.cells.records R.place;
        guarded = ap (λ (q : List ℕ). is_guarded q (first R)) (sym (guards-get s.guards t ht z.guards));
        thread = refl;
        also = reached e.also (is-cell _ 0 d.1);
        low = low;
        early = hk;
      }

  -- with the row as the view has it
  abbrev Took : Row → Effect → Out → Type 0
  Took r d o = Look g (view_of s) t p r i → o.answer ≡ answer d.number d.value → view_of o.state ≡ applies t (named (accesses p r)) d (view_of s) → Sized o.state → Turn g s t o

  taken : (o : Out) → Took R e o
  taken o = subst (λ (r : Row). Took r (does g p r i) o) (row-view s t ht) (λ k a q w. takes p i ht k a q w)

  sound : Calm g R i p e → (e.writes ≡ true → InTable (named (accesses p R))) → InTable e.also → Sound (accesses p R) e
  sound k a b = record { reach = a; put = λ _. k.put; also = b; to = k.to; stolen = k.stolen }

  where_is : (p ≡ Pc.N1) ⊎ (p ≡ Pc.Swap) → (pc_of (row_in (view_of s) t).place ≡ Pc.N1) ⊎ (pc_of (row_in (view_of s) t).place ≡ Pc.Swap)
  where_is = subst (λ (x : Row). (pc_of x.place ≡ Pc.N1) ⊎ (pc_of x.place ≡ Pc.Swap) → (pc_of (row_in (view_of s) t).place ≡ Pc.N1) ⊎ (pc_of (row_in (view_of s) t).place ≡ Pc.Swap)) (row-view s t ht) (λ w. w)

  soon : (view_of s).counters.ticks < steps
  unfolding view_of
  soon = hk

  stop : (n : ℕ) → (p ≡ Pc.N1) ⊎ (p ≡ Pc.Swap) → (n ≡ 25) ⊎ (n ≡ 26) → Turn g s t (out (answer n 0) (given s t c (ends n)))
  stop n w q = stops n q (where_is w) soon ht refl (view-given s z t ht (accesses p R) (ends n) quiet) (sized-given s z t ht (accesses p R) (ends n) quiet) (given-ends s z t c n)
    where
      quiet : Sound (accesses p R) (ends n)
      quiet = record { reach = λ x. absurd (false≢true x); put = λ x. absurd (false≢true x); also = tt; to = tt; stolen = refl }

  stopped : (b : Bool) (n : ℕ) → (p ≡ Pc.N1) ⊎ (p ≡ Pc.Swap) → (n ≡ 25) ⊎ (n ≡ 26) → Turn g s t (take_by s t c (judge R b (ends n)))
  stopped b n w (inl q) = subst (λ (m : ℕ). Turn g s t (take_by s t c (judge R b (ends m)))) (sym q) (stop 25 w (inl refl))
  stopped b n w (inr q) = subst (λ (m : ℕ). Turn g s t (take_by s t c (judge R b (ends m)))) (sym q) (stop 26 w (inr refl))

  -- neither 25 nor 26: what is judged is judged by its fitting
  judge-plain : (b : Bool) (d : Effect) → Plain d → judge R b d ≡ pick b d (damaged R)
  judge-plain b d k = let n = not-ended d k in rw (ne_eqb d.number 25 n.0, ne_eqb d.number 26 n.1)

  nine : Turn g s t (refused 29 s)
  nine = stays 29 (omega arith) (λ q. omega arith) (λ q. omega arith) refl

  goes : fits ≡ true → e.number < 16 → Turn g s t (out (answer e.number e.value) (given s t c e))
  goes h low =
      let k = look h low in
      let w = sound (calm g R i k.small eight (rw k.v (omega arith)) (rw k.thread ht) p) (λ _. k.reach) k.also in
      taken (out (answer e.number e.value) (given s t c e)) k refl (view-given s z t ht (accesses p R) e w) (sized-given s z t ht (accesses p R) e w)

  plainly : Plain e → (b : Bool) → fits ≡ b → Turn g s t (take_by s t c (pick b e (damaged R)))
  plainly k false h = nine
  plainly (inr q) true h = pick_case (Turn g s t) (eqb e.number 29) _ _ (λ _. nine) (λ ne. absurd (eqb-false e.number 29 ne q))
  plainly (inl q) true h = pick_all (Turn g s t) (eqb e.number 29) _ _ nine (goes h q)

  judging : (b : Bool) → fits ≡ b → Turn g s t (take_by s t c (judge R b e))
  unfolding Ended
  judging b h = go (numbered g R i p).number
    where
      go : Ended p e ⊎ Plain e → Turn g s t (take_by s t c (judge R b e))
      go (inl q) = subst (λ (d : Effect). Turn g s t (take_by s t c (judge R b d))) (sym q.1) (stopped b q.0 q.3 q.2)
      go (inr k) = subst (λ (d : Effect). Turn g s t (take_by s t c d)) (sym (judge-plain b e k)) (plainly k b h)

  takes_turn : Turn g s t (take_of g s t flag clock)
  unfolding take_of look_of look_by judged access_of effect_of
  takes_turn = judging fits refl

  -- ---- the other way round: where the tests pass the answer is the effect's
  passes : fits ≡ true → Fine e.number → Fine (take_of g s t flag clock).answer.number
  unfolding take_of look_of look_by judged access_of effect_of
  passes h k = rw h (pick_all At (eqb e.number 25) _ _ taking (pick_all At (eqb e.number 26) _ _ taking taking))
    where
      At : Effect → Type 0
      At d = Fine (take_by s t c d).answer.number

      taking : At e
      taking = pick_case (λ (o : Out). Fine o.answer.number) (eqb e.number 29) _ _ (λ q. absurd (k.1 (eqb-true e.number 29 q))) (λ _. k)

  whole : row_fits g s.rows32 t ≡ true → InRange (view_of s) → Whole g (view_of s) t R → Fine (take_of g s t flag clock).answer.number
  unfolding view_of read_by
  whole f n k =
      let q : R.place ≡ code p = sym (code_of R.place (small_of g s.rows32 s.rows64 t f).place) in
      let w : follow_of R u ≡ beside p R u = follow-is q in
      let reach = k.reach p q in
      let far = k.beyond p u q (lowest-id s.cells.records R.place) in
      let x : i.x ≡ get (named (accesses p R)) (view_of s) = access-fetched s.cells (accesses p R) ∙ fetched-view s.cells _ _ (named (accesses p R)) reach in
      let y : i.y ≡ get (beside p R u) (view_of s) = ap (λ (n : Named). fetched s.cells (address n)) w ∙ fetched-view s.cells _ _ (beside p R u) far in
      let see : Sees (view_of s) t p R i = record { place = q; reach = reach; x = x; v = refl; beyond = far; y = y; w = refl; thread = refl } in
      let a : in_range c.class i.x ≡ true = ap (in_range c.class) x ∙ n.held (accesses p R) reach in
      let b : in_range l.class i.y ≡ true = ap (λ (m : Named). in_range (address m).class i.y) w ∙ ap (in_range (address (beside p R u)).class) y ∙ n.held (by.Load (beside p R u)) far in
      passes (rw (f, a, b) (n.null e.also (k.also p i see))) (k.fine p i see)

in_turn : (g : Settings) (s : State) → Sized s → (t : ℕ) → t < threads → (flag : Bool) (clock : ℕ) → Turn g s t (step_in g s t flag clock)
unfolding step_in
in_turn g s z t ht flag clock =
    pick_case (Turn g s t) (leb steps (get_or s.cells.counters 4 0)) _ _ (λ _. stays 19 (omega arith) (λ q. omega arith) (λ q. omega arith) refl)
    (λ e. pick_all (Turn g s t) (eqb (get_or s.rows32 (t * row32) 0) (code Pc.Idle)) _ _ (stays 21 (omega arith) (λ q. omega arith) (λ q. omega arith) refl) (takes_turn g s z t ht flag clock (leb-false _ _ e)))

-- every step
pub step_turn : (g : Settings) (s : State) (t : ℕ) (flag : Bool) (clock : ℕ) → Turn g s t (step_of g s t flag clock)
unfolding step_of
step_turn g s t flag clock =
    pick_case (Turn g s t) (sizes s) _ _ (λ q. pick_case (Turn g s t) (ltb t threads) _ _ (λ h. in_turn g s (sized_of s q) t (ltb-true t threads h) flag clock) (λ _. stays 17 (omega arith) (λ q. omega arith) (λ q. omega arith) refl)) (λ _. stays 16 (omega arith) (λ q. omega arith) (λ q. omega arith) refl)

-- on whole tables no step answers 16 or 29
module _ (g : Settings) (s : State) (z : Sized s) (fit : (t : ℕ) → t < threads → row_fits g s.rows32 t ≡ true) (n : InRange (view_of s)) (k : (t : ℕ) → t < threads → (row_in (view_of s) t).place ≢ 0 → Whole g (view_of s) t (row_in (view_of s) t)) (t : ℕ) (flag : Bool) (clock : ℕ) where
  abbrev At : Out → Type 0
  At o = Fine o.answer.number

  in_whole : t < threads → At (step_in g s t flag clock)
  unfolding step_in row_at
  in_whole ht =
      pick_case At (leb steps (get_or s.cells.counters 4 0)) _ _ (λ _. omega arith)
      (λ e. pick_case At (eqb (get_or s.rows32 (t * row32) 0) (code Pc.Idle)) _ _ (λ _. omega arith)
      (λ q. whole g s z t ht flag clock (leb-false _ _ e) (fit t ht) n (subst (λ (r : Row). r.place ≢ 0 → Whole g (view_of s) t r) (row-view s t ht) (k t ht) (λ b. eqb-false _ 0 q (ap (λ (m : ℕ). get_or s.rows32 m 0) (let j : t * row32 ≡ t * row32 + 0 = omega arith in j) ∙ b)))))

  pub step-whole : At (step_of g s t flag clock)
  unfolding step_of
  step-whole = rw (sizes-of s z) (pick_case At (ltb t threads) _ _ (λ h. in_whole (ltb-true t threads h)) (λ _. omega arith))
