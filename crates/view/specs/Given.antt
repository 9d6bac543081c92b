-- Viewing after an effect, or after a start, is the effect or the start on the view.
use Rattle.std.specs.Prelude.{ℕ, ◌+◌, ◌*◌, ◌-◌, ◌<◌, min, ◌≡◌, refl, ◌≢◌, Bool, length, get_or, take, drop}
use Rattle.std.proofs.Common.{sym, ap₂, ◌∙◌, length-set, length-take, length-drop, length-append, take-append-drop, get_or-set_same, get_or-set_other, ext_get_or, get_or-append-add, get_or-take, get_or-drop, eqb-true, eq-eqb, arith}
use Rattle.std.proofs.Math.Path.{ap}
use Rattle.std.proofs.Math.Bool.{true, false}
use mathlib.Core.List.{List, [], ◌++◌}
use Rattle.std.proofs.Math.ListN.{set, get_or-append}
use Rattle.std.proofs.lemmas.List.{length-replicate}
use Rattle.std.proofs.Math.Decide.{dec_lt}
use Rattle.base.specs.Pick.{pick, is-both}
use Rattle.rules.specs.Sizes.{records, threads, words, row32, row64}
use Rattle.rules.specs.Words.{plus}
use Rattle.rules.specs.Cells.{address, accessed, cell_at, in_range, unread, nothing}
use Rattle.rules.specs.declared.Class.TheVariants.{Anything}
use Rattle.rules.specs.Rows.{idle, row_at, stored32, stored64}
use Rattle.rules.specs.Places.{ends}
use Rattle.rules.specs.Step.{Shared, State, state, sizes, written, closed, ticked, cells_given, guards_of, guards_put, guards_after, guards_given, given}
use Rattle.rules.specs.Start.{entered}
use Rattle.rules.specs.declared.Cell.{Cell}
use Rattle.rules.specs.declared.Row.{Row}
use Rattle.rules.specs.declared.Effect.{Effect}
use Rattle.rules.specs.declared.Entry.{Entry}
use Rattle.rules.specs.declared.Guards.{Guards}
use Rattle.rules.specs.declared.Guards.TheVariants as guards
use Rattle.rules.specs.declared.Named.TheVariants as cell
use Rattle.rules.specs.declared.Access.{Access}
use Rattle.rules.specs.declared.Access.TheVariants as by
use Rattle.rows.specs.RowLaws.{load_store, load_else, stored32-length, stored64-length}
use Rattle.bits.specs.BitLaws.{guarded-length, none-length}
use Rattle.lists.specs.Tab.{tab-get, tab-set, tab_ext}
use Rattle.view.specs.Field.{field-cleared}
use Rattle.view.specs.View.{shard_heads, view, view_of, rows_in, guards_in, named, InTable, put, put_if, shut_if, tick, applies, enters, with_heads, with_counters, with_records}
use Rattle.view.specs.Written.{SizedCells, Fits, written_none, written-view}

-- ---- tables of the sizes of document 01
pub record Sized (s : State) : Type 0 where
  pub cells : SizedCells s.cells
  pub rows32 : length s.rows32 ≡ row32 * threads
  pub rows64 : length s.rows64 ≡ row64 * threads
  pub guards : length s.guards ≡ words * threads

pub sized_of : (s : State) → sizes s ≡ true → Sized s
sized_of s e =
    let h = is-both _ _ e in
    let c = is-both _ _ h.1 in
    let r = is-both _ _ c.1 in
    let b = is-both _ _ r.1 in
    let n = is-both _ _ b.1 in
    let m = is-both _ _ n.1 in
    let x = is-both _ _ m.1 in
    let y = is-both _ _ x.1 in
    record {
      cells = record { heads = eqb-true _ _ h.0; counters = eqb-true _ _ c.0; records = eqb-true _ _ r.0; sources = eqb-true _ _ b.0; next = eqb-true _ _ n.0; state = eqb-true _ _ m.0 };
      rows32 = eqb-true _ _ x.0;
      rows64 = eqb-true _ _ y.0;
      guards = eqb-true _ _ y.1;
    }

pub sizes-of : (s : State) → Sized s → sizes s ≡ true
sizes-of s z =
    rw (eq-eqb _ _ z.cells.heads, eq-eqb _ _ z.cells.counters, eq-eqb _ _ z.cells.records, eq-eqb _ _ z.cells.sources, eq-eqb _ _ z.cells.next, eq-eqb _ _ z.cells.state, eq-eqb _ _ z.rows32, eq-eqb _ _ z.rows64)
    (eq-eqb _ _ z.guards)

pub sized-written : (s : Shared) (c : Cell) (x : ℕ) → SizedCells s → SizedCells (written s c x)
unfolding written
sized-written s c x z = record { heads = rw length-set z.heads; counters = rw length-set z.counters; records = rw length-set z.records; sources = rw length-set z.sources; next = rw length-set z.next; state = rw length-set z.state }

sized-closed : (s : Shared) (b : Bool) → SizedCells s → SizedCells (closed s b)
sized-closed s false z = z
sized-closed s true z = record { heads = rw (length-set, length-set) z.heads; counters = z.counters; records = rw length-replicate z.records; sources = z.sources; next = z.next; state = z.state }

sized-ticked : (s : Shared) → SizedCells s → SizedCells (ticked s)
sized-ticked s z = record { heads = z.heads; counters = rw length-set z.counters; records = z.records; sources = z.sources; next = z.next; state = z.state }

-- ---- the access of a step
-- a store's cell is at the same place
unread-written : (s : Shared) (c : Cell) (x : ℕ) → written s (unread c) x ≡ written s c x
unfolding written
unread-written s c x = go (in_range c.class 0)
  where
    go : (b : Bool) → written s (pick b (cell_at c.table c.at Anything) c) x ≡ written s c x
    go true = refl
    go false = refl

access-written : (s : Shared) (a : Access) (x : ℕ) → written s (accessed a) x ≡ written s (address (named a)) x
access-written s (by.Load c) x = refl
access-written s (by.Store c) x = unread-written s (address c) x
access-written s (by.HazardStore c) x = unread-written s (address c) x
access-written s (by.Update c) x = refl
access-written s (by.Private c) x = refl

module _ (s : Shared) (z : SizedCells s) (rs : List Row) (q : List (List ℕ)) where
  access-view : (a : Access) (w : Bool) (x : ℕ) → (w ≡ true → InTable (named a)) → (w ≡ true → Fits (named a) x) → view (written s (pick w (accessed a) nothing) x) rs q ≡ put_if w (named a) x (view s rs q)
  unfolding address
  access-view a true x h f = ap (λ (t : Shared). view t rs q) (access-written s a x) ∙ written-view s z rs q x (named a) (h refl) (f refl)
  access-view a false x h f = written-view s z rs q x cell.Nothing tt tt

  closed-view : (b : Bool) → view (closed s b) rs q ≡ shut_if b (view s rs q)
  closed-view false = refl
  closed-view true = λ i.
      with_heads (record {
        record_head = (get_or-set_other (set s.heads 0 0) 1 0 0 0 (omega arith) ∙ get_or-set_same s.heads 0 0 0 (omega (arith, z.heads))) i;
        head_available = get_or-set_same (set s.heads 0 0) 1 0 0 (omega (arith, z.heads, length-set s.heads 0 0)) i;
        mark = (get_or-set_other (set s.heads 0 0) 1 2 0 0 (omega arith) ∙ get_or-set_other s.heads 0 2 0 0 (omega arith)) i;
        shards = tab_ext shard_heads (λ k. get_or (set (set s.heads 0 0) 1 0) (k + 3) 0) (λ k. get_or s.heads (k + 3) 0) (λ k _. get_or-set_other (set s.heads 0 0) 1 (k + 3) 0 0 (omega arith) ∙ get_or-set_other s.heads 0 (k + 3) 0 0 (omega arith)) i;
      })
      (with_records (record {
        hazard = field-cleared 4 records s.records 0 i;
        available_next = field-cleared 4 records s.records 1 i;
        next = field-cleared 4 records s.records 2 i;
        holder = field-cleared 4 records s.records 3 i;
      }) (view s rs q))

  ticked-view : view (ticked s) rs q ≡ tick (view s rs q)
  ticked-view = λ i.
      with_counters (record {
        record_count = other 0 (omega arith) i;
        count = other 1 (omega arith) i;
        due_time = other 2 (omega arith) i;
        bulk_reclaims = other 3 (omega arith) i;
        ticks = get_or-set_same s.counters 4 (plus (get_or s.counters 4 0) 1) 0 (omega (arith, z.counters)) i;
      }) (view s rs q)
    where
      other : (j : ℕ) → j ≢ 4 → get_or (set s.counters 4 (plus (get_or s.counters 4 0) 1)) j 0 ≡ get_or s.counters j 0
      other j ne = get_or-set_other s.counters 4 j (plus (get_or s.counters 4 0) 1) 0 ne

-- ---- what an effect must be for the tables to hold it
pub record Sound (a : Access) (e : Effect) : Type 0 where
  pub reach : e.writes ≡ true → InTable (named a)
  pub put : e.writes ≡ true → Fits (named a) e.put
  pub also : InTable e.also
  pub to : Fits e.also e.to
  pub stolen : length e.row.stolen ≡ 8

module _ (s : Shared) (z : SizedCells s) (rs : List Row) (q : List (List ℕ)) (a : Access) (e : Effect) (h : Sound a e) where
  abbrev s₁ : Shared
  s₁ = written s (pick e.writes (accessed a) nothing) e.put

  abbrev s₂ : Shared
  s₂ = written s₁ (address e.also) e.to

  z₁ : SizedCells s₁
  z₁ = sized-written s (pick e.writes (accessed a) nothing) e.put z

  z₂ : SizedCells s₂
  z₂ = sized-written s₁ (address e.also) e.to z₁

  cells-view : view (cells_given s (accessed a) e) rs q ≡ tick (shut_if e.closes (put e.also e.to (put_if e.writes (named a) e.put (view s rs q))))
  unfolding cells_given
  cells-view =
      ticked-view (closed s₂ e.closes) (sized-closed s₂ e.closes z₂) rs q
      ∙ ap tick (closed-view s₂ z₂ rs q e.closes ∙ ap (shut_if e.closes)
      (written-view s₁ z₁ rs q e.to e.also h.also h.to ∙ ap (put e.also e.to) (access-view s z rs q a e.writes e.put h.reach h.put)))

  cells-sized : SizedCells (cells_given s (accessed a) e)
  unfolding cells_given
  cells-sized = sized-ticked (closed s₂ e.closes) (sized-closed s₂ e.closes z₂)

-- ---- the rows
rows-view : (l m : List ℕ) (t : ℕ) (r : Row) → t < threads → length l ≡ row32 * threads → length m ≡ row64 * threads → length r.stolen ≡ 8 → rows_in (stored32 l t r) (stored64 m t r) ≡ set (rows_in l m) t r
rows-view l m t r ht hl hm h8 = tab-set threads (λ u. row_at l m u) (λ u. row_at (stored32 l t r) (stored64 m t r) u) t r ht (load_store l m t r ht hl hm h8) (λ u _ ne. load_else l m t u r ne)

-- ---- the guarded sets
module _ (g p : List ℕ) (t : ℕ) (ht : t < threads) (hg : length g ≡ words * threads) (hp : length p ≡ words) where
  front : length (take (t * words) g) ≡ t * words
  front = length-take (t * words) g ∙ omega arith

  put-below : (i : ℕ) → i < t * words → get_or (guards_put g t p) i 0 ≡ get_or g i 0
  put-below i h = get_or-append (take (t * words) g) (p ++ drop words (drop (t * words) g)) 0 i (omega (arith, front)) ∙ get_or-take (t * words) g i 0 h

  put-inside : (j : ℕ) → j < words → get_or (guards_put g t p) (t * words + j) 0 ≡ get_or p j 0
  put-inside j h =
      ap (λ (k : ℕ). get_or (guards_put g t p) (k + j) 0) (sym front)
      ∙ get_or-append-add (take (t * words) g) (p ++ drop words (drop (t * words) g)) j 0
      ∙ get_or-append p (drop words (drop (t * words) g)) 0 j (omega arith)

  put-above : (k : ℕ) → get_or (guards_put g t p) (t * words + (words + k)) 0 ≡ get_or g (t * words + (words + k)) 0
  put-above k =
      ap (λ (j : ℕ). get_or (guards_put g t p) (j + (words + k)) 0) (sym front)
      ∙ get_or-append-add (take (t * words) g) (p ++ drop words (drop (t * words) g)) (words + k) 0
      ∙ ap (λ (j : ℕ). get_or (p ++ drop words (drop (t * words) g)) (j + k) 0) (sym hp)
      ∙ get_or-append-add p (drop words (drop (t * words) g)) k 0
      ∙ get_or-drop words (drop (t * words) g) k 0
      ∙ get_or-drop (t * words) g (words + k) 0

  put-length : length (guards_put g t p) ≡ length g
  put-length =
      length-append (take (t * words) g) (p ++ drop words (drop (t * words) g))
      ∙ ap₂ ◌+◌ front (length-append p (drop words (drop (t * words) g)) ∙ ap₂ ◌+◌ hp (length-drop words (drop (t * words) g) ∙ ap (λ (k : ℕ). k - words) (length-drop (t * words) g)))
      ∙ omega arith

  part_length : (l : List ℕ) (u : ℕ) → length l ≡ words * threads → u < threads → length (guards_of l u) ≡ words
  part_length l u hl hu = length-take words (drop (u * words) l) ∙ ap (min words) (length-drop (u * words) l) ∙ omega arith

  part-get : (l : List ℕ) (u j : ℕ) → j < words → get_or (guards_of l u) j 0 ≡ get_or l (u * words + j) 0
  part-get l u j h = get_or-take words (drop (u * words) l) j 0 h ∙ get_or-drop (u * words) l j 0

  put_same : guards_of (guards_put g t p) t ≡ p
  put_same = ext_get_or 0 (guards_of (guards_put g t p) t) p (lt ∙ sym hp) (λ j h. part-get (guards_put g t p) t j (omega (arith, lt)) ∙ put-inside j (omega (arith, lt)))
    where
      lt : length (guards_of (guards_put g t p) t) ≡ words
      lt = part_length (guards_put g t p) t (put-length ∙ hg) ht

  put_other : (u : ℕ) → u < threads → u ≢ t → guards_of (guards_put g t p) u ≡ guards_of g u
  put_other u hu ne = ext_get_or 0 (guards_of (guards_put g t p) u) (guards_of g u) (lu ∙ sym (part_length g u hg hu)) (λ j h. part-get (guards_put g t p) u j (omega (arith, lu)) ∙ at j (omega (arith, lu)) (dec_lt u t) ∙ sym (part-get g u j (omega (arith, lu))))
    where
      lu : length (guards_of (guards_put g t p) u) ≡ words
      lu = part_length (guards_put g t p) u (put-length ∙ hg) hu

      at : (j : ℕ) → j < words → Dec (u < t) → get_or (guards_put g t p) (u * words + j) 0 ≡ get_or g (u * words + j) 0
      at j h (yes q) = put-below (u * words + j) (omega arith)
      at j h (no q) =
          let e : u * words + j ≡ t * words + (words + (u * words + j - (t * words + words))) = omega arith in
          ap (λ (k : ℕ). get_or (guards_put g t p) k 0) e ∙ put-above (u * words + j - (t * words + words)) ∙ ap (λ (k : ℕ). get_or g k 0) (sym e)

  guards-put : guards_in (guards_put g t p) ≡ set (guards_in g) t p
  guards-put = tab-set threads (λ u. guards_of g u) (λ u. guards_of (guards_put g t p) u) t p ht put_same put_other

pub guards-length : (p : List ℕ) (m : Guards) → length (guards_after p m) ≡ length p
unfolding guards_after
guards-length p guards.Keep = refl
guards-length p guards.Clear = none-length p
guards-length p (guards.Set n) = guarded-length p n

module _ (l : List ℕ) (t : ℕ) (ht : t < threads) (hl : length l ≡ words * threads) where
  own-length : length (guards_of l t) ≡ words
  own-length = length-take words (drop (t * words) l) ∙ ap (min words) (length-drop (t * words) l) ∙ omega arith

  pub guards-get : get_or (guards_in l) t [] ≡ guards_of l t
  guards-get = tab-get threads (λ u. guards_of l u) t [] ht

  guards-view : (m : Guards) → guards_in (guards_given l t m) ≡ set (guards_in l) t (guards_after (get_or (guards_in l) t []) m)
  unfolding guards_given
  guards-view m = guards-put l (guards_after (guards_of l t) m) t ht hl (guards-length (guards_of l t) m ∙ own-length) ∙ ap (λ (x : List ℕ). set (guards_in l) t (guards_after x m)) (sym guards-get)

  guards-sized : (m : Guards) → length (guards_given l t m) ≡ words * threads
  unfolding guards_given
  guards-sized m = put-length l (guards_after (guards_of l t) m) t ht hl (guards-length (guards_of l t) m ∙ own-length) ∙ hl

pub guard_words : (s : State) → Sized s → (t : ℕ) → t < threads → length (get_or (view_of s).guards t []) ≡ words
unfolding view_of
guard_words s z t ht = ap length (guards-get s.guards t ht z.guards) ∙ own-length s.guards t ht z.guards

-- ---- a step's effect
module _ (s : State) (z : Sized s) (t : ℕ) (ht : t < threads) (a : Access) (e : Effect) (h : Sound a e) where
  pub view-given : view_of (given s t (accessed a) e) ≡ applies t (named a) e (view_of s)
  unfolding view_of given
  view-given =
      (λ i. view (cells_given s.cells (accessed a) e) (rows-view s.rows32 s.rows64 t e.row ht z.rows32 z.rows64 h.stolen i) (guards-view s.guards t ht z.guards e.guards i))
      ∙ cells-view s.cells z.cells _ _ a e h

  pub sized-given : Sized (given s t (accessed a) e)
  unfolding given
  sized-given = record {
    cells = cells-sized s.cells z.cells [] [] a e h;
    rows32 = stored32-length s.rows32 s.rows64 t e.row ∙ z.rows32;
    rows64 = stored64-length s.rows32 s.rows64 t e.row ∙ z.rows64;
    guards = guards-sized s.guards t ht z.guards e.guards;
  }

-- ---- a start
module _ (s : State) (z : Sized s) (t : ℕ) (ht : t < threads) (e : Entry) (reach : InTable e.cell) (fits : Fits e.cell e.put) (h8 : length e.row.stolen ≡ 8) where
  pub view-entered : view_of (entered s t e) ≡ enters t e (view_of s)
  unfolding view_of entered
  view-entered =
      (λ i. view (written s.cells (address e.cell) e.put) (rows-view s.rows32 s.rows64 t e.row ht z.rows32 z.rows64 h8 i) (guards_in s.guards))
      ∙ written-view s.cells z.cells _ _ e.put e.cell reach fits

  pub sized-entered : Sized (entered s t e)
  unfolding entered
  sized-entered = record {
    cells = sized-written s.cells (address e.cell) e.put z.cells;
    rows32 = stored32-length s.rows32 s.rows64 t e.row ∙ z.rows32;
    rows64 = stored64-length s.rows32 s.rows64 t e.row ∙ z.rows64;
    guards = z.guards;
  }

-- ---- an effect that only ends the operation: the thread is idle, and the step counts
abbrev pub idled : State → ℕ → State
idled s t = state (ticked s.cells) (stored32 s.rows32 t idle) (stored64 s.rows64 t idle) s.guards

pub given-ends : (s : State) → Sized s → (t : ℕ) (c : Cell) (n : ℕ) → given s t c (ends n) ≡ idled s t
unfolding given cells_given guards_given guards_after address
given-ends s z t c n = λ i. state (ticked (kept i)) (stored32 s.rows32 t idle) (stored64 s.rows64 t idle) (own i)
  where
    kept : written (written s.cells nothing 0) nothing 0 ≡ s.cells
    kept = ap (λ (x : Shared). written x nothing 0) (written_none s.cells z.cells 0) ∙ written_none s.cells z.cells 0

    own : guards_put s.guards t (guards_of s.guards t) ≡ s.guards
    own = ap (λ (l : List ℕ). take (t * words) s.guards ++ l) (take-append-drop words (drop (t * words) s.guards)) ∙ take-append-drop (t * words) s.guards
