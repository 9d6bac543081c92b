-- Every step and every start keeps the layer of claims.
use Rattle.std.specs.Prelude.{◌≡◌, refl, ◌≢◌, ◌⊎◌, Bool, true, false, ℕ, zero, suc, ◌+◌, ◌*◌, ◌-◌, ◌≤◌, ◌<◌, min, eqb, length, get_or, set, replicate}
use Rattle.std.proofs.Common.{sym, ap, ◌∙◌, subst, inl, inr, true≢false, length-set, get_or-set_same, get_or-set_other, eqb-true}
use mathlib.Core.List.{List, [], ◌∷◌}
use Rattle.std.proofs.Math.Decide.{ℕ_discrete, dec_le}
use native.Mathlib.Omega.{arith}
use Rattle.std.proofs.lemmas.List.{length-replicate}
use Rattle.std.proofs.Math.ListN.{get_or-eq_default}
use Rattle.std.proofs.Math.Seq.{set-get_or}
use Rattle.std.proofs.lemmas.Bool.{eqb-false}
use Rattle.base.specs.Pick.{pick}
use Rattle.rules.specs.Sizes.{records, nodes, words, threads, Settings}
use Rattle.rules.specs.Words.{is_guarded}
use Rattle.rules.specs.Pc.{pc_of, code}
use Rattle.rules.specs.declared.pc.Pc.{Pc}
use Rattle.rules.specs.declared.pc.Pc.TheVariants as Pc
use Rattle.rules.specs.Rows
use Rattle.rules.specs.Rows.{idle, in_shard, shard_in, stealing, go_to, first}
use Rattle.rules.specs.Places.{accesses, does, ends, becomes, stores, also_stores, finishes, reclaims, guarding, clears_guards}
use Rattle.rules.specs.Step.{guards_after}
use Rattle.rules.specs.Start.{begins, narrow, fresh_at}
use Rattle.rules.specs.declared.Operation.{Operation}
use Rattle.rules.specs.declared.Operation.TheVariants.{Retire, Shutdown}
use Rattle.rules.specs.declared.Row.{Row}
use Rattle.rules.specs.declared.Seen.{Seen}
use Rattle.rules.specs.declared.Effect.{Effect}
use Rattle.rules.specs.declared.Guards.TheVariants as guards
use Rattle.rules.specs.declared.Named.TheVariants as cell
use Rattle.bits.specs.BitLaws.{guarded-also, guarded-kept}
use Rattle.lists.specs.Occ.{occ, eq01, eq01-same, eq01_cases, sum, sum-at}
use Rattle.lists.specs.Chain.{Seg, seg_head, seg_unique, seg_frame, seg_push}
use Rattle.lists.specs.Heap
use Rattle.lists.specs.Each.{each_set}
use Rattle.lists.specs.Tab.{zeros}
use Rattle.view.specs.Field.{IsId, cleared}
use Rattle.view.specs.View.{View, named, get, applies, enters}
use Rattle.view.specs.Every.{pc_is, classed, every, every-start, two, never, At, thus, either, pick_all, pick_case}
use Rattle.view.specs.Long.{Long}
use Rattle.view.specs.Rest.{all-passed, all-checked, all-emptied, all_from, all-examined, all-reclaimed, all-shut}
use Rattle.view.specs.Turn.{row_in, Look, sees}
use Rattle.view.specs.Begin.{Admitted, Owned}
use Rattle.heap.specs.Hooks.{hooks, slot, alone, slot-slot, loose, hv, to_reclaim, slot_in, get-slot, loose-tight, get-stolen, get-reclaim}
use Rattle.heap.specs.Stage.{HeapIn, others-none, others-one, shape-eight, stage}
use Rattle.heap.specs.HeapStep.{Next, grabs, gains, begun_lists}
use Rattle.records.specs.Hold.{Hold, hold, has, has_of, off, off_of, KnowOf, RecordsIn}
use Rattle.records.specs.RecordMoves
use Rattle.records.specs.RecordStep.{untaken_free}
use Rattle.shutdown.specs.Zone.{side, Shut, Open, ShutRow, ZoneIn, all-shut-rows, mark_open}
use Rattle.claims.specs.Claim
use Rattle.claims.specs.Claim.{Claim, Stolen, Guarded, Scan, scan, Part, SafeOf, Safe, ValOf, Val, Keeper, Held, ClaimsAt, ClaimsIn, safe-less, stolen-other, keeper-set}

-- what a step does to the claims: a store to a hazard ends its record's, V2's answer makes one, and S3 ends them all
pub data Marking : Type 0 where
  keeps drops makes clears : Marking

abbrev pub marking : Pc → Marking
marking = classed keeps ((Pc.D1, drops) ∷ (Pc.V1, drops) ∷ (Pc.V2, makes) ∷ (Pc.V3, drops) ∷ (Pc.Reset, drops) ∷ (Pc.Raw, drops) ∷ (Pc.S3, clears) ∷ [])

abbrev pub marks_of : Marking → Row → Effect → List ℕ → List ℕ
marks_of keeps r e cl = cl
marks_of drops r e cl = set cl r.rec 0
marks_of makes r e cl = pick (eqb e.number 2) (set cl r.rec e.value) cl
marks_of clears r e cl = replicate (suc records) 0

abbrev pub marks : Pc → Row → Effect → List ℕ → List ℕ
marks p r e cl = marks_of (marking p) r e cl

-- a thread that is idle or shutting down protects nothing and scans nothing
shut-before : (p : Pc) → Shut (side p) → scan p ≡ Scan.before
shut-before = every (λ (p : Pc). Shut (side p) → scan p ≡ Scan.before) (search (two, never) depth 12 fits 4000)

shut-val : (p : Pc) (hz : List ℕ) (rec node : ℕ) → Shut (side p) → ValOf (scan p) hz rec node
shut-val p hz rec node h = rw (shut-before p h) tt

shut-safe : (p : Pc) (next : List ℕ) (head : ℕ) (g : List (List ℕ)) (cl : List ℕ) (ls : List (List ℕ)) (u rec : ℕ) → Shut (side p) → SafeOf (scan p) next head g cl ls u rec
shut-safe p next head g cl ls u rec h = rw (shut-before p h) tt

-- of a set, only that it sets and that it keeps
guards-set : (w : List ℕ) (n : ℕ) → 0 < n → n ≤ 64 * length w → is_guarded (guards_after w (guards.Set n)) n ≡ true
unfolding guards_after
guards-set w n a b = guarded-also w n a b

guards-set-kept : (w : List ℕ) (n m : ℕ) → is_guarded w m ≡ true → is_guarded (guards_after w (guards.Set n)) m ≡ true
unfolding guards_after
guards-set-kept w n m h = guarded-kept w n m h

-- what a value at V2 needs of the hazards, and who is there: an owner
abbrev Checks : Scan → Type 0
Checks Scan.before = ⊥
Checks Scan.checks = Unit {0}
Checks Scan.during = ⊥
Checks Scan.after = ⊥

val-hz : (s : Scan) (hz hz' : List ℕ) (rec node : ℕ) → (Checks s → get_or hz' rec 0 ≡ get_or hz rec 0) → ValOf s hz rec node → ValOf s hz' rec node
val-hz Scan.before hz hz' rec node f h = tt
val-hz Scan.checks hz hz' rec node f h = f tt ∙ h
val-hz Scan.during hz hz' rec node f h = tt
val-hz Scan.after hz hz' rec node f h = tt

checks-own : (p : Pc) → Checks (scan p) → hold p ≡ Hold.owns
checks-own = every (λ (p : Pc). Checks (scan p) → hold p ≡ Hold.owns) (search (two, never) depth 12 fits 4000)

module _ (g : Settings) (v : View) (ls : List (List ℕ)) (H : HeapIn g v ls) (R : RecordsIn v) (Z : ZoneIn v) (cl : List ℕ) (I : ClaimsIn v cl ls) (lv : Long v) (t : ℕ) (ht : t < length v.rows) (gw : length (get_or v.guards t []) ≡ words) where
  abbrev r : Row
  r = row_in v t

  abbrev mark : ℕ
  mark = v.heads.mark

  abbrev st : List ℕ
  st = v.nodes.state

  abbrev src : List ℕ
  src = v.sources

  abbrev hz : List ℕ
  hz = v.records.hazard

  abbrev next : List ℕ
  next = v.records.next

  abbrev head : ℕ
  head = v.heads.record_head

  abbrev ho : List ℕ
  ho = v.records.holder

  abbrev gs : List (List ℕ)
  gs = v.guards

  abbrev rows : List Row
  rows = v.rows

  abbrev K : Pc → Seen → Effect → Type 0
  K p i e = (N : Next g v ls t p i (applies t (named (accesses p r)) e v)) → ClaimsIn (applies t (named (accesses p r)) e v) (marks p r e cl) N.lists

  -- a thread at another place than D1
  not-D1 : (p : Pc) → r.place ≡ code p → code p ≢ code Pc.D1 → pc_of r.place ≢ Pc.D1
  not-D1 p e ne q = ne (ap code (sym (pc_is p e) ∙ q))

  -- guarded sets that stay
  gs-keep : set gs t (guards_after (get_or gs t []) guards.Keep) ≡ gs
  unfolding guards_after
  gs-keep = set-get_or gs t []

  -- a claimed node is not on the thread's reclaim list where the step adds nothing to it
  spares : (p : Pc) (i : Seen) (v' : View) (N : Next g v ls t p i v') → ((n : ℕ) → gains p r i n ≡ 0) → (c n : ℕ) → Claim cl c n → occ n (get_or N.lists (slot t to_reclaim) []) ≡ 0
  spares p i v' N z c n k = let a = N.reclaim n in let b = (I.claims c n k).spared t ht in let w = z n in omega arith

  calm : (p : Pc) → r.place ≡ code p → code p ≢ code Pc.D1 → (i : Seen) {v' : View} (N : Next g v ls t p i v') → ((n : ℕ) → gains p r i n ≡ 0) → (x : Row) → Val hz x → Safe next head gs cl N.lists t x
      → ClaimsAt mark st src hz next head ho (set gs t (guards_after (get_or gs t []) guards.Keep)) (set rows t x) cl N.lists
  calm p e ne i {v'} N z x val s =
      subst (λ (y : List (List ℕ)). ClaimsAt mark st src hz next head ho y (set rows t x) cl N.lists) (sym gs-keep)
      (Claim.relist mark st src hz next head ho gs rows cl ls I t ht x N.lists N.others (not-D1 p e ne) (spares p i v' N z) val s)

  -- the place stays, outside the scan and V2
  val_at : (p : Pc) (x : Row) → x.place ≡ code p → ValOf (scan p) hz x.rec x.node → Val hz x
  val_at p x e h = subst (λ (q : Pc). ValOf (scan q) hz x.rec x.node) (sym (pc_is p e)) h

  safe_at : (p : Pc) (x : Row) (gs' : List (List ℕ)) (cl' : List ℕ) (ls' : List (List ℕ)) → x.place ≡ code p → SafeOf (scan p) next head gs' cl' ls' t x.rec → Safe next head gs' cl' ls' t x
  safe_at p x gs' cl' ls' e h = subst (λ (q : Pc). SafeOf (scan q) next head gs' cl' ls' t x.rec) (sym (pc_is p e)) h

  -- ---- what stands in a slot of the thread waits, and a head stands in its slot
  waits : (u j n : ℕ) → u < length rows → j < 11 → 1 ≤ occ n (get_or ls (slot u j) []) → get_or st n 0 ≡ 2
  waits u j n hu hj o = Heap.standing loose v.nodes.next st (hv v.heads.shards rows) ls H.heap n (slot u j) (slot_in v.heads.shards rows H.h8 H.h11 u j hu hj) o

  head_in : (j n : ℕ) → j < 9 → get_or (hooks r) j 0 ≡ n → n ≢ 0 → 1 ≤ occ n (get_or ls (slot t j) [])
  head_in j n hj e nz =
      let a = rw (loose-tight t j hj, get-slot v.heads.shards rows H.h8 H.h11 t j ht (omega arith), e) at (H.heap.at (slot t j) (slot_in v.heads.shards rows H.h8 H.h11 t j ht (omega arith))) in
      let q = seg_head v.nodes.next n (get_or ls (slot t j) []) nz a in
      rw q.1 (let w = eq01-same n in omega arith)

  eight : length r.stolen ≡ 8
  eight = shape-eight g (stage (pc_of r.place)) r (H.shape t ht)

  -- ---- stores to the thread's hazard
  know : (p : Pc) (u : ℕ) → u < length rows → pc_of (get_or rows u idle).place ≡ p → KnowOf (hold p) v.heads.head_available v.records.available_next ho u (get_or rows u idle).rec (get_or rows u idle).next
  know p u hu e = subst (λ (q : Pc). KnowOf (hold q) v.heads.head_available v.records.available_next ho u (get_or rows u idle).rec (get_or rows u idle).next) e (R.know u hu)

  owned : (u : ℕ) → u < length rows → hold (pc_of (get_or rows u idle).place) ≡ Hold.owns → get_or ho (get_or rows u idle).rec 0 ≡ u + 2
  owned u hu q = (subst (λ (h : Hold). KnowOf h v.heads.head_available v.records.available_next ho u (get_or rows u idle).rec (get_or rows u idle).next) q (R.know u hu)).0

  ended : (a c n : ℕ) → a < length cl → Claim (set cl a 0) c n → (c ≢ a) × Claim cl c n
  ended a c n ha k = go (ℕ_discrete c a)
    where
      go : Dec (c ≡ a) → (c ≢ a) × Claim cl c n
      go (yes e) = absurd (k.some (sym k.is ∙ rw e (get_or-set_same cl a 0 0 ha)))
      go (no e) = (e, record { is = sym (get_or-set_other cl a c 0 0 e) ∙ k.is; some = k.some })

  -- ho': nobody at V2 has this record
  stored : (i : Seen) (p : Pc) {v' : View} (N : Next g v ls t p i v') → ((n : ℕ) → gains p r i n ≡ 0) → IsId records r.rec → ((u : ℕ) → u < length rows → u ≢ t → get_or ho r.rec 0 ≢ u + 2) → (y : ℕ) (x : Row) → Val (set hz r.rec y) x → Safe next head gs (set cl r.rec 0) N.lists t x
      → ClaimsAt mark st src (set hz r.rec y) next head ho (set gs t (guards_after (get_or gs t []) guards.Keep)) (set rows t x) (set cl r.rec 0) N.lists
  stored i p {v'} N z id others y x val s =
      subst (λ (w : List (List ℕ)). ClaimsAt mark st src (set hz r.rec y) next head ho w (set rows t x) (set cl r.rec 0) N.lists) (sym gs-keep)
      (Claim.puts mark st src hz next head ho gs rows cl ls I t ht mark st src (set hz r.rec y) next head ho gs x (set cl r.rec 0) N.lists I.sources I.states
      (λ c n k. let q = ended r.rec c n in' k in let h = I.claims c n q.1 in record {
        hazard = get_or-set_other hz r.rec c y 0 q.0 ∙ h.hazard;
        listed = h.listed;
        alive = h.alive;
        spared = λ u hu. spare n h.spared q.1 u (rw length-set at hu) (ℕ_discrete u t);
        keeper = keeper-set ho ho rows t x c ht (λ w. inl w) (λ _ w. q.0 (sym w)) h.keeper;
      })
      (λ u hu ne q. val-hz (scan (pc_of (get_or rows u idle).place)) hz (set hz r.rec y) (get_or rows u idle).rec (get_or rows u idle).node (λ e. get_or-set_other hz r.rec (get_or rows u idle).rec y 0 (λ w. others u hu ne (ap (λ (a : ℕ). get_or ho a 0) (sym w) ∙ owned u hu (checks-own (pc_of (get_or rows u idle).place) e)))) q)
      (λ u hu ne q. safe-less (scan (pc_of (get_or rows u idle).place)) next head gs gs cl (set cl r.rec 0) ls N.lists u (get_or rows u idle).rec (λ c n k m. (ended r.rec c n in' k).1) (λ n m. stolen-other (length rows) t ls N.lists N.others u n hu ne m) (λ n m. m) q)
      val s (λ m c n k. I.over m c n (ended r.rec c n in' k).1) (length-set cl r.rec 0 ∙ I.long ∙ sym (length-set hz r.rec y)))
    where
      in' : r.rec < length cl
      in' = let a = I.long in let b = lv.hazard in let q = id.1 in omega arith

      spare : (n : ℕ) → ((u : ℕ) → u < length rows → occ n (get_or ls (slot u to_reclaim) []) ≡ 0) → {c : ℕ} → Claim cl c n → (u : ℕ) → u < length rows → Dec (u ≡ t) → occ n (get_or N.lists (slot u to_reclaim) []) ≡ 0
      spare n old {c} k u hu (yes e) = rw e (spares p i v' N z c n k)
      spare n old {c} k u hu (no e) = rw (N.others u hu e to_reclaim (omega arith)) (old u hu)

  -- the owner stores
  owner : (p : Pc) → r.place ≡ code p → hold p ≡ Hold.owns → IsId records r.rec × (get_or ho r.rec 0 ≡ t + 2)
  owner p e q = let k = subst (λ (h : Hold). KnowOf h v.heads.head_available v.records.available_next ho t r.rec r.next) q (know p t ht (pc_is p e)) in (k.1, k.0)

  mine : get_or ho r.rec 0 ≡ t + 2 → (u : ℕ) → u < length rows → u ≢ t → get_or ho r.rec 0 ≢ u + 2
  mine e u hu ne w = ne (omega arith)

  kV1 : (i : Seen) → Look g v t Pc.V1 r i → At (λ (p : Pc) (e : Effect). K p i e) Pc.V1 (does g Pc.V1 r i)
  kV1 i l = thus (λ N. let o = owner Pc.V1 l.place refl in stored i Pc.V1 N (λ n. refl) o.0 (mine o.1) r.node (go_to Pc.V2 r) (get_or-set_same hz r.rec r.node 0 (let a = lv.hazard in let q = o.0.1 in omega arith)) tt)

  kV3 : (i : Seen) → Look g v t Pc.V3 r i → At (λ (p : Pc) (e : Effect). K p i e) Pc.V3 (does g Pc.V3 r i)
  kV3 i l =
      thus (let o = owner Pc.V3 l.place refl in
      pick_all (K Pc.V3 i) (eqb r.operation 3) _ _ (λ N. stored i Pc.V3 N (λ n. refl) o.0 (mine o.1) 0 _ tt tt) (λ N. stored i Pc.V3 N (λ n. refl) o.0 (mine o.1) 0 idle tt tt))

  k_reset : (i : Seen) → Look g v t Pc.Reset r i → At (λ (p : Pc) (e : Effect). K p i e) Pc.Reset (does g Pc.Reset r i)
  k_reset i l = thus (λ N. let o = owner Pc.Reset l.place refl in stored i Pc.Reset N (λ n. refl) o.0 (mine o.1) 0 idle tt tt)

  k_raw : (i : Seen) → Look g v t Pc.Raw r i → At (λ (p : Pc) (e : Effect). K p i e) Pc.Raw (does g Pc.Raw r i)
  k_raw i l = thus (λ N. let o = owner Pc.Raw l.place refl in stored i Pc.Raw N (λ n. refl) o.0 (mine o.1) r.node idle tt tt)

  kD1 : (i : Seen) → Look g v t Pc.D1 r i → At (λ (p : Pc) (e : Effect). K p i e) Pc.D1 (does g Pc.D1 r i)
  kD1 i l = thus (λ N.
      let k = know Pc.D1 t ht (pc_is Pc.D1 l.place) in
      let w = RecordMoves.held_one v.heads.head_available head v.records.available_next next ho rows R t ht r.rec (ap (λ (q : Pc). has_of (hold q) r.rec r.rec) (pc_is Pc.D1 l.place) ∙ eq01-same r.rec) in
      stored i Pc.D1 N (λ n. refl) k.1 (λ u hu ne. omega arith) 0 (go_to Pc.D2 r) tt tt)

  -- ---- a record that somebody owns is on the list
  on_list : (c : ℕ) → 2 ≤ get_or ho c 0 → (L : List ℕ) → Seg next head L 0 → 1 ≤ occ c L
  on_list c h L q =
      let e = seg_unique next head L R.all q R.chain in
      let a = R.listed c in
      let b = R.part c in
      let w = none c (R.part c) h in
      rw e (omega arith)
    where
      none : (c : ℕ) → occ c R.available + sum (has c) rows + min 1 (get_or ho c 0 - 1) ≡ min 1 (get_or ho c 0) → 2 ≤ get_or ho c 0 → sum (off c) rows ≡ 0
      none c p h = zero-le c rows (let a = offs c rows in omega arith)
        where
          zero-le : (c : ℕ) (l : List Row) → sum (off c) l ≤ 0 → sum (off c) l ≡ 0
          zero-le c l q = omega arith

          offs : (c : ℕ) (l : List Row) → sum (off c) l ≤ sum (has c) l
          offs c [] = omega arith
          offs c (x ∷ l) = let a = offs c l in let b = off-has (hold (pc_of x.place)) c x.rec in omega arith
            where
              off-has : (h : Hold) (c rec : ℕ) → off_of h c rec ≤ has_of h c rec
              off-has Hold.free c rec = omega arith
              off-has Hold.looks c rec = omega arith
              off-has Hold.locks c rec = omega arith
              off-has Hold.popped c rec = omega arith
              off-has Hold.dirty c rec = omega arith
              off-has Hold.clear c rec = omega arith
              off-has Hold.aims c rec = omega arith
              off-has Hold.pends c rec = omega arith
              off-has Hold.owns c rec = omega arith

  -- ---- V2: the source still holds the node
  kV2 : (i : Seen) → Look g v t Pc.V2 r i → At (λ (p : Pc) (e : Effect). K p i e) Pc.V2 (does g Pc.V2 r i)
  kV2 i l = thus (pick_case (K Pc.V2 i) (eqb i.v r.node) _ _ (λ e. valid (eqb-true i.v r.node e)) (λ _ N. calm Pc.V2 l.place (omega arith) i N (λ n. refl) _ tt tt))
    where
      o : IsId records r.rec × (get_or ho r.rec 0 ≡ t + 2)
      o = owner Pc.V2 l.place refl

      a : ℕ
      a = r.rec

      n : ℕ
      n = i.v

      in' : a < length cl
      in' = let x = I.long in let b = lv.hazard in let q = o.0.1 in omega arith

      live : n ≢ 0 → get_or st n 0 ≡ 1
      live nz = I.sources r.source n (sym (sees l tt refl).0) nz

      hzn : i.v ≡ r.node → get_or hz a 0 ≡ n
      hzn e = subst (λ (q : Pc). ValOf (scan q) hz r.rec r.node) (pc_is Pc.V2 l.place) (I.vals t ht) ∙ sym e

      old : (c m : ℕ) → Claim (set cl a n) c m → ((c ≡ a) × (m ≡ n)) ⊎ Claim cl c m
      old c m k = go (ℕ_discrete c a)
        where
          go : Dec (c ≡ a) → ((c ≡ a) × (m ≡ n)) ⊎ Claim cl c m
          go (yes e) = inl (e, sym k.is ∙ rw e (get_or-set_same cl a n 0 in'))
          go (no e) = inr (record { is = sym (get_or-set_other cl a c n 0 e) ∙ k.is; some = k.some })

      -- a live node is in no list
      nowhere : (m : ℕ) → m ≡ n → m ≢ 0 → (u j : ℕ) → u < length rows → j < 11 → occ m (get_or ls (slot u j) []) ≡ 0
      nowhere m e nz u j hu hj = go (occ m (get_or ls (slot u j) [])) refl
        where
          go : (y : ℕ) → occ m (get_or ls (slot u j) []) ≡ y → y ≡ 0
          go zero q = refl
          go (suc y) q = absurd (let w = waits u j m hu hj (omega arith) in let z : get_or st m 0 ≡ 1 = rw e (live (λ x. nz (e ∙ x))) in omega arith)

      valid : i.v ≡ r.node → K Pc.V2 i (finishes i.v)
      valid e N =
          subst (λ (w : List (List ℕ)). ClaimsAt mark st src hz next head ho w (set rows t idle) (set cl a n) N.lists) (sym gs-keep)
          (Claim.puts mark st src hz next head ho gs rows cl ls I t ht mark st src hz next head ho gs idle (set cl a n) N.lists I.sources I.states
          (λ c m k. held c m k (old c m k)) (λ u hu ne q. q)
          (λ u hu ne q. safe-less (scan (pc_of (get_or rows u idle).place)) next head gs gs cl (set cl a n) ls N.lists u (get_or rows u idle).rec (λ c m k w. before c m k (old c m k) u hu (stolen-other (length rows) t ls N.lists N.others u m hu ne w)) (λ m w. stolen-other (length rows) t ls N.lists N.others u m hu ne w) (λ m w. w) q)
          tt tt (λ w c m k. absurd (w (mark_open g v Z t ht Pc.V2 l.place (λ q. q)))) (length-set cl a n ∙ I.long))
        where
          before : (c m : ℕ) → Claim (set cl a n) c m → ((c ≡ a) × (m ≡ n)) ⊎ Claim cl c m → (u : ℕ) → u < length rows → Stolen ls u m → Claim cl c m
          before c m k (inr h) u hu w = h
          before c m k (inl h) u hu w = absurd (let z = nowhere m h.1 k.some u w.k hu (omega (arith, w.k8)) in let y = w.mem in omega arith)

          spare : (c m : ℕ) → Claim (set cl a n) c m → ((c ≡ a) × (m ≡ n)) ⊎ Claim cl c m → (u : ℕ) → u < length rows → Dec (u ≡ t) → occ m (get_or N.lists (slot u to_reclaim) []) ≡ 0
          spare c m k (inr h) u hu (yes q) = rw q (spares Pc.V2 i _ N (λ _. refl) c m h)
          spare c m k (inr h) u hu (no q) = rw (N.others u hu q to_reclaim (omega arith)) ((I.claims c m h).spared u hu)
          spare c m k (inl h) u hu (yes q) = rw q (let x = N.reclaim m in let y = nowhere m h.1 k.some t to_reclaim ht (omega arith) in omega arith)
          spare c m k (inl h) u hu (no q) = rw (N.others u hu q to_reclaim (omega arith)) (nowhere m h.1 k.some u to_reclaim hu (omega arith))

          held : (c m : ℕ) → Claim (set cl a n) c m → ((c ≡ a) × (m ≡ n)) ⊎ Claim cl c m → Held st hz next head ho (set rows t idle) N.lists c m
          held c m k (inr h) = let q = I.claims c m h in record { hazard = q.hazard; listed = q.listed; alive = q.alive; spared = λ u hu. spare c m k (inr h) u (rw length-set at hu) (ℕ_discrete u t); keeper = keeper-set ho ho rows t idle c ht (λ w. inl w) (λ w _. not-D1 Pc.V2 l.place (omega arith) w) q.keeper }
          held c m k (inl h) = record {
            hazard = rw (h.0, h.1) (hzn e);
            listed = rw h.0 (on_list a (let w = o.1 in omega arith));
            alive = λ z. let w : get_or st m 0 ≡ 1 = rw h.1 (live (λ x. k.some (h.1 ∙ x))) in omega arith;
            spared = λ u hu. spare c m k (inl h) u (rw length-set at hu) (ℕ_discrete u t);
            keeper = inl (rw h.0 (let w = o.1 in omega arith));
          }

  -- ---- the holder of record a becomes y: nothing claimed loses its keeper
  reheld : (p : Pc) → r.place ≡ code p → code p ≢ code Pc.D1 → (i : Seen) {v' : View} (N : Next g v ls t p i v') → ((n : ℕ) → gains p r i n ≡ 0) → (a y : ℕ) → a < length ho → (2 ≤ get_or ho a 0 → 2 ≤ y) → (x : Row) → Val hz x → Safe next head gs cl N.lists t x
      → ClaimsAt mark st src hz next head (set ho a y) (set gs t (guards_after (get_or gs t []) guards.Keep)) (set rows t x) cl N.lists
  reheld p e nd i {v'} N z a y ha up x val s =
      let b = Claim.relist mark st src hz next head ho gs rows cl ls I t ht x N.lists N.others (not-D1 p e nd) (spares p i v' N z) val s in
      subst (λ (w : List (List ℕ)). ClaimsAt mark st src hz next head (set ho a y) w (set rows t x) cl N.lists) (sym gs-keep)
      (record {
        sources = b.sources;
        states = b.states;
        claims = λ c n k. let h = b.claims c n k in record { hazard = h.hazard; listed = h.listed; alive = h.alive; spared = h.spared; keeper = raise c h.keeper };
        vals = b.vals;
        safe = b.safe;
        over = b.over;
        long = b.long;
      })
    where
      raise : (c : ℕ) → Keeper ho (set rows t x) c → Keeper (set ho a y) (set rows t x) c
      raise c (inr w) = inr w
      raise c (inl w) = inl (at (ℕ_discrete c a))
        where
          at : Dec (c ≡ a) → 2 ≤ get_or (set ho a y) c 0
          at (yes q) = rw (q, get_or-set_same ho a y 0 ha) (up (rw q at w))
          at (no q) = rw (get_or-set_other ho a c y 0 q) w

  acquired : (p : Pc) → r.place ≡ code p → code p ≢ code Pc.D1 → hold p ≡ Hold.clear → (i : Seen) {v' : View} (N : Next g v ls t p i v') → ((n : ℕ) → gains p r i n ≡ 0) → i.thread ≡ t → ClaimsAt mark st src hz next head (set ho r.rec (i.thread + 2)) (set gs t (guards_after (get_or gs t []) guards.Keep)) (set rows t idle) cl N.lists
  acquired p e nd q i N z et =
      let k = subst (λ (h : Hold). KnowOf h v.heads.head_available v.records.available_next ho t r.rec r.next) q (know p t ht (pc_is p e)) in
      reheld p e nd i N z r.rec (i.thread + 2) (let a = lv.holder in let b = k.1.1 in omega arith) (λ _. omega arith) idle tt tt

  kN1 : (i : Seen) → Look g v t Pc.N1 r i → At (λ (p : Pc) (e : Effect). K p i e) Pc.N1 (does g Pc.N1 r i)
  kN1 i l = thus (pick_case (K Pc.N1 i) (eqb i.untaken 0) _ _ (λ _ N. calm Pc.N1 l.place (omega arith) i N (λ n. refl) idle tt tt)
      (λ e N. let k = untaken_free l e in
      reheld Pc.N1 l.place (omega arith) i N (λ n. refl) i.untaken 1 (let a = lv.holder in let b = k.0.1 in omega arith) (λ h. absurd (let z = k.1 in omega arith)) _ tt tt))

  -- ---- N2: the list of records, with the new one in front or with something written behind it
  relinked : (i : Seen) {v' : View} (N : Next g v ls t Pc.N2 i v') → r.place ≡ code Pc.N2 → (next' : List ℕ) (head' : ℕ) → ((L : List ℕ) → Seg next' head' L 0 → (n : ℕ) → occ n R.all ≤ occ n L) → ((rec : ℕ) (l : List ℕ) → Part next head l → Seg next rec l 0 → Seg next' rec l 0) → (x : Row) → Val hz x → Safe next' head' gs cl N.lists t x
      → ClaimsAt mark st src hz next' head' ho (set gs t (guards_after (get_or gs t []) guards.Keep)) (set rows t x) cl N.lists
  relinked i {v'} N e next' head' more frame x val s =
      subst (λ (w : List (List ℕ)). ClaimsAt mark st src hz next' head' ho w (set rows t x) cl N.lists) (sym gs-keep)
      (Claim.puts mark st src hz next head ho gs rows cl ls I t ht mark st src hz next' head' ho gs x cl N.lists I.sources I.states
      (λ c n k. let h = I.claims c n k in record { hazard = h.hazard; listed = λ L q. let a = h.listed R.all R.chain in let b = more L q c in omega arith; alive = h.alive; spared = λ u hu. spare c n k h.spared u (rw length-set at hu) (ℕ_discrete u t); keeper = keeper-set ho ho rows t x c ht (λ w. inl w) (λ w _. not-D1 Pc.N2 e (omega arith) w) h.keeper })
      (λ u hu ne q. q)
      (λ u hu ne q. moved (scan (pc_of (get_or rows u idle).place)) u (get_or rows u idle).rec (safe-less (scan (pc_of (get_or rows u idle).place)) next head gs gs cl cl ls N.lists u (get_or rows u idle).rec (λ c n k m. k) (λ n m. stolen-other (length rows) t ls N.lists N.others u n hu ne m) (λ n m. m) q))
      val s I.over I.long)
    where
      moved : (p : Scan) (u rec : ℕ) → SafeOf p next head gs cl N.lists u rec → SafeOf p next' head' gs cl N.lists u rec
      moved Scan.before u rec q = tt
      moved Scan.checks u rec q = tt
      moved Scan.during u rec q = (q.0, frame rec q.0 q.3 q.1, q.2, λ L w n. let a = q.3 R.all R.chain n in let b = more L w n in omega arith, q.4)
      moved Scan.after u rec q = q

      spare : (c n : ℕ) → Claim cl c n → ((u : ℕ) → u < length rows → occ n (get_or ls (slot u to_reclaim) []) ≡ 0) → (u : ℕ) → u < length rows → Dec (u ≡ t) → occ n (get_or N.lists (slot u to_reclaim) []) ≡ 0
      spare c n k old u hu (yes q) = rw q (spares Pc.N2 i v' N (λ _. refl) c n k)
      spare c n k old u hu (no q) = rw (N.others u hu q to_reclaim (omega arith)) (old u hu)

  kN2 : (i : Seen) → Look g v t Pc.N2 r i → At (λ (p : Pc) (e : Effect). K p i e) Pc.N2 (does g Pc.N2 r i)
  kN2 i l = thus (pick_case (K Pc.N2 i) (eqb i.v r.next) _ _ (λ e. pick_all (K Pc.N2 i) i.flag _ _ lost (won (eqb-true i.v r.next e))) (λ _. lost))
    where
      k : KnowOf Hold.pends v.heads.head_available v.records.available_next ho t r.rec r.next
      k = know Pc.N2 t ht (pc_is Pc.N2 l.place)

      fresh : occ r.rec R.all ≡ 0
      fresh = let p = R.listed r.rec in let z = sum-at (off r.rec) rows t idle ht in let w : off r.rec r ≡ 1 = ap (λ (q : Pc). off_of (hold q) r.rec r.rec) (pc_is Pc.N2 l.place) ∙ eq01-same r.rec in omega arith

      frame : (y rec : ℕ) (L : List ℕ) → Part next head L → Seg next rec L 0 → Seg (set next r.rec y) rec L 0
      frame y rec L p q = seg_frame next rec L 0 r.rec y (let a = p R.all R.chain r.rec in let b = fresh in omega arith) q

      whole : Part next head R.all
      whole L q n = let e = seg_unique next head R.all L R.chain q in let a = ap (occ n) e in omega arith

      lost : K Pc.N2 i (also_stores (cell.RecordNext r.rec) r.next (becomes (Rows.with_next i.v r)))
      lost N = relinked i N l.place (set next r.rec r.next) head (λ L q n. let e = seg_unique (set next r.rec r.next) head R.all L (frame r.next head R.all whole R.chain) q in let a = ap (occ n) e in omega arith) (frame r.next) (Rows.with_next i.v r)
          (val_at Pc.N2 (Rows.with_next i.v r) l.place tt) (subst (λ (q : Pc). SafeOf (scan q) (set next r.rec r.next) head gs cl N.lists t r.rec) (sym (pc_is Pc.N2 l.place)) tt)

      won : i.v ≡ r.next → K Pc.N2 i (stores r.rec (also_stores (cell.RecordNext r.rec) r.next (becomes (go_to Pc.N3 r))))
      won e N = relinked i N l.place (set next r.rec r.next) r.rec more (frame r.next) (go_to Pc.N3 r) tt tt
        where
          same : r.next ≡ head
          same = sym e ∙ (sees l tt refl).0

          new : Seg (set next r.rec r.next) r.rec (r.rec ∷ R.all) 0
          new = subst (λ (y : ℕ). Seg (set next r.rec y) r.rec (r.rec ∷ R.all) 0) (sym same) (seg_push next head R.all 0 r.rec k.1.0 (let a = R.next_long in let b = k.1.1 in omega arith) fresh R.chain)

          more : (L : List ℕ) → Seg (set next r.rec r.next) r.rec L 0 → (n : ℕ) → occ n R.all ≤ occ n L
          more L q n = let f = seg_unique (set next r.rec r.next) r.rec (r.rec ∷ R.all) L new q in let a = ap (occ n) f in omega arith

  -- ---- a swap: what goes into a source is live
  resourced : (i : Seen) {v' : View} (N : Next g v ls t Pc.Swap i v') → r.place ≡ code Pc.Swap → (b n : ℕ) (st' : List ℕ) → (n ≢ 0 → get_or st' n 0 ≡ 1) → ((m : ℕ) → get_or st m 0 ≡ 1 → get_or st' m 0 ≡ 1) → ((m : ℕ) → get_or st m 0 ≢ 0 → get_or st' m 0 ≢ 0) → ((m : ℕ) → get_or st' m 0 ≤ 2)
      → ClaimsAt mark st' (set src b n) hz next head ho (set gs t (guards_after (get_or gs t []) guards.Keep)) (set rows t idle) cl N.lists
  resourced i {v'} N e b n st' hn h1 h0 h2 =
      let q = Claim.relist mark st src hz next head ho gs rows cl ls I t ht idle N.lists N.others (not-D1 Pc.Swap e (omega arith)) (spares Pc.Swap i v' N (λ _. refl)) tt tt in
      subst (λ (w : List (List ℕ)). ClaimsAt mark st' (set src b n) hz next head ho w (set rows t idle) cl N.lists) (sym gs-keep)
      (record {
        sources = λ j m w z. at j m w z (ℕ_discrete j b) (dec_le (length src) b);
        states = h2;
        claims = λ c m k. let h = q.claims c m k in record { hazard = h.hazard; listed = h.listed; alive = h0 m h.alive; spared = h.spared; keeper = h.keeper };
        vals = q.vals;
        safe = q.safe;
        over = q.over;
        long = q.long;
      })
    where
      at : (j m : ℕ) → get_or (set src b n) j 0 ≡ m → m ≢ 0 → Dec (j ≡ b) → Dec (length src ≤ b) → get_or st' m 0 ≡ 1
      at j m w z (no q) d = h1 m (I.sources j m (sym (get_or-set_other src b j n 0 q) ∙ w) z)
      at j m w z (yes q) (yes d) = absurd (z (sym w ∙ rw q (get_or-eq_default (set src b n) 0 (rw length-set d))))
      at j m w z (yes q) (no d) = let y : n ≡ m = sym (get_or-set_same src b n 0 (omega arith)) ∙ rw q at w in rw (← y) (hn (λ x. z (sym y ∙ x)))

  k_swap : (i : Seen) → Look g v t Pc.Swap r i → At (λ (p : Pc) (e : Effect). K p i e) Pc.Swap (does g Pc.Swap r i)
  k_swap i l =
      thus (pick_case (K Pc.Swap i) (eqb i.w 2) _ _ (λ _ N. calm Pc.Swap l.place (omega arith) i N (λ n. refl) idle tt tt)
      (λ e2. pick_case (K Pc.Swap i) (eqb r.node 0) _ _ (λ _ N. resourced i N l.place r.source 0 st (λ z. absurd (z refl)) (λ m h. h) (λ m h. h) I.states)
      (λ e0. pick_case (K Pc.Swap i) (eqb i.w 0) _ _
      (λ ew N. resourced i N l.place r.source r.node (set st r.node 1) (λ _. get_or-set_same st r.node 1 0 (nb e0)) (λ m h. one m h (ℕ_discrete m r.node) e0) (λ m h. some m h (ℕ_discrete m r.node) e0) (λ m. most m (ℕ_discrete m r.node) e0))
      (λ ew N. resourced i N l.place r.source r.node st (λ _. let a = eqb-false i.w 2 e2 in let b = eqb-false i.w 0 ew in let c = I.states r.node in let d = state-is e0 in omega arith) (λ m h. h) (λ m h. h) I.states))))
    where
      nb : eqb r.node 0 ≡ false → r.node < length st
      nb e = let a = lv.state in let b = l.small.node in omega arith

      state-is : eqb r.node 0 ≡ false → i.w ≡ get_or st r.node 0
      state-is e =
          let y : i.y ≡ get_or st r.node 0 = subst (λ (b : Bool). i.y ≡ get (pick b cell.Nothing (cell.NodeState r.node)) v) e l.y in
          let w = l.w in let c = I.states r.node in omega arith

      one : (m : ℕ) → get_or st m 0 ≡ 1 → Dec (m ≡ r.node) → eqb r.node 0 ≡ false → get_or (set st r.node 1) m 0 ≡ 1
      one m h (yes q) e = rw q (get_or-set_same st r.node 1 0 (nb e))
      one m h (no q) e = get_or-set_other st r.node m 1 0 q ∙ h

      some : (m : ℕ) → get_or st m 0 ≢ 0 → Dec (m ≡ r.node) → eqb r.node 0 ≡ false → get_or (set st r.node 1) m 0 ≢ 0
      some m h (yes q) e = λ z. let w : ◌≡◌ {A = ℕ} 1 0 = sym (get_or-set_same st r.node 1 0 (nb e)) ∙ rw q at z in omega arith
      some m h (no q) e = λ z. h (sym (get_or-set_other st r.node m 1 0 q) ∙ z)

      most : (m : ℕ) → Dec (m ≡ r.node) → eqb r.node 0 ≡ false → get_or (set st r.node 1) m 0 ≤ 2
      most m (yes q) e = rw (q, get_or-set_same st r.node 1 0 (nb e)) (omega arith)
      most m (no q) e = rw (get_or-set_other st r.node m 1 0 q) (I.states m)

  -- ---- the scan: the thread's guarded set changes
  reguarded : (p : Pc) → r.place ≡ code p → code p ≢ code Pc.D1 → (i : Seen) {v' : View} (N : Next g v ls t p i v') → ((n : ℕ) → gains p r i n ≡ 0) → (w : List ℕ) (x : Row) → Val hz x → Safe next head (set gs t w) cl N.lists t x
      → ClaimsAt mark st src hz next head ho (set gs t w) (set rows t x) cl N.lists
  reguarded p e nd i {v'} N z w x val s =
      Claim.puts mark st src hz next head ho gs rows cl ls I t ht mark st src hz next head ho (set gs t w) x cl N.lists I.sources I.states
      (λ c n k. let h = I.claims c n k in record { hazard = h.hazard; listed = h.listed; alive = h.alive; spared = λ u hu. spare c n k h.spared u (rw length-set at hu) (ℕ_discrete u t); keeper = keeper-set ho ho rows t x c ht (λ q. inl q) (λ q _. not-D1 p e nd q) h.keeper })
      (λ u hu ne q. q)
      (λ u hu ne q. safe-less (scan (pc_of (get_or rows u idle).place)) next head gs (set gs t w) cl cl ls N.lists u (get_or rows u idle).rec (λ c n k m. k) (λ n m. stolen-other (length rows) t ls N.lists N.others u n hu ne m) (λ n m. rw (get_or-set_other gs t u w [] ne) m) q)
      val s I.over I.long
    where
      spare : (c n : ℕ) → Claim cl c n → ((u : ℕ) → u < length rows → occ n (get_or ls (slot u to_reclaim) []) ≡ 0) → (u : ℕ) → u < length rows → Dec (u ≡ t) → occ n (get_or N.lists (slot u to_reclaim) []) ≡ 0
      spare c n k old u hu (yes q) = rw q (spares p i v' N z c n k)
      spare c n k old u hu (no q) = rw (N.others u hu q to_reclaim (omega arith)) (old u hu)

  -- what is stolen after a step that steals nothing was stolen
  was-stolen : (p : Pc) (i : Seen) {v' : View} (N : Next g v ls t p i v') → grabs p ≡ 0 → (n : ℕ) → Stolen N.lists t n → Stolen ls t n
  was-stolen p i N z n m = record { k = m.k; k8 = m.k8; mem = let a = N.stolen m.k m.k8 n in let b = m.mem in omega arith }

  kH1 : (i : Seen) → Look g v t Pc.H1 r i → At (λ (p : Pc) (e : Effect). K p i e) Pc.H1 (does g Pc.H1 r i)
  kH1 i l =
      thus (pick_case (K Pc.H1 i) (eqb i.v 0) _ _
      (λ e. all_from (λ x. K Pc.H1 i (clears_guards x)) g 0 r (λ N. reguarded Pc.H1 l.place (omega arith) i N (λ n. refl) _ _ tt tt) (λ j N. reguarded Pc.H1 l.place (omega arith) i N (λ n. refl) _ (go_to Pc.Examine (in_shard j r)) tt (λ c n k m. absurd (empty (sym (sees l tt refl).0 ∙ eqb-true i.v 0 e) c n k))))
      (λ e N. reguarded Pc.H1 l.place (omega arith) i N (λ n. refl) _ (go_to Pc.H2 (Rows.with_rec i.v r)) tt
      (R.all, subst (λ (a : ℕ). Seg next a R.all 0) (sym (sees l tt refl).0) R.chain, eqb-false i.v 0 e, (λ L q n. let f = seg_unique next head R.all L R.chain q in let a = ap (occ n) f in omega arith), λ c n k m. inl ((I.claims c n k).listed R.all R.chain))))
    where
      empty : head ≡ 0 → (c n : ℕ) → Claim cl c n → ⊥
      empty z c n k = let q = (I.claims c n k).listed [] z in omega arith

  kH2 : (i : Seen) → Look g v t Pc.H2 r i → At (λ (p : Pc) (e : Effect). K p i e) Pc.H2 (does g Pc.H2 r i)
  kH2 i l =
      thus (pick_case (K Pc.H2 i) (eqb i.w 0) _ _
      (λ e. all_from (λ x. K Pc.H2 i (guarding i.v x)) g 0 r (λ N. reguarded Pc.H2 l.place (omega arith) i N (λ n. refl) _ _ tt tt)
      (λ j N. reguarded Pc.H2 l.place (omega arith) i N (λ n. refl) _ (go_to Pc.Examine (in_shard j r)) tt (λ c n k m. last c n (nx ∙ eqb-true i.w 0 e) (seen c n k (was-stolen Pc.H2 i N refl n m)))))
      (λ e N. reguarded Pc.H2 l.place (omega arith) i N (λ n. refl) _ (Rows.with_rec i.w r) (val_at Pc.H2 (Rows.with_rec i.w r) l.place tt)
      (safe_at Pc.H2 (Rows.with_rec i.w r) (set gs t w) cl N.lists l.place
      (q.0, subst (λ (a : ℕ). Seg next a q.0 0) nx q.4, eqb-false i.w 0 e, (λ L y n. let a = d.3 L y n in let b = ap (occ n) q.1 in omega arith), λ c n k m. seen c n k (was-stolen Pc.H2 i N refl n m)))))
    where
      d : SafeOf Scan.during next head gs cl ls t r.rec
      d = subst (λ (p : Pc). SafeOf (scan p) next head gs cl ls t r.rec) (pc_is Pc.H2 l.place) (I.safe t ht)

      w : List ℕ
      w = guards_after (get_or gs t []) (guards.Set i.v)

      q : (k : List ℕ) × (d.0 ≡ r.rec ∷ k) × (0 < r.rec) × (r.rec < length next) × Seg next (get_or next r.rec 0) k 0
      q = seg_head next r.rec d.0 d.2 d.1

      nx : get_or next r.rec 0 ≡ i.w
      nx = let a = l.y in let b = l.w in let c = l.fit in omega arith

      mono : (n : ℕ) → Guarded gs t n → Guarded (set gs t w) t n
      mono n h = rw (get_or-set_same gs t w [] (let a = lv.guards in let b = lv.rows in omega arith)) (kept n h)
        where
          kept : (n : ℕ) → is_guarded (get_or gs t []) n ≡ true → is_guarded w n ≡ true
          kept n h = guards-set-kept (get_or gs t []) i.v n h

      new : (c n : ℕ) → Claim cl c n → c ≡ r.rec → Guarded (set gs t w) t n
      new c n k e =
          let hzn : i.v ≡ n = (sees l tt refl).0 ∙ ap (λ (a : ℕ). get_or hz a 0) (sym e) ∙ (I.claims c n k).hazard in
          rw (get_or-set_same gs t w [] (let a = lv.guards in let b = lv.rows in omega arith), ← hzn) (guards-set (get_or gs t []) i.v (let a = k.some in omega arith) (let a = bound n (I.claims c n k).alive in let b = gw in omega arith))
        where
          bound : (n : ℕ) → get_or st n 0 ≢ 0 → n ≤ nodes
          bound n z = go (dec_le (suc n) (length st))
            where
              go : Dec (suc n ≤ length st) → n ≤ nodes
              go (yes h) = let a = lv.state in omega arith
              go (no h) = absurd (z (get_or-eq_default st 0 (omega arith)))

      seen : (c n : ℕ) → Claim cl c n → Stolen ls t n → (1 ≤ occ c q.0) ⊎ Guarded (set gs t w) t n
      seen c n k m = go (d.4 c n k m) (eq01_cases c r.rec)
        where
          go : (1 ≤ occ c d.0) ⊎ Guarded gs t n → ((c ≡ r.rec) × (eq01 c r.rec ≡ 1)) ⊎ ((c ≢ r.rec) × (eq01 c r.rec ≡ 0)) → (1 ≤ occ c q.0) ⊎ Guarded (set gs t w) t n
          go (inr b) y = inr (mono n b)
          go (inl b) (inl y) = inr (new c n k y.0)
          go (inl b) (inr y) = inl (let z = ap (occ c) q.1 in omega arith)

      last : (c n : ℕ) → get_or next r.rec 0 ≡ 0 → (1 ≤ occ c q.0) ⊎ Guarded (set gs t w) t n → Guarded (set gs t w) t n
      last c n z (inr h) = h
      last c n z (inl h) = absurd (none q.0 (rw z at q.4) h)
        where
          none : (L : List ℕ) → Seg next 0 L 0 → 1 ≤ occ c L → ⊥
          none [] y o = omega arith
          none (a ∷ L) y o = omega (arith, y.0, y.1)

  -- ---- examining and reclaiming
  after-at : (p : Pc) → r.place ≡ code p → scan p ≡ Scan.after → (c n : ℕ) → Claim cl c n → Stolen ls t n → Guarded gs t n
  after-at p e q = subst (λ (h : Scan). SafeOf h next head gs cl ls t r.rec) q (subst (λ (h : Pc). SafeOf (scan h) next head gs cl ls t r.rec) (pc_is p e) (I.safe t ht))

  k_examine : (i : Seen) → Look g v t Pc.Examine r i → At (λ (p : Pc) (e : Effect). K p i e) Pc.Examine (does g Pc.Examine r i)
  k_examine i l =
      thus (pick_all (K Pc.Examine i) i.guarded _ _
      (all-examined (λ x. K Pc.Examine i (stores r.unreclaimed (becomes x))) g i.v _ (λ N. leaf N _ tt tt) (λ j N. leaf N _ tt (safe N)) (λ N. leaf N _ tt (safe N)) (λ N. leaf N (Rows.keeping (first r) (pick (eqb r.unreclaimed 0) (first r) r.tail) (stealing i.v r)) (val_at Pc.Examine (Rows.keeping (first r) (pick (eqb r.unreclaimed 0) (first r) r.tail) (stealing i.v r)) l.place tt) (safe_at Pc.Examine (Rows.keeping (first r) (pick (eqb r.unreclaimed 0) (first r) r.tail) (stealing i.v r)) gs cl N.lists l.place (safe N))))
      (all-examined (λ x. K Pc.Examine i (stores r.reclaimable (becomes x))) g i.v _ (λ N. leaf N _ tt tt) (λ j N. leaf N _ tt (safe N)) (λ N. leaf N _ tt (safe N)) (λ N. leaf N (Rows.reclaiming (first r) (stealing i.v r)) (val_at Pc.Examine (Rows.reclaiming (first r) (stealing i.v r)) l.place tt) (safe_at Pc.Examine (Rows.reclaiming (first r) (stealing i.v r)) gs cl N.lists l.place (safe N)))))
    where
      -- the examined node stands in its stolen list
      here : Stolen ls t (first r)
      here = record { k = shard_in r; k8 = omega arith; mem = head_in (shard_in r) (first r) (omega arith) (get-stolen r.stolen r.reclaimable r.unreclaimed r.lone eight (shard_in r) (omega arith)) (let a = l.reach in omega arith) }

      -- a claimed node is guarded, so that what is not is not claimed
      gain : (c n : ℕ) → Claim cl c n → gains Pc.Examine r i n ≡ 0
      gain c n k = go i.guarded refl (eq01_cases n (first r))
        where
          go : (b : Bool) → i.guarded ≡ b → ((n ≡ first r) × (eq01 n (first r) ≡ 1)) ⊎ ((n ≢ first r) × (eq01 n (first r) ≡ 0)) → pick i.guarded 0 (eq01 n (first r)) ≡ 0
          go true e d = ap (λ (b : Bool). pick b 0 (eq01 n (first r))) e
          go false e (inr d) = ap (λ (b : Bool). pick b 0 (eq01 n (first r))) e ∙ d.1
          go false e (inl d) = absurd (true≢false (sym (subst (λ (m : ℕ). is_guarded (get_or gs t []) m ≡ true) d.0 (after-at Pc.Examine l.place refl c n k (subst (Stolen ls t) (sym d.0) here))) ∙ sym l.guarded ∙ e))

      leaf : {v' : View} (N : Next g v ls t Pc.Examine i v') (x : Row) → Val hz x → Safe next head gs cl N.lists t x → ClaimsAt mark st src hz next head ho (set gs t (guards_after (get_or gs t []) guards.Keep)) (set rows t x) cl N.lists
      leaf N x val s =
          subst (λ (y : List (List ℕ)). ClaimsAt mark st src hz next head ho y (set rows t x) cl N.lists) (sym gs-keep)
          (Claim.relist mark st src hz next head ho gs rows cl ls I t ht x N.lists N.others (not-D1 Pc.Examine l.place (omega arith)) (λ c n k. let a = N.reclaim n in let b = (I.claims c n k).spared t ht in let w = gain c n k in omega arith) val s)

      safe : {v' : View} (N : Next g v ls t Pc.Examine i v') → (c n : ℕ) → Claim cl c n → Stolen N.lists t n → Guarded gs t n
      safe N c n k m = after-at Pc.Examine l.place refl c n k (was-stolen Pc.Examine i N refl n m)

  -- what is reclaimed is not claimed: the theorem of the layer
  pub unclaimed : (n c : ℕ) → r.reclaimable ≡ n → n ≢ 0 → Claim cl c n → ⊥
  unclaimed n c e nz k = let a = head_in to_reclaim n (omega arith) (get-reclaim r.stolen r.reclaimable r.unreclaimed r.lone eight ∙ e) nz in let b = (I.claims c n k).spared t ht in omega arith

  pub reclaim-waits : r.reclaimable ≢ 0 → get_or st r.reclaimable 0 ≡ 2
  reclaim-waits nz = waits t to_reclaim r.reclaimable ht (omega arith) (head_in to_reclaim r.reclaimable (omega arith) (get-reclaim r.stolen r.reclaimable r.unreclaimed r.lone eight) nz)

  freed : (p : Pc) → r.place ≡ code p → code p ≢ code Pc.D1 → (i : Seen) {v' : View} (N : Next g v ls t p i v') → ((n : ℕ) → gains p r i n ≡ 0) → r.reclaimable ≢ 0 → (x : Row) → Val hz x → Safe next head gs cl N.lists t x
      → ClaimsAt mark (set st r.reclaimable 0) src hz next head ho (set gs t (guards_after (get_or gs t []) guards.Keep)) (set rows t x) cl N.lists
  freed p e nd i {v'} N z nz x val s =
      let q = Claim.relist mark st src hz next head ho gs rows cl ls I t ht x N.lists N.others (not-D1 p e nd) (spares p i v' N z) val s in
      subst (λ (w : List (List ℕ)). ClaimsAt mark (set st r.reclaimable 0) src hz next head ho w (set rows t x) cl N.lists) (sym gs-keep)
      (record {
        sources = λ b m w y. let h = I.sources b m w y in get_or-set_other st r.reclaimable m 0 0 (λ a. let f : get_or st m 0 ≡ 2 = rw a (reclaim-waits nz) in omega arith) ∙ h;
        states = λ m. most m (ℕ_discrete m r.reclaimable);
        claims = λ c m k. let h = q.claims c m k in record { hazard = h.hazard; listed = h.listed; alive = λ w. h.alive (sym (get_or-set_other st r.reclaimable m 0 0 (λ a. unclaimed m c (sym a) k.some k)) ∙ w); spared = h.spared; keeper = h.keeper };
        vals = q.vals;
        safe = q.safe;
        over = q.over;
        long = q.long;
      })
    where
      most : (m : ℕ) → Dec (m ≡ r.reclaimable) → get_or (set st r.reclaimable 0) m 0 ≤ 2
      most m (yes w) = go (dec_le (length st) r.reclaimable)
        where
          go : Dec (length st ≤ r.reclaimable) → get_or (set st r.reclaimable 0) m 0 ≤ 2
          go (yes d) = rw (w, get_or-eq_default (set st r.reclaimable 0) 0 {n = r.reclaimable} (rw length-set d)) (omega arith)
          go (no d) = rw (w, get_or-set_same st r.reclaimable 0 0 (omega arith)) (omega arith)
      most m (no w) = rw (get_or-set_other st r.reclaimable m 0 0 w) (I.states m)

  k_reclaim : (i : Seen) → Look g v t Pc.Reclaim r i → At (λ (p : Pc) (e : Effect). K p i e) Pc.Reclaim (does g Pc.Reclaim r i)
  k_reclaim i l =
      thus (all-reclaimed (λ x. K Pc.Reclaim i (reclaims r.reclaimable x)) g i.v _ (λ N. freed Pc.Reclaim l.place (omega arith) i N (λ n. refl) nz _ tt tt) (λ j N. freed Pc.Reclaim l.place (omega arith) i N (λ n. refl) nz _ tt (safe N))
      (λ N. freed Pc.Reclaim l.place (omega arith) i N (λ n. refl) nz (Rows.freeing (Rows.reclaiming i.v r)) (val_at Pc.Reclaim (Rows.freeing (Rows.reclaiming i.v r)) l.place tt) (safe_at Pc.Reclaim (Rows.freeing (Rows.reclaiming i.v r)) gs cl N.lists l.place (safe N))))
    where
      nz : r.reclaimable ≢ 0
      nz = let a = l.reach in omega arith

      safe : {v' : View} (N : Next g v ls t Pc.Reclaim i v') → (c n : ℕ) → Claim cl c n → Stolen N.lists t n → Guarded gs t n
      safe N c n k m = after-at Pc.Reclaim l.place refl c n k (was-stolen Pc.Reclaim i N refl n m)

  -- ---- shutdown: there is no claim
  shut_none : (p : Pc) → r.place ≡ code p → (Open (side p) → ⊥) → (c n : ℕ) → Claim cl c n → ⊥
  shut_none p e f c n k = I.over (all-shut-rows g v Z t ht p e f).0 c n k

  kS1 : (i : Seen) → Look g v t Pc.S1 r i → At (λ (p : Pc) (e : Effect). K p i e) Pc.S1 (does g Pc.S1 r i)
  kS1 i l = thus (pick_all (K Pc.S1 i) (eqb i.v 0) _ _ (all-shut (λ x. K Pc.S1 i (stores 0 (becomes x))) g r (λ N. on N _ tt tt) (λ j N. on N _ tt tt)) (λ N. on N _ tt tt))
    where
      on : {v' : View} (N : Next g v ls t Pc.S1 i v') (x : Row) → Val hz x → Safe next head gs cl N.lists t x → ClaimsAt mark st src hz next head ho (set gs t (guards_after (get_or gs t []) guards.Keep)) (set rows t x) cl N.lists
      on N x val s =
          subst (λ (y : List (List ℕ)). ClaimsAt mark st src hz next head ho y (set rows t x) cl N.lists) (sym gs-keep)
          (Claim.relist mark st src hz next head ho gs rows cl ls I t ht x N.lists N.others (not-D1 Pc.S1 l.place (omega arith)) (λ c n k. absurd (shut_none Pc.S1 l.place (λ q. q) c n k)) val s)

  kS2 : (i : Seen) → Look g v t Pc.S2 r i → At (λ (p : Pc) (e : Effect). K p i e) Pc.S2 (does g Pc.S2 r i)
  kS2 i l =
      thus (pick_all (λ (x : Row). K Pc.S2 i (reclaims r.reclaimable x)) (eqb i.v 0) _ _
      (all-shut (λ x. K Pc.S2 i (reclaims r.reclaimable x)) g _ (λ N. freed Pc.S2 l.place (omega arith) i N (λ n. refl) nz _ tt tt) (λ j N. freed Pc.S2 l.place (omega arith) i N (λ n. refl) nz _ tt tt))
      (λ N. freed Pc.S2 l.place (omega arith) i N (λ n. refl) nz (Rows.freed (Rows.reclaiming i.v r)) (val_at Pc.S2 (Rows.freed (Rows.reclaiming i.v r)) l.place tt) (safe_at Pc.S2 (Rows.freed (Rows.reclaiming i.v r)) gs cl N.lists l.place tt)))
    where
      nz : r.reclaimable ≢ 0
      nz = let a = l.reach in omega arith

  kS3 : (i : Seen) → Look g v t Pc.S3 r i → At (λ (p : Pc) (e : Effect). K p i e) Pc.S3 (does g Pc.S3 r i)
  kS3 i l = thus λ N. record {
    sources = I.sources;
    states = I.states;
    claims = λ c n k. absurd (none c n k);
    vals = λ u hu. shut-val (pc_of (get_or (set rows t idle) u idle).place) (cleared hz) (get_or (set rows t idle) u idle).rec (get_or (set rows t idle) u idle).node (shut u hu);
    safe = λ u hu. shut-safe (pc_of (get_or (set rows t idle) u idle).place) (cleared next) 0 (set gs t (guards_after (get_or gs t []) guards.Keep)) (replicate (suc records) 0) N.lists u (get_or (set rows t idle) u idle).rec (shut u hu);
    over = λ m c n k. none c n k;
    long = length-replicate {A = ℕ} (suc records) 0 ∙ sym lv.hazard ∙ sym (length-replicate (length hz) 0);
  }
    where
      shut : (u : ℕ) → u < length (set rows t idle) → ShutRow (get_or (set rows t idle) u idle)
      shut = each_set idle (λ u x. ShutRow x) (λ u x. ShutRow x) rows t idle ht (λ u hu ne q. q) tt (all-shut-rows g v Z t ht Pc.S3 l.place (λ q. q)).1

      none : (c n : ℕ) → Claim (replicate (suc records) 0) c n → ⊥
      none c n k = k.some (sym k.is ∙ zeros (suc records) c)

  -- ---- every place
  kA6 : (i : Seen) → Look g v t Pc.A6 r i → At (λ (p : Pc) (e : Effect). K p i e) Pc.A6 (does g Pc.A6 r i)
  kA6 i l = thus λ N. acquired Pc.A6 l.place (omega arith) refl i N (λ n. refl) l.thread

  kN3 : (i : Seen) → Look g v t Pc.N3 r i → At (λ (p : Pc) (e : Effect). K p i e) Pc.N3 (does g Pc.N3 r i)
  kN3 i l = thus λ N. acquired Pc.N3 l.place (omega arith) refl i N (λ n. refl) l.thread

  -- a row that may stand after a step at p, outside the scan and V2
  record Sit (p : Pc) (x : Row) : Type 0 where
    pub val : Val hz x
    pub safe : (ls' : List (List ℕ)) → Safe next head gs cl ls' t x

  sits : {p : Pc} {x : Row} → Val hz x → ((ls' : List (List ℕ)) → Safe next head gs cl ls' t x) → Sit p x
  sits a b = record { val = a; safe = b }

  stays : {p : Pc} {x : Row} → r.place ≡ code p → scan p ≡ Scan.before → x.place ≡ r.place → Sit p x
  stays {p} {x} e q w = let z : scan (pc_of x.place) ≡ Scan.before = ap (λ (n : ℕ). scan (pc_of n)) w ∙ ap scan (pc_is p e) ∙ q in record { val = rw z tt; safe = λ ls'. rw z tt }

  leaf : (i : Seen) {p : Pc} {e : Effect} → r.place ≡ code p → eqb (code p) (code Pc.D1) ≡ false → ((n : ℕ) → gains p r i n ≡ 0) → ClaimsAt mark st src hz next head ho (set gs t (guards_after (get_or gs t []) guards.Keep)) (set rows t e.row) cl ≡ ClaimsIn (applies t (named (accesses p r)) e v) (marks p r e cl) → Sit p e.row → At (λ (p : Pc) (e : Effect). K p i e) p e
  leaf i {p} {e} h d z q k = thus λ N. subst (λ (X : List (List ℕ) → Type 0). X N.lists) q (calm p h (eqb-false (code p) (code Pc.D1) d) i N z e.row k.val (k.safe N.lists))

  pub claim-place : (p : Pc) (i : Seen) → Look g v t p r i → K p i (does g p r i)
  claim-place p i l =
      (every (λ (p : Pc). Look g v t p r i → r.place ≡ code p → At (λ (p : Pc) (e : Effect). K p i e) p (does g p r i))
      (search (two, kA6 i, kN1 i, kN2 i, kN3 i, kD1 i, kV1 i, kV2 i, kV3 i, k_reset i, k_raw i, k_swap i, kH1 i, kH2 i, k_examine i, k_reclaim i, kS1 i, kS2 i, kS3 i, either, leaf i, stays, sits, tt, all-checked (Sit Pc.K2) g, all-checked (Sit Pc.K4) g, all-passed (Sit Pc.Steal) g, all-passed (Sit Pc.Push2) g, all-emptied (Sit Pc.Empty) g) depth 16 fits 8000) p l l.place).holds

  -- ---- 25 and 26
  pub claim-ends : (n : ℕ) → (pc_of r.place ≡ Pc.N1) ⊎ (pc_of r.place ≡ Pc.Swap) → ClaimsIn (applies t cell.Nothing (ends n) v) cl ls
  claim-ends n w =
      subst (λ (y : List (List ℕ)). ClaimsAt mark st src hz next head ho y (set rows t idle) cl ls) (sym gs-keep)
      (Claim.relist mark st src hz next head ho gs rows cl ls I t ht idle ls (others-none (length rows) t ls) (other w) (λ c m k. (I.claims c m k).spared t ht) tt tt)
    where
      other : (pc_of r.place ≡ Pc.N1) ⊎ (pc_of r.place ≡ Pc.Swap) → pc_of r.place ≢ Pc.D1
      other (inl e) q = let z : code Pc.N1 ≡ code Pc.D1 = ap code (sym e ∙ q) in omega arith
      other (inr e) q = let z : code Pc.Swap ≡ code Pc.D1 = ap code (sym e ∙ q) in omega arith

  -- ---- starts
  module _ (e : r.place ≡ code Pc.Idle) (hl : length rows ≡ threads) where
    starts : (x : Row) → Val hz x → Safe next head gs cl ls t x → ClaimsAt mark st src hz next head ho gs (set rows t x) cl ls
    starts x val s = Claim.relist mark st src hz next head ho gs rows cl ls I t ht x ls (others-none (length rows) t ls) (not-D1 Pc.Idle e (omega arith)) (λ c m k. (I.claims c m k).spared t ht) val s

    -- a release's start: the record's keeper is now at D1
    releasing : (a : ℕ) → Owned v t a → ClaimsAt mark st src hz next head (set ho a 1) gs (set rows t (fresh_at 2 (code Pc.D1) a 0 0 0 0)) cl ls
    releasing a q =
        let x : Row = fresh_at 2 (code Pc.D1) a 0 0 0 0 in
        let b = starts x tt tt in
        record {
          sources = b.sources;
          states = b.states;
          claims = λ c n k. let h = b.claims c n k in record { hazard = h.hazard; listed = h.listed; alive = h.alive; spared = h.spared; keeper = given c x refl refl h.keeper };
          vals = b.vals;
          safe = b.safe;
          over = b.over;
          long = b.long;
        }
      where
        given : (c : ℕ) (x : Row) → x.place ≡ code Pc.D1 → x.rec ≡ a → Keeper ho (set rows t x) c → Keeper (set ho a 1) (set rows t x) c
        given c x ex ea (inr w) = inr w
        given c x ex ea (inl w) = at (ℕ_discrete c a)
          where
            at : Dec (c ≡ a) → Keeper (set ho a 1) (set rows t x) c
            at (yes y) = inr (t, rw length-set ht, rw (get_or-set_same rows t x idle ht) (ap pc_of ex), rw (get_or-set_same rows t x idle ht) (ea ∙ sym y))
            at (no y) = inl (rw (get_or-set_other ho a c 1 0 y) w)

    -- a retire's start: the node waits, alone
    retiring : (n : ℕ) (x : Row) → IsId nodes n → ((b : ℕ) → get_or src b 0 ≢ n) → Val hz x → Safe next head gs cl (set ls (slot t alone) (n ∷ [])) t x → ClaimsAt mark (set st n 2) src hz next head ho gs (set rows t x) cl (set ls (slot t alone) (n ∷ []))
    retiring n x id free val s =
        let ls' = set ls (slot t alone) (n ∷ []) in
        let b = Claim.relist mark st src hz next head ho gs rows cl ls I t ht x ls' (others-one (length rows) t (slot t alone) ls (n ∷ []) (inr (alone, omega arith, refl))) (not-D1 Pc.Idle e (omega arith)) (λ c m k. ap (occ m) (get_or-set_other ls (slot t alone) (slot t to_reclaim) (n ∷ []) [] (slot-slot t to_reclaim alone (omega arith))) ∙ (I.claims c m k).spared t ht) val s in
        record {
          sources = λ j m w z. get_or-set_other st n m 2 0 (λ q. free j (w ∙ q)) ∙ I.sources j m w z;
          states = λ m. most m (ℕ_discrete m n);
          claims = λ c m k. let h = b.claims c m k in record { hazard = h.hazard; listed = h.listed; alive = alive m h.alive (ℕ_discrete m n); spared = h.spared; keeper = h.keeper };
          vals = b.vals;
          safe = b.safe;
          over = b.over;
          long = b.long;
        }
      where
        nb : n < length st
        nb = let a = lv.state in let q = id.1 in omega arith

        most : (m : ℕ) → Dec (m ≡ n) → get_or (set st n 2) m 0 ≤ 2
        most m (yes q) = rw (q, get_or-set_same st n 2 0 nb) (omega arith)
        most m (no q) = rw (get_or-set_other st n m 2 0 q) (I.states m)

        alive : (m : ℕ) → get_or st m 0 ≢ 0 → Dec (m ≡ n) → get_or (set st n 2) m 0 ≢ 0
        alive m h (yes q) z = let w : ◌≡◌ {A = ℕ} 2 0 = sym (get_or-set_same st n 2 0 nb) ∙ rw q at z in omega arith
        alive m h (no q) z = h (sym (get_or-set_other st n m 2 0 q) ∙ z)

    -- shutdown's start: no thread is inside and no record is owned, so that no claim is left
    shutting : Admitted v t Shutdown → (x : Row) → Val hz x → Safe next head gs cl ls t x → ClaimsAt 1 st src hz next head ho gs (set rows t x) cl ls
    shutting q x val s =
        let b = starts x val s in
        record { sources = b.sources; states = b.states; claims = b.claims; vals = b.vals; safe = b.safe; over = λ _ c n k. unkept c (I.claims c n k).keeper; long = b.long }
      where
        unkept : (c : ℕ) → Keeper ho rows c → ⊥
        unkept c (inl w) = let a = q.1 c in omega arith
        unkept c (inr w) = let a = q.0 w.0 (rw hl at w.1) in let z : code Pc.Idle ≡ code Pc.D1 = ap code (sym (ap pc_of a) ∙ w.2) in omega arith

    retire : (n x : ℕ) → Admitted v t (Retire n x) → ClaimsIn (enters t (begins g (Retire n x)) v) cl (begun_lists ls t (Retire n x))
    unfolding begins
    retire n x a =
        let q = a.0 in
        let same : narrow n ≡ n = omega arith in
        retiring (narrow n) _ (rw same q) (λ b. rw same (a.2 b)) tt tt

    -- the lists after a start
    pub claim_begin : (o : Operation) → Admitted v t o → ClaimsIn (enters t (begins g o) v) cl (begun_lists ls t o)
    unfolding begins
    claim_begin = every-start (λ (o : Operation). Admitted v t o → ClaimsIn (enters t (begins g o) v) cl (begun_lists ls t o)) (search (two, starts, releasing, retire, shutting, tt) depth 12)
