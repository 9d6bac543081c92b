-- Every step keeps the heap layer: where each waiting node stands.
use Rattle.std.specs.Prelude.{◌≡◌, refl, ◌≢◌, ◌⊎◌, Bool, false, eqb, get_or}
use Rattle.std.proofs.Common.{sym, ap, ◌∙◌, subst, inl, inr, length-set, get_or-set_other, eqb-true}
use mathlib.Core.List.{List, [], ◌∷◌, ◌++◌}
use Prim.Native.Nat.{ℕ, suc, ◌+◌, ◌≤◌, ◌<◌}
use Rattle.std.proofs.Math.Decide.{ℕ_discrete, dec_le}
use native.Mathlib.Omega.{arith}
use Rattle.std.proofs.Math.ListN.{length, set}
use Rattle.std.proofs.Math.Seq.{get_or-set_same, set_out}
use Rattle.std.proofs.lemmas.Bool.{eqb-false}
use Rattle.base.specs.Pick.{pick}
use Rattle.rules.specs.Sizes.{nodes, Settings}
use Rattle.rules.specs.declared.pc.Pc.TheVariants as Pc
use Rattle.rules.specs.Pc.{pc_of, code}
use Rattle.rules.specs.declared.pc.Pc.{Pc}
use Rattle.rules.specs.Rows
use Rattle.rules.specs.Rows.{idle, go_to, in_shard, seeing, with_lone, keeping, reclaiming, with_done, stealing, freeing, freed, shard_in, first, stolen_from}
use Rattle.rules.specs.Places
use Rattle.rules.specs.Places.{checked, accesses, does, ends, becomes, stores, also_stores, finishes, reclaims, passed, emptied, examined, after_free, shut_next}
use Rattle.rules.specs.declared.Row.{Row}
use Rattle.rules.specs.declared.Seen.{Seen}
use Rattle.rules.specs.declared.Effect.{Effect}
use Rattle.rules.specs.declared.Named.TheVariants as cell
use Rattle.rules.specs.Words.{shard_of}
use Rattle.rules.specs.Start.{begins, narrow, fresh_at}
use Rattle.rules.specs.declared.Operation.{Operation}
use Rattle.rules.specs.declared.Operation.TheVariants.{Acquire, Release, Protect, Try, TryProtect, Reset, Raw, Swap, Retire, Eager, Cleanup, Shutdown}
use Rattle.lists.specs.Tab.{zeros}
use Rattle.view.specs.View.{enters}
use Rattle.view.specs.Begin.{Admitted}
use Rattle.lists.specs.Occ.{occ, eq01, eq01-other}
use Rattle.lists.specs.Chain
use Rattle.lists.specs.Heap
use Rattle.lists.specs.Heap.{Heap, waits}
use Rattle.view.specs.View.{View, named, applies}
use Rattle.view.specs.Every.{pc_is, every, every-start, two, At, thus, either, pick_all, pick_case}
use Rattle.view.specs.Turn.{row_in, Look, sees, swap_free}
use Rattle.heap.specs.Hooks.{hooks, slot, loose, hv, to_reclaim, to_keep, alone, slot-slot, slot-shard, shard_inside, hook_stolen, hook_reclaim, hook_keep, hook_alone, get-stolen, get-reclaim, get-keep, get-alone}
use Rattle.heap.specs.Stage
use Rattle.heap.specs.Stage.{Stage, stage, Allowed, null, some, any, Is, ShapeOf, Shape, HeapAt, HeapIn, Others, others-none, others-one, others-two}
use Rattle.heap.specs.Moves
use Rattle.heap.specs.Moves.{Moved, Freed}
use Rattle.heap.specs.Onward.{Seated, found, shaped, seat-passed, seat-checked, seat-shut, seat-emptied, seat_from, seat-examined, seat-reclaimed, idle-hooks, idle-clean}

-- how much a step may add to a node's occurrences in the thread's stolen lists, and in its reclaim list
abbrev pub grabs : Pc → ℕ
grabs p = pick (eqb (code p) (code Pc.Steal)) 1 0

abbrev pub gains : Pc → Row → Seen → ℕ → ℕ
gains p r i n = pick (eqb (code p) (code Pc.Examine)) (pick i.guarded 0 (eq01 n (first r))) (pick (eqb (code p) (code Pc.S1)) 1 0)

-- the heap after a step at place p, and what its lists were made of
pub record Next (g : Settings) (v : View) (ls : List (List ℕ)) (t : ℕ) (p : Pc) (i : Seen) (v' : View) : Type 0 where
  pub lists : List (List ℕ)
  pub inv : HeapIn g v' lists
  pub others : Others (length v.rows) t ls lists
  pub stolen : (k : ℕ) → k < 8 → (n : ℕ) → occ n (get_or lists (slot t k) []) ≤ occ n (get_or ls (slot t k) []) + grabs p
  pub reclaim : (n : ℕ) → occ n (get_or lists (slot t to_reclaim) []) ≤ occ n (get_or ls (slot t to_reclaim) []) + gains p (row_in v t) i n

-- the lists after a start: a retired node is alone
abbrev pub begun_lists : List (List ℕ) → ℕ → Operation → List (List ℕ)
begun_lists ls t Acquire = ls
begun_lists ls t (Release a) = ls
begun_lists ls t (Protect a b) = ls
begun_lists ls t (Try a b n) = ls
begun_lists ls t (TryProtect a b n) = ls
begun_lists ls t (Reset a) = ls
begun_lists ls t (Raw a n) = ls
begun_lists ls t (Swap b n) = ls
begun_lists ls t (Retire n x) = set ls (slot t alone) (narrow n ∷ [])
begun_lists ls t Eager = ls
begun_lists ls t Cleanup = ls
begun_lists ls t Shutdown = ls

module _ (g : Settings) (A : Allowed g) (v : View) (ls : List (List ℕ)) (I : HeapIn g v ls) (t : ℕ) (ht : t < length v.rows) where
  abbrev r : Row
  r = row_in v t

  abbrev next : List ℕ
  next = v.nodes.next

  abbrev st : List ℕ
  st = v.nodes.state

  abbrev sh : List ℕ
  sh = v.heads.shards

  abbrev rows : List Row
  rows = v.rows

  abbrev K : Pc → Seen → Effect → Type 0
  K p i e = Next g v ls t p i (applies t (named (accesses p r)) e v)

  shape : (p : Pc) → r.place ≡ code p → ShapeOf g (stage p) r
  shape p e = subst (λ (q : Pc). ShapeOf g (stage q) r) (pc_is p e) (I.shape t ht)

  -- ---- where no list changes
  still : {p : Pc} {i : Seen} {v' : View} → HeapIn g v' ls → Next g v ls t p i v'
  still h = record { lists = ls; inv = h; others = others-none (length rows) t ls; stolen = λ k q n. omega arith; reclaim = λ n. omega arith }

  sit : (x : Row) → Seated g r x → HeapAt g next st sh (set rows t x) ls
  sit x s = Moves.quiet g next st sh rows ls I t ht x s.hooks s.shape (Moves.ends_same g next st sh rows ls I t ht ls x refl refl s.unreclaimed s.tail s.lone)

  -- a row whose lists are as they were, at a place of this shape
  goes : (x : Row) → hooks x ≡ hooks r → x.unreclaimed ≡ r.unreclaimed → x.tail ≡ r.tail → x.lone ≡ r.lone → Shape g x → HeapAt g next st sh (set rows t x) ls
  goes x a b c d s = sit x (record { shape = s; hooks = a; unreclaimed = b; tail = c; lone = d })

  leaves : ShapeOf g Stage.clean r → HeapAt g next st sh (set rows t idle) ls
  leaves c = Moves.quiet g next st sh rows ls I t ht idle (idle-hooks g A r c) (idle-clean g A) (record { tail = λ z. absurd (z refl); lone = λ z. absurd (z refl) })

  -- a row that may stand after a step at p that changes no list
  record Sat (p : Pc) (x : Row) : Type 0 where
    pub heap : HeapAt g next st sh (set rows t x) ls

  on : {p : Pc} {x : Row} → Shape g x → hooks x ≡ hooks r → x.unreclaimed ≡ r.unreclaimed → x.tail ≡ r.tail → x.lone ≡ r.lone → Sat p x
  on {p} {x} s a b c d = record { heap = goes x a b c d s }

  stays : {p : Pc} {x : Row} → r.place ≡ code p → x.place ≡ r.place → ShapeOf g (stage p) x → hooks x ≡ hooks r → x.unreclaimed ≡ r.unreclaimed → x.tail ≡ r.tail → x.lone ≡ r.lone → Sat p x
  stays {p} {x} e q s a b c d = record { heap = goes x a b c d (shaped g A p x (q ∙ e) s) }

  rests : {p : Pc} → ShapeOf g Stage.clean r → Sat p idle
  rests c = record { heap = leaves c }

  checks : {p : Pc} (x : Row) → ShapeOf g Stage.clean x → hooks x ≡ hooks r → x.unreclaimed ≡ r.unreclaimed → x.tail ≡ r.tail → x.lone ≡ r.lone → Sat p (checked x)
  checks x s a b c d = let z = seat-checked g A x s in record { heap = goes (checked x) (z.hooks ∙ a) (z.unreclaimed ∙ b) (z.tail ∙ c) (z.lone ∙ d) z.shape }

  leaf : (i : Seen) {p : Pc} {e : Effect} → HeapAt g next st sh (set rows t e.row) ls ≡ HeapIn g (applies t (named (accesses p r)) e v) ls → Sat p e.row → At (λ (p : Pc) (e : Effect). K p i e) p e
  leaf i {p} {e} q k = thus (still (subst (λ (X : Type 0). X) q k.heap))

  -- ---- the lists of the slots that a move leaves
  un_two : (i j q : ℕ) (la lb : List ℕ) → q ≢ i → q ≢ j → (n : ℕ) → occ n (get_or (set (set ls (slot t i) la) (slot t j) lb) (slot t q) []) ≡ occ n (get_or ls (slot t q) [])
  un_two i j q la lb a b n = ap (occ n) (get_or-set_other (set ls (slot t i) la) (slot t j) (slot t q) lb [] (slot-slot t q j b) ∙ get_or-set_other ls (slot t i) (slot t q) la [] (slot-slot t q i a))

  un_shard : (i k q : ℕ) (la lb : List ℕ) → k < 8 → q ≢ i → (n : ℕ) → occ n (get_or (set (set ls (slot t i) la) k lb) (slot t q) []) ≡ occ n (get_or ls (slot t q) [])
  un_shard i k q la lb hk a n = ap (occ n) (get_or-set_other (set ls (slot t i) la) k (slot t q) lb [] (slot-shard t q k hk) ∙ get_or-set_other ls (slot t i) (slot t q) la [] (slot-slot t q i a))

  in_lists : (j : ℕ) → j < 11 → slot t j < length ls
  in_lists j h = Moves.in_lists g next st sh rows ls I t ht j h

  -- a shard's list has a node at most once
  once : (k n : ℕ) → k < 8 → occ n (get_or ls k []) ≤ 1
  once k n hk = Heap.nodup loose next st (hv sh rows) ls I.heap k (shard_inside sh rows I.h8 I.h11 k hk) n

  -- ---- retire
  kT2 : (i : Seen) → Look g v t Pc.T2 r i → At (λ (p : Pc) (e : Effect). K p i e) Pc.T2 (does g Pc.T2 r i)
  kT2 i l = thus (pick_case (K Pc.T2 i) (eqb i.v r.seen) _ _ (λ e. pick_all (K Pc.T2 i) i.flag _ _ lost (won (eqb-true i.v r.seen e))) (λ _. lost))
    where
      c : ShapeOf g Stage.lone r
      c = shape Pc.T2 l.place

      k8 : r.shard < 8
      k8 = l.reach

      one : get_or ls (slot t alone) [] ≡ r.lone ∷ []
      one = (I.ends t ht).lone c.lone

      ls' : List (List ℕ)
      ls' = set (set ls (slot t alone) []) r.shard (r.lone ∷ get_or ls r.shard [])

      won : i.v ≡ r.seen → K Pc.T2 i (stores r.lone (also_stores (cell.NodeNext r.lone) r.seen (becomes (go_to Pc.T3 (with_lone 0 r)))))
      won e = record {
        lists = ls';
        inv = subst (λ (x : ℕ). HeapAt g (set next r.lone x) st (set sh r.shard r.lone) (set rows t (go_to Pc.T3 (with_lone 0 r))) ls') (sym (sees l tt refl).0 ∙ e)
            (Moves.post g next st sh rows ls I t ht r.shard r.lone (go_to Pc.T3 (with_lone 0 r)) k8 one (hook_alone r.stolen r.reclaimable r.unreclaimed r.lone c.eight 0)
            (record { eight = c.eight; none = c.none; reclaim = c.reclaim; keep = c.keep; lone = refl; here = tt })
            (record { tail = λ z. absurd (z c.keep); lone = λ z. absurd (z refl) }));
        others = others-two (length rows) t (slot t alone) r.shard ls [] (r.lone ∷ get_or ls r.shard []) (inr (alone, omega arith, refl)) (inl k8);
        stolen = λ k q n. let w = un_shard alone r.shard k [] (r.lone ∷ get_or ls r.shard []) k8 (omega arith) n in omega arith;
        reclaim = λ n. let w = un_shard alone r.shard to_reclaim [] (r.lone ∷ get_or ls r.shard []) k8 (omega arith) n in omega arith;
      }

      lost : K Pc.T2 i (also_stores (cell.NodeNext r.lone) r.seen (becomes (seeing i.v r)))
      lost = still (Moves.scribble g next st sh rows ls I t ht alone r.lone r.seen (seeing i.v r) (omega arith) (omega arith) (λ z. c.lone (sym (get-alone r.stolen r.reclaimable r.unreclaimed r.lone c.eight) ∙ z)) (rw one) refl
          (shaped g A Pc.T2 (seeing i.v r) l.place c) (Moves.ends_same g next st sh rows ls I t ht ls (seeing i.v r) refl refl refl refl refl))

  -- ---- a pass
  -- the row's shard, and its place among eight
  k-is : r.shard < g.shards → shard_in r ≡ r.shard
  k-is h = let a = A.most in omega arith

  k_steal : (i : Seen) → Look g v t Pc.Steal r i → At (λ (p : Pc) (e : Effect). K p i e) Pc.Steal (does g Pc.Steal r i)
  k_steal i l =
      thus (pick_case (K Pc.Steal i) (eqb (shard_in r + 1) g.shards) _ _
      (λ e. pick_case (K Pc.Steal i) (eqb (stolen_from r₁.stolen 0 g.shards) g.shards) _ _
      (λ q. let w = with_done 2 r₁ in let z = seat-passed g A w (record { eight = eight₁; none = λ j _. all j (eqb-true _ g.shards q) (dec_le g.shards j) (eqb-true (shard_in r + 1) g.shards e); reclaim = c.reclaim; keep = c.keep; lone = c.lone; here = tt }) in
      steals (passed w) z.hooks z.shape (z.unreclaimed ∙ c.keep) (z.lone ∙ c.lone))
      (λ q. steals (go_to Pc.H1 r₁) refl (record { eight = eight₁; none = λ j h. past j (let a = eqb-true (shard_in r + 1) g.shards e in omega arith); reclaim = c.reclaim; keep = c.keep; lone = c.lone; here = tt }) c.keep c.lone))
      (λ e. steals (in_shard (shard_in r + 1) r₁) refl (shaped g A Pc.Steal (in_shard (shard_in r + 1) r₁) l.place (record { eight = eight₁; none = λ j h. past j (omega arith); reclaim = c.reclaim; keep = c.keep; lone = c.lone; here = let a = eqb-false (shard_in r + 1) g.shards e in let b = c.here in let d = k-is c.here in omega arith })) c.keep c.lone))
    where
      c : ShapeOf g Stage.steals r
      c = shape Pc.Steal l.place

      r₁ : Row
      r₁ = stealing i.v r

      k8 : r.shard < 8
      k8 = l.reach

      eight₁ : length r₁.stolen ≡ 8
      eight₁ = length-set r.stolen (shard_in r) i.v ∙ c.eight

      past : (j : ℕ) → shard_in r < j → get_or r₁.stolen j 0 ≡ 0
      past j h = get_or-set_other r.stolen (shard_in r) j i.v 0 (omega arith) ∙ c.none j (let d = k-is c.here in omega arith)

      all : (j : ℕ) → stolen_from r₁.stolen 0 g.shards ≡ g.shards → Dec (g.shards ≤ j) → shard_in r + 1 ≡ g.shards → get_or r₁.stolen j 0 ≡ 0
      all j e (yes q) w = past j (omega arith)
      all j e (no q) w = (found r₁.stolen 0 g.shards).none j (omega arith) (omega arith)

      ls' : List (List ℕ)
      ls' = set (set ls r.shard []) (slot t (shard_in r)) (get_or ls r.shard [])

      at : (k n : ℕ) → k < 8 → Dec (k ≡ shard_in r) → occ n (get_or ls' (slot t k) []) ≤ occ n (get_or ls (slot t k) []) + 1
      at k n q (yes e) = rw (e, get_or-set_same (set ls r.shard []) (slot t (shard_in r)) (get_or ls r.shard []) [] (rw length-set (in_lists (shard_in r) (omega arith)))) (let a = once r.shard n k8 in omega arith)
      at k n q (no e) = let w = ap (occ n) (get_or-set_other (set ls r.shard []) (slot t (shard_in r)) (slot t k) (get_or ls r.shard []) [] (slot-slot t k (shard_in r) e) ∙ get_or-set_other ls r.shard (slot t k) [] [] (slot-shard t k r.shard k8)) in omega arith

      steals : (x : Row) → hooks x ≡ hooks r₁ → Shape g x → x.unreclaimed ≡ 0 → x.lone ≡ 0 → K Pc.Steal i (stores 0 (becomes x))
      steals x ex s u0 l0 = record {
        lists = ls';
        inv = Moves.steal g next st sh rows ls I t ht r.shard (shard_in r) x k8 (omega arith)
            (get-stolen r.stolen r.reclaimable r.unreclaimed r.lone c.eight (shard_in r) (omega arith) ∙ c.none (shard_in r) (let d = k-is c.here in omega arith))
            (ex ∙ hook_stolen r.stolen r.reclaimable r.unreclaimed r.lone c.eight (shard_in r) i.v (omega arith) ∙ ap (set (hooks r) (shard_in r)) (sees l tt refl).0)
            s (record { tail = λ z. absurd (z u0); lone = λ z. absurd (z l0) });
        others = others-two (length rows) t r.shard (slot t (shard_in r)) ls [] (get_or ls r.shard []) (inl k8) (inr (shard_in r, omega arith, refl));
        stolen = λ k q n. at k n q (ℕ_discrete k (shard_in r));
        reclaim = λ n. let w = ap (occ n) (get_or-set_other (set ls r.shard []) (slot t (shard_in r)) (slot t to_reclaim) (get_or ls r.shard []) [] (slot-slot t to_reclaim (shard_in r) (omega arith)) ∙ get_or-set_other ls r.shard (slot t to_reclaim) [] [] (slot-shard t to_reclaim r.shard k8)) in omega arith;
      }

  -- the scan changes no list
  scanned : ShapeOf g Stage.scans r → Seated g r (Places.examine_from g 0 r)
  scanned c = seat_from g A 0 r (omega arith) (record { eight = c.eight; none = λ j h. c.none j (above j h); reclaim = c.reclaim; keep = tt; lone = c.lone; here = tt })
    where
      above : (j : ℕ) → (j < 0) ⊎ (g.shards ≤ j) → g.shards ≤ j
      above j (inl h) = absurd (omega arith)
      above j (inr h) = h

  kH1 : (i : Seen) → Look g v t Pc.H1 r i → At (λ (p : Pc) (e : Effect). K p i e) Pc.H1 (does g Pc.H1 r i)
  kH1 i l = thus (let c = shape Pc.H1 l.place in pick_all (K Pc.H1 i) (eqb i.v 0) _ _ (still (sit _ (scanned c))) (still (goes _ refl refl refl refl c)))

  kH2 : (i : Seen) → Look g v t Pc.H2 r i → At (λ (p : Pc) (e : Effect). K p i e) Pc.H2 (does g Pc.H2 r i)
  kH2 i l = thus (let c = shape Pc.H2 l.place in pick_all (K Pc.H2 i) (eqb i.w 0) _ _ (still (sit _ (scanned c))) (still (goes (Rows.with_rec i.w r) refl refl refl refl (shaped g A Pc.H2 (Rows.with_rec i.w r) l.place c))))

  k_examine : (i : Seen) → Look g v t Pc.Examine r i → At (λ (p : Pc) (e : Effect). K p i e) Pc.Examine (does g Pc.Examine r i)
  k_examine i l = thus (pick_case (K Pc.Examine i) i.guarded _ _ (λ _. kept) (λ q. unguarded q))
    where
      c : ShapeOf g Stage.examines r
      c = shape Pc.Examine l.place

      n : ℕ
      n = first r

      nz : n ≢ 0
      nz = let a = l.reach in omega arith

      saw : i.v ≡ get_or next n 0
      saw = (sees l tt refl).0

      k : ℕ
      k = shard_in r

      ek : k ≡ r.shard
      ek = k-is c.here.0

      r₁ : Row
      r₁ = stealing i.v r

      eight₁ : length r₁.stolen ≡ 8
      eight₁ = length-set r.stolen k i.v ∙ c.eight

      here₁ : get_or r₁.stolen r.shard 0 ≡ i.v
      here₁ = subst (λ (m : ℕ). get_or (set r.stolen m i.v) r.shard 0 ≡ i.v) (sym ek) (get_or-set_same r.stolen r.shard i.v 0 (let a = A.most in let b = c.here.0 in let d = c.eight in omega arith))

      none₁ : (j : ℕ) → (j < r.shard) ⊎ (g.shards ≤ j) → get_or r₁.stolen j 0 ≡ 0
      none₁ j h = get_or-set_other r.stolen k j i.v 0 (apart h) ∙ c.none j h
        where
          apart : (j < r.shard) ⊎ (g.shards ≤ j) → j ≢ k
          apart (inl q) = λ e. let w = ek in omega arith
          apart (inr q) = λ e. let w = ek in let b = c.here.0 in omega arith

      off : set r.stolen k i.v ++ (r.reclaimable ∷ r.unreclaimed ∷ r.lone ∷ []) ≡ set (hooks r) k (get_or next n 0)
      off = hook_stolen r.stolen r.reclaimable r.unreclaimed r.lone c.eight k i.v (omega arith) ∙ ap (set (hooks r) k) saw

      -- the list that loses its head has no more than it had
      fewer : (j : ℕ) (lb rest : List ℕ) → get_or ls (slot t k) [] ≡ n ∷ rest → 8 ≤ j → j < 11 → (q m : ℕ) → q < 8 → Dec (q ≡ k) → occ m (get_or (set (set ls (slot t k) rest) (slot t j) lb) (slot t q) []) ≤ occ m (get_or ls (slot t q) []) + 0
      fewer j lb rest w h8 h11 q m hq (yes e) =
          let a : get_or (set (set ls (slot t k) rest) (slot t j) lb) (slot t q) [] ≡ rest = rw e (get_or-set_other (set ls (slot t k) rest) (slot t j) (slot t k) lb [] (slot-slot t k j (omega arith)) ∙ get_or-set_same ls (slot t k) rest [] (in_lists k (omega arith))) in
          let b : get_or ls (slot t q) [] ≡ n ∷ rest = rw e w in
          let x = ap (occ m) a in
          let y = ap (occ m) b in omega arith
      fewer j lb rest w h8 h11 q m hq (no e) = let a = un_two k j q rest lb e (omega arith) m in omega arith

      kept : K Pc.Examine i (stores r.unreclaimed (becomes (examined g i.v (keeping n (pick (eqb r.unreclaimed 0) n r.tail) r₁))))
      kept = record {
        lists = set (set ls (slot t k) m.rest) (slot t to_keep) (n ∷ get_or ls (slot t to_keep) []);
        inv = subst (λ (a : ℕ). HeapAt g (set next n a) st sh (set rows t (examined g i.v x)) (set (set ls (slot t k) m.rest) (slot t to_keep) (n ∷ get_or ls (slot t to_keep) []))) (get-keep r.stolen r.reclaimable r.unreclaimed r.lone c.eight) m.inv;
        others = others-two (length rows) t (slot t k) (slot t to_keep) ls m.rest (n ∷ get_or ls (slot t to_keep) []) (inr (k, omega arith, refl)) (inr (to_keep, omega arith, refl));
        stolen = λ q hq a. fewer to_keep (n ∷ get_or ls (slot t to_keep) []) m.rest m.was (omega arith) (omega arith) q a hq (ℕ_discrete q k);
        reclaim = λ a. let w = un_two k to_keep to_reclaim m.rest (n ∷ get_or ls (slot t to_keep) []) (omega arith) (omega arith) a in omega arith;
      }
        where
          x : Row
          x = keeping n (pick (eqb r.unreclaimed 0) n r.tail) r₁

          z : Seated g x (examined g i.v x)
          z = seat-examined g A i.v x l.place c.here.0 here₁ (record { eight = eight₁; none = none₁; reclaim = tt; keep = tt; lone = c.lone; here = tt })

          m : Moved g next st sh rows ls I t ht k to_keep n (examined g i.v x)
          m = Moves.move g next st sh rows ls I t ht k to_keep n (examined g i.v x) (omega arith) (omega arith) (omega arith) (get-stolen r.stolen r.reclaimable r.unreclaimed r.lone c.eight k (omega arith)) nz
              (z.hooks ∙ hook_keep r₁.stolen r.reclaimable r.unreclaimed r.lone eight₁ n ∙ ap (λ (y : List ℕ). set y to_keep n) off) z.shape
              (λ rest. record {
                tail = λ _. ap Chain.last (get_or-set_same (set ls (slot t k) rest) (slot t to_keep) (n ∷ get_or ls (slot t to_keep) []) [] (rw length-set (in_lists to_keep (omega arith)))) ∙ Moves.last-kept g next st sh rows ls I t ht n c.eight ∙ sym z.tail;
                lone = λ y. absurd (y (z.lone ∙ c.lone));
              })

      unguarded : i.guarded ≡ false → K Pc.Examine i (stores r.reclaimable (becomes (examined g i.v (reclaiming n r₁))))
      unguarded un = record {
        lists = set (set ls (slot t k) m.rest) (slot t to_reclaim) (n ∷ get_or ls (slot t to_reclaim) []);
        inv = subst (λ (a : ℕ). HeapAt g (set next n a) st sh (set rows t (examined g i.v x)) (set (set ls (slot t k) m.rest) (slot t to_reclaim) (n ∷ get_or ls (slot t to_reclaim) []))) (get-reclaim r.stolen r.reclaimable r.unreclaimed r.lone c.eight) m.inv;
        others = others-two (length rows) t (slot t k) (slot t to_reclaim) ls m.rest (n ∷ get_or ls (slot t to_reclaim) []) (inr (k, omega arith, refl)) (inr (to_reclaim, omega arith, refl));
        stolen = λ q hq a. fewer to_reclaim (n ∷ get_or ls (slot t to_reclaim) []) m.rest m.was (omega arith) (omega arith) q a hq (ℕ_discrete q k);
        reclaim = λ a. let y : pick i.guarded 0 (eq01 a (first r)) ≡ eq01 a (first r) = ap (λ (b : Bool). pick b 0 (eq01 a (first r))) un in let w = ap (occ a) (get_or-set_same (set ls (slot t k) m.rest) (slot t to_reclaim) (n ∷ get_or ls (slot t to_reclaim) []) [] (rw length-set (in_lists to_reclaim (omega arith)))) in omega arith;
      }
        where
          x : Row
          x = reclaiming n r₁

          z : Seated g x (examined g i.v x)
          z = seat-examined g A i.v x l.place c.here.0 here₁ (record { eight = eight₁; none = none₁; reclaim = tt; keep = tt; lone = c.lone; here = tt })

          m : Moved g next st sh rows ls I t ht k to_reclaim n (examined g i.v x)
          m = Moves.move g next st sh rows ls I t ht k to_reclaim n (examined g i.v x) (omega arith) (omega arith) (omega arith) (get-stolen r.stolen r.reclaimable r.unreclaimed r.lone c.eight k (omega arith)) nz
              (z.hooks ∙ hook_reclaim r₁.stolen r.reclaimable r.unreclaimed r.lone eight₁ n ∙ ap (λ (y : List ℕ). set y to_reclaim n) off) z.shape
              (λ rest. Moves.ends_same g next st sh rows ls I t ht (set (set ls (slot t k) rest) (slot t to_reclaim) (n ∷ get_or ls (slot t to_reclaim) [])) (examined g i.v x) (same rest to_keep (omega arith) (omega arith)) (same rest alone (omega arith) (omega arith)) z.unreclaimed z.tail z.lone)
            where
              same : (rest : List ℕ) (q : ℕ) → q ≢ k → q ≢ to_reclaim → get_or (set (set ls (slot t k) rest) (slot t to_reclaim) (n ∷ get_or ls (slot t to_reclaim) [])) (slot t q) [] ≡ get_or ls (slot t q) []
              same rest q a b = get_or-set_other (set ls (slot t k) rest) (slot t to_reclaim) (slot t q) (n ∷ get_or ls (slot t to_reclaim) []) [] (slot-slot t q to_reclaim b) ∙ get_or-set_other ls (slot t k) (slot t q) rest [] (slot-slot t q k a)

  -- a node of the reclaim list is reclaimed, in a pass or in shutdown
  frees : (p : Pc) (i : Seen) (x : Row) → length r.stolen ≡ 8 → r.reclaimable ≢ 0 → hooks x ≡ set (hooks r) to_reclaim (get_or next r.reclaimable 0) → Shape g x → x.unreclaimed ≡ r.unreclaimed → x.tail ≡ r.tail → x.lone ≡ r.lone
      → Next g v ls t p i (applies t (cell.NodeNext r.reclaimable) (reclaims r.reclaimable x) v)
  frees p i x h8 nz e s eu et el = record {
    lists = set ls (slot t to_reclaim) m.rest;
    inv = m.inv;
    others = others-one (length rows) t (slot t to_reclaim) ls m.rest (inr (to_reclaim, omega arith, refl));
    stolen = λ q hq n. let w = ap (occ n) (get_or-set_other ls (slot t to_reclaim) (slot t q) m.rest [] (slot-slot t q to_reclaim (omega arith))) in omega arith;
    reclaim = λ n. let w = ap (occ n) (get_or-set_same ls (slot t to_reclaim) m.rest [] (in_lists to_reclaim (omega arith))) in let y = ap (occ n) m.was in omega arith;
  }
    where
      same : (rest : List ℕ) (q : ℕ) → q ≢ to_reclaim → get_or (set ls (slot t to_reclaim) rest) (slot t q) [] ≡ get_or ls (slot t q) []
      same rest q b = get_or-set_other ls (slot t to_reclaim) (slot t q) rest [] (slot-slot t q to_reclaim b)

      m : Freed g next st sh rows ls I t ht r.reclaimable x
      m = Moves.free g next st sh rows ls I t ht r.reclaimable x (get-reclaim r.stolen r.reclaimable r.unreclaimed r.lone h8) nz e s
          (λ rest. Moves.ends_same g next st sh rows ls I t ht (set ls (slot t to_reclaim) rest) x (same rest to_keep (omega arith)) (same rest alone (omega arith)) eu et el)

  k_reclaim : (i : Seen) → Look g v t Pc.Reclaim r i → At (λ (p : Pc) (e : Effect). K p i e) Pc.Reclaim (does g Pc.Reclaim r i)
  k_reclaim i l =
      thus (let c : ShapeOf g Stage.reclaims r = shape Pc.Reclaim l.place in
      let x : Row = freeing (reclaiming i.v r) in
      let z = seat-reclaimed g A i.v x l.place c.here refl (record { eight = c.eight; none = c.none; reclaim = tt; keep = tt; lone = c.lone; here = tt }) in
      frees Pc.Reclaim i (after_free g i.v x) c.eight c.reclaim (z.hooks ∙ hook_reclaim r.stolen r.reclaimable r.unreclaimed r.lone c.eight i.v ∙ ap (set (hooks r) to_reclaim) (sees l tt refl).0) z.shape z.unreclaimed z.tail z.lone)

  k_empty : (i : Seen) → Look g v t Pc.Empty r i → At (λ (p : Pc) (e : Effect). K p i e) Pc.Empty (does g Pc.Empty r i)
  k_empty i l =
      thus (pick_all (K Pc.Empty i) (eqb i.v 0) _ _
      (pick_case (K Pc.Empty i) (eqb (shard_in r + 1) g.shards) _ _ (λ _. on (with_done 2 r) c₀ refl refl refl refl)
      (λ e. still (goes (in_shard (shard_in r + 1) r) refl refl refl refl (shaped g A Pc.Empty (in_shard (shard_in r + 1) r) l.place (record { eight = c.eight; none = c.none; reclaim = c.reclaim; keep = tt; lone = c.lone; here = let a = eqb-false (shard_in r + 1) g.shards e in let b = c.here in let d = k-is c.here in omega arith })))))
      (on (with_done 1 r) c₀ refl refl refl refl))
    where
      c : ShapeOf g Stage.empties r
      c = shape Pc.Empty l.place

      c₀ : Is (λ j. Unit {0}) null any null (Unit {0}) r
      c₀ = record { eight = c.eight; none = c.none; reclaim = c.reclaim; keep = tt; lone = c.lone; here = tt }

      on : (x : Row) → Is (λ j. Unit {0}) null any null (Unit {0}) x → hooks x ≡ hooks r → x.unreclaimed ≡ r.unreclaimed → x.tail ≡ r.tail → x.lone ≡ r.lone → Next g v ls t Pc.Empty i (applies t (cell.ShardHead r.shard) (becomes (emptied x)) v)
      on x q e f h k =
          let z = seat-emptied g A x q in
          still (goes (emptied x) (z.hooks ∙ e) (z.unreclaimed ∙ f) (z.tail ∙ h) (z.lone ∙ k) z.shape)

  k_push2 : (i : Seen) → Look g v t Pc.Push2 r i → At (λ (p : Pc) (e : Effect). K p i e) Pc.Push2 (does g Pc.Push2 r i)
  k_push2 i l = thus (pick_case (K Pc.Push2 i) (eqb r.unreclaimed 0) _ _ (λ e. absurd (c.keep (eqb-true r.unreclaimed 0 e)))
      (λ _. pick_case (K Pc.Push2 i) (eqb i.v r.seen) _ _ (λ e. pick_all (K Pc.Push2 i) i.flag _ _ lost (won (eqb-true i.v r.seen e))) (λ _. lost)))
    where
      c : ShapeOf g Stage.pushes r
      c = shape Pc.Push2 l.place

      keep : get_or (hooks r) to_keep 0 ≡ r.unreclaimed
      keep = get-keep r.stolen r.reclaimable r.unreclaimed r.lone c.eight

      z : Seated g (keeping 0 0 r) (passed (keeping 0 0 r))
      z = seat-passed g A (keeping 0 0 r) (record { eight = c.eight; none = c.none; reclaim = c.reclaim; keep = refl; lone = c.lone; here = tt })

      ls' : List (List ℕ)
      ls' = set (set ls (slot t to_keep) []) 0 (get_or ls (slot t to_keep) [] ++ get_or ls 0 [])

      won : i.v ≡ r.seen → K Pc.Push2 i (stores r.unreclaimed (also_stores (cell.NodeNext r.tail) r.seen (becomes (passed (keeping 0 0 r)))))
      won e = record {
        lists = ls';
        inv = subst (λ (a : ℕ). HeapAt g (set next r.tail a) st (set sh 0 r.unreclaimed) (set rows t (passed (keeping 0 0 r))) ls') (sym (sees l tt refl).0 ∙ e)
            (Moves.hang g next st sh rows ls I t ht r.unreclaimed r.tail (passed (keeping 0 0 r)) keep c.keep ((I.ends t ht).tail c.keep) (z.hooks ∙ hook_keep r.stolen r.reclaimable r.unreclaimed r.lone c.eight 0) z.shape
            (record { tail = λ y. absurd (y z.unreclaimed); lone = λ y. absurd (y (z.lone ∙ c.lone)) }));
        others = others-two (length rows) t (slot t to_keep) 0 ls [] (get_or ls (slot t to_keep) [] ++ get_or ls 0 []) (inr (to_keep, omega arith, refl)) (inl (omega arith));
        stolen = λ k q n. let w = un_shard to_keep 0 k [] (get_or ls (slot t to_keep) [] ++ get_or ls 0 []) (omega arith) (omega arith) n in omega arith;
        reclaim = λ n. let w = un_shard to_keep 0 to_reclaim [] (get_or ls (slot t to_keep) [] ++ get_or ls 0 []) (omega arith) (omega arith) n in omega arith;
      }

      lost : K Pc.Push2 i (also_stores (cell.NodeNext r.tail) r.seen (becomes (seeing i.v r)))
      lost = still (Moves.scribble g next st sh rows ls I t ht to_keep r.tail r.seen (seeing i.v r) (omega arith) (omega arith) (λ y. c.keep (sym keep ∙ y)) ((I.ends t ht).tail c.keep) refl
          (shaped g A Pc.Push2 (seeing i.v r) l.place c) (Moves.ends_same g next st sh rows ls I t ht ls (seeing i.v r) refl refl refl refl refl))

  -- ---- shutdown
  kS1 : (i : Seen) → Look g v t Pc.S1 r i → At (λ (p : Pc) (e : Effect). K p i e) Pc.S1 (does g Pc.S1 r i)
  kS1 i l =
      thus (pick_case (K Pc.S1 i) (eqb i.v 0) _ _
      (λ e. let z = seat-shut g A r c₀ c.here in
      takes (shut_next g r) (z.hooks ∙ ap (λ (a : ℕ). r.stolen ++ (a ∷ r.unreclaimed ∷ r.lone ∷ [])) (c.reclaim ∙ sym (eqb-true i.v 0 e))) z.shape z.unreclaimed z.lone)
      (λ e. takes (go_to Pc.S2 (reclaiming i.v r)) refl (record { eight = c.eight; none = c.none; reclaim = eqb-false i.v 0 e; keep = c.keep; lone = c.lone; here = c.here }) refl refl))
    where
      c : ShapeOf g Stage.shuts r
      c = shape Pc.S1 l.place

      c₀ : ShapeOf g Stage.clean r
      c₀ = record { eight = c.eight; none = c.none; reclaim = c.reclaim; keep = c.keep; lone = c.lone; here = tt }

      k8 : r.shard < 8
      k8 = l.reach

      ls' : List (List ℕ)
      ls' = set (set ls r.shard []) (slot t to_reclaim) (get_or ls r.shard [])

      takes : (x : Row) → hooks x ≡ r.stolen ++ (i.v ∷ r.unreclaimed ∷ r.lone ∷ []) → Shape g x → x.unreclaimed ≡ r.unreclaimed → x.lone ≡ r.lone → K Pc.S1 i (stores 0 (becomes x))
      takes x ex s eu el = record {
        lists = ls';
        inv = Moves.steal g next st sh rows ls I t ht r.shard to_reclaim x k8 (omega arith) (get-reclaim r.stolen r.reclaimable r.unreclaimed r.lone c.eight ∙ c.reclaim)
            (ex ∙ hook_reclaim r.stolen r.reclaimable r.unreclaimed r.lone c.eight i.v ∙ ap (set (hooks r) to_reclaim) (sees l tt refl).0) s
            (record { tail = λ y. absurd (y (eu ∙ c.keep)); lone = λ y. absurd (y (el ∙ c.lone)) });
        others = others-two (length rows) t r.shard (slot t to_reclaim) ls [] (get_or ls r.shard []) (inl k8) (inr (to_reclaim, omega arith, refl));
        stolen = λ k q n. let w = ap (occ n) (get_or-set_other (set ls r.shard []) (slot t to_reclaim) (slot t k) (get_or ls r.shard []) [] (slot-slot t k to_reclaim (omega arith)) ∙ get_or-set_other ls r.shard (slot t k) [] [] (slot-shard t k r.shard k8)) in omega arith;
        reclaim = λ n. let w = ap (occ n) (get_or-set_same (set ls r.shard []) (slot t to_reclaim) (get_or ls r.shard []) [] (rw length-set (in_lists to_reclaim (omega arith)))) in let y = once r.shard n k8 in omega arith;
      }

  kS2 : (i : Seen) → Look g v t Pc.S2 r i → At (λ (p : Pc) (e : Effect). K p i e) Pc.S2 (does g Pc.S2 r i)
  kS2 i l = thus (frees Pc.S2 i (pick (eqb i.v 0) (shut_next g x) x) c.eight c.reclaim (z.hooks ∙ hook_reclaim r.stolen r.reclaimable r.unreclaimed r.lone c.eight i.v ∙ ap (set (hooks r) to_reclaim) (sees l tt refl).0) z.shape z.unreclaimed z.tail z.lone)
    where
      c : ShapeOf g Stage.frees r
      c = shape Pc.S2 l.place

      x : Row
      x = freed (reclaiming i.v r)

      z : Seated g x (pick (eqb i.v 0) (shut_next g x) x)
      z = pick_case (Seated g x) (eqb i.v 0) _ _
          (λ e. seat-shut g A x (record { eight = c.eight; none = c.none; reclaim = eqb-true i.v 0 e; keep = c.keep; lone = c.lone; here = tt }) c.here)
          (λ e. record { shape = shaped g A Pc.S2 x l.place (record { eight = c.eight; none = c.none; reclaim = eqb-false i.v 0 e; keep = c.keep; lone = c.lone; here = c.here }); hooks = refl; unreclaimed = refl; tail = refl; lone = refl })

  -- ---- a swap makes a free node live: neither state waits
  k_swap : (i : Seen) → Look g v t Pc.Swap r i → At (λ (p : Pc) (e : Effect). K p i e) Pc.Swap (does g Pc.Swap r i)
  k_swap i l =
      thus (pick_all (K Pc.Swap i) (eqb i.w 2) _ _ (still (leaves c))
      (pick_case (K Pc.Swap i) (eqb r.node 0) _ _ (λ _. still (leaves c))
      (λ e. pick_case (K Pc.Swap i) (eqb i.w 0) _ _ (λ q. live e (eqb-true i.w 0 q)) (λ _. still (leaves c)))))
    where
      c : ShapeOf g Stage.clean r
      c = shape Pc.Swap l.place

      live : eqb r.node 0 ≡ false → i.w ≡ 0 → K Pc.Swap i (stores r.node (also_stores (cell.NodeState r.node) 1 (finishes i.v)))
      live e w0 = still (Moves.restate g next st sh rows ls I t ht (set st r.node 1) idle (length-set st r.node 1) (λ m. same m (ℕ_discrete m r.node) (dec_le (length st) r.node)) (idle-hooks g A r c) (idle-clean g A) (record { tail = λ z. absurd (z refl); lone = λ z. absurd (z refl) }))
        where
          same : (m : ℕ) → Dec (m ≡ r.node) → Dec (length st ≤ r.node) → waits (set st r.node 1) m ≡ waits st m
          same m (yes q) (yes out) = ap (λ (x : List ℕ). waits x m) (set_out st r.node 1 out)
          same m (yes q) (no in') = rw (q, get_or-set_same st r.node 1 0 (omega arith), swap_free l e w0) (eq01-other 1 2 (omega arith) ∙ sym (eq01-other 0 2 (omega arith)))
          same m (no q) d = rw (get_or-set_other st r.node m 1 0 q)

  -- ---- every place
  kB1 : ShapeOf g Stage.clean r → Sat Pc.B1 (Places.new_pass r)
  kB1 c = on {x = Places.new_pass r} (record { eight = c.eight; none = λ j _. c.none j tt; reclaim = c.reclaim; keep = c.keep; lone = c.lone; here = A.some }) refl refl refl refl

  pub heap-place : (p : Pc) (i : Seen) → Look g v t p r i → K p i (does g p r i)
  heap-place p i l = (every (λ (p : Pc). Look g v t p r i → r.place ≡ code p → ShapeOf g (stage p) r → At (λ (p : Pc) (e : Effect). K p i e) p (does g p r i)) (search (two, k_swap i, kT2 i, k_steal i, kH1 i, kH2 i, k_examine i, k_reclaim i, k_empty i, k_push2 i, kS1 i, kS2 i, either, leaf i, kB1, rests, checks, on, stays) depth 16 fits 8000) p l l.place (shape p l.place)).holds

  -- 25 and 26 end the operation
  clean_at : (pc_of r.place ≡ Pc.N1) ⊎ (pc_of r.place ≡ Pc.Swap) → ShapeOf g Stage.clean r
  clean_at (inl e) = subst (λ (q : Pc). ShapeOf g (stage q) r) e (I.shape t ht)
  clean_at (inr e) = subst (λ (q : Pc). ShapeOf g (stage q) r) e (I.shape t ht)

  pub heap-ends : (n : ℕ) → (pc_of r.place ≡ Pc.N1) ⊎ (pc_of r.place ≡ Pc.Swap) → HeapIn g (applies t cell.Nothing (ends n) v) ls
  heap-ends n w = leaves (clean_at w)

  -- ---- starts
  module _ (e : r.place ≡ code Pc.Idle) where
    c : ShapeOf g Stage.clean r
    c = shape Pc.Idle e

    -- a fresh row holds no list
    fresh : (x : Row) → hooks x ≡ hooks idle → x.unreclaimed ≡ 0 → x.lone ≡ 0 → Shape g x → HeapAt g next st sh (set rows t x) ls
    fresh x eh eu el s = Moves.quiet g next st sh rows ls I t ht x (eh ∙ idle-hooks g A r c) s (record { tail = λ z. absurd (z eu); lone = λ z. absurd (z el) })

    retire : (n x : ℕ) → Admitted v t (Retire n x) → length next ≡ suc nodes → shard_of g x < g.shards → HeapIn g (enters t (begins g (Retire n x)) v) (begun_lists ls t (Retire n x))
    unfolding begins
    retire n x a ln hs =
        let q = a.0 in
        let same : narrow n ≡ n = omega arith in
        Moves.arrive g next st sh rows ls I t ht (narrow n) (fresh_at 9 (code Pc.T1) 0 0 0 (narrow n) (shard_of g x)) (get-alone r.stolen r.reclaimable r.unreclaimed r.lone c.eight ∙ c.lone) (omega arith) (omega arith)
        (rw same (λ z. let w = a.1 in omega arith)) (ap (λ (l : List ℕ). set l alone (narrow n)) (idle-hooks g A r c))
        (record { eight = refl; none = λ j _. zeros 8 j; reclaim = refl; keep = refl; lone = λ z. let w : narrow n ≡ 0 = z in omega arith; here = hs })
        (record { tail = λ z. absurd (z refl); lone = λ z. get_or-set_same ls (slot t alone) (narrow n ∷ []) [] (in_lists alone (omega arith)) })

    shutdown : ShapeOf g Stage.shuts idle
    shutdown = record { eight = refl; none = λ j _. zeros 8 j; reclaim = refl; keep = refl; lone = refl; here = A.some }

    pub heap_begin : (o : Operation) → Admitted v t o → length next ≡ suc nodes → ((x : ℕ) → shard_of g x < g.shards) → HeapIn g (enters t (begins g o) v) (begun_lists ls t o)
    unfolding begins
    heap_begin = every-start (λ (o : Operation). Admitted v t o → length next ≡ suc nodes → ((x : ℕ) → shard_of g x < g.shards) → HeapIn g (enters t (begins g o) v) (begun_lists ls t o)) (search (two, fresh, idle-clean g A, shutdown, retire) depth 12)
