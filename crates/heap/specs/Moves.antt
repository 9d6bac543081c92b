-- How the lists move: each transition of the heap as thread t's row becomes r', whatever else r' changes.
use Rattle.std.specs.Prelude.{◌≡◌, refl, ◌≢◌, Bool, true, false, List, [], ◌∷◌, ◌++◌, ℕ, ◌≤◌, ◌<◌, eqb, length, get_or, set}
use Rattle.std.proofs.Common.{sym, ap, ◌∙◌, subst, subst₂, inl, inr, arith, length-set, eqb-true}
use Rattle.std.proofs.lemmas.Bool.{eqb-false}
use Rattle.base.specs.Pick.{pick}
use Rattle.rules.specs.Sizes.{Settings}
use Rattle.rules.specs.Pc.{pc_of}
use Rattle.rules.specs.Rows.{idle}
use Rattle.rules.specs.declared.Row.{Row}
use Rattle.lists.specs.Chain.{last}
use Rattle.lists.specs.Each.{each_set}
use Rattle.lists.specs.Heap
use Rattle.lists.specs.Heap.{Heap, Loose, waits}
use Rattle.heap.specs.Hooks.{hooks, slot, loose, hv, to_reclaim, to_keep, alone, loose-shard, loose-tight, loose-loose, slot-slot, slot-shard, slot_in, shard_inside, get-slot, get-shard, set-slot, set_slot2, set-shard, set-none, rows-put, get-keep}
use Rattle.heap.specs.Stage.{stage, Shape, shape-eight, Ends, HeapAt, Others, others-none, others-one, others-two, hooks-eight}

module _ (g : Settings) (next st sh : List ℕ) (rows : List Row) (ls : List (List ℕ)) (I : HeapAt g next st sh rows ls) (t : ℕ) (ht : t < length rows) where
  abbrev r : Row
  r = get_or rows t idle

  abbrev hs : List ℕ
  hs = hv sh rows

  slot-get : (j : ℕ) → j < 11 → get_or hs (slot t j) 0 ≡ get_or (hooks r) j 0
  slot-get j h = get-slot sh rows I.h8 I.h11 t j ht h

  mine : (j : ℕ) → j < 11 → slot t j < length hs
  mine j h = slot_in sh rows I.h8 I.h11 t j ht h

  shared : (k : ℕ) → k < 8 → k < length hs
  shared k h = shard_inside sh rows I.h8 I.h11 k h

  pub in_lists : (j : ℕ) → j < 11 → slot t j < length ls
  in_lists j h = rw I.heap.places (mine j h)

  -- thread t puts the row r', with a new heap
  puts : (next' st' sh' : List ℕ) (r' : Row) (ls' : List (List ℕ)) → length sh' ≡ 8 → Heap loose next' st' (hv sh' (set rows t r')) ls'
      → Shape g r' → Ends ls' t r' → Others (length rows) t ls ls' → HeapAt g next' st' sh' (set rows t r') ls'
  puts next' st' sh' r' ls' l8 H s e o = record {
    h8 = l8;
    h11 = rows-put sh rows I.h8 I.h11 t r' (hooks-eight r' (shape-eight g (stage (pc_of r'.place)) r' s));
    heap = H;
    shape = each_set idle (λ u x. Shape g x) (λ u x. Shape g x) rows t r' ht (λ u hu ne p. p) s I.shape;
    ends = each_set idle (Ends ls) (Ends ls') rows t r' ht (λ u hu ne p. record { tail = λ k. rw (o u hu ne to_keep (omega arith)) (p.tail k); lone = λ k. rw (o u hu ne alone (omega arith)) (p.lone k) }) e I.ends;
  }

  -- the kept list and the lone node are where they were
  pub ends_same : (ls' : List (List ℕ)) (r' : Row) → get_or ls' (slot t to_keep) [] ≡ get_or ls (slot t to_keep) [] → get_or ls' (slot t alone) [] ≡ get_or ls (slot t alone) []
      → r'.unreclaimed ≡ r.unreclaimed → r'.tail ≡ r.tail → r'.lone ≡ r.lone → Ends ls' t r'
  ends_same ls' r' k l eu et el = record { tail = λ z. ap last k ∙ (I.ends t ht).tail (rw eu at z) ∙ sym et; lone = λ z. l ∙ (I.ends t ht).lone (rw el at z) ∙ ap (λ (x : ℕ). x ∷ []) (sym el) }

  -- nothing of the heap changes
  pub quiet : (r' : Row) → hooks r' ≡ hooks r → Shape g r' → Ends ls t r' → HeapAt g next st sh (set rows t r') ls
  quiet r' e s d = puts next st sh r' ls I.h8 (rw (set-none sh rows I.h8 I.h11 t r' ht e) I.heap) s d (others-none (length rows) t ls)

  -- a node's state changes, but it waits neither before nor after
  pub restate : (st' : List ℕ) (r' : Row) → length st' ≡ length st → ((m : ℕ) → waits st' m ≡ waits st m) → hooks r' ≡ hooks r → Shape g r' → Ends ls t r' → HeapAt g next st' sh (set rows t r') ls
  restate st' r' l w e s d = puts next st' sh r' ls I.h8 (rw (set-none sh rows I.h8 I.h11 t r' ht e) (Heap.restate loose next st hs ls I.heap st' l w)) s d (others-none (length rows) t ls)

  -- ---- the lone node n is posted in front of shard k
  pub post : (k n : ℕ) (r' : Row) → k < 8 → get_or ls (slot t alone) [] ≡ n ∷ [] → hooks r' ≡ set (hooks r) alone 0 → Shape g r'
      → Ends (set (set ls (slot t alone) []) k (n ∷ get_or ls k [])) t r'
      → HeapAt g (set next n (get_or sh k 0)) st (set sh k n) (set rows t r') (set (set ls (slot t alone) []) k (n ∷ get_or ls k []))
  post k n r' hk one e s d =
      puts (set next n (get_or sh k 0)) st (set sh k n) r' (set (set ls (slot t alone) []) k (n ∷ get_or ls k [])) (rw length-set I.h8)
      (rw (view, ← (get-shard sh rows I.h8 I.h11 k hk)) (Heap.post loose next st hs ls I.heap (slot t alone) k n (mine alone (omega arith)) (shared k hk) (slot-shard t alone k hk) (loose-loose t alone (omega arith) (omega arith)) (loose-shard k hk) one))
      s d (others-two (length rows) t (slot t alone) k ls [] (n ∷ get_or ls k []) (inr (alone, omega arith, refl)) (inl hk))
    where
      view : hv (set sh k n) (set rows t r') ≡ set (set hs (slot t alone) 0) k n
      view =
          set-shard sh (set rows t r') I.h8 (rows-put sh rows I.h8 I.h11 t r' (hooks-eight r' (shape-eight g (stage (pc_of r'.place)) r' s))) k n hk
          ∙ ap (λ (x : List ℕ). set x k n) (set-slot sh rows I.h8 I.h11 t alone 0 r' ht (omega arith) e)

  -- a lost exchange writes behind the last node z of the kept list, or behind the lone node
  pub scribble : (j z x : ℕ) (r' : Row) → 9 ≤ j → j < 11 → get_or (hooks r) j 0 ≢ 0 → last (get_or ls (slot t j) []) ≡ z → hooks r' ≡ hooks r → Shape g r' → Ends ls t r' → HeapAt g (set next z x) st sh (set rows t r') ls
  scribble j z x r' h9 h11 nz ez e s d =
      puts (set next z x) st sh r' ls I.h8
      (rw (set-none sh rows I.h8 I.h11 t r' ht e) (Heap.scribble loose next st hs ls I.heap (slot t j) z x (mine j h11) (loose-loose t j h9 h11) (λ q. nz (sym (slot-get j h11) ∙ q)) ez))
      s d (others-none (length rows) t ls)

  -- ---- shard k's list is stolen to the empty slot j
  pub steal : (k j : ℕ) (r' : Row) → k < 8 → j < 9 → get_or (hooks r) j 0 ≡ 0 → hooks r' ≡ set (hooks r) j (get_or sh k 0) → Shape g r' → Ends (set (set ls k []) (slot t j) (get_or ls k [])) t r'
      → HeapAt g next st (set sh k 0) (set rows t r') (set (set ls k []) (slot t j) (get_or ls k []))
  steal k j r' hk hj z e s d =
      puts next st (set sh k 0) r' (set (set ls k []) (slot t j) (get_or ls k [])) (rw length-set I.h8)
      (rw (view, ← gs) (Heap.steal loose next st hs ls I.heap k (slot t j) (shared k hk) (mine j (omega arith)) (λ q. slot-shard t j k hk (sym q)) (rw (loose-shard k hk) tt) (rw (loose-tight t j hj) tt) (slot-get j (omega arith) ∙ z)))
      s d (others-two (length rows) t k (slot t j) ls [] (get_or ls k []) (inl hk) (inr (j, omega arith, refl)))
    where
      gs : get_or hs k 0 ≡ get_or sh k 0
      gs = get-shard sh rows I.h8 I.h11 k hk

      view : hv (set sh k 0) (set rows t r') ≡ set (set hs k 0) (slot t j) (get_or sh k 0)
      view =
          set-slot (set sh k 0) rows (rw length-set I.h8) I.h11 t j (get_or sh k 0) r' ht (omega arith) e
          ∙ ap (λ (x : List ℕ). set x (slot t j) (get_or sh k 0)) (set-shard sh rows I.h8 I.h11 k 0 hk)

  -- ---- the head n of slot i moves to the front of slot j
  pub record Moved (i j n : ℕ) (r' : Row) : Type 0 where
    pub rest : List ℕ
    pub was : get_or ls (slot t i) [] ≡ n ∷ rest
    pub inv : HeapAt g (set next n (get_or (hooks r) j 0)) st sh (set rows t r') (set (set ls (slot t i) rest) (slot t j) (n ∷ get_or ls (slot t j) []))

  pub move : (i j n : ℕ) (r' : Row) → i < 8 → 8 ≤ j → j < 11 → get_or (hooks r) i 0 ≡ n → n ≢ 0 → hooks r' ≡ set (set (hooks r) i (get_or next n 0)) j n → Shape g r'
      → ((rest : List ℕ) → Ends (set (set ls (slot t i) rest) (slot t j) (n ∷ get_or ls (slot t j) [])) t r') → Moved i j n r'
  move i j n r' hi h8 hj en nz e s d =
      let m = Heap.move loose next st hs ls I.heap (slot t i) (slot t j) (mine i (omega arith)) (mine j hj) (slot-slot t i j (omega arith)) (loose-tight t i (omega arith)) (λ z. nz (sym get ∙ z)) in
      record {
        rest = m.0;
        was = m.1 ∙ ap (λ (x : ℕ). x ∷ m.0) get;
        inv =
            puts (set next n (get_or (hooks r) j 0)) st sh r' (set (set ls (slot t i) m.0) (slot t j) (n ∷ get_or ls (slot t j) [])) I.h8
            (rw (set_slot2 sh rows I.h8 I.h11 t i (get_or next n 0) j n r' ht (omega arith) hj e) (heap-at m.0 m.2)) s (d m.0)
            (others-two (length rows) t (slot t i) (slot t j) ls m.0 (n ∷ get_or ls (slot t j) []) (inr (i, omega arith, refl)) (inr (j, hj, refl)));
      }
    where
      get : get_or hs (slot t i) 0 ≡ n
      get = slot-get i (omega arith) ∙ en

      heap-at : (k : List ℕ)
          → Heap loose (set next (get_or hs (slot t i) 0) (get_or hs (slot t j) 0)) st (set (set hs (slot t i) (get_or next (get_or hs (slot t i) 0) 0)) (slot t j) (get_or hs (slot t i) 0)) (set (set ls (slot t i) k) (slot t j) (get_or hs (slot t i) 0 ∷ get_or ls (slot t j) []))
          → Heap loose (set next n (get_or (hooks r) j 0)) st (set (set hs (slot t i) (get_or next n 0)) (slot t j) n) (set (set ls (slot t i) k) (slot t j) (n ∷ get_or ls (slot t j) []))
      heap-at k = subst₂ (λ (a b : ℕ). Heap loose (set next a b) st (set (set hs (slot t i) (get_or next a 0)) (slot t j) a) (set (set ls (slot t i) k) (slot t j) (a ∷ get_or ls (slot t j) []))) get (slot-get j hj)

  -- ---- the head n of the reclaim list is reclaimed
  pub record Freed (n : ℕ) (r' : Row) : Type 0 where
    pub rest : List ℕ
    pub was : get_or ls (slot t to_reclaim) [] ≡ n ∷ rest
    pub waited : get_or st n 0 ≡ 2
    pub inv : HeapAt g (set next n 0) (set st n 0) sh (set rows t r') (set ls (slot t to_reclaim) rest)

  pub free : (n : ℕ) (r' : Row) → get_or (hooks r) to_reclaim 0 ≡ n → n ≢ 0 → hooks r' ≡ set (hooks r) to_reclaim (get_or next n 0) → Shape g r'
      → ((rest : List ℕ) → Ends (set ls (slot t to_reclaim) rest) t r') → Freed n r'
  free n r' en nz e s d =
      let m = Heap.reclaim loose next st hs ls I.heap (slot t to_reclaim) (mine to_reclaim (omega arith)) (loose-tight t to_reclaim (omega arith)) (λ z. nz (sym get ∙ z)) in
      record {
        rest = m.1.0;
        was = m.1.1 ∙ ap (λ (x : ℕ). x ∷ m.1.0) get;
        waited = ap (λ (x : ℕ). get_or st x 0) (sym get) ∙ m.0;
        inv =
            puts (set next n 0) (set st n 0) sh r' (set ls (slot t to_reclaim) m.1.0) I.h8
            (rw (set-slot sh rows I.h8 I.h11 t to_reclaim (get_or next n 0) r' ht (omega arith) e) (subst (λ (a : ℕ). Heap loose (set next a 0) (set st a 0) (set hs (slot t to_reclaim) (get_or next a 0)) (set ls (slot t to_reclaim) m.1.0)) get m.1.2))
            s (d m.1.0) (others-one (length rows) t (slot t to_reclaim) ls m.1.0 (inr (to_reclaim, omega arith, refl)));
      }
    where
      get : get_or hs (slot t to_reclaim) 0 ≡ n
      get = slot-get to_reclaim (omega arith) ∙ en

  -- ---- the kept list, from h to z, is hung before shard 0's
  pub hang : (h z : ℕ) (r' : Row) → get_or (hooks r) to_keep 0 ≡ h → h ≢ 0 → last (get_or ls (slot t to_keep) []) ≡ z → hooks r' ≡ set (hooks r) to_keep 0 → Shape g r'
      → Ends (set (set ls (slot t to_keep) []) 0 (get_or ls (slot t to_keep) [] ++ get_or ls 0 [])) t r'
      → HeapAt g (set next z (get_or sh 0 0)) st (set sh 0 h) (set rows t r') (set (set ls (slot t to_keep) []) 0 (get_or ls (slot t to_keep) [] ++ get_or ls 0 []))
  hang h z r' eh nz ez e s d =
      puts (set next z (get_or sh 0 0)) st (set sh 0 h) r' (set (set ls (slot t to_keep) []) 0 (get_or ls (slot t to_keep) [] ++ get_or ls 0 [])) (rw length-set I.h8)
      (rw view (subst₂ (λ (a b : ℕ). Heap loose (set next z a) st (set (set hs (slot t to_keep) 0) 0 b) (set (set ls (slot t to_keep) []) 0 (get_or ls (slot t to_keep) [] ++ get_or ls 0 []))) (get-shard sh rows I.h8 I.h11 0 (omega arith)) get
      (Heap.hang loose next st hs ls I.heap (slot t to_keep) 0 z (mine to_keep (omega arith)) (shared 0 (omega arith)) (slot-shard t to_keep 0 (omega arith)) (loose-loose t to_keep (omega arith) (omega arith)) (loose-shard 0 (omega arith)) (λ q. nz (sym get ∙ q)) ez)))
      s d (others-two (length rows) t (slot t to_keep) 0 ls [] (get_or ls (slot t to_keep) [] ++ get_or ls 0 []) (inr (to_keep, omega arith, refl)) (inl (omega arith)))
    where
      get : get_or hs (slot t to_keep) 0 ≡ h
      get = slot-get to_keep (omega arith) ∙ eh

      view : hv (set sh 0 h) (set rows t r') ≡ set (set hs (slot t to_keep) 0) 0 h
      view =
          set-shard sh (set rows t r') I.h8 (rows-put sh rows I.h8 I.h11 t r' (hooks-eight r' (shape-eight g (stage (pc_of r'.place)) r' s))) 0 h (omega arith)
          ∙ ap (λ (x : List ℕ). set x 0 h) (set-slot sh rows I.h8 I.h11 t to_keep 0 r' ht (omega arith) e)

  -- ---- a node that does not wait begins to, alone
  pub arrive : (n : ℕ) (r' : Row) → get_or (hooks r) alone 0 ≡ 0 → 0 < n → n < length next → get_or st n 0 ≢ 2 → hooks r' ≡ set (hooks r) alone n → Shape g r' → Ends (set ls (slot t alone) (n ∷ [])) t r'
      → HeapAt g next (set st n 2) sh (set rows t r') (set ls (slot t alone) (n ∷ []))
  arrive n r' z n0 nb nw e s d =
      puts next (set st n 2) sh r' (set ls (slot t alone) (n ∷ [])) I.h8
      (rw (set-slot sh rows I.h8 I.h11 t alone n r' ht (omega arith) e) (Heap.arrive loose next st hs ls I.heap (slot t alone) n (mine alone (omega arith)) (loose-loose t alone (omega arith) (omega arith)) (slot-get alone (omega arith) ∙ z) n0 nb nw))
      s d (others-one (length rows) t (slot t alone) ls (n ∷ []) (inr (alone, omega arith, refl)))

  -- ---- the kept list as the row has it
  pub kept-list : (l : List ℕ) → length r.stolen ≡ 8 → get_or ls (slot t to_keep) [] ≡ l → Loose next r.unreclaimed l
  kept-list l h e = rw (e, loose-loose t to_keep (omega arith) (omega arith), slot-get to_keep (omega arith), get-keep r.stolen r.reclaimable r.unreclaimed r.lone h) at (I.heap.at (slot t to_keep) (mine to_keep (omega arith)))

  -- its last node where one more, n, goes in front
  pub last-kept : (n : ℕ) → length r.stolen ≡ 8 → last (n ∷ get_or ls (slot t to_keep) []) ≡ pick (eqb r.unreclaimed 0) n r.tail
  last-kept n h = go (eqb r.unreclaimed 0) refl (get_or ls (slot t to_keep) []) refl
    where
      go : (b : Bool) → eqb r.unreclaimed 0 ≡ b → (l : List ℕ) → get_or ls (slot t to_keep) [] ≡ l → last (n ∷ l) ≡ pick b n r.tail
      go true e [] el = refl
      go true e (x ∷ l) el = absurd (let c = kept-list (x ∷ l) h el in let z = eqb-true r.unreclaimed 0 e in omega (arith, c.1.0, c.1.1))
      go false e [] el = absurd (eqb-false r.unreclaimed 0 e (kept-list [] h el))
      go false e (x ∷ l) el = ap last (sym el) ∙ (I.ends t ht).tail (eqb-false r.unreclaimed 0 e)
