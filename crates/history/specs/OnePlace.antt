-- Demand 3, exactly one place: the lists that the tables give are those that the layers keep.
use Rattle.std.specs.Prelude.{◌≡◌, ◌≢◌, Bool, true, false, length}
use Rattle.std.proofs.Math.Path.{refl, ap}
use Rattle.std.proofs.Common.{sym, ap₂, ◌∙◌, subst, not-suc-le-zero, le_of_suc-le-suc, length-append, ext_get_or}
use mathlib.Core.List.{List, [], ◌∷◌, ◌++◌, map}
use Prim.Native.Nat.{ℕ, zero, suc, ◌+◌, ◌*◌, ◌-◌, ◌/◌, ◌%◌, ◌≤◌, ◌<◌}
use Rattle.std.proofs.Math.Decide.{ℕ_discrete, dec_lt}
use native.Mathlib.Omega.{arith}
use Rattle.std.proofs.Math.ListN.{get_or, length-map, get_or-append, get_or-map}
use Rattle.std.proofs.Math.Seq.{get_or-append-add}
use borrow.Author.Tests.{ne_eqb, eq-eqb}
use Rattle.rules.specs.Sizes.{nodes, Settings}
use Rattle.rules.specs.Step.{State}
use Rattle.rules.specs.Pc.{pc_of}
use Rattle.rules.specs.Rows.{idle}
use Rattle.rules.specs.declared.Row.{Row}
use Rattle.rules.specs.declared.Named.TheVariants as cell
use Rattle.lists.specs.Occ.{eq01-same, occ, sum}
use Rattle.lists.specs.Chain.{Seg, last, last_in, seg_length}
use Rattle.lists.specs.Flat.{cat, Rows, cat-length, cat-get, map_get}
use Rattle.lists.specs.Heap.{Loose, At, nodup}
use Rattle.view.specs.View.{view_of}
use Rattle.view.specs.Long.{long}
use Rattle.heap.specs.Hooks.{hooks, slot, slot_is, loose, hv, to_keep, alone, hv-length, slot_in, get-shard, get-slot, get-stolen, get-reclaim, get-keep, get-alone, loose-shard, loose-tight, loose-loose}
use Rattle.heap.specs.Stage.{HeapIn, stage, shape-eight}
use Rattle.history.specs.Seen.{next-is, shards_are, waits-is}
use Rattle.history.specs.Demand3.{Event, Run, OnePlace, follow, holds, in_row, places, list_at}
use Rattle.history.specs.Invariant.{Chosen, inv-run}

-- ---- following a list that is one
module _ (next : List ℕ) (to : ℕ → ℕ) (same : (n : ℕ) → 0 < n → n < length next → to n ≡ get_or next n 0) where
  -- to its end
  pub follow_seg : (k h : ℕ) (l : List ℕ) → length l ≤ k → Seg next h l 0 → follow to 0 k h ≡ l
  unfolding follow
  follow_seg zero h [] b c = refl
  follow_seg zero h (x ∷ l) b c = absurd (not-suc-le-zero b)
  follow_seg (suc k) h [] b c = rw c refl
  follow_seg (suc k) h (x ∷ l) b c =
      rw (c.0, ne_eqb x 0 (let p = c.1 in omega arith), same x c.1 c.2) (ap (λ (m : List ℕ). x ∷ m) (follow_seg k (get_or next x 0) l (le_of_suc-le-suc b) c.3))

  -- no further than its last node
  pub follow-last : (k h x : ℕ) (l : List ℕ) (e : ℕ) → length (x ∷ l) ≤ k → ((n : ℕ) → occ n (x ∷ l) ≤ 1) → Seg next h (x ∷ l) e → follow to (last (x ∷ l)) k h ≡ x ∷ l
  unfolding follow
  follow-last zero h x l e b nd c = absurd (not-suc-le-zero b)
  follow-last (suc k) h x [] e b nd c = rw (c.0, ne_eqb x 0 (let p = c.1 in omega arith), eq-eqb x x refl) refl
  follow-last (suc k) h x (y ∷ l) e b nd c =
      rw (c.0, ne_eqb x 0 (let p = c.1 in omega arith), ne_eqb x (last (y ∷ l)) differ, same x c.1 c.2)
      (ap (λ (m : List ℕ). x ∷ m) (follow-last k (get_or next x 0) y l e (le_of_suc-le-suc b) (λ n. let q = nd n in omega arith) c.3))
    where
      differ : x ≢ last (y ∷ l)
      differ q = let o : 1 ≤ occ x (y ∷ l) = subst (λ (k : ℕ). 1 ≤ occ k (y ∷ l)) (sym q) (last_in y l) in let w = eq01-same x in let z = nd x in omega arith

  -- nothing
  follow-null : (e k : ℕ) → follow to e k 0 ≡ []
  unfolding follow
  follow-null e zero = refl
  follow-null e (suc k) = refl

  -- a list of which only the last node is known
  pub follow-loose : (k h : ℕ) (l : List ℕ) (e : ℕ) → length l ≤ k → ((n : ℕ) → occ n l ≤ 1) → Loose next h l → (h ≢ 0 → last l ≡ e) → follow to e k h ≡ l
  follow-loose k h [] e b nd c q = rw c (follow-null e k)
  follow-loose k h (x ∷ l) e b nd c q = rw (sym (q (let a = c.1.0 in let p = c.1.1 in omega arith))) (follow-last k h x l c.0 b nd c.1)

loose-length : (next : List ℕ) (n h : ℕ) (l : List ℕ) → length next ≡ suc n → ((i : ℕ) → occ i l ≤ 1) → Loose next h l → length l ≤ n
loose-length next n h [] e nd c = omega arith
loose-length next n h (x ∷ l) e nd c = seg_length next n h (x ∷ l) c.0 e nd c.1

-- ---- the places by number, as `hv` has their heads
abbrev whole : ℕ → ℕ × ℕ
whole h = (h, 0)

in_row-length : (r : Row) → length (in_row r) ≡ length (hooks r)
in_row-length r = length-append (map whole r.stolen) _ ∙ ap (λ (x : ℕ). x + 3) (length-map r.stolen whole) ∙ sym (length-append r.stolen (r.reclaimable ∷ r.unreclaimed ∷ r.lone ∷ []))

rows_11 : (rows : List Row) → Rows 11 (map hooks rows) → Rows 11 (map in_row rows)
rows_11 [] h = h
rows_11 (r ∷ rs) h = (in_row-length r ∙ h.0, rows_11 rs h.1)

abbrev places_of : List ℕ → List Row → List (ℕ × ℕ)
places_of sh rows = map whole sh ++ cat (map in_row rows)

module _ (sh : List ℕ) (rows : List Row) (h8 : length sh ≡ 8) (h11 : Rows 11 (map hooks rows)) where
  m8 : length (map whole sh) ≡ 8
  m8 = length-map sh whole ∙ h8

  places-length : length (places_of sh rows) ≡ length (hv sh rows)
  places-length =
      length-append (map whole sh) (cat (map in_row rows)) ∙ ap₂ ◌+◌ m8 (cat-length 11 (map in_row rows) (rows_11 rows h11) ∙ ap (λ (x : ℕ). x * 11) (length-map rows in_row))
      ∙ sym (hv-length sh rows h8 h11)

  shard-place : (k : ℕ) → k < 8 → get_or (places_of sh rows) k (0, 0) ≡ (get_or (hv sh rows) k 0, 0)
  shard-place k h = get_or-append (map whole sh) (cat (map in_row rows)) (0, 0) k (rw m8 h) ∙ get_or-map whole sh k 0 ∙ ap whole (sym (get-shard sh rows h8 h11 k h))

  slot-place : (t j : ℕ) → t < length rows → j < 11 → get_or (places_of sh rows) (slot t j) (0, 0) ≡ get_or (in_row (get_or rows t idle)) j (0, 0)
  unfolding slot
  slot-place t j a b =
      ap (λ (x : ℕ). get_or (places_of sh rows) (x + (t * 11 + j)) (0, 0)) (sym m8) ∙ get_or-append-add (map whole sh) (cat (map in_row rows)) (t * 11 + j) (0, 0)
      ∙ cat-get 11 (map in_row rows) t j (0, 0) (rows_11 rows h11) (rw length-map a) b
      ∙ ap (λ (x : List (ℕ × ℕ)). get_or x j (0, 0)) (map_get in_row rows t idle [] a)

-- the places of a row: the ends of the kept list and of the lone node are known
module _ (r : Row) (e8 : length r.stolen ≡ 8) where
  m8r : length (map whole r.stolen) ≡ 8
  m8r = length-map r.stolen whole ∙ e8

  behind : (k : ℕ) → get_or (in_row r) (8 + k) (0, 0) ≡ get_or ((r.reclaimable, 0) ∷ (r.unreclaimed, r.tail) ∷ (r.lone, r.lone) ∷ []) k (0, 0)
  behind k = ap (λ (x : ℕ). get_or (in_row r) (x + k) (0, 0)) (sym m8r) ∙ get_or-append-add (map whole r.stolen) _ k (0, 0)

  tight_in : (j : ℕ) → j < 9 → get_or (in_row r) j (0, 0) ≡ (get_or (hooks r) j 0, 0)
  tight_in j h = go (dec_lt j 8)
    where
      go : Dec (j < 8) → get_or (in_row r) j (0, 0) ≡ (get_or (hooks r) j 0, 0)
      go (yes q) = get_or-append (map whole r.stolen) _ (0, 0) j (rw m8r q) ∙ get_or-map whole r.stolen j 0 ∙ ap whole (sym (get-stolen r.stolen r.reclaimable r.unreclaimed r.lone e8 j q))
      go (no q) = let e : j ≡ 8 = omega arith in rw e (behind 0 ∙ ap whole (sym (get-reclaim r.stolen r.reclaimable r.unreclaimed r.lone e8)))

-- ---- the theorem
module _ (g : Settings) (C : Chosen g) (s : State) (h : List Event) (run : Run g s h) where
  abbrev ls : List (List ℕ)
  ls = (inv-run g C run).at.lists

  abbrev rows : List Row
  rows = (view_of s).rows

  abbrev sh : List ℕ
  sh = (view_of s).heads.shards

  abbrev next : List ℕ
  next = (view_of s).nodes.next

  abbrev to : ℕ → ℕ
  to n = holds s (cell.NodeNext n)

  H : HeapIn g (view_of s) ls
  H = (inv-run g C run).at.heap

  same : (n : ℕ) → 0 < n → n < length next → to n ≡ get_or next n 0
  same n a b = next-is s n a (rw (long s).next at b)

  nd : (p : ℕ) → p < length (hv sh rows) → (n : ℕ) → occ n (get_or ls p []) ≤ 1
  nd p hp n = nodup loose next (view_of s).nodes.state (hv sh rows) ls H.heap p hp n

  tight : (p : ℕ) → p < length (hv sh rows) → loose p ≡ false → list_at s (get_or (hv sh rows) p 0, 0) ≡ get_or ls p []
  tight p hp e =
      let c : Seg next (get_or (hv sh rows) p 0) (get_or ls p []) 0 = subst (λ (b : Bool). At b next (get_or (hv sh rows) p 0) (get_or ls p [])) e (H.heap.at p hp) in
      follow_seg next to same (suc nodes) (get_or (hv sh rows) p 0) (get_or ls p []) (let b = seg_length next nodes (get_or (hv sh rows) p 0) (get_or ls p []) 0 (long s).next (nd p hp) c in omega arith) c

  open_ended : (p e : ℕ) → p < length (hv sh rows) → loose p ≡ true → (get_or (hv sh rows) p 0 ≢ 0 → last (get_or ls p []) ≡ e) → list_at s (get_or (hv sh rows) p 0, e) ≡ get_or ls p []
  open_ended p e hp l q =
      let c : Loose next (get_or (hv sh rows) p 0) (get_or ls p []) = subst (λ (b : Bool). At b next (get_or (hv sh rows) p 0) (get_or ls p [])) l (H.heap.at p hp) in
      follow-loose next to same (suc nodes) (get_or (hv sh rows) p 0) (get_or ls p []) e (let b = loose-length next nodes (get_or (hv sh rows) p 0) (get_or ls p []) (long s).next (nd p hp) c in omega arith) (nd p hp) c q

  module _ (t : ℕ) (ht : t < length rows) where
    abbrev r : Row
    r = get_or rows t idle

    e8 : length r.stolen ≡ 8
    e8 = shape-eight g (stage (pc_of r.place)) r (H.shape t ht)

    in_slot : (j : ℕ) → j < 11 → slot t j < length (hv sh rows)
    in_slot j hj = slot_in sh rows H.h8 H.h11 t j ht hj

    abbrev Kept : ℕ → Type 0
    Kept j = list_at s (get_or (places_of sh rows) (slot t j) (0, 0)) ≡ get_or ls (slot t j) []

    slot-list : (j : ℕ) → j < 11 → Dec (j < 9) → Dec (j ≡ 9) → Kept j
    slot-list j hj (yes a) d =
        ap (list_at s) (slot-place sh rows H.h8 H.h11 t j ht hj ∙ tight_in r e8 j a ∙ ap whole (sym (get-slot sh rows H.h8 H.h11 t j ht hj)))
        ∙ tight (slot t j) (in_slot j hj) (loose-tight t j a)
    slot-list j hj (no a) (yes d) = rw d kept
      where
        head : get_or (hv sh rows) (slot t to_keep) 0 ≡ r.unreclaimed
        head = get-slot sh rows H.h8 H.h11 t 9 ht (omega arith) ∙ get-keep r.stolen r.reclaimable r.unreclaimed r.lone e8

        kept : Kept 9
        kept =
            ap (list_at s) (slot-place sh rows H.h8 H.h11 t 9 ht (omega arith) ∙ behind r e8 1 ∙ ap (λ (x : ℕ). (x, r.tail)) (sym head))
            ∙ open_ended (slot t to_keep) r.tail (in_slot 9 (omega arith)) (loose-loose t 9 (omega arith) (omega arith)) (λ z. (H.ends t ht).tail (λ q. z (head ∙ q)))
    slot-list j hj (no a) (no d) = let e : j ≡ 10 = omega arith in rw e lone
      where
        head : get_or (hv sh rows) (slot t alone) 0 ≡ r.lone
        head = get-slot sh rows H.h8 H.h11 t 10 ht (omega arith) ∙ get-alone r.stolen r.reclaimable r.unreclaimed r.lone e8

        lone : Kept 10
        lone =
            ap (list_at s) (slot-place sh rows H.h8 H.h11 t 10 ht (omega arith) ∙ behind r e8 2 ∙ ap (λ (x : ℕ). (x, r.lone)) (sym head))
            ∙ open_ended (slot t alone) r.lone (in_slot 10 (omega arith)) (loose-loose t 10 (omega arith) (omega arith)) (λ z. ap last ((H.ends t ht).lone (λ q. z (head ∙ q))))

  list_there : (p : ℕ) → p < length (hv sh rows) → Dec (p < 8) → list_at s (get_or (places_of sh rows) p (0, 0)) ≡ get_or ls p []
  list_there p hp (yes k) = ap (list_at s) (shard-place sh rows H.h8 H.h11 p k) ∙ tight p hp (loose-shard p k)
  list_there p hp (no k) = subst (λ (x : ℕ). list_at s (get_or (places_of sh rows) x (0, 0)) ≡ get_or ls x []) (sym here) (slot-list t (let e = hv-length sh rows H.h8 H.h11 in omega arith) j (omega arith) (dec_lt j 9) (ℕ_discrete j 9))
    where
      t : ℕ
      t = (p - 8) / 11

      j : ℕ
      j = (p - 8) % 11

      here : p ≡ slot t j
      here = slot_is t j p (omega arith)

  lists_are : map (list_at s) (places_of sh rows) ≡ ls
  lists_are =
      ext_get_or [] (map (list_at s) (places_of sh rows)) ls (length-map (places_of sh rows) (list_at s) ∙ places-length sh rows H.h8 H.h11 ∙ sym H.heap.places)
      (λ p hp. let q : p < length (places_of sh rows) = rw length-map at hp in map_get (list_at s) (places_of sh rows) p (0, 0) [] q ∙ list_there p (rw (places-length sh rows H.h8 H.h11) at q) (dec_lt p 8))

  places_are : places s ≡ places_of sh rows
  unfolding view_of
  places_are = ap (λ (x : List ℕ). places_of x rows) (shards_are s)

sum-map : {A B : Type 0} (f : A → B) (F : B → ℕ) (l : List A) → sum (λ x. F (f x)) l ≡ sum F (map f l)
sum-map f F [] = refl
sum-map f F (x ∷ l) = ap (λ (k : ℕ). F (f x) + k) (sum-map f F l)

pub one_place : (g : Settings) → Chosen g → OnePlace g
one_place g C s h run n =
    ap (sum (λ (p : ℕ × ℕ). occ n (list_at s p))) (places_are g C s h run) ∙ sum-map (list_at s) (occ n) (places_of (view_of s).heads.shards (view_of s).rows) ∙ ap (sum (occ n)) (lists_are g C s h run)
    ∙ (H g C s h run).heap.part n ∙ sym (waits-is s n)
