-- How records change hands: each transition of the layer as thread t's row becomes r'.
use Rattle.std.specs.Prelude.{◌≡◌, refl, ◌≢◌, List, ◌∷◌, ℕ, ◌+◌, ◌*◌, ◌≤◌, ◌<◌, length, get_or, set}
use Rattle.std.proofs.Common.{sym, ap, ◌∙◌, subst, arith, length-set, get_or-set_same, get_or-set_other}
use Rattle.std.proofs.Math.Decide.{ℕ_discrete}
use Rattle.rules.specs.Sizes.{records}
use Rattle.rules.specs.Pc.{pc_of}
use Rattle.rules.specs.Rows.{idle}
use Rattle.rules.specs.declared.Row.{Row}
use Rattle.lists.specs.Occ.{occ, eq01, eq01-same, sum, sum-set, sum-at, sum-two}
use Rattle.lists.specs.Chain.{Seg, seg_frame, seg_push, seg_head}
use Rattle.lists.specs.Each.{each_set}
use Rattle.view.specs.Field.{IsId}
use Rattle.records.specs.Hold.{Hold, hold, has_of, has, lock_of, lock, off, used, own, KnowOf, Know, RecordsAt}

module _ (ha head : ℕ) (avn next ho : List ℕ) (rows : List Row) (I : RecordsAt ha head avn next ho rows) (t : ℕ) (ht : t < length rows) where
  abbrev r : Row
  r = get_or rows t idle

  -- what the others know is kept where their records are not touched
  -- the cell changes while nobody else has the lock
  know-cell : (p : Hold) (ha' u rec nx : ℕ) → lock_of p ≡ 0 → KnowOf p ha avn ho u rec nx → KnowOf p ha' avn ho u rec nx
  know-cell Hold.free ha' u rec nx z k = k
  know-cell Hold.looks ha' u rec nx z k = k
  know-cell Hold.locks ha' u rec nx z k = absurd (omega arith)
  know-cell Hold.popped ha' u rec nx z k = absurd (omega arith)
  know-cell Hold.dirty ha' u rec nx z k = k
  know-cell Hold.clear ha' u rec nx z k = k
  know-cell Hold.aims ha' u rec nx z k = k
  know-cell Hold.pends ha' u rec nx z k = k
  know-cell Hold.owns ha' u rec nx z k = k

  in_list : (c : ℕ) → ha ≡ 2 * c + 1 → 0 < c → 1 ≤ occ c I.available
  in_list c e z =
      let cell = I.cell in
      let b = I.lockle in
      let hc : I.first ≡ c = omega arith in
      let s = seg_head avn I.first I.available (omega arith) I.linked in
      let y = ap (occ c) s.1 in
      let w : eq01 c I.first ≡ 1 = rw hc (eq01-same c) in omega arith

  -- `available_next` of record m changes, which this thread does not hold and which is not available
  know-avn : (p : Hold) (m x u rec nx : ℕ) → has_of p m rec ≡ 0 → occ m I.available ≡ 0 → KnowOf p ha avn ho u rec nx → KnowOf p ha (set avn m x) ho u rec nx
  know-avn Hold.free m x u rec nx z o k = k
  know-avn Hold.looks m x u rec nx z o k = k
  know-avn Hold.locks m x u rec nx z o k = k
  know-avn Hold.popped m x u rec nx z o k = (k.0, k.1, get_or-set_other avn m rec x 0 (λ e. let w = in_list rec k.0 k.1 in let y = ap (λ (i : ℕ). occ i I.available) e in omega arith) ∙ k.2)
  know-avn Hold.dirty m x u rec nx z o k = k
  know-avn Hold.clear m x u rec nx z o k = (get_or-set_other avn m rec x 0 (λ e. let w : eq01 m rec ≡ 1 = rw e (eq01-same m) in omega arith) ∙ k.0, k.1)
  know-avn Hold.aims m x u rec nx z o k = (get_or-set_other avn m rec x 0 (λ e. let w : eq01 m rec ≡ 1 = rw e (eq01-same m) in omega arith) ∙ k.0, k.1)
  know-avn Hold.pends m x u rec nx z o k = (get_or-set_other avn m rec x 0 (λ e. let w : eq01 m rec ≡ 1 = rw e (eq01-same m) in omega arith) ∙ k.0, k.1)
  know-avn Hold.owns m x u rec nx z o k = k

  -- the holder of record m changes, which this thread does not own
  know-holder : (p : Hold) (m x u rec nx : ℕ) → get_or ho m 0 ≢ u + 2 → KnowOf p ha avn ho u rec nx → KnowOf p ha avn (set ho m x) u rec nx
  know-holder Hold.free m x u rec nx z k = k
  know-holder Hold.looks m x u rec nx z k = k
  know-holder Hold.locks m x u rec nx z k = k
  know-holder Hold.popped m x u rec nx z k = k
  know-holder Hold.dirty m x u rec nx z k = k
  know-holder Hold.clear m x u rec nx z k = k
  know-holder Hold.aims m x u rec nx z k = k
  know-holder Hold.pends m x u rec nx z k = k
  know-holder Hold.owns m x u rec nx z k = (get_or-set_other ho m rec x 0 (λ e. z (ap (λ (j : ℕ). get_or ho j 0) (sym e) ∙ k.0)) ∙ k.0, k.1)

  -- ---- a held record is not available, is not owned, and no other thread holds it
  pub held_one : (n : ℕ) → has n r ≡ 1 → get_or ho n 0 ≡ 1
  held_one n o = let p = I.part n in let z = sum-at (has n) rows t idle ht in omega arith

  held-apart : (n : ℕ) → has n r ≡ 1 → occ n I.available ≡ 0
  held-apart n o = let p = I.part n in let z = sum-at (has n) rows t idle ht in omega arith

  held-alone : (n : ℕ) → has n r ≡ 1 → (u : ℕ) → u < length rows → u ≢ t → has n (get_or rows u idle) ≡ 0
  held-alone n o u hu ne = let p = I.part n in let z = sum-two (has n) rows t u idle ht hu (λ e. ne (sym e)) in omega arith

  lock-alone : lock r ≡ 1 → (u : ℕ) → u < length rows → u ≢ t → lock (get_or rows u idle) ≡ 0
  lock-alone o u hu ne = let p = I.locked in let q = I.lockle in let z = sum-two lock rows t u idle ht hu (λ e. ne (sym e)) in omega arith

  lock-none : I.bit ≡ 0 → (u : ℕ) → u < length rows → lock (get_or rows u idle) ≡ 0
  lock-none b u hu = let p = I.locked in let z = sum-at lock rows u idle hu in omega arith

  -- ---- only the row changes
  pub quiet : (r' : Row) → ((n : ℕ) → has n r' ≡ has n r) → lock r' ≡ lock r → ((n : ℕ) → off n r' ≡ off n r) → Know ha avn ho t r' → RecordsAt ha head avn next ho (set rows t r')
  quiet r' eh el eo k = record {
    available = I.available;
    first = I.first;
    bit = I.bit;
    cell = I.cell;
    linked = I.linked;
    part = λ n. let s = sum-set (has n) rows t r' idle ht in let p = I.part n in let q = eh n in omega arith;
    locked = let s = sum-set lock rows t r' idle ht in let p = I.locked in omega arith;
    lockle = I.lockle;
    know = each_set idle (Know ha avn ho) (Know ha avn ho) rows t r' ht (λ u hu ne p. p) k I.know;
    apart = I.apart;
    all = I.all;
    chain = I.chain;
    listed = λ n. let s = sum-set (off n) rows t r' idle ht in let p = I.listed n in let q = eo n in omega arith;
    avn_long = I.avn_long;
    next_long = I.next_long;
    ho_long = I.ho_long;
  }

  -- ---- the head of the available list and its lock
  cells : (ha' : ℕ) (r' : Row) (available' : List ℕ) (first' bit' : ℕ) → ha' ≡ 2 * first' + bit' → Seg avn first' available' 0 → bit' ≤ 1
      → ((n : ℕ) → occ n available' + has n r' ≡ occ n I.available + has n r) → bit' + lock r ≡ I.bit + lock r' → ((n : ℕ) → off n r' ≡ off n r)
      → ((u : ℕ) → u < length rows → u ≢ t → lock (get_or rows u idle) ≡ 0) → Know ha' avn ho t r' → RecordsAt ha' head avn next ho (set rows t r')
  cells ha' r' available' first' bit' ec ek eb ep el eo others k = record {
    available = available';
    first = first';
    bit = bit';
    cell = ec;
    linked = ek;
    part = λ n. let s = sum-set (has n) rows t r' idle ht in let p = I.part n in let q = ep n in omega arith;
    locked = let s = sum-set lock rows t r' idle ht in let p = I.locked in omega arith;
    lockle = eb;
    know = each_set idle (Know ha avn ho) (Know ha' avn ho) rows t r' ht (λ u hu ne p. know-cell (hold (pc_of (get_or rows u idle).place)) ha' u (get_or rows u idle).rec (get_or rows u idle).next (others u hu ne) p) k I.know;
    apart = I.apart;
    all = I.all;
    chain = I.chain;
    listed = λ n. let s = sum-set (off n) rows t r' idle ht in let p = I.listed n in let q = eo n in omega arith;
    avn_long = I.avn_long;
    next_long = I.next_long;
    ho_long = I.ho_long;
  }

  -- A2 won
  pub take-lock : (c : ℕ) (r' : Row) → ha ≡ c * 2 → 0 < c → ((n : ℕ) → has n r' ≡ has n r) → lock r ≡ 0 → lock r' ≡ 1 → ((n : ℕ) → off n r' ≡ off n r) → Know (c * 2 + 1) avn ho t r' → RecordsAt (c * 2 + 1) head avn next ho (set rows t r')
  take-lock c r' e pos eh l0 l1 eo k =
      let b : I.bit ≡ 0 = let x = I.cell in let y = I.lockle in omega arith in
      cells (c * 2 + 1) r' I.available I.first 1 (let x = I.cell in omega arith) I.linked (omega arith) (λ n. let q = eh n in omega arith) (omega arith) eo (λ u hu ne. lock-none b u hu) k

  -- A4: the record is taken off the list
  pub pop : (c nx : ℕ) (r' : Row) → ha ≡ 2 * c + 1 → 0 < c → get_or avn c 0 ≡ nx → ((n : ℕ) → has n r ≡ 0) → ((n : ℕ) → has n r' ≡ eq01 n c) → lock r ≡ 1 → lock r' ≡ 0 → ((n : ℕ) → off n r' ≡ off n r)
      → (IsId records c → Know (nx * 2) avn ho t r') → RecordsAt (nx * 2) head avn next ho (set rows t r')
  pop c nx r' e pos en h0 h1 l1 l0 eo k =
      let hc : I.first ≡ c = let x = I.cell in let y = I.lockle in omega arith in
      let s = seg_head avn I.first I.available (omega arith) I.linked in
      cells (nx * 2) r' s.0 nx 0 (omega arith) (subst (λ (i : ℕ). Seg avn i s.0 0) (ap (λ (i : ℕ). get_or avn i 0) hc ∙ en) s.4) (omega arith)
      (λ n. let y = ap (occ n) s.1 in let z = ap (eq01 n) hc in let a = h0 n in let b = h1 n in omega arith) (let x = I.cell in let y = I.lockle in omega arith) eo (lock-alone l1)
      (k (pos, let x = s.3 in let y = I.avn_long in omega arith))

  -- P3 won: the record is put in front of the list
  pub push : (c : ℕ) (r' : Row) → ha ≡ get_or avn c 0 * 2 → IsId records c → ((n : ℕ) → has n r ≡ eq01 n c) → ((n : ℕ) → has n r' ≡ 0) → lock r ≡ 0 → lock r' ≡ 0 → ((n : ℕ) → off n r' ≡ off n r) → Know (c * 2) avn ho t r'
      → RecordsAt (c * 2) head avn next ho (set rows t r')
  push c r' e id h1 h0 l0 l1 eo k =
      let b : I.bit ≡ 0 = let x = I.cell in let y = I.lockle in omega arith in
      let hc : I.first ≡ get_or avn c 0 = let x = I.cell in omega arith in
      cells (c * 2) r' (c ∷ I.available) c 0 (omega arith) (refl, id.0, let x = I.avn_long in let y = id.1 in omega arith, subst (λ (i : ℕ). Seg avn i I.available 0) hc I.linked) (omega arith)
      (λ n. let p = h1 n in let q = h0 n in omega arith) (omega arith) eo (λ u hu ne. lock-none b u hu) k

  -- ---- A5, P2: `available_next` of the held record is stored
  pub relink : (c x : ℕ) (r' : Row) → IsId records c → ((n : ℕ) → has n r ≡ eq01 n c) → ((n : ℕ) → has n r' ≡ eq01 n c) → lock r' ≡ lock r → ((n : ℕ) → off n r' ≡ off n r) → Know ha (set avn c x) ho t r' → RecordsAt ha head (set avn c x) next ho (set rows t r')
  relink c x r' id h1 h2 el eo k =
      let one : has c r ≡ 1 = h1 c ∙ eq01-same c in
      record {
        available = I.available;
        first = I.first;
        bit = I.bit;
        cell = I.cell;
        linked = seg_frame avn I.first I.available 0 c x (held-apart c one) I.linked;
        part = λ n. let s = sum-set (has n) rows t r' idle ht in let p = I.part n in let q = h1 n in let w = h2 n in omega arith;
        locked = let s = sum-set lock rows t r' idle ht in let p = I.locked in omega arith;
        lockle = I.lockle;
        know = each_set idle (Know ha avn ho) (Know ha (set avn c x) ho) rows t r' ht (λ u hu ne p. know-avn (hold (pc_of (get_or rows u idle).place)) c x u (get_or rows u idle).rec (get_or rows u idle).next (held-alone c one u hu ne) (held-apart c one) p) k I.know;
        apart = λ n h. get_or-set_other avn c n x 0 (λ e. h (ap (λ (j : ℕ). get_or ho j 0) e ∙ held_one c one)) ∙ I.apart n h;
        all = I.all;
        chain = I.chain;
        listed = λ n. let s = sum-set (off n) rows t r' idle ht in let p = I.listed n in let q = eo n in omega arith;
        avn_long = rw length-set I.avn_long;
        next_long = I.next_long;
        ho_long = I.ho_long;
      }

  -- ---- the holder of record c becomes x: A6 and N3 to own it, N1 to use it, a release's start to give it up
  pub rehold : (c x : ℕ) (r' : Row) → c < length ho → (x ≢ 1 → get_or avn c 0 ≡ 0) → has c r' + own x + used (get_or ho c 0) ≡ has c r + own (get_or ho c 0) + used x → off c r' + used (get_or ho c 0) ≡ off c r + used x
      → ((n : ℕ) → n ≢ c → has n r' ≡ has n r) → ((n : ℕ) → n ≢ c → off n r' ≡ off n r) → lock r' ≡ lock r → ((u : ℕ) → u ≢ t → get_or ho c 0 ≢ u + 2) → Know ha avn (set ho c x) t r'
      → RecordsAt ha head avn next (set ho c x) (set rows t r')
  rehold c x r' hc ax bal bao eh eo el others k = record {
    available = I.available;
    first = I.first;
    bit = I.bit;
    cell = I.cell;
    linked = I.linked;
    part = λ n. part n (ℕ_discrete n c);
    locked = let s = sum-set lock rows t r' idle ht in let p = I.locked in omega arith;
    lockle = I.lockle;
    know = each_set idle (Know ha avn ho) (Know ha avn (set ho c x)) rows t r' ht (λ u hu ne p. know-holder (hold (pc_of (get_or rows u idle).place)) c x u (get_or rows u idle).rec (get_or rows u idle).next (others u ne) p) k I.know;
    apart = λ n h. apart n h (ℕ_discrete n c);
    all = I.all;
    chain = I.chain;
    listed = λ n. listed n (ℕ_discrete n c);
    avn_long = I.avn_long;
    next_long = I.next_long;
    ho_long = rw length-set I.ho_long;
  }
    where
      same : (n : ℕ) → n ≡ c → get_or (set ho c x) n 0 ≡ x
      same n e = rw e (get_or-set_same ho c x 0 hc)

      other : (n : ℕ) → n ≢ c → get_or (set ho c x) n 0 ≡ get_or ho n 0
      other n e = get_or-set_other ho c n x 0 e

      part : (n : ℕ) → Dec (n ≡ c) → occ n I.available + sum (has n) (set rows t r') + own (get_or (set ho c x) n 0) ≡ used (get_or (set ho c x) n 0)
      part n (yes e) = rw (same n e, e) (let s = sum-set (has c) rows t r' idle ht in let p = I.part c in omega arith)
      part n (no e) = rw (other n e) (let s = sum-set (has n) rows t r' idle ht in let p = I.part n in let q = eh n e in omega arith)

      listed : (n : ℕ) → Dec (n ≡ c) → occ n I.all + sum (off n) (set rows t r') ≡ used (get_or (set ho c x) n 0)
      listed n (yes e) = rw (same n e, e) (let s = sum-set (off c) rows t r' idle ht in let p = I.listed c in omega arith)
      listed n (no e) = rw (other n e) (let s = sum-set (off n) rows t r' idle ht in let p = I.listed n in let q = eo n e in omega arith)

      apart : (n : ℕ) → get_or (set ho c x) n 0 ≢ 1 → Dec (n ≡ c) → get_or avn n 0 ≡ 0
      apart n h (yes e) = rw e (ax (λ z. h (same n e ∙ z)))
      apart n h (no e) = I.apart n (λ z. h (other n e ∙ z))

  -- ---- N2: the record is linked, won or lost
  off-apart : (c : ℕ) → off c r ≡ 1 → occ c I.all ≡ 0
  off-apart c o = let p = I.listed c in let z = sum-at (off c) rows t idle ht in omega arith

  pub list : (c : ℕ) (r' : Row) → IsId records c → ((n : ℕ) → off n r ≡ eq01 n c) → ((n : ℕ) → off n r' ≡ 0) → ((n : ℕ) → has n r' ≡ has n r) → lock r' ≡ lock r → Know ha avn ho t r' → RecordsAt ha c avn (set next c head) ho (set rows t r')
  list c r' id o1 o0 eh el k = record {
    available = I.available;
    first = I.first;
    bit = I.bit;
    cell = I.cell;
    linked = I.linked;
    part = λ n. let s = sum-set (has n) rows t r' idle ht in let p = I.part n in let q = eh n in omega arith;
    locked = let s = sum-set lock rows t r' idle ht in let p = I.locked in omega arith;
    lockle = I.lockle;
    know = each_set idle (Know ha avn ho) (Know ha avn ho) rows t r' ht (λ u hu ne p. p) k I.know;
    apart = I.apart;
    all = c ∷ I.all;
    chain = seg_push next head I.all 0 c id.0 (let x = I.next_long in let y = id.1 in omega arith) (off-apart c (o1 c ∙ eq01-same c)) I.chain;
    listed = λ n. let s = sum-set (off n) rows t r' idle ht in let p = I.listed n in let q = o1 n in let w = o0 n in omega arith;
    avn_long = I.avn_long;
    next_long = rw length-set I.next_long;
    ho_long = I.ho_long;
  }

  pub unlist : (c x : ℕ) (r' : Row) → off c r ≡ 1 → ((n : ℕ) → off n r' ≡ off n r) → ((n : ℕ) → has n r' ≡ has n r) → lock r' ≡ lock r → Know ha avn ho t r' → RecordsAt ha head avn (set next c x) ho (set rows t r')
  unlist c x r' o eo eh el k = record {
    available = I.available;
    first = I.first;
    bit = I.bit;
    cell = I.cell;
    linked = I.linked;
    part = λ n. let s = sum-set (has n) rows t r' idle ht in let p = I.part n in let q = eh n in omega arith;
    locked = let s = sum-set lock rows t r' idle ht in let p = I.locked in omega arith;
    lockle = I.lockle;
    know = each_set idle (Know ha avn ho) (Know ha avn ho) rows t r' ht (λ u hu ne p. p) k I.know;
    apart = I.apart;
    all = I.all;
    chain = seg_frame next head I.all 0 c x (off-apart c o) I.chain;
    listed = λ n. let s = sum-set (off n) rows t r' idle ht in let p = I.listed n in let q = eo n in omega arith;
    avn_long = I.avn_long;
    next_long = rw length-set I.next_long;
    ho_long = I.ho_long;
  }
