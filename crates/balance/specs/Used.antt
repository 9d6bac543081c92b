-- The record count: until shutdown's last step it and the records between N1 and N3 come to the rows in use, so that it is at most the number of rows.
use Rattle.std.specs.Prelude.{◌≡◌, ◌≢◌, ◌⊎◌, false, List, [], ◌∷◌, ℕ, suc, ◌+◌, ◌≤◌, ◌<◌, eqb, length, get_or, set}
use Rattle.std.proofs.Math.Path.{refl}
use Rattle.std.proofs.Common.{sym, ap, ◌∙◌, subst, inl, inr, arith, get_or-set_other}
use Rattle.rules.specs.Sizes.{records, Settings}
use Rattle.rules.specs.Words.{plus}
use Rattle.rules.specs.Pc.{pc_of, code}
use Rattle.rules.specs.declared.pc.Pc.{Pc}
use Rattle.rules.specs.declared.pc.Pc.TheVariants as Pc
use Rattle.rules.specs.Rows
use Rattle.rules.specs.Rows.{idle, go_to}
use Rattle.rules.specs.Places.{accesses, does, ends, also_stores, becomes}
use Rattle.rules.specs.Start.{begins, fresh_at}
use Rattle.rules.specs.declared.Operation.{Operation}
use Rattle.rules.specs.declared.Operation.TheVariants.{Release, Shutdown}
use Rattle.rules.specs.declared.Row.{Row}
use Rattle.rules.specs.declared.Seen.{Seen}
use Rattle.rules.specs.declared.Effect.{Effect}
use Rattle.rules.specs.declared.Named.TheVariants as cell
use Rattle.lists.specs.Occ.{eq01-same, sum, sum-set, sum-at}
use Rattle.lists.specs.Tab.{zeros}
use Rattle.view.specs.Field.{IsId}
use Rattle.view.specs.View.{View, named, applies, enters}
use Rattle.view.specs.Every.{pc_is, classed, every, every-start, two, At, thus, thence, either, pick_all}
use Rattle.view.specs.Rest.{all-passed, all-checked, all-emptied, all_from, all-examined, all-reclaimed, all-shut}
use Rattle.view.specs.Long.{Long}
use Rattle.view.specs.Turn.{row_in, Look}
use Rattle.view.specs.Begin.{Admitted}
use Rattle.records.specs.Hold.{Hold, hold, has_of, KnowOf, RecordsIn, used}
use Rattle.records.specs.RecordMoves.{held_one}
use Rattle.records.specs.RecordStep.{untaken_free}
use Rattle.shutdown.specs.Zone.{ZoneIn, mark_open}

-- 1 where the row's record is used and not counted yet
abbrev pub links_at : Pc → ℕ
links_at = classed 0 ((Pc.N2, 1) ∷ (Pc.N3, 1) ∷ [])

abbrev pub links : Row → ℕ
links r = links_at (pc_of r.place)

pub record UsedAt (mark n : ℕ) (ho : List ℕ) (rows : List Row) : Type 0 where
  pub counted : mark ≢ 2 → n + sum links rows ≡ sum used ho
  pub most : n ≤ records
  pub null : get_or ho 0 0 ≡ 0

abbrev pub UsedIn : View → Type 0
UsedIn v = UsedAt v.heads.mark v.counters.record_count v.records.holder v.rows

used-length : (l : List ℕ) → sum used l ≤ length l
used-length [] = omega arith
used-length (x ∷ l) = let a = used-length l in omega arith

used-most : (n : ℕ) (l : List ℕ) → length l ≡ suc n → get_or l 0 0 ≡ 0 → sum used l ≤ n
used-most n [] e z = absurd (omega arith)
used-most n (x ∷ l) e z = let a = used-length l in omega arith

module _ (g : Settings) (v : View) (I : UsedIn v) (lv : Long v) (t : ℕ) (ht : t < length v.rows) where
  abbrev r : Row
  r = row_in v t

  abbrev n : ℕ
  n = v.counters.record_count

  abbrev ho : List ℕ
  ho = v.records.holder

  abbrev Sit : Row → Type 0
  Sit x = UsedAt v.heads.mark n ho (set v.rows t x)

  goes : (x : Row) → links x ≡ links r → Sit x
  goes x e = record { counted = λ m. let a = I.counted m in let s = sum-set links v.rows t x idle ht in omega arith; most = I.most; null = I.null }

  -- the holder of record c becomes h, and the count m
  reholds : (c h m : ℕ) (x : Row) → IsId records c → m + links x + used (get_or ho c 0) ≡ n + links r + used h → m ≤ records → UsedAt v.heads.mark m (set ho c h) (set v.rows t x)
  reholds c h m x id e b = record {
    counted = λ z. let a = I.counted z in let s = sum-set links v.rows t x idle ht in let w = sum-set used ho c h 0 (let q = lv.holder in omega arith) in omega arith;
    most = b;
    null = get_or-set_other ho c 0 h 0 (omega arith) ∙ I.null;
  }

  -- ---- starts
  module _ (mark0 : v.heads.mark ≡ 0) (e : r.place ≡ code Pc.Idle) where
    unlinked : links r ≡ 0
    unlinked = ap links_at (pc_is Pc.Idle e)

    plain : (x : Row) → links x ≡ 0 → Sit x
    plain x q = goes x (q ∙ sym unlinked)

    release : (a : ℕ) → Admitted v t (Release a) → UsedIn (enters t (begins g (Release a)) v)
    unfolding begins
    release a q = reholds a 1 n (fresh_at 2 (code Pc.D1) a 0 0 0 0) q.0 (let w = q.1 in let z = unlinked in omega arith) I.most

    shutdown : UsedIn (enters t (begins g Shutdown) v)
    unfolding begins
    shutdown = let b = plain (fresh_at 12 (code Pc.S1) 0 0 0 0 0) refl in record { counted = λ _. b.counted (omega arith); most = b.most; null = b.null }

    pub used_begin : (o : Operation) → Admitted v t o → UsedIn (enters t (begins g o) v)
    unfolding begins
    used_begin = every-start (λ (o : Operation). Admitted v t o → UsedIn (enters t (begins g o) v)) (search (two, plain, release, shutdown))

  -- ---- every place
  pub used-ends : (m : ℕ) → (pc_of r.place ≡ Pc.N1) ⊎ (pc_of r.place ≡ Pc.Swap) → UsedIn (applies t cell.Nothing (ends m) v)
  used-ends m w = goes idle (sym (at w))
    where
      at : (pc_of r.place ≡ Pc.N1) ⊎ (pc_of r.place ≡ Pc.Swap) → links r ≡ 0
      at (inl e) = ap links_at e
      at (inr e) = ap links_at e

  module _ (R : RecordsIn v) (Z : ZoneIn v) where
    abbrev K : Pc → Effect → Type 0
    K p e = UsedIn (applies t (named (accesses p r)) e v)

    record Ok (k : ℕ) (x : Row) : Type 0 where
      pub is : links x ≡ k

    ok : {k : ℕ} {x : Row} → links x ≡ k → Ok k x
    ok e = record { is = e }

    leaf : {p : Pc} {e : Effect} → Sit e.row ≡ K p e → links r ≡ links_at p → Ok (links_at p) e.row → At K p e
    leaf {p} {e} q h k = thence q (goes e.row (k.is ∙ sym h))

    stays : {k : ℕ} {x : Row} → x.place ≡ r.place → links r ≡ k → Ok k x
    stays {k} {x} a h = ok (ap (λ (m : ℕ). links_at (pc_of m)) a ∙ h)

    -- A6, N3: the record is used already
    in_hand : (p : Pc) → r.place ≡ code p → hold p ≡ Hold.clear → (get_or ho r.rec 0 ≡ 1) × IsId records r.rec
    in_hand p e q =
        let c : hold (pc_of r.place) ≡ Hold.clear = ap hold (pc_is p e) ∙ q in
        let k = subst (λ (h : Hold). KnowOf h v.heads.head_available v.records.available_next ho t r.rec r.next) c (R.know t ht) in
        (held_one v.heads.head_available v.heads.record_head v.records.available_next v.records.next ho v.rows R t ht r.rec (ap (λ (h : Hold). has_of h r.rec r.rec) c ∙ eq01-same r.rec), k.1)

    kA6 : (i : Seen) → Look g v t Pc.A6 r i → links r ≡ 0 → At K Pc.A6 (does g Pc.A6 r i)
    kA6 i l z = let k = in_hand Pc.A6 l.place refl in thus (reholds r.rec (i.thread + 2) n idle k.1 (let a = k.0 in omega arith) I.most)

    kN1 : (i : Seen) → Look g v t Pc.N1 r i → links r ≡ 0 → eqb i.untaken 0 ≡ false → At K Pc.N1 (also_stores (cell.Holder i.untaken) 1 (becomes (go_to Pc.N2 (Rows.with_rec i.untaken (Rows.with_next i.v r)))))
    kN1 i l z q = let k = untaken_free l q in thus (reholds i.untaken 1 n _ k.0 (let a = k.1 in omega arith) I.most)

    -- N3: as the row was used and not counted, the count is less than the used rows
    kN3 : (i : Seen) → Look g v t Pc.N3 r i → links r ≡ 1 → At K Pc.N3 (does g Pc.N3 r i)
    kN3 i l z =
        let k = in_hand Pc.N3 l.place refl in
        let a = I.counted (let m = mark_open g v Z t ht Pc.N3 l.place (λ q. q) in omega arith) in
        let b = sum-at links v.rows t idle ht in
        let c = used-most records ho lv.holder I.null in
        thus (subst (λ (y : ℕ). UsedAt v.heads.mark (plus y 1) (set ho r.rec (i.thread + 2)) (set v.rows t idle)) (sym l.x) (reholds r.rec (i.thread + 2) (plus n 1) idle k.1 (let d = k.0 in omega arith) (omega arith)))

    kS3 : (i : Seen) → At K Pc.S3 (does g Pc.S3 r i)
    kS3 i = thus (record { counted = λ z. absurd (z refl); most = I.most; null = zeros (length ho) 0 })

    pub used-place : (p : Pc) (i : Seen) → Look g v t p r i → K p (does g p r i)
    used-place p i l = (every (λ (p : Pc). Look g v t p r i → links r ≡ links_at p → At K p (does g p r i)) (search (two, kA6, kN1, kN3, kS3, either, leaf, stays, ok, pick_all (Ok 0), all-passed (Ok 0) g, all-checked (Ok 0) g, all-emptied (Ok 0) g, all_from (Ok 0) g, all-examined (Ok 0) g, all-reclaimed (Ok 0) g, all-shut (Ok 0) g) depth 16 fits 8000) p l (ap links_at (pc_is p l.place))).holds

-- ---- with no thread inside, the count is that of the used rows
none-linked : (l : List Row) → ((u : ℕ) → u < length l → (get_or l u idle).place ≡ 0) → sum links l ≡ 0
none-linked [] h = refl
none-linked (x ∷ l) h = let a : links x ≡ 0 = ap (λ (q : ℕ). links_at (pc_of q)) (h 0 (omega arith)) in let b = none-linked l (λ u hu. h (suc u) (omega arith)) in omega arith

pub all-counted : (v : View) → UsedIn v → ((u : ℕ) → u < length v.rows → (row_in v u).place ≡ 0) → v.heads.mark ≢ 2 → v.counters.record_count ≡ sum used v.records.holder
all-counted v I q m = let a = I.counted m in let b = none-linked v.rows q in omega arith
