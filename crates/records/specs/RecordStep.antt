-- Every step and every start keeps who holds each record.
use Rattle.std.specs.Prelude.{◌≡◌, ◌⊎◌, Bool, true, false, List, [], ◌∷◌, ℕ, suc, ◌+◌, ◌*◌, ◌/◌, ◌≤◌, ◌<◌, eqb, length, get_or, set}
use Rattle.std.proofs.Math.Path.{refl}
use Rattle.std.proofs.Common.{sym, ap, ◌∙◌, subst, inl, inr, arith, get_or-set_same, eqb-true}
use Rattle.std.proofs.lemmas.List.{length-replicate}
use Rattle.std.proofs.lemmas.Bool.{eqb-false}
use Rattle.base.specs.Pick.{pick}
use Rattle.rules.specs.Sizes.{records, threads, Settings}
use Rattle.rules.specs.Words.{locked, with_lock}
use Rattle.rules.specs.Pc.{pc_of, code}
use Rattle.rules.specs.declared.pc.Pc.{Pc}
use Rattle.rules.specs.declared.pc.Pc.TheVariants as Pc
use Rattle.rules.specs.Rows
use Rattle.rules.specs.Rows.{idle, go_to}
use Rattle.rules.specs.Places.{accesses, does, ends, becomes, stores, also_stores, finishes}
use Rattle.rules.specs.Start.{begins, fresh_at}
use Rattle.rules.specs.declared.Operation.{Operation}
use Rattle.rules.specs.declared.Operation.TheVariants.{Acquire, Release, Protect, Try, TryProtect, Reset, Raw, Swap, Retire, Eager, Cleanup, Shutdown}
use Rattle.rules.specs.declared.Row.{Row}
use Rattle.rules.specs.declared.Seen.{Seen}
use Rattle.rules.specs.declared.Effect.{Effect}
use Rattle.rules.specs.declared.Named.TheVariants as cell
use Rattle.bits.specs.BitLaws.{with-lock, is-unlocked}
use Rattle.lists.specs.Occ.{eq01, eq01-same, eq01-other, sum}
use Rattle.lists.specs.Tab.{zeros}
use Rattle.lists.specs.Each.{each_set}
use Rattle.view.specs.Field.{IsId, cleared}
use Rattle.view.specs.Ranges.{limit}
use Rattle.view.specs.View.{View, InTable, named, get, applies, enters}
use Rattle.view.specs.Every.{every, two, At, pc_is, pick_all, either, thus, thence}
use Rattle.view.specs.Rest.{all-passed, all-checked, all-emptied, all_from, all-examined, all-reclaimed, all-shut}
use Rattle.view.specs.Turn.{row_in, Look, sees}
use Rattle.view.specs.Begin.{Admitted, Owned}
use Rattle.records.specs.Hold.{Hold, hold, has_of, has, lock_of, lock, off_of, off, KnowOf, Know, RecordsAt, RecordsIn}
use Rattle.records.specs.RecordMoves

-- the row that N1 takes is unused
pub untaken_free : {g : Settings} {v : View} {t : ℕ} {r : Row} {i : Seen} → Look g v t Pc.N1 r i → eqb i.untaken 0 ≡ false → IsId records i.untaken × (get_or v.records.holder i.untaken 0 ≡ 0)
untaken_free {v = v} {i = i} l q0 = (id, go (l.lowest (eqb-false i.untaken 0 q0)))
  where
    id : IsId records i.untaken
    id = subst (λ (b : Bool). InTable (pick b cell.Nothing (cell.Holder i.untaken))) q0 l.beyond

    go : (get_or v.records.holder i.untaken 0 ≡ 0) ⊎ (threads + 1 < get_or v.records.holder i.untaken 0) → get_or v.records.holder i.untaken 0 ≡ 0
    go (inl e) = e
    go (inr e) =
        absurd (let y : i.y ≡ get_or v.records.holder i.untaken 0 = subst (λ (b : Bool). i.y ≡ get (pick b cell.Nothing (cell.Holder i.untaken)) v) q0 l.y in
        let f : i.y ≤ threads + 1 = subst (λ (b : Bool). InTable (pick b cell.Nothing (cell.Holder i.untaken)) → i.y ≤ limit (pick b cell.Nothing (cell.Holder i.untaken))) q0 (λ _. l.fit) id in omega arith)

module _ (g : Settings) (v : View) (I : RecordsIn v) (t : ℕ) (ht : t < length v.rows) where
  abbrev r : Row
  r = row_in v t

  abbrev ha : ℕ
  ha = v.heads.head_available

  abbrev head : ℕ
  head = v.heads.record_head

  abbrev avn : List ℕ
  avn = v.records.available_next

  abbrev next : List ℕ
  next = v.records.next

  abbrev ho : List ℕ
  ho = v.records.holder

  abbrev rows : List Row
  rows = v.rows

  abbrev K : Pc → Effect → Type 0
  K p e = RecordsIn (applies t (named (accesses p r)) e v)

  -- only the row changes
  abbrev Sit : Row → Type 0
  Sit x = RecordsAt ha head avn next ho (set rows t x)

  has-is : (p : Pc) (x : Row) → x.place ≡ code p → (n : ℕ) → has n x ≡ has_of (hold p) n x.rec
  has-is p x e n = ap (λ (q : Pc). has_of (hold q) n x.rec) (pc_is p e)

  off-is : (p : Pc) (x : Row) → x.place ≡ code p → (n : ℕ) → off n x ≡ off_of (hold p) n x.rec
  off-is p x e n = ap (λ (q : Pc). off_of (hold q) n x.rec) (pc_is p e)

  lock-is : (p : Pc) (x : Row) → x.place ≡ code p → lock x ≡ lock_of (hold p)
  lock-is p x e = ap (λ (q : Pc). lock_of (hold q)) (pc_is p e)

  know : (p : Pc) → r.place ≡ code p → KnowOf (hold p) ha avn ho t r.rec r.next
  know p e = subst (λ (q : Pc). KnowOf (hold q) ha avn ho t r.rec r.next) (pc_is p e) (I.know t ht)

  -- as a type of its own, which `search` does not look into
  record Sits (x : Row) : Type 0 where
    pub sit : Sit x

  -- h: what it holds stays
  goes : (h : Hold) → hold (pc_of r.place) ≡ h → (x : Row) → ((n : ℕ) → has n x ≡ has_of h n r.rec) → lock x ≡ lock_of h → ((n : ℕ) → off n x ≡ off_of h n r.rec) → Know ha avn ho t x → Sits x
  goes h e x a b c k = record { sit = RecordMoves.quiet ha head avn next ho rows I t ht x (λ n. a n ∙ ap (λ (q : Hold). has_of q n r.rec) (sym e)) (b ∙ ap lock_of (sym e)) (λ n. c n ∙ ap (λ (q : Hold). off_of q n r.rec) (sym e)) k }

  -- it holds nothing, before and after
  empty : hold (pc_of r.place) ≡ Hold.free → (x : Row) → hold (pc_of x.place) ≡ Hold.free → Sits x
  empty e x f = goes Hold.free e x (λ n. ap (λ (q : Hold). has_of q n x.rec) f) (ap lock_of f) (λ n. ap (λ (q : Hold). off_of q n x.rec) f) (subst (λ (q : Hold). KnowOf q ha avn ho t x.rec x.next) (sym f) tt)

  stays : Sits r
  stays = record { sit = RecordMoves.quiet ha head avn next ho rows I t ht r (λ n. refl) refl (λ n. refl) (I.know t ht) }

  leaf : {p : Pc} {e : Effect} → Sit e.row ≡ K p e → Sits e.row → At K p e
  leaf q h = thence q h.sit

  -- ---- acquire
  kA2 : (i : Seen) → Look g v t Pc.A2 r i → eqb i.v (r.rec * 2) ≡ true → At K Pc.A2 (stores (with_lock (r.rec * 2)) (becomes (go_to Pc.A3 r)))
  kA2 i l e =
      thus (subst (λ (x : ℕ). RecordsAt x head avn next ho (set rows t (go_to Pc.A3 r))) (sym (with-lock r.rec))
      (RecordMoves.take-lock ha head avn next ho rows I t ht r.rec (go_to Pc.A3 r) (sym (sees l tt refl).0 ∙ eqb-true i.v (r.rec * 2) e) (know Pc.A2 l.place) (λ n. sym (has-is Pc.A2 r l.place n)) (lock-is Pc.A2 r l.place) refl (λ n. sym (off-is Pc.A2 r l.place n)) (omega arith, know Pc.A2 l.place)))

  popped : (i : Seen) → Look g v t Pc.A3 r i → KnowOf Hold.locks ha avn ho t r.rec r.next → KnowOf Hold.popped ha avn ho t r.rec i.v
  popped i l k = (k.0, k.1, sym (sees l tt refl).0)

  kA4 : (i : Seen) → Look g v t Pc.A4 r i → At K Pc.A4 (does g Pc.A4 r i)
  kA4 i l = let k = know Pc.A4 l.place in thus (RecordMoves.pop ha head avn next ho rows I t ht r.rec r.next (go_to Pc.A5 r) k.0 k.1 k.2 (has-is Pc.A4 r l.place) (λ n. refl) (lock-is Pc.A4 r l.place) refl (λ n. sym (off-is Pc.A4 r l.place n)) (λ q. q))

  kA5 : (i : Seen) → Look g v t Pc.A5 r i → At K Pc.A5 (does g Pc.A5 r i)
  kA5 i l = let k = know Pc.A5 l.place in thus (RecordMoves.relink ha head avn next ho rows I t ht r.rec 0 (go_to Pc.A6 r) k (has-is Pc.A5 r l.place) (λ n. refl) (sym (lock-is Pc.A5 r l.place)) (λ n. sym (off-is Pc.A5 r l.place n)) (get_or-set_same avn r.rec 0 0 (let a = I.avn_long in let b = k.1 in omega arith), k))

  -- A6, N3: the held record becomes the thread's
  owning : {p : Pc} {e : Effect} (u : ℕ) → u ≡ t → hold (pc_of r.place) ≡ Hold.clear → KnowOf Hold.clear ha avn ho t r.rec r.next → RecordsAt ha head avn next (set ho r.rec (u + 2)) (set rows t idle) ≡ K p e → At K p e
  owning u e q k f =
      let h1 : (n : ℕ) → has n r ≡ eq01 n r.rec = λ n. ap (λ (h : Hold). has_of h n r.rec) q in
      let o1 : (n : ℕ) → off n r ≡ 0 = λ n. ap (λ (h : Hold). off_of h n r.rec) q in
      let w : get_or ho r.rec 0 ≡ 1 = RecordMoves.held_one ha head avn next ho rows I t ht r.rec (h1 r.rec ∙ eq01-same r.rec) in
      thus (subst (λ (X : Type 0). X) f (RecordMoves.rehold ha head avn next ho rows I t ht r.rec (u + 2) idle (let a = I.ho_long in let b = k.1.1 in omega arith) (λ _. k.0)
      (let a = h1 r.rec in let b = eq01-same r.rec in omega arith) (let a = o1 r.rec in omega arith)
      (λ n ne. let a = h1 n in let b = eq01-other n r.rec ne in omega arith) (λ n ne. let a = o1 n in omega arith) (ap lock_of (sym q)) (λ u ne. omega arith) tt))

  kN1 : (i : Seen) → Look g v t Pc.N1 r i → eqb i.untaken 0 ≡ false → At K Pc.N1 (also_stores (cell.Holder i.untaken) 1 (becomes (go_to Pc.N2 (Rows.with_rec i.untaken (Rows.with_next i.v r)))))
  kN1 i l q0 =
      thus (RecordMoves.rehold ha head avn next ho rows I t ht u 1 x (let a = I.ho_long in let b = id.1 in omega arith) (λ z. absurd (z refl))
      (let z = is0 in let a = h0 u in let b = eq01-same u in omega arith) (let z = is0 in let a = o0 u in let b = eq01-same u in omega arith)
      (λ n q. let a = h0 n in let b = eq01-other n u q in omega arith) (λ n q. let a = o0 n in let b = eq01-other n u q in omega arith) (sym (lock-is Pc.N1 r l.place)) (λ w q. let z = is0 in omega arith) (I.apart u (let z = is0 in omega arith), id))
    where
      u : ℕ
      u = i.untaken

      x : Row
      x = go_to Pc.N2 (Rows.with_rec u (Rows.with_next i.v r))

      id : IsId records u
      id = (untaken_free l q0).0

      is0 : get_or ho u 0 ≡ 0
      is0 = (untaken_free l q0).1

      h0 : (n : ℕ) → has n r ≡ 0
      h0 = has-is Pc.N1 r l.place

      o0 : (n : ℕ) → off n r ≡ 0
      o0 = off-is Pc.N1 r l.place

  kN2 : (i : Seen) → Look g v t Pc.N2 r i → eqb i.v r.next ≡ true → At K Pc.N2 (stores r.rec (also_stores (cell.RecordNext r.rec) r.next (becomes (go_to Pc.N3 r))))
  kN2 i l e =
      let k = know Pc.N2 l.place in
      thus (subst (λ (x : ℕ). RecordsAt ha r.rec avn (set next r.rec x) ho (set rows t (go_to Pc.N3 r))) (sym (sees l tt refl).0 ∙ eqb-true i.v r.next e)
      (RecordMoves.list ha head avn next ho rows I t ht r.rec (go_to Pc.N3 r) k.1 (off-is Pc.N2 r l.place) (λ n. refl) (λ n. sym (has-is Pc.N2 r l.place n)) (sym (lock-is Pc.N2 r l.place)) k))

  kN2lost : (i : Seen) → Look g v t Pc.N2 r i → At K Pc.N2 (also_stores (cell.RecordNext r.rec) r.next (becomes (Rows.with_next i.v r)))
  kN2lost i l =
      let k = know Pc.N2 l.place in
      let x : Row = Rows.with_next i.v r in
      thus (RecordMoves.unlist ha head avn next ho rows I t ht r.rec r.next x (off-is Pc.N2 r l.place r.rec ∙ eq01-same r.rec) (λ n. refl) (λ n. refl) refl (subst (λ (q : Pc). KnowOf (hold q) ha avn ho t r.rec i.v) (sym (pc_is Pc.N2 l.place)) k))

  -- ---- release
  kP2 : (i : Seen) → Look g v t Pc.P2 r i → At K Pc.P2 (does g Pc.P2 r i)
  kP2 i l = let k = know Pc.P2 l.place in thus (RecordMoves.relink ha head avn next ho rows I t ht r.rec r.next (go_to Pc.P3 r) k (has-is Pc.P2 r l.place) (λ n. refl) (sym (lock-is Pc.P2 r l.place)) (λ n. sym (off-is Pc.P2 r l.place n)) (get_or-set_same avn r.rec r.next 0 (let a = I.avn_long in let b = k.1 in omega arith), k))

  kP3 : (i : Seen) → Look g v t Pc.P3 r i → eqb i.v (r.next * 2) ≡ true → At K Pc.P3 (stores (r.rec * 2) (finishes 0))
  kP3 i l e = let k = know Pc.P3 l.place in thus (RecordMoves.push ha head avn next ho rows I t ht r.rec idle (sym (sees l tt refl).0 ∙ eqb-true i.v (r.next * 2) e ∙ ap (λ (x : ℕ). x * 2) (sym k.0)) k.1 (has-is Pc.P3 r l.place) (λ n. refl) (lock-is Pc.P3 r l.place) refl (λ n. sym (off-is Pc.P3 r l.place n)) tt)

  -- ---- shutdown's last step: no thread holds a record
  abbrev Free : Type 0
  Free = (u : ℕ) → u < length rows → hold (pc_of (get_or rows u idle).place) ≡ Hold.free

  -- a sum over rows that hold nothing
  none : (f : Row → ℕ) (h : Hold → Row → ℕ) → ((x : Row) → f x ≡ h (hold (pc_of x.place)) x) → ((x : Row) → h Hold.free x ≡ 0) → (l : List Row) → ((u : ℕ) → u < length l → hold (pc_of (get_or l u idle).place) ≡ Hold.free) → sum f l ≡ 0
  none f h e z [] q = refl
  none f h e z (x ∷ l) q =
      let a : f x ≡ 0 = e x ∙ ap (λ (k : Hold). h k x) (q 0 (omega arith)) ∙ z x in
      let b = none f h e z l (λ u hu. q (suc u) (omega arith)) in omega arith

  kS3 : (i : Seen) → Free → At K Pc.S3 (does g Pc.S3 r i)
  kS3 i f = thus (record {
    available = [];
    first = 0;
    bit = 0;
    cell = refl;
    linked = refl;
    part = λ n. rw zeros (let a = none (has n) (λ h x. has_of h n x.rec) (λ x. refl) (λ x. refl) (set rows t idle) free in omega arith);
    locked = none lock (λ h x. lock_of h) (λ x. refl) (λ x. refl) (set rows t idle) free;
    lockle = omega arith;
    know = λ u hu. subst (λ (h : Hold). KnowOf h 0 (cleared avn) (cleared ho) u (get_or (set rows t idle) u idle).rec (get_or (set rows t idle) u idle).next) (sym (free u hu)) tt;
    apart = λ n h. zeros (length avn) n;
    all = [];
    chain = refl;
    listed = λ n. rw zeros (let a = none (off n) (λ h x. off_of h n x.rec) (λ x. refl) (λ x. refl) (set rows t idle) free in omega arith);
    avn_long = length-replicate (length avn) 0 ∙ I.avn_long;
    next_long = length-replicate (length next) 0 ∙ I.next_long;
    ho_long = length-replicate (length ho) 0 ∙ I.ho_long;
  })
    where
      free : (u : ℕ) → u < length (set rows t idle) → hold (pc_of (get_or (set rows t idle) u idle).place) ≡ Hold.free
      free = each_set idle (λ u x. hold (pc_of x.place) ≡ Hold.free) (λ u x. hold (pc_of x.place) ≡ Hold.free) rows t idle ht (λ u hu ne p. p) refl f

  -- ---- every place
  -- what is known of the record where it goes on
  seen-head : (n : ℕ) → locked n ≡ false → eqb n 0 ≡ false → 0 < n / 2
  seen-head n e q = let a = eqb-false n 0 q in let b = is-unlocked n e in omega arith

  of-clear : KnowOf Hold.clear ha avn ho t r.rec r.next → IsId records r.rec
  of-clear k = k.1

  of-aims : KnowOf Hold.aims ha avn ho t r.rec r.next → IsId records r.rec
  of-aims k = k.1

  pub record_place : (p : Pc) (i : Seen) → Look g v t p r i → (p ≡ Pc.S3 → Free) → K p (does g p r i)
  record_place p i l z =
      (every (λ (p : Pc). Look g v t p r i → i.thread ≡ t → (p ≡ Pc.S3 → Free) → hold (pc_of r.place) ≡ hold p → KnowOf (hold p) ha avn ho t r.rec r.next → At K p (does g p r i))
      (search (two, either, leaf, stays, empty, goes, tt, seen-head, of-clear, of-aims, popped i, kA2 i, kA4 i, kA5 i, owning, kN1 i, kN2 i, kN2lost i, kP2 i, kP3 i, kS3 i, pick_all Sits, all-passed Sits g, all-checked Sits g, all-emptied Sits g, all_from Sits g, all-examined Sits g, all-reclaimed Sits g, all-shut Sits g) depth 16 fits 8000)
      p l l.thread z (ap hold (pc_is p l.place)) (know p l.place)).holds

  -- 25 and 26
  pub record_ends : (n : ℕ) → (pc_of r.place ≡ Pc.N1) ⊎ (pc_of r.place ≡ Pc.Swap) → RecordsIn (applies t cell.Nothing (ends n) v)
  record_ends n w = (empty (at w) idle refl).sit
    where
      at : (pc_of r.place ≡ Pc.N1) ⊎ (pc_of r.place ≡ Pc.Swap) → hold (pc_of r.place) ≡ Hold.free
      at (inl e) = ap hold e
      at (inr e) = ap hold e

  -- ---- starts
  module _ (e : r.place ≡ code Pc.Idle) where
    idles : hold (pc_of r.place) ≡ Hold.free
    idles = ap hold (pc_is Pc.Idle e)

    -- the start holds nothing, or goes on with a record that the thread owns
    nothing : (x : Row) → hold (pc_of x.place) ≡ Hold.free → Sit x
    nothing x h = (empty idles x h).sit

    owner : (x : Row) → hold (pc_of x.place) ≡ Hold.owns → Owned v t x.rec → Sit x
    owner x h q = (goes Hold.free idles x (λ n. ap (λ (k : Hold). has_of k n x.rec) h) (ap lock_of h) (λ n. ap (λ (k : Hold). off_of k n x.rec) h) (subst (λ (k : Hold). KnowOf k ha avn ho t x.rec x.next) (sym h) (q.1, q.0))).sit

    releasing : (a : ℕ) → Owned v t a → RecordsAt ha head avn next (set ho a 1) (set rows t (fresh_at 2 (code Pc.D1) a 0 0 0 0))
    releasing a q =
        RecordMoves.rehold ha head avn next ho rows I t ht a 1 (fresh_at 2 (code Pc.D1) a 0 0 0 0) (let x = I.ho_long in let y = q.0.1 in omega arith) (λ z. absurd (z refl))
        (let x = has-is Pc.Idle r e a in let y = eq01-same a in let w = q.1 in omega arith) (let x = off-is Pc.Idle r e a in let w = q.1 in omega arith)
        (λ n ne. let x = has-is Pc.Idle r e n in let y = eq01-other n a ne in omega arith) (λ n ne. sym (off-is Pc.Idle r e n)) (sym (lock-is Pc.Idle r e)) (λ u ne. let w = q.1 in omega arith)
        (I.apart a (let w = q.1 in omega arith), q.0)

    pub record_begin : (o : Operation) → Admitted v t o → RecordsIn (enters t (begins g o) v)
    unfolding begins
    record_begin Acquire a = nothing _ refl
    record_begin (Release x) a = releasing x a
    record_begin (Protect x b) a = owner _ refl a.0
    record_begin (Try x b n) a = owner _ refl a.0.0
    record_begin (TryProtect x b n) a = owner _ refl a.0.0
    record_begin (Reset x) a = owner _ refl a
    record_begin (Raw x n) a = owner _ refl a.0
    record_begin (Swap b n) a = nothing _ refl
    record_begin (Retire n x) a = nothing _ refl
    record_begin Eager a = nothing _ refl
    record_begin Cleanup a = nothing _ refl
    record_begin Shutdown a = nothing _ refl
