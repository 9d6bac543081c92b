-- Every step and every start keeps the balance of `count`, and the bound.
use Rattle.std.proofs.Math.Path.{◌≡◌, refl, ap, subst}
use Rattle.std.proofs.Common.{sym, ◌∙◌, inl, inr, length-set, get_or-set_other, eqb-true, ltb-false}
use Rattle.std.specs.Prelude.{◌≢◌, ◌⊎◌, false, List, [], ◌∷◌, ℕ, suc, ◌+◌, ◌*◌, ◌-◌, ◌/◌, ◌≤◌, ◌<◌, max, eqb, set}
use Rattle.std.proofs.Math.Decide.{ℕ_discrete}
use native.Mathlib.Omega.{arith}
use Rattle.std.proofs.Math.ListN.{length, get_or}
use Rattle.rules.specs.Sizes.{records, steps, nodes, threads, Settings}
use Rattle.rules.specs.Words.{plus, over}
use Rattle.rules.specs.Pc.{pc_of, code}
use Rattle.rules.specs.declared.pc.Pc.{Pc}
use Rattle.rules.specs.declared.pc.Pc.TheVariants as Pc
use Rattle.rules.specs.Rows.{idle, go_to, taking, counting, freeing, reclaiming}
use Rattle.rules.specs.Places.{accesses, does, ends, becomes, stores, checked, after_free}
use Rattle.rules.specs.Start.{begins, narrow, fresh_at}
use Rattle.rules.specs.declared.Operation.{Operation}
use Rattle.rules.specs.declared.Operation.TheVariants.{Retire, Shutdown}
use Rattle.rules.specs.declared.Row.{Row}
use Rattle.rules.specs.declared.Seen.{Seen}
use Rattle.rules.specs.declared.Effect.{Effect}
use Rattle.rules.specs.declared.Named.TheVariants as cell
use Rattle.counts.specs.CountLaws.{over_plain}
use Rattle.lists.specs.Occ.{eq01, eq01-same, eq01-other, eq01-le, sum, sum-set}
use Rattle.view.specs.View.{View, named, applies, enters}
use Rattle.view.specs.Every.{pc_is, every, every-start, two, At, thus, thence, either, pick_all, pick_case}
use Rattle.view.specs.Long.{Long}
use Rattle.view.specs.Rest.{all-shut}
use Rattle.view.specs.Turn.{row_in, Look, swap_free}
use Rattle.view.specs.Begin.{Admitted}
use Rattle.shutdown.specs.Zone.{ZoneIn, Shut, side, mark_open, all-shut-rows}
use Rattle.balance.specs.Balance
use Rattle.balance.specs.Balance.{owe, owes_of, owes, waiting, M, Balance, LooksOf, Looks, Low, CountAt, CountIn, over_none, owes-passed, owes-checked, owes-emptied, owes_from, owes-examined, owes-reclaimed}

module _ (g : Settings) (v : View) (I : CountIn g v) (Z : ZoneIn v) (hn : v.counters.record_count ≤ records) (lv : Long v) (t : ℕ) (ht : t < length v.rows) (hk : v.counters.ticks < steps) where
  abbrev r : Row
  r = row_in v t

  abbrev mark : ℕ
  mark = v.heads.mark

  abbrev st : List ℕ
  st = v.nodes.state

  abbrev count : ℕ
  count = v.counters.count

  abbrev n : ℕ
  n = v.counters.record_count

  abbrev ticks : ℕ
  ticks = v.counters.ticks

  abbrev rows : List Row
  rows = v.rows

  abbrev K : Pc → Effect → Type 0
  K p e = CountIn g (applies t (named (accesses p r)) e v)

  owes_is : (p : Pc) → r.place ≡ code p → owes r ≡ owes_of (owe p) r.rcount
  owes_is p e = ap (λ (q : Pc). owes_of (owe q) r.rcount) (pc_is p e)

  looks-is : (p : Pc) → r.place ≡ code p → Looks count r → LooksOf (owe p) count r.count
  looks-is p e o = subst (λ (q : Pc). LooksOf (owe q) count r.count) (pc_is p e) o

  -- only the row changes, and the thread has no look to do
  goes : (p : Pc) → r.place ≡ code p → (LooksOf (owe p) count r.count → ⊥) → (x : Row) → owes x ≡ owes_of (owe p) r.rcount → CountAt g mark st count n (plus ticks 1) (set rows t x)
  goes p e no' x q = Balance.keeps g mark st count n ticks rows I t ht hk x (q ∙ sym (owes_is p e)) (λ o. absurd (no' (looks-is p e o)))

  -- a row that may stand after a step at p
  record Seat (p : Pc) (x : Row) : Type 0 where
    pub counted : CountAt g mark st count n (plus ticks 1) (set rows t x)

  owing : {p : Pc} {x : Row} → r.place ≡ code p → (LooksOf (owe p) count r.count → ⊥) → owes x ≡ owes_of (owe p) r.rcount → Seat p x
  owing {p} {x} e no' q = record { counted = goes p e no' x q }

  stays : {p : Pc} {x : Row} → x.place ≡ r.place → x.rcount ≡ r.rcount → x.count ≡ r.count → Seat p x
  stays {p} {x} a b c =
      record {
        counted = Balance.keeps g mark st count n ticks rows I t ht hk x (ap (λ (m : ℕ). owes_of (owe (pc_of m)) x.rcount) a ∙ ap (owes_of (owe (pc_of r.place))) b)
            (λ o. inr (subst (λ (m : ℕ). LooksOf (owe (pc_of m)) count x.count) (sym a) (subst (LooksOf (owe (pc_of r.place)) count) (sym c) o)));
      }

  -- a step that leaves the counters, the mark and the states as they are
  leaf : {p : Pc} {e : Effect} → CountAt g mark st count n (plus ticks 1) (set rows t e.row) ≡ K p e → Seat p e.row → At K p e
  leaf q k = thence q k.counted

  open' : (p : Pc) → r.place ≡ code p → (Shut (side p) → ⊥) → mark ≡ 0
  open' p e f = mark_open g v Z t ht p e f

  -- the count becomes c, and what the thread owes with it
  counts : (p : Pc) → r.place ≡ code p → mark ≡ 0 → (c : ℕ) (x : Row) (a b : ℕ) → c < M → c + owes x + a * M ≡ count + owes_of (owe p) r.rcount + b * M → Low g c n (set rows t x) → CountAt g mark st c n (plus ticks 1) (set rows t x)
  counts p e m c x a b f q l = Balance.puts g mark st count n ticks rows I t ht hk st c x (λ z. Balance.balanced g mark st count n ticks rows I t ht hk st c x a b (let w = owes_is p e in omega arith) z) l (λ z. absurd (z m)) f

  kT3 : (i : Seen) → Look g v t Pc.T3 r i → At K Pc.T3 (does g Pc.T3 r i)
  kT3 i l = thus (subst (λ (y : ℕ). CountAt g mark st (plus y 1) n (plus ticks 1) (set rows t (go_to Pc.K1 r))) (sym l.x)
      (counts Pc.T3 l.place (open' Pc.T3 l.place (λ q. q)) (plus count 1) (go_to Pc.K1 r) ((count + 1) / M) 0 (omega arith) (omega arith) (Balance.duty g mark st count n ticks rows I t ht hk (plus count 1) n (go_to Pc.K1 r) tt)))

  kC1 : (i : Seen) → Look g v t Pc.C1 r i → At K Pc.C1 (does g Pc.C1 r i)
  kC1 i l = thus (subst (λ (y : ℕ). CountAt g mark st (plus y r.rcount) n (plus ticks 1) (set rows t (go_to Pc.K1 (taking 0 r)))) (sym l.x)
      (counts Pc.C1 l.place (open' Pc.C1 l.place (λ q. q)) (plus count r.rcount) (go_to Pc.K1 (taking 0 r)) ((count + r.rcount) / M) 0 (omega arith) (omega arith) (Balance.duty g mark st count n ticks rows I t ht hk (plus count r.rcount) n (go_to Pc.K1 (taking 0 r)) tt)))

  kK1 : (i : Seen) → Look g v t Pc.K1 r i → At K Pc.K1 (does g Pc.K1 r i)
  kK1 i l = thus (Balance.keeps g mark st count n ticks rows I t ht hk _ (sym (owes_is Pc.K1 l.place)) (λ o. inr l.x))

  kK2 : (i : Seen) → Look g v t Pc.K2 r i → At K Pc.K2 (does g Pc.K2 r i)
  kK2 i l =
      thus (pick_case (K Pc.K2) (over g r.count i.x) _ _ (λ _. Balance.keeps g mark st count n ticks rows I t ht hk _ (sym (owes_is Pc.K2 l.place)) (λ o. inr tt))
      (λ e. Balance.keeps g mark st count n ticks rows I t ht hk (checked (taking 0 r)) (owes-checked g (taking 0 r) ∙ sym (owes_is Pc.K2 l.place)) (λ o. inl (subst (λ (c : ℕ). over g c n ≡ false) (looks-is Pc.K2 l.place o) (subst (λ (y : ℕ). over g r.count y ≡ false) l.x e)))))

  kK3 : (i : Seen) → Look g v t Pc.K3 r i → At K Pc.K3 (does g Pc.K3 r i)
  kK3 i l = thus (pick_case (K Pc.K3) (eqb i.x r.count) _ _ (λ e. pick_all (K Pc.K3) i.flag _ _ lost (won (eqb-true i.x r.count e))) (λ _. lost))
    where
      lost : K Pc.K3 (becomes (go_to Pc.K2 (counting i.x r)))
      lost = Balance.keeps g mark st count n ticks rows I t ht hk (go_to Pc.K2 (counting i.x r)) (sym (owes_is Pc.K3 l.place)) (λ o. inr l.x)

      won : i.x ≡ r.count → K Pc.K3 (stores 0 (becomes (go_to Pc.K4 (taking r.count r))))
      won e = counts Pc.K3 l.place (open' Pc.K3 l.place (λ q. q)) 0 (go_to Pc.K4 (taking r.count r)) 0 0 (omega arith) (let a = l.x in omega arith) (inl (over_none g n))

  kE3 : (i : Seen) → Look g v t Pc.E3 r i → At K Pc.E3 (does g Pc.E3 r i)
  kE3 i l = thus (pick_case (K Pc.E3) (eqb i.x 0) _ _
      (λ e. counts Pc.E3 l.place (open' Pc.E3 l.place (λ q. q)) 0 idle 0 0 (omega arith) (let a = l.x in let b = eqb-true i.x 0 e in omega arith) (inl (over_none g n)))
      (λ e. counts Pc.E3 l.place (open' Pc.E3 l.place (λ q. q)) 0 (go_to Pc.B1 (taking i.x r)) 0 0 (omega arith) (let a = l.x in omega arith) (inl (over_none g n))))

  kN3 : (i : Seen) → Look g v t Pc.N3 r i → At K Pc.N3 (does g Pc.N3 r i)
  kN3 i l = thus (subst (λ (y : ℕ). CountAt g mark st count (plus y 1) (plus ticks 1) (set rows t idle)) (sym l.x)
      (Balance.recorded g mark st count n ticks rows I t ht hk idle hn (sym (owes_is Pc.N3 l.place)) (λ o. absurd (looks-is Pc.N3 l.place o)) (open' Pc.N3 l.place (λ q. q))))

  -- ---- states
  freed : (m : ℕ) → m < length st → get_or st m 0 ≡ 2 → waiting (set st m 0) + 1 ≡ waiting st
  freed m h w = let s = sum-set (λ x. eq01 x 2) st m 0 0 h in let a = ap (λ (x : ℕ). eq01 x 2) w in let b = eq01-same 2 in let c = eq01-other 0 2 (omega arith) in omega arith

  k_reclaim : (i : Seen) → Look g v t Pc.Reclaim r i → (r.reclaimable ≢ 0 → get_or st r.reclaimable 0 ≡ 2) → At K Pc.Reclaim (does g Pc.Reclaim r i)
  k_reclaim i l w =
      thus (let x : Row = freeing (reclaiming i.v r) in
      let nz : r.reclaimable ≢ 0 = (let a = l.reach in omega arith) in
      let f = freed r.reclaimable (let a = lv.state in let b = l.reach in omega arith) (w nz) in
      let o = owes-reclaimed g i.v x l.place in
      let m = open' Pc.Reclaim l.place (λ q. q) in
      Balance.puts g mark st count n ticks rows I t ht hk (set st r.reclaimable 0) count (after_free g i.v x)
      (λ z. Balance.balanced g mark st count n ticks rows I t ht hk (set st r.reclaimable 0) count (after_free g i.v x) ((r.rcount + (M - 1)) / M) 1 (let a = owes_is Pc.Reclaim l.place in omega arith) z)
      (Balance.lower g mark st count n ticks rows I t ht hk (after_free g i.v x) (λ q. absurd (looks-is Pc.Reclaim l.place q))) (λ z. absurd (z m)) I.fits)

  kS2 : (i : Seen) → Look g v t Pc.S2 r i → (r.reclaimable ≢ 0 → get_or st r.reclaimable 0 ≡ 2) → At K Pc.S2 (does g Pc.S2 r i)
  kS2 i l w =
      thus (let nz : r.reclaimable ≢ 0 = (let a = l.reach in omega arith) in
      let f = freed r.reclaimable (let a = lv.state in let b = l.reach in omega arith) (w nz) in
      let m = (all-shut-rows g v Z t ht Pc.S2 l.place (λ q. q)).0 in
      Balance.puts g mark st count n ticks rows I t ht hk (set st r.reclaimable 0) count _ (λ z. absurd (m z)) (Balance.lower g mark st count n ticks rows I t ht hk _ (λ q. absurd (looks-is Pc.S2 l.place q))) (λ z. omega arith) I.fits)

  k_swap : (i : Seen) → Look g v t Pc.Swap r i → At K Pc.Swap (does g Pc.Swap r i)
  k_swap i l =
      thus (pick_all (K Pc.Swap) (eqb i.w 2) _ _ still
      (pick_case (K Pc.Swap) (eqb r.node 0) _ _ (λ _. still)
      (λ e. pick_case (K Pc.Swap) (eqb i.w 0) _ _ (λ q. live (swap_free l e (eqb-true i.w 0 q)) (let a = lv.state in let b = l.small.node in omega arith)) (λ _. still))))
    where
      still : CountAt g mark st count n (plus ticks 1) (set rows t idle)
      still = goes Pc.Swap l.place (λ q. q) idle refl

      live : get_or st r.node 0 ≡ 0 → r.node < length st → CountAt g mark (set st r.node 1) count n (plus ticks 1) (set rows t idle)
      live z h =
          let s = sum-set (λ x. eq01 x 2) st r.node 1 0 h in
          let a = ap (λ (x : ℕ). eq01 x 2) z in
          let b = eq01-other 0 2 (omega arith) in
          let c = eq01-other 1 2 (omega arith) in
          let o = owes_is Pc.Swap l.place in
          Balance.puts g mark st count n ticks rows I t ht hk (set st r.node 1) count idle (λ m. Balance.balanced g mark st count n ticks rows I t ht hk (set st r.node 1) count idle 0 0 (omega arith) m)
          (Balance.lower g mark st count n ticks rows I t ht hk idle (λ q. absurd (looks-is Pc.Swap l.place q))) (λ m. omega arith) I.fits

  kS3 : (i : Seen) → Look g v t Pc.S3 r i → At K Pc.S3 (does g Pc.S3 r i)
  kS3 i l =
      thus (let m = (all-shut-rows g v Z t ht Pc.S3 l.place (λ q. q)).0 in
      let b = goes Pc.S3 l.place (λ q. q) idle refl in
      record { balance = λ z. absurd (let q : ◌≡◌ {A = ℕ} 2 0 = z in omega arith); low = b.low; few = λ _. b.few m; fits = b.fits; early = b.early })

  -- ---- every place
  pub count-place : (p : Pc) (i : Seen) → Look g v t p r i → (r.reclaimable ≢ 0 → get_or st r.reclaimable 0 ≡ 2) → K p (does g p r i)
  count-place p i l w = (every (λ (p : Pc). Look g v t p r i → r.place ≡ code p → At K p (does g p r i)) (search (two, kT3, kC1, kK1, kK2, kK3, kE3, kN3, k_reclaim, kS2, k_swap, kS3, either, leaf, stays, owing, owes-passed g, owes-checked g, owes-emptied g, owes_from g, owes-examined g, all-shut (λ (x : Row). owes x ≡ 0) g) depth 16 fits 8000) p l l.place).holds

  pub count-ends : (m : ℕ) → (pc_of r.place ≡ Pc.N1) ⊎ (pc_of r.place ≡ Pc.Swap) → CountIn g (applies t cell.Nothing (ends m) v)
  count-ends m w = Balance.keeps g mark st count n ticks rows I t ht hk idle (sym (at w)) (λ o. absurd (none w o))
    where
      at : (pc_of r.place ≡ Pc.N1) ⊎ (pc_of r.place ≡ Pc.Swap) → owes r ≡ 0
      at (inl e) = ap (λ (q : Pc). owes_of (owe q) r.rcount) e
      at (inr e) = ap (λ (q : Pc). owes_of (owe q) r.rcount) e

      none : (pc_of r.place ≡ Pc.N1) ⊎ (pc_of r.place ≡ Pc.Swap) → Looks count r → ⊥
      none (inl e) o = subst (λ (q : Pc). LooksOf (owe q) count r.count) e o
      none (inr e) o = subst (λ (q : Pc). LooksOf (owe q) count r.count) e o

-- ---- the bound: with no thread inside, few nodes wait
pub waiting-le : (l : List ℕ) → waiting l ≤ length l
waiting-le [] = omega arith
waiting-le (x ∷ l) = let a = waiting-le l in let b = eq01-le x 2 in omega arith

module _ (g : Settings) (v : View) (I : CountIn g v) (hn : v.counters.record_count ≤ records) (lv : Long v) (idles : (u : ℕ) → u < length v.rows → (row_in v u).place ≡ 0) where
  none-owed : (l : List Row) → ((u : ℕ) → u < length l → (get_or l u idle).place ≡ 0) → sum owes l ≡ 0
  none-owed [] h = refl
  none-owed (x ∷ l) h = let a : owes x ≡ 0 = ap (λ (q : ℕ). owes_of (owe (pc_of q)) x.rcount) (h 0 (omega arith)) in let b = none-owed l (λ u hu. h (suc u) (omega arith)) in omega arith

  open_few : v.heads.mark ≡ 0 → waiting v.nodes.state ≤ max g.floor (2 * v.counters.record_count)
  open_few m = go I.low
    where
      small : waiting v.nodes.state ≤ nodes + 1
      small = let a = waiting-le v.nodes.state in let b = lv.state in omega arith

      same : v.counters.count ≡ waiting v.nodes.state
      same = let B = I.balance m in let a = B.bal in let b = none-owed v.rows idles in let c = I.fits in let d = small in omega arith

      go : Low g v.counters.count v.counters.record_count v.rows → waiting v.nodes.state ≤ max g.floor (2 * v.counters.record_count)
      go (inl z) =
          let b = I.early in
          let c = small in
          let d = same in
          let e = ltb-false (max g.floor (2 * v.counters.record_count)) v.counters.count (sym (over_plain g v.counters.count v.counters.record_count (omega arith) (omega arith)) ∙ z) in omega arith
      go (inr w) = absurd (subst (λ (q : ℕ). LooksOf (owe (pc_of q)) v.counters.count (get_or v.rows w.0 idle).count) (idles w.0 w.1) w.2)

  pub few : waiting v.nodes.state ≤ max g.floor (2 * v.counters.record_count)
  few = go (ℕ_discrete v.heads.mark 0)
    where
      go : Dec (v.heads.mark ≡ 0) → waiting v.nodes.state ≤ max g.floor (2 * v.counters.record_count)
      go (yes m) = open_few m
      go (no m) = I.few m

-- ---- starts: no step is counted
module _ (g : Settings) (v : View) (I : CountIn g v) (hn : v.counters.record_count ≤ records) (lv : Long v) (t : ℕ) (ht : t < length v.rows) (mark0 : v.heads.mark ≡ 0) (e : (row_in v t).place ≡ code Pc.Idle) where
  abbrev rows' : Row → List Row
  rows' x = set v.rows t x

  owed : owes (row_in v t) ≡ 0
  owed = ap (λ (q : ℕ). owes_of (owe (pc_of q)) (row_in v t).rcount) e

  lows : (x : Row) → Low g v.counters.count v.counters.record_count (rows' x)
  lows x = go I.low
    where
      go : Low g v.counters.count v.counters.record_count v.rows → Low g v.counters.count v.counters.record_count (rows' x)
      go (inl z) = inl z
      go (inr w) = at (ℕ_discrete w.0 t)
        where
          at : Dec (w.0 ≡ t) → Low g v.counters.count v.counters.record_count (rows' x)
          at (yes q) = absurd (subst (λ (k : ℕ). LooksOf (owe (pc_of k)) v.counters.count (row_in v t).count) e (subst (λ (u : ℕ). Looks v.counters.count (get_or v.rows u idle)) q w.2))
          at (no q) = inr (w.0, rw length-set w.1, rw (get_or-set_other v.rows t w.0 x idle q) w.2)

  begins-with : (st' : List ℕ) (x : Row) → owes x + waiting v.nodes.state ≡ waiting st' → CountAt g v.heads.mark st' v.counters.count v.counters.record_count v.counters.ticks (rows' x)
  begins-with st' x q = record {
    balance = λ m. let B = I.balance m in record { a = B.a; b = B.b; bal = let s = sum-set owes v.rows t x idle ht in let o = B.bal in let z = owed in omega arith };
    low = lows x;
    few = λ m. absurd (m mark0);
    fits = I.fits;
    early = I.early;
  }

  plain : (x : Row) → owes x ≡ 0 → CountAt g v.heads.mark v.nodes.state v.counters.count v.counters.record_count v.counters.ticks (rows' x)
  plain x q = begins-with v.nodes.state x (omega arith)

  retire : (m x : ℕ) → Admitted v t (Retire m x) → CountIn g (enters t (begins g (Retire m x)) v)
  unfolding begins
  retire m x a =
      let q = a.0 in
      let same : narrow m ≡ m = omega arith in
      let s = sum-set (λ y. eq01 y 2) v.nodes.state (narrow m) 2 0 (let b = lv.state in omega arith) in
      let w : get_or v.nodes.state (narrow m) 0 ≡ 1 = subst (λ (k : ℕ). get_or v.nodes.state k 0 ≡ 1) (sym same) a.1 in
      let b = ap (λ (y : ℕ). eq01 y 2) w in
      let c = eq01-same 2 in
      let d = eq01-other 1 2 (omega arith) in
      begins-with (set v.nodes.state (narrow m) 2) _ (omega arith)

  shutdown : Admitted v t Shutdown → length v.rows ≡ threads → CountIn g (enters t (begins g Shutdown) v)
  unfolding begins
  shutdown a hl =
      let b = plain (fresh_at 12 (code Pc.S1) 0 0 0 0 0) refl in
      record { balance = λ z. absurd (let q : ◌≡◌ {A = ℕ} 1 0 = z in omega arith); low = b.low; few = λ _. few g v I hn lv (λ u hu. a.0 u (rw hl at hu)); fits = b.fits; early = b.early }

  pub count_begin : (o : Operation) → Admitted v t o → length v.rows ≡ threads → CountIn g (enters t (begins g o) v)
  unfolding begins
  count_begin = every-start (λ (o : Operation). Admitted v t o → length v.rows ≡ threads → CountIn g (enters t (begins g o) v)) (search (two, plain, retire, shutdown))
