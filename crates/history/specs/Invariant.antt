-- The invariant of every run: the layers together, on the state and on its history.
use Rattle.std.specs.Prelude.{◌≡◌, refl, ◌≢◌, ◌⊎◌, List, [], ◌∷◌, ℕ, zero, suc, ◌+◌, ◌^◌, ◌≤◌, ◌<◌, length, get_or, set}
use Rattle.std.proofs.Common.{sym, ap, ◌∙◌, subst, inl, inr, zero-add, get_or-set_same, get_or-set_other, ne_eqb, lt-ltb}
use Rattle.std.proofs.Math.Bool.{false}
use Rattle.std.proofs.Math.Decide.{ℕ_discrete}
use native.Mathlib.Omega.{arith}
use Rattle.std.proofs.Math.Dec.{eqb}
use Rattle.std.proofs.lemmas.Bool.{eqb-false}
use Rattle.rules.specs.Sizes.{threads, words, Settings, base}
use Rattle.rules.specs.Words.{shard_of}
use Rattle.rules.specs.Pc.{pc_of, code}
use Rattle.rules.specs.declared.pc.Pc.{Pc}
use Rattle.rules.specs.declared.pc.Pc.TheVariants as Pc
use Rattle.rules.specs.Rows.{idle}
use Rattle.rules.specs.Places.{accesses, does}
use Rattle.rules.specs.Step.{State, Out, answer, step_of}
use Rattle.rules.specs.Start.{start_of, begins, narrow}
use Rattle.rules.specs.declared.Operation.{Operation}
use Rattle.rules.specs.declared.Operation.TheVariants.{Acquire, Release, Protect, Try, TryProtect, Reset, Raw, Swap, Retire, Eager, Cleanup, Shutdown}
use Rattle.rules.specs.declared.answer.Answer.{Answer}
use Rattle.rules.specs.declared.Row.{Row}
use Rattle.rules.specs.declared.Seen.{Seen}
use Rattle.bits.specs.BitLaws.{shard-below}
use Rattle.lists.specs.Occ.{eq01, eq01-same, eq01-other, sum}
use Rattle.lists.specs.Heap.{waits}
use Rattle.lists.specs.Each.{Each, each-put}
use Rattle.view.specs.Every.{pc_is, every-start, two}
use Rattle.view.specs.View.{View, view_of, named, applies, enters}
use Rattle.view.specs.Given.{Sized, guard_words}
use Rattle.view.specs.Long.{long}
use Rattle.view.specs.Turn.{Turn, Look, row_in, row-view, step_turn}
use Rattle.view.specs.Begin.{Begin, Admitted, start_begin}
use Rattle.heap.specs.Stage.{Allowed, HeapIn}
use Rattle.heap.specs.HeapStep.{Next, heap-place, heap-ends, heap_begin, begun_lists}
use Rattle.records.specs.Hold.{Hold, hold, RecordsIn}
use Rattle.records.specs.RecordStep.{record_place, record_ends, record_begin}
use Rattle.shutdown.specs.Zone.{ZoneIn, zone-place, zone-ends, zone_begin, all-shut-rows, shut-free}
use Rattle.balance.specs.Balance.{CountIn}
use Rattle.balance.specs.CountStep.{count-place, count-ends, count_begin}
use Rattle.balance.specs.Used.{UsedIn, used-place, used-ends, used_begin}
use Rattle.balance.specs.Tally.{TallyIn, tally-place, tally-ends, tally_begin}
use Rattle.balance.specs.Total.{TotalIn, total-place, total-ends, total_begin}
use Rattle.balance.specs.Swing.{SwingIn, swing-place, swing-ends, swing_begin}
use Rattle.claims.specs.Claim.{ClaimsIn}
use Rattle.ranges.specs.Range.{Ranges}
use Rattle.ranges.specs.RangeStep.{range-place, range-ends, range_begin}
use Rattle.claims.specs.ClaimStep.{claim-place, claim-ends, claim_begin, reclaim-waits}
use Rattle.history.specs.Demand3.{fresh, row, Move, act, Event, event_by, event_of, event, Run, claims, retirements, reclamations}
use Rattle.history.specs.Fresh.{nothing, fresh-view, fresh-sized, fresh-heap, fresh-records, fresh-zone, fresh-count, fresh-used, fresh-tally, fresh-total, fresh-swing, fresh-claims, fresh-ranges, fresh-aims, fresh-waits}
use Rattle.history.specs.Heard.{tells, Aims, heard}
use Rattle.history.specs.Told.{Told, told}

-- settings as document 02 may choose them, with a shard rule that stays among them
pub record Chosen (g : Settings) : Type 0 where
  pub allowed : Allowed g
  pub shard : (x : ℕ) → shard_of g x < g.shards

-- 1, 2, 4 or 8 shards are such
pub chosen : (g : Settings) (k : ℕ) → k ≤ 3 → g.shards ≡ 2 ^ k → Chosen g
chosen g k h e = record { allowed = range k h e; shard = λ x. shard-below g k x e }
  where
    range : (k : ℕ) → k ≤ 3 → g.shards ≡ 2 ^ k → Allowed g
    range zero h e = record { some = omega arith; most = omega arith }
    range (suc zero) h e = record { some = omega arith; most = omega arith }
    range (suc (suc zero)) h e = record { some = omega arith; most = omega arith }
    range (suc (suc (suc zero))) h e = record { some = omega arith; most = omega arith }
    range (suc (suc (suc (suc k)))) h e = absurd (omega arith)

pub chosen-base : Chosen base
chosen-base = chosen base 3 (omega arith) refl

pub record InvAt (g : Settings) (v : View) (h : List Event) : Type 0 where
  pub lists : List (List ℕ)
  pub heap : HeapIn g v lists
  pub records : RecordsIn v
  pub zone : ZoneIn v
  pub count : CountIn g v
  pub used : UsedIn v
  pub tally : TallyIn v
  pub total : TotalIn v
  pub swing : SwingIn v
  pub claim : ClaimsIn v (claims h) lists
  pub ranges : Ranges g v
  pub aims : Each idle (Aims h) v.rows
  pub ledger : (n : ℕ) → sum (retirements n) h ≡ sum (reclamations n) h + waits v.nodes.state n

pub record Inv (g : Settings) (s : State) (h : List Event) : Type 0 where
  pub sized : Sized s
  pub at : InvAt g (view_of s) h

-- nothing happened
quietly : (g : Settings) (v : View) (h : List Event) (e : Event) → e ≡ Event.quiet → InvAt g v h → InvAt g v (e ∷ h)
quietly g v h e q I = subst (λ (x : Event). InvAt g v (x ∷ h)) (sym q) (record { lists = I.lists; heap = I.heap; records = I.records; zone = I.zone; count = I.count; used = I.used; tally = I.tally; total = I.total; swing = I.swing; claim = I.claim; ranges = I.ranges; aims = I.aims; ledger = λ n. let a = I.ledger n in omega arith })

-- an answer from 16 on is no event
none-by : (t : ℕ) (p : Pc) (r : Row) (n : ℕ) → 16 ≤ n → event_by t p r (answer n 0) ≡ Event.quiet
none-by t p r n h = rw (ne_eqb n 4 (omega arith), lt-ltb 15 n (omega arith))

module _ (g : Settings) (C : Chosen g) (s : State) (h : List Event) (I : Inv g s h) where
  abbrev v : View
  v = view_of s

  abbrev A : InvAt g v h
  A = I.at

  inside : (t : ℕ) → t < threads → t < length v.rows
  inside t q = rw (long s).rows q

  abbrev K : ℕ → State → Event → Type 0
  K t s' e = Inv g s' (e ∷ h)

  -- ---- a step that is taken
  module _ (t : ℕ) (ht : t < threads) (p : Pc) (i : Seen) (l : Look g v t p (row_in v t) i) where
    abbrev r : Row
    r = row_in v t

    abbrev v' : View
    v' = applies t (named (accesses p r)) (does g p r i) v

    abbrev N : Next g v A.lists t p i v'
    N = heap-place g C.allowed v A.lists A.heap t (inside t ht) p i l

    gw : length (get_or v.guards t []) ≡ words
    gw = guard_words s I.sized t ht

    free : p ≡ Pc.S3 → (u : ℕ) → u < length v.rows → hold (pc_of (get_or v.rows u idle).place) ≡ Hold.free
    free e u hu = shut-free (pc_of (get_or v.rows u idle).place) ((all-shut-rows g v A.zone t (inside t ht) Pc.S3 (l.place ∙ ap code e) (λ q. q)).1 u hu)

    w : r.reclaimable ≢ 0 → get_or v.nodes.state r.reclaimable 0 ≡ 2
    w = reclaim-waits g v A.lists A.heap A.records A.zone (claims h) A.claim (long s) t (inside t ht) gw

    T : Told v t h p (does g p r i)
    T = told g v (long s) t h (A.aims t (inside t ht)) p i l w

    taken : InvAt g v' (tells v t p (does g p r i) ∷ h)
    taken = record {
      lists = N.lists;
      heap = N.inv;
      records = record_place g v A.records t (inside t ht) p i l free;
      zone = zone-place g v A.zone t (inside t ht) p i l;
      count = count-place g v A.count A.zone A.used.most (long s) t (inside t ht) l.early p i l w;
      used = used-place g v A.used (long s) t (inside t ht) A.records A.zone p i l;
      tally = tally-place g v A.tally (long s).rows t (inside t ht) p i l;
      total = total-place g v A.total t (inside t ht) l.early p i;
      swing = swing-place g v A.swing t (inside t ht) l.early p i l;
      claim = subst (λ (c : List ℕ). ClaimsIn v' c N.lists) (sym T.claim) (claim-place g v A.lists A.heap A.records A.zone (claims h) A.claim (long s) t (inside t ht) gw p i l N);
      ranges = range-place g C.allowed v A.lists A.heap A.records (claims h) A.claim A.ranges (long s).rows t ht p i l;
      aims = (heard g v t (inside t ht) h A.aims p i l.place).aims;
      ledger = λ n. let a = A.ledger n in let b = T.waiting n in let c = T.retire n in omega arith;
    }

  -- the row of the tables is the view's
  seen-row : (t : ℕ) (o : Out) → t < threads → Inv g o.state (event_by t (pc_of (row_in v t).place) (row_in v t) o.answer ∷ h) → Inv g o.state (event_by t (pc_of (row s t).place) (row s t) o.answer ∷ h)
  seen-row t o ht = subst (λ (x : Row). Inv g o.state (event_by t (pc_of x.place) x o.answer ∷ h)) (row-view s t ht)

  step-inv : (t : ℕ) (o : Out) → Turn g s t o → Inv g o.state (event_by t (pc_of (row s t).place) (row s t) o.answer ∷ h)
  step-inv t o (Turn.stays n b x y e) = subst (λ (w : Out). Inv g w.state (event_by t (pc_of (row s t).place) (row s t) w.answer ∷ h)) (sym e) (record { sized = I.sized; at = quietly g v h _ (none-by t (pc_of (row s t).place) (row s t) n b) A })
  step-inv t o (Turn.stops n k w hk ht a e z d) = seen-row t o ht (record {
    sized = z;
    at = subst (λ (x : View). InvAt g x (event_by t (pc_of (row_in v t).place) (row_in v t) o.answer ∷ h)) (sym e)
        (quietly g _ h _ (ap (event_by t (pc_of (row_in v t).place) (row_in v t)) a ∙ none-by t (pc_of (row_in v t).place) (row_in v t) n (big k))
        (record {
          lists = A.lists;
          heap = heap-ends g C.allowed v A.lists A.heap t (inside t ht) n w;
          records = record_ends g v A.records t (inside t ht) n w;
          zone = zone-ends g v A.zone t (inside t ht) n w;
          count = count-ends g v A.count A.zone A.used.most (long s) t (inside t ht) hk n w;
          used = used-ends g v A.used (long s) t (inside t ht) n w;
          tally = tally-ends g v A.tally (long s).rows t (inside t ht) n w;
          total = total-ends g v A.total t (inside t ht) hk n;
          swing = swing-ends g v A.swing t (inside t ht) hk n;
          claim = claim-ends g v A.lists A.heap A.records A.zone (claims h) A.claim (long s) t (inside t ht) (guard_words s I.sized t ht) n w;
          ranges = range-ends g C.allowed v A.lists A.heap A.records (claims h) A.claim A.ranges (long s).rows t ht n;
          aims = each-put idle (Aims h) v.rows t idle (inside t ht) (λ q. absurd (omega arith)) A.aims;
          ledger = A.ledger;
        }));
  })
    where
      big : {n : ℕ} → (n ≡ 25) ⊎ (n ≡ 26) → 16 ≤ n
      big (inl q) = omega arith
      big (inr q) = omega arith
  step-inv t o (Turn.takes p i ht l a e z) = seen-row t o ht (record {
    sized = z;
    at = subst (λ (x : View). InvAt g x (event_by t (pc_of (row_in v t).place) (row_in v t) o.answer ∷ h)) (sym e)
        (subst (λ (x : Event). InvAt g (applies t (named (accesses p (row_in v t))) (does g p (row_in v t) i) v) (x ∷ h)) (sym (λ j. event_by t ((pc_is p l.place) j) (row_in v t) (a j))) (taken t ht p i l));
  })

  -- ---- a start
  begun_events : (t : ℕ) (o : Operation) → Admitted v t o → (claims (event_of (answer 1 0) o ∷ h) ≡ claims h)
      × ((n : ℕ) → retirements n (event_of (answer 1 0) o) + waits v.nodes.state n ≡ reclamations n (event_of (answer 1 0) o) + waits (enters t (begins g o) v).nodes.state n)
  unfolding begins
  begun_events t Acquire a = (refl, λ n. refl)
  begun_events t (Release x) a = (refl, λ n. refl)
  begun_events t (Protect x b) a = (refl, λ n. refl)
  begun_events t (Try x b n) a = (refl, λ n. refl)
  begun_events t (TryProtect x b n) a = (refl, λ n. refl)
  begun_events t (Reset x) a = (refl, λ n. refl)
  begun_events t (Raw x n) a = (refl, λ n. refl)
  begun_events t (Swap b n) a = (refl, λ n. refl)
  begun_events t (Retire n x) a = (refl, λ m. at m (ℕ_discrete m n))
    where
      same : narrow n ≡ n
      same = let q = a.0 in omega arith

      nb : n < length v.nodes.state
      nb = let q = a.0.1 in let b = (long s).state in omega arith

      at : (m : ℕ) → Dec (m ≡ n) → eq01 m n + waits v.nodes.state m ≡ 0 + waits (set v.nodes.state (narrow n) 2) m
      at m (yes e) = rw (same, e, get_or-set_same v.nodes.state n 2 0 nb, a.1) (let x = eq01-same n in let y = eq01-same 2 in let z = eq01-other 1 2 (omega arith) in omega arith)
      at m (no e) = rw (same, get_or-set_other v.nodes.state n m 2 0 e) (let x = eq01-other m n e in omega arith)
  begun_events t Eager a = (refl, λ n. refl)
  begun_events t Cleanup a = (refl, λ n. refl)
  begun_events t Shutdown a = (refl, λ n. refl)

  -- no start is at V2
  aims_begin : (t : ℕ) → t < threads → (o : Operation) → Each idle (Aims (event_of (answer 1 0) o ∷ h)) (enters t (begins g o) v).rows
  unfolding begins
  aims_begin t ht = every-start (λ (o : Operation). Each idle (Aims (event_of (answer 1 0) o ∷ h)) (enters t (begins g o) v).rows) (search (two, starts))
    where
      starts : (x : Row) → eqb x.place (code Pc.V2) ≡ false → Each idle (Aims h) (set v.rows t x)
      starts x e = each-put idle (Aims h) v.rows t x (inside t ht) (λ q. absurd (eqb-false x.place (code Pc.V2) e q)) A.aims

  none_of : (o : Operation) (n x : ℕ) → n ≢ 1 → event_of (answer n x) o ≡ Event.quiet
  none_of Acquire n x ne = refl
  none_of (Release c) n x ne = refl
  none_of (Protect c b) n x ne = refl
  none_of (Try c b m) n x ne = refl
  none_of (TryProtect c b m) n x ne = refl
  none_of (Reset c) n x ne = refl
  none_of (Raw c m) n x ne = refl
  none_of (Swap b m) n x ne = refl
  none_of (Retire m y) n x ne = rw (ne_eqb n 1 ne)
  none_of Eager n x ne = refl
  none_of Cleanup n x ne = refl
  none_of Shutdown n x ne = refl

  start-inv : (t : ℕ) (o : Operation) (w : Out) → Begin g s t o w → Inv g w.state (event_of w.answer o ∷ h)
  start-inv t o w (Begin.stays n b e) = subst (λ (x : Out). Inv g x.state (event_of x.answer o ∷ h)) (sym e) (record { sized = I.sized; at = quietly g v h _ (none_of o n 0 (omega arith)) A })
  start-inv t o w (Begin.nothing e) = subst (λ (x : Out). Inv g x.state (event_of x.answer o ∷ h)) (sym e) (record { sized = I.sized; at = quietly g v h _ (none_of o 2 0 (omega arith)) A })
  start-inv t o w (Begin.begun ht m q a ea e z) = record {
    sized = z;
    at = subst (λ (x : View). InvAt g x (event_of w.answer o ∷ h)) (sym e) (subst (λ (x : Answer). InvAt g (enters t (begins g o) v) (event_of x o ∷ h)) (sym ea)
        (let b = begun_events t o a in record {
          lists = begun_lists A.lists t o;
          heap = heap_begin g C.allowed v A.lists A.heap t (inside t ht) q o a (long s).next C.shard;
          records = record_begin g v A.records t (inside t ht) q o a;
          zone = zone_begin g v A.zone t (inside t ht) m o a (long s).rows;
          count = count_begin g v A.count A.used.most (long s) t (inside t ht) m q o a (long s).rows;
          used = used_begin g v A.used (long s) t (inside t ht) m q o a;
          tally = tally_begin g v A.tally (long s).rows t (inside t ht) q o;
          total = total_begin g v A.total t (inside t ht) o;
          swing = swing_begin g v A.swing t (inside t ht) o;
          claim = subst (λ (c : List ℕ). ClaimsIn (enters t (begins g o) v) c (begun_lists A.lists t o)) (sym b.0) (claim_begin g v A.lists A.heap A.records A.zone (claims h) A.claim (long s) t (inside t ht) (guard_words s I.sized t ht) q (long s).rows o a);
          ranges = range_begin g C.allowed v A.lists A.heap A.records (claims h) A.claim A.ranges (long s).rows t ht C.shard o a;
          aims = aims_begin t ht o;
          ledger = λ n. let x = A.ledger n in let y = b.1 n in omega arith;
        }));
  }

  pub inv-move : (m : Move) → Inv g (act g s m).state (event g s m ∷ h)
  inv-move (Move.start t o) = start-inv t o (start_of g s t o) (start_begin g s t o)
  inv-move (Move.step t flag clock) = step-inv t (step_of g s t flag clock) (step_turn g s t flag clock)

pub inv-fresh : (g : Settings) → Inv g fresh []
inv-fresh g = record {
  sized = fresh-sized;
  at = subst (λ (x : View). InvAt g x []) (sym fresh-view) (record { lists = _; heap = fresh-heap g; records = fresh-records; zone = fresh-zone; count = fresh-count g; used = fresh-used; tally = fresh-tally; total = fresh-total; swing = fresh-swing; claim = fresh-claims; ranges = fresh-ranges g; aims = fresh-aims; ledger = λ n. sym (zero-add (waits nothing.nodes.state n) ∙ fresh-waits n) });
}

-- every run meets the invariant
pub inv-run : (g : Settings) → Chosen g → {s : State} {h : List Event} → Run g s h → Inv g s h
inv-run g C Run.untouched = inv-fresh g
inv-run g C (Run.goes {s} {h} x m) = inv-move g C s h (inv-run g C x) m
