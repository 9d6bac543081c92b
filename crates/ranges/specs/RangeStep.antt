-- Every step and start keeps everything in its range, and what the layers know together is what a step needs not to meet 29.
use Rattle.std.specs.Prelude.{ℕ, suc, ◌≤◌, ◌<◌, ◌≡◌, refl, ◌≢◌, List, [], ◌∷◌, length, get_or}
use Rattle.std.proofs.Common.{sym, ap, ◌∙◌, subst, not-suc-le-zero}
use Rattle.std.proofs.Math.Decide.{dec_lt}
use native.Mathlib.Omega.{arith}
use Rattle.rules.specs.Sizes.{nodes, threads, Settings}
use Rattle.rules.specs.Words.{shard_of}
use Rattle.rules.specs.Pc.{pc_of, code}
use Rattle.rules.specs.declared.pc.Pc.{Pc}
use Rattle.rules.specs.declared.pc.Pc.TheVariants as Pc
use Rattle.rules.specs.Rows.{idle}
use Rattle.rules.specs.Places.{accesses, does, ends}
use Rattle.rules.specs.Start.{begins}
use Rattle.rules.specs.declared.Operation.{Operation}
use Rattle.rules.specs.declared.Operation.TheVariants.{Acquire, Release, Protect, Try, TryProtect, Reset, Raw, Swap, Retire, Eager, Cleanup, Shutdown}
use Rattle.rules.specs.declared.Row.{Row}
use Rattle.rules.specs.declared.Seen.{Seen}
use Rattle.rules.specs.declared.Entry.{Entry}
use Rattle.rules.specs.declared.Named.TheVariants as cell
use Rattle.lists.specs.Occ.{sum}
use Rattle.view.specs.Every.{pc_is}
use Rattle.view.specs.View.{View, named, applies, enters}
use Rattle.view.specs.Ranges.{limit}
use Rattle.view.specs.Turn.{row_in, Look, seen_of, Whole, InRange}
use Rattle.view.specs.Begin.{Admitted}
use Rattle.heap.specs.Stage.{Allowed, HeapIn, ShapeOf, stage}
use Rattle.records.specs.Hold.{Hold, hold, lock_of, lock, KnowOf, RecordsIn}
use Rattle.claims.specs.Claim.{ClaimsIn, SafeOf, scan}
use Rattle.ranges.specs.Range.{Words, Below, below-idle, Ranges, applied, entered}
use Rattle.ranges.specs.Names.{Knows, Known, holds, reach, beyond}
use Rattle.ranges.specs.Right.{fine, right}
use Rattle.ranges.specs.Tests.{is_in_range}

-- ---- `head_available` is not the lock bit alone: who has the lock saw a record there
some-lock : (l : List Row) → 0 < sum lock l → (u : ℕ) × (u < length l) × (0 < lock (get_or l u idle))
some-lock [] h = absurd (not-suc-le-zero h)
some-lock (x ∷ l) h = go (dec_lt 0 (lock x)) (some-lock l)
  where
    go : Dec (0 < lock x) → (0 < sum lock l → (u : ℕ) × (u < length l) × (0 < lock (get_or l u idle))) → (u : ℕ) × (u < suc (length l)) × (0 < lock (get_or (x ∷ l) u idle))
    go (yes q) f = (0, omega arith, q)
    go (no q) f = let w = f (omega arith) in (suc w.0, omega (arith, w.1), w.2)

lock_knows : (p : Hold) (ha : ℕ) (avn ho : List ℕ) (t rec nx : ℕ) → 0 < lock_of p → KnowOf p ha avn ho t rec nx → ha ≢ 1
lock_knows Hold.free ha avn ho t rec nx h k = absurd (not-suc-le-zero h)
lock_knows Hold.looks ha avn ho t rec nx h k = absurd (not-suc-le-zero h)
lock_knows Hold.locks ha avn ho t rec nx h k = omega arith
lock_knows Hold.popped ha avn ho t rec nx h k = omega arith
lock_knows Hold.dirty ha avn ho t rec nx h k = absurd (not-suc-le-zero h)
lock_knows Hold.clear ha avn ho t rec nx h k = absurd (not-suc-le-zero h)
lock_knows Hold.aims ha avn ho t rec nx h k = absurd (not-suc-le-zero h)
lock_knows Hold.pends ha avn ho t rec nx h k = absurd (not-suc-le-zero h)
lock_knows Hold.owns ha avn ho t rec nx h k = absurd (not-suc-le-zero h)

not-bit : (v : View) → RecordsIn v → v.heads.head_available ≢ 1
not-bit v R e =
    let w = some-lock v.rows (let a = R.cell in let b = R.lockle in let c = R.locked in omega arith) in
    lock_knows (hold (pc_of (get_or v.rows w.0 idle).place)) v.heads.head_available v.records.available_next v.records.holder w.0 (get_or v.rows w.0 idle).rec (get_or v.rows w.0 idle).next w.2 (R.know w.0 w.1) e

module _ (g : Settings) (A : Allowed g) (v : View) (ls : List (List ℕ)) (H : HeapIn g v ls) (R : RecordsIn v) (cl : List ℕ) (S : ClaimsIn v cl ls) (I : Ranges g v) (hl : length v.rows ≡ threads) where
  pub all_in_range : InRange v
  all_in_range = is_in_range v (holds g v I (not-bit v R))

  module _ (t : ℕ) (ht : t < threads) where
    abbrev r : Row
    r = row_in v t

    inside : t < length v.rows
    inside = rw hl ht

    is : (p : Pc) → r.place ≡ code p → pc_of r.place ≡ p
    is p e = pc_is p e

    known : r.place ≢ 0 → Known g v t r
    known nz = record {
      allowed = A;
      thread = ht;
      inside = nz;
      fit = I.rows t inside;
      held = holds g v I (not-bit v R);
      know = λ p e. subst (λ (q : Pc). Knows v t r (hold q)) (is p e) (R.know t inside);
      shape = λ p e. subst (λ (q : Pc). ShapeOf g (stage q) r) (is p e) (H.shape t inside);
      scan = λ e. (subst (λ (q : Pc). SafeOf (scan q) v.records.next v.heads.record_head v.guards cl ls t r.rec) (is Pc.H2 e) (S.safe t inside)).2;
    }

    pub whole : r.place ≢ 0 → Whole g v t r
    whole nz = let K = known nz in record {
      reach = reach g v t r K;
      beyond = beyond g v t r K;
      also = λ p i l. (right g v t r K p i l).also;
      fine = fine g v t r K;
    }

    pub range-place : (p : Pc) (i : Seen) → Look g v t p r i → Ranges g (applies t (named (accesses p r)) (does g p r i) v)
    range-place p i l =
        let nz : r.place ≢ 0 = λ e. let q : 29 < 16 = subst (λ (q : Pc). (does g q r i).number < 16) (sym (is p l.place) ∙ ap pc_of e) l.low in omega arith in
        let k = right g v t r (known nz) p i (seen_of l) in
        applied g v t (named (accesses p r)) (does g p r i) inside k.put k.to k.row I

    pub range-ends : (n : ℕ) → Ranges g (applies t cell.Nothing (ends n) v)
    range-ends n = applied g v t cell.Nothing (ends n) inside (omega arith) (omega arith) (record { words = omega arith; stolen = below-idle }) I

    module _ (hs : (x : ℕ) → shard_of g x < g.shards) where
      -- what a start puts, and its row, which has stolen nothing
      abbrev Enters : Entry → Type 0
      Enters e = ((e.put ≤ limit e.cell) × Words g e.row) × (e.row.stolen ≡ idle.stolen)

      begun : (o : Operation) → Admitted v t o → Enters (begins g o)
      unfolding begins
      begun Acquire a = (omega arith, refl)
      begun (Release x) a = (omega arith, refl)
      begun (Protect x b) a = (omega arith, refl)
      begun (Try x b n) a = (omega arith, refl)
      begun (TryProtect x b n) a = (omega arith, refl)
      begun (Reset x) a = (omega arith, refl)
      begun (Raw x n) a = (omega arith, refl)
      begun (Swap b n) a = (omega arith, refl)
      begun (Retire n x) a = let q = hs x in (omega arith, refl)
      begun Eager a = (omega arith, refl)
      begun Cleanup a = (omega arith, refl)
      begun Shutdown a = (omega arith, refl)

      pub range_begin : (o : Operation) → Admitted v t o → Ranges g (enters t (begins g o) v)
      range_begin o a = let b = begun o a in entered g v t (begins g o) inside b.0.0 (record { words = b.0.1; stolen = subst (Below nodes) (sym b.1) below-idle }) I
