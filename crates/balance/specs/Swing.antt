-- How far `count` and what the threads have taken from it are from 0, as signed numbers: together within the steps counted, as each step moves one of them by one at most.
use Rattle.std.specs.Prelude.{◌≡◌, refl, ◌⊎◌, List, ℕ, ◌+◌, ◌-◌, ◌%◌, ◌≤◌, ◌<◌, min, eqb, length, set}
use Rattle.std.proofs.Common.{sym, ap, ◌∙◌, inl, inr, arith, eqb-true}
use Rattle.std.proofs.Math.Decide.{dec_lt}
use Rattle.rules.specs.Sizes.{steps, Settings}
use Rattle.rules.specs.Words.{plus, less}
use Rattle.rules.specs.Pc.{pc_of, code}
use Rattle.rules.specs.declared.pc.Pc.{Pc}
use Rattle.rules.specs.declared.pc.Pc.TheVariants as Pc
use Rattle.rules.specs.Rows
use Rattle.rules.specs.Rows.{idle}
use Rattle.rules.specs.Places.{accesses, does, ends}
use Rattle.rules.specs.Start.{begins}
use Rattle.rules.specs.declared.Operation.{Operation}
use Rattle.rules.specs.declared.Row.{Row}
use Rattle.rules.specs.declared.Seen.{Seen}
use Rattle.rules.specs.declared.Effect.{Effect}
use Rattle.rules.specs.declared.Named.TheVariants as cell
use Rattle.lists.specs.Occ.{sum, sum-set}
use Rattle.view.specs.View.{View, named, applies, enters}
use Rattle.view.specs.Every.{pc_is, every, every-start, two, At, thus, thence, either, pick_all, pick_case}
use Rattle.view.specs.Rest.{all-passed, all-checked, all-emptied, all_from, all-examined, all-reclaimed, all-shut}
use Rattle.view.specs.Turn.{row_in, Look}
use Rattle.balance.specs.Balance.{Owe, owe, M}

-- the distance from 0 of a word that is read as a signed number
unfoldable pub size : ℕ → ℕ
size x = min (x % M) (M - x % M)

pub size_0 : size 0 ≡ 0
unfolding size
size_0 = refl

-- each beside its distance from 2^64, so that nothing is subtracted
near : (a b d a' b' d' : ℕ) → a + a' ≡ M → b + b' ≡ M → d + d' ≡ M → (d ≡ a + b) ⊎ (d + M ≡ a + b) → min d d' ≤ min a a' + min b b'
near a b d a' b' d' p q r (inl e) = omega arith
near a b d a' b' d' p q r (inr e) = omega arith

size-plus : (x y : ℕ) → size (plus x y) ≤ size x + size y
unfolding size
size-plus x y = near (x % M) (y % M) (plus x y % M) (M - x % M) (M - y % M) (M - plus x y % M) (omega arith) (omega arith) (omega arith) (wraps (dec_lt (x % M + y % M) M))
  where
    wraps : Dec (x % M + y % M < M) → (plus x y % M ≡ x % M + y % M) ⊎ (plus x y % M + M ≡ x % M + y % M)
    wraps (yes q) = inl (omega arith)
    wraps (no q) = inr (omega arith)

size_1 : size 1 ≡ 1
unfolding size
size_1 = refl

-- one less is 2^64 - 1 more
size-last : size (M - 1) ≡ 1
unfolding size
size-last = refl

size_less : (x : ℕ) → size (less x 1) ≤ size x + 1
size_less x = let a = size-plus x (M - 1) in let b = size-last in omega arith

-- a word within n of 0 is at most n, or at most n below 2^64
pub near-zero : (x n : ℕ) → x < M → size x ≤ n → (x ≤ n) ⊎ (M ≤ x + n)
unfolding size
near-zero x n h k = go (dec_lt n x)
  where
    go : Dec (n < x) → (x ≤ n) ⊎ (M ≤ x + n)
    go (yes q) = inr (omega arith)
    go (no q) = inl (omega arith)

-- what a thread has taken and not given back
abbrev pub swing_of : Owe → ℕ → ℕ
swing_of Owe.nothing rcount = 0
swing_of Owe.one rcount = 0
swing_of Owe.taken rcount = size rcount
swing_of Owe.looking rcount = 0
swing_of Owe.saw rcount = 0

abbrev pub swing : Row → ℕ
swing r = swing_of (owe (pc_of r.place)) r.rcount

abbrev pub SwingAt : ℕ → ℕ → List Row → Type 0
SwingAt ticks count rows = size count + sum swing rows ≤ ticks

abbrev pub SwingIn : View → Type 0
SwingIn v = SwingAt v.counters.ticks v.counters.count v.rows

module _ (g : Settings) (v : View) (I : SwingIn v) (t : ℕ) (ht : t < length v.rows) where
  abbrev r : Row
  r = row_in v t

  abbrev c : ℕ
  c = v.counters.count

  -- a start's row has taken nothing
  begins-with : (x : Row) → swing x ≡ 0 → SwingAt v.counters.ticks c (set v.rows t x)
  begins-with x e = let s = sum-set swing v.rows t x idle ht in let a = I in omega arith

  pub swing_begin : (o : Operation) → SwingIn (enters t (begins g o) v)
  unfolding begins
  swing_begin = every-start (λ (o : Operation). SwingIn (enters t (begins g o) v)) (search (two, begins-with, size_0))

  module _ (hk : v.counters.ticks < steps) where
    abbrev K : Pc → Effect → Type 0
    K p e = SwingIn (applies t (named (accesses p r)) e v)

    sit : (n : ℕ) (x : Row) → size n + swing x ≤ size c + swing r + 1 → SwingAt (plus v.counters.ticks 1) n (set v.rows t x)
    sit n x h = let s = sum-set swing v.rows t x idle ht in let a = I in omega arith

    held : (p : Pc) (x : Row) → x.place ≡ code p → swing x ≡ swing_of (owe p) x.rcount
    held p x e = ap (λ (q : Pc). swing_of (owe q) x.rcount) (pc_is p e)

    pub swing-ends : (m : ℕ) → SwingIn (applies t cell.Nothing (ends m) v)
    swing-ends m = sit c idle (omega arith)

    -- a row that has taken no more than the thread had
    record Taken (x : Row) : Type 0 where
      pub le : swing x ≤ swing r

    kept : {n : ℕ} (x : Row) → swing r ≡ n → swing x ≡ n → Taken x
    kept x a b = record { le = omega arith }

    none : (x : Row) → swing x ≡ 0 → Taken x
    none x a = record { le = omega arith }

    stays : (x : Row) → x.place ≡ r.place → x.rcount ≡ r.rcount → Taken x
    stays x a b = record { le = let q : swing x ≡ swing r = ap (λ (m : ℕ). swing_of (owe (pc_of m)) x.rcount) a ∙ ap (swing_of (owe (pc_of r.place))) b in omega arith }

    leaf : {p : Pc} {e : Effect} → SwingAt (plus v.counters.ticks 1) c (set v.rows t e.row) ≡ K p e → Taken e.row → At K p e
    leaf {p} {e} q h = thence q (sit c e.row (let a = h.le in omega arith))

    -- ---- the places that move the count, or reclaim
    kT3 : (i : Seen) → Look g v t Pc.T3 r i → At K Pc.T3 (does g Pc.T3 r i)
    kT3 i l = thus (sit _ _ (let a : size i.x ≡ size c = ap size l.x in let b = size-plus i.x 1 in let d = size_1 in omega arith))

    kK3 : (i : Seen) → Look g v t Pc.K3 r i → At K Pc.K3 (does g Pc.K3 r i)
    kK3 i l = let d = size_0 in pick_case (At K Pc.K3) (eqb i.x r.count) _ _ (λ e. pick_all (At K Pc.K3) i.flag _ _ (thus (sit c _ (omega arith))) (thus (sit 0 _ (let a : size r.count ≡ size c = ap size (sym (eqb-true i.x r.count e) ∙ l.x) in omega arith)))) (λ _. thus (sit c _ (omega arith)))

    kE3 : (i : Seen) → Look g v t Pc.E3 r i → At K Pc.E3 (does g Pc.E3 r i)
    kE3 i l = let d = size_0 in pick_all (At K Pc.E3) (eqb i.x 0) _ _ (thus (sit 0 _ (omega arith))) (thus (sit 0 _ (let a : size i.x ≡ size c = ap size l.x in omega arith)))

    k_reclaim : (i : Seen) → Look g v t Pc.Reclaim r i → At K Pc.Reclaim (does g Pc.Reclaim r i)
    k_reclaim i l =
        let o = held Pc.Reclaim r l.place in
        let b = size_less r.rcount in
        let e = held Pc.Reclaim (Rows.freeing (Rows.reclaiming i.v r)) l.place in
        thus (all-reclaimed (λ (x : Row). SwingAt (plus v.counters.ticks 1) c (set v.rows t x)) g _ _ (sit c _ (omega arith)) (λ j. sit c _ (omega arith)) (sit c _ (omega arith)))

    kC1 : (i : Seen) → Look g v t Pc.C1 r i → At K Pc.C1 (does g Pc.C1 r i)
    kC1 i l = thus (sit _ _ (let o = held Pc.C1 r l.place in let a : size i.x ≡ size c = ap size l.x in let b = size-plus i.x r.rcount in omega arith))

    pub swing-place : (p : Pc) (i : Seen) → Look g v t p r i → K p (does g p r i)
    swing-place p i l = (every (λ (p : Pc). Look g v t p r i → swing r ≡ swing_of (owe p) r.rcount → At K p (does g p r i)) (search (two, kT3, kK3, kE3, k_reclaim, kC1, either, leaf, size_0, stays, none, kept, pick_all Taken, all-passed Taken g, all-checked Taken g, all-emptied Taken g, all_from Taken g, all-examined Taken g, all-shut Taken g) depth 16 fits 8000) p l (held p r l.place)).holds
