-- The balance of `count`: what is counted and what the threads owe is what waits; and who has yet to look at a count that is too high.
use Rattle.std.specs.Prelude.{◌≡◌, ◌≢◌, ◌⊎◌, false, List, [], ◌∷◌, ℕ, ◌+◌, ◌*◌, ◌-◌, ◌^◌, ◌≤◌, ◌<◌, max, eqb, length, get_or, set}
use Rattle.std.proofs.Math.Path.{refl, sym}
use Rattle.std.proofs.Common.{ap, ◌∙◌, subst, inl, inr, arith, length-set, get_or-set_same, get_or-set_other, eqb-true, ltb-false, le-ltb}
use Rattle.std.proofs.Math.Decide.{ℕ_discrete, dec_lt}
use Rattle.rules.specs.Sizes.{records, steps, Settings}
use Rattle.rules.specs.Words.{plus, over, threshold}
use Rattle.rules.specs.Pc.{pc_of, code}
use Rattle.rules.specs.declared.pc.Pc.{Pc}
use Rattle.rules.specs.declared.pc.Pc.TheVariants as Pc
use Rattle.rules.specs.Rows.{idle, shard_in, stolen_from}
use Rattle.rules.specs.Places.{checked, passed, emptied, examine_from, examined, after_free}
use Rattle.rules.specs.declared.Row.{Row}
use Rattle.counts.specs.CountLaws.{over_plain, negative-not-over}
use Rattle.lists.specs.Occ.{eq01, sum, sum-set}
use Rattle.view.specs.View.{View}
use Rattle.view.specs.Every.{pc_is, classed, pick_all, pick_case}

-- ---- what a thread owes: 1 for a node that it retires and has not counted; what it took from `count`, less what it has reclaimed since.
-- A thread at K1 or K3 owes nothing and will look at the count again, and so will one at K2, if the count is still what it saw
pub data Owe : Type 0 where
  nothing one taken looking saw : Owe

abbrev pub owe : Pc → Owe
owe =
    classed nothing
    ((Pc.T1, one) ∷ (Pc.T2, one) ∷ (Pc.T3, one) ∷ (Pc.K1, looking) ∷ (Pc.K2, saw) ∷ (Pc.K3, looking) ∷ (Pc.K4, taken) ∷ (Pc.B1, taken) ∷ (Pc.Steal, taken) ∷ (Pc.H1, taken) ∷ (Pc.H2, taken)
    ∷ (Pc.Examine, taken) ∷ (Pc.Reclaim, taken) ∷ (Pc.Empty, taken) ∷ (Pc.Push1, taken) ∷ (Pc.Push2, taken) ∷ (Pc.C1, taken) ∷ [])

abbrev pub owes_of : Owe → ℕ → ℕ
owes_of nothing rcount = 0
owes_of one rcount = 1
owes_of taken rcount = rcount
owes_of looking rcount = 0
owes_of saw rcount = 0

abbrev pub owes : Row → ℕ
owes r = owes_of (owe (pc_of r.place)) r.rcount

-- how many nodes wait
abbrev pub waiting : List ℕ → ℕ
waiting st = sum (λ x. eq01 x 2) st

abbrev pub M : ℕ
M = 18446744073709551616

-- the sums wrap at 64 bits, so that they agree up to multiples of 2^64
pub record Balance (st : List ℕ) (count : ℕ) (rows : List Row) : Type 0 where
  pub a : ℕ
  pub b : ℕ
  pub bal : count + sum owes rows + a * M ≡ waiting st + b * M

-- ---- a thread that will look at the count c
abbrev pub LooksOf : Owe → ℕ → ℕ → Type 0
LooksOf nothing c seen = ⊥
LooksOf one c seen = ⊥
LooksOf taken c seen = ⊥
LooksOf looking c seen = Unit {0}
LooksOf saw c seen = seen ≡ c

abbrev pub Looks : ℕ → Row → Type 0
Looks c r = LooksOf (owe (pc_of r.place)) c r.count

abbrev pub Low : Settings → ℕ → ℕ → List Row → Type 0
Low g count n rows = (over g count n ≡ false) ⊎ ((u : ℕ) × (u < length rows) × Looks count (get_or rows u idle))

pub record CountAt (g : Settings) (mark : ℕ) (st : List ℕ) (count n ticks : ℕ) (rows : List Row) : Type 0 where
  pub balance : mark ≡ 0 → Balance st count rows
  pub low : Low g count n rows
  -- from shutdown's start on `count` is let be, and the bound is carried
  pub few : mark ≢ 0 → waiting st ≤ max g.floor (2 * n)
  pub fits : count < M
  pub early : ticks ≤ steps

abbrev pub CountIn : Settings → View → Type 0
CountIn g v = CountAt g v.heads.mark v.nodes.state v.counters.count v.counters.record_count v.counters.ticks v.rows

-- ---- laws
pub over_none : (g : Settings) (n : ℕ) → over g 0 n ≡ false
unfolding over
over_none g n = le-ltb (threshold g n) 0 (omega arith)

-- one record more only raises the threshold
pub over-more : (g : Settings) (c n : ℕ) → n < 2 ^ 61 → over g c n ≡ false → over g c (plus n 1) ≡ false
over-more g c n h e = go (dec_lt c (2 ^ 63))
  where
    same : plus n 1 ≡ n + 1
    same = omega arith

    go : Dec (c < 2 ^ 63) → over g c (plus n 1) ≡ false
    go (yes q) = rw same (over_plain g c (n + 1) (omega arith) q ∙ le-ltb (max g.floor (2 * (n + 1))) c (let a = ltb-false (max g.floor (2 * n)) c (sym (over_plain g c n (omega arith) q) ∙ e) in omega arith))
    go (no q) = negative-not-over g c (plus n 1) (omega arith)

-- what the words for a pass owe
module _ (g : Settings) where
  pub owes-passed : (r : Row) → owes (passed r) ≡ r.rcount
  unfolding passed
  owes-passed r = pick_case (λ (x : Row). owes x ≡ r.rcount) (eqb r.rcount 0) _ _ (λ e. sym (eqb-true r.rcount 0 e)) (λ _. refl)

  pub owes-checked : (r : Row) → owes (checked r) ≡ r.rcount
  unfolding checked
  owes-checked r =
      pick_all (λ (x : Row). owes x ≡ r.rcount) (eqb r.done 0) _ _ (pick_case (λ (x : Row). owes x ≡ r.rcount) (eqb r.rcount 0) _ _ (λ e. sym (eqb-true r.rcount 0 e)) (λ _. refl))
      (pick_case (λ (x : Row). owes x ≡ r.rcount) (eqb r.rcount 0) _ _ (λ e. pick_all (λ (x : Row). owes x ≡ r.rcount) (eqb r.done 2) _ _ (sym (eqb-true r.rcount 0 e)) refl) (λ _. refl))

  pub owes-emptied : (r : Row) → owes (emptied r) ≡ r.rcount
  unfolding emptied
  owes-emptied r = pick_all (λ (x : Row). owes x ≡ r.rcount) (eqb r.unreclaimed 0) _ _ (owes-passed r) refl

  pub owes_from : (k : ℕ) (r : Row) → owes (examine_from g k r) ≡ r.rcount
  unfolding examine_from
  owes_from k r = pick_all (λ (x : Row). owes x ≡ r.rcount) (eqb (stolen_from r.stolen k (g.shards - k)) g.shards) _ _ refl refl

  pub owes_at : (p : Pc) (r : Row) → r.place ≡ code p → owe p ≡ taken → owes r ≡ r.rcount
  owes_at p r e q = ap (λ (x : Pc). owes_of (owe x) r.rcount) (pc_is p e) ∙ ap (λ (x : Owe). owes_of x r.rcount) q

  pub owes-examined : (n : ℕ) (r : Row) → r.place ≡ code Pc.Examine → owes (examined g n r) ≡ r.rcount
  unfolding examined
  owes-examined n r e = pick_all (λ (x : Row). owes x ≡ r.rcount) (eqb n 0) _ _ (pick_all (λ (x : Row). owes x ≡ r.rcount) (eqb r.reclaimable 0) _ _ (owes_from (shard_in r + 1) r) refl) (owes_at Pc.Examine r e refl)

  pub owes-reclaimed : (n : ℕ) (r : Row) → r.place ≡ code Pc.Reclaim → owes (after_free g n r) ≡ r.rcount
  unfolding after_free
  owes-reclaimed n r e = pick_all (λ (x : Row). owes x ≡ r.rcount) (eqb n 0) _ _ (owes_from (shard_in r + 1) r) (owes_at Pc.Reclaim r e refl)

-- ---- how the layer moves
module _ (g : Settings) (mark : ℕ) (st : List ℕ) (count n ticks : ℕ) (rows : List Row) (I : CountAt g mark st count n ticks rows) (t : ℕ) (ht : t < length rows) (hk : ticks < steps) where
  abbrev r : Row
  r = get_or rows t idle

  pub balanced : (st' : List ℕ) (count' : ℕ) (x : Row) (p q : ℕ) → count' + owes x + waiting st + p * M ≡ count + owes r + waiting st' + q * M → mark ≡ 0 → Balance st' count' (set rows t x)
  balanced st' count' x p q e m = let B = I.balance m in record { a = B.a + p; b = B.b + q; bal = let s = sum-set owes rows t x idle ht in let o = B.bal in omega arith }

  -- the count is as it was: the thread's own look, if it had one to do, is kept or done
  pub lower : (x : Row) → (Looks count r → (over g count n ≡ false) ⊎ Looks count x) → Low g count n (set rows t x)
  lower x f = go I.low
    where
      mine : (over g count n ≡ false) ⊎ Looks count x → Low g count n (set rows t x)
      mine (inl z) = inl z
      mine (inr o) = inr (t, rw length-set ht, rw (get_or-set_same rows t x idle ht) o)

      at : (u : ℕ) → u < length rows → Looks count (get_or rows u idle) → Dec (u ≡ t) → Low g count n (set rows t x)
      at u hu o (yes e) = mine (f (subst (λ (w : ℕ). Looks count (get_or rows w idle)) e o))
      at u hu o (no e) = inr (u, rw length-set hu, rw (get_or-set_other rows t u x idle e) o)

      go : Low g count n rows → Low g count n (set rows t x)
      go (inl z) = inl z
      go (inr w) = at w.0 w.1 w.2 (ℕ_discrete w.0 t)

  -- the thread comes under a duty
  pub duty : (count' n' : ℕ) (x : Row) → Looks count' x → Low g count' n' (set rows t x)
  duty count' n' x o = inr (t, rw length-set ht, rw (get_or-set_same rows t x idle ht) o)

  ticked : plus ticks 1 ≤ steps
  ticked = omega arith

  -- the states, the count and the row change: ok is the balance
  pub puts : (st' : List ℕ) (count' : ℕ) (x : Row) → (mark ≡ 0 → Balance st' count' (set rows t x)) → Low g count' n (set rows t x) → (mark ≢ 0 → waiting st' ≤ waiting st) → count' < M → CountAt g mark st' count' n (plus ticks 1) (set rows t x)
  puts st' count' x b l w f = record { balance = b; low = l; few = λ m. let a = w m in let c = I.few m in omega arith; fits = f; early = ticked }

  -- only the row changes
  pub keeps : (x : Row) → owes x ≡ owes r → (Looks count r → (over g count n ≡ false) ⊎ Looks count x) → CountAt g mark st count n (plus ticks 1) (set rows t x)
  keeps x e f = puts st count x (λ m. balanced st count x 0 0 (omega arith) m) (lower x f) (λ m. omega arith) I.fits

  -- N3: one record more is counted
  pub recorded : (x : Row) → n ≤ records → owes x ≡ owes r → (Looks count r → (over g count n ≡ false) ⊎ Looks count x) → mark ≡ 0 → CountAt g mark st count (plus n 1) (plus ticks 1) (set rows t x)
  recorded x h e f m = record {
    balance = λ z. balanced st count x 0 0 (omega arith) z;
    low = raise (lower x f);
    few = λ z. absurd (z m);
    fits = I.fits;
    early = ticked;
  }
    where
      raise : Low g count n (set rows t x) → Low g count (plus n 1) (set rows t x)
      raise (inl z) = inl (over-more g count n (omega arith) z)
      raise (inr w) = inr w
