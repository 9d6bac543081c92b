-- `nbulk_reclaims` is the number of threads between B1 and C3.
use Rattle.std.specs.Prelude.{◌≡◌, refl, ◌⊎◌, false, List, [], ◌∷◌, ℕ, ◌+◌, ◌≤◌, ◌<◌, min, eqb, length, get_or, set}
use Rattle.std.proofs.Common.{sym, ap, ◌∙◌, subst, inl, inr, arith, eqb-true}
use Rattle.std.proofs.lemmas.Bool.{eqb-false}
use Rattle.rules.specs.Sizes.{threads, Settings}
use Rattle.rules.specs.Words.{plus, less}
use Rattle.rules.specs.Pc.{pc_of, code}
use Rattle.rules.specs.declared.pc.Pc.{Pc}
use Rattle.rules.specs.declared.pc.Pc.TheVariants as Pc
use Rattle.rules.specs.Rows.{idle, go_to, in_shard, taking}
use Rattle.rules.specs.Places.{accesses, does, ends, checked, passed, emptied}
use Rattle.rules.specs.Start.{begins}
use Rattle.rules.specs.declared.Operation.{Operation}
use Rattle.rules.specs.declared.Row.{Row}
use Rattle.rules.specs.declared.Seen.{Seen}
use Rattle.rules.specs.declared.Effect.{Effect}
use Rattle.rules.specs.declared.Named.TheVariants as cell
use Rattle.lists.specs.Occ.{sum, sum-set, sum-at}
use Rattle.lists.specs.Each.{each_set}
use Rattle.view.specs.View.{View, named, applies, enters}
use Rattle.view.specs.Every.{pc_is, classed, every, every-start, two, At, thus, thence, either, pick_all, pick_case}
use Rattle.view.specs.Rest.{all_from, all-examined, all-reclaimed, all-shut}
use Rattle.view.specs.Turn.{row_in, Look}

-- ---- where a thread stands to a pass: before it `done` is 0, towards its end it is not; a Check is inside a pass where the row has a `done`
pub data Bulk : Type 0 where
  outside before check within ending : Bulk

abbrev pub bulk : Pc → Bulk
bulk =
    classed outside
    ((Pc.T1, before) ∷ (Pc.T2, before) ∷ (Pc.T3, before) ∷ (Pc.E1, before) ∷ (Pc.E2, before) ∷ (Pc.E3, before) ∷ (Pc.B1, before) ∷ (Pc.K1, check) ∷ (Pc.K2, check) ∷ (Pc.K3, check) ∷ (Pc.K4, check)
    ∷ (Pc.Steal, within) ∷ (Pc.H1, within) ∷ (Pc.H2, within) ∷ (Pc.Examine, within) ∷ (Pc.Reclaim, within) ∷ (Pc.Empty, within) ∷ (Pc.Push1, ending) ∷ (Pc.Push2, ending) ∷ (Pc.C1, ending) ∷ (Pc.C3, ending) ∷ [])

abbrev pub inside_of : Bulk → ℕ → ℕ
inside_of outside done = 0
inside_of before done = 0
inside_of check done = min 1 done
inside_of within done = 1
inside_of ending done = 1

abbrev pub inside : Row → ℕ
inside r = inside_of (bulk (pc_of r.place)) r.done

abbrev pub DoneOf : Bulk → ℕ → Type 0
DoneOf outside done = Unit {0}
DoneOf before done = done ≡ 0
DoneOf check done = Unit {0}
DoneOf within done = Unit {0}
DoneOf ending done = eqb done 0 ≡ false

abbrev pub Done : Row → Type 0
Done r = DoneOf (bulk (pc_of r.place)) r.done

pub record TallyAt (n : ℕ) (rows : List Row) : Type 0 where
  pub tally : n ≡ sum inside rows
  pub dones : (u : ℕ) → u < length rows → Done (get_or rows u idle)

abbrev pub TallyIn : View → Type 0
TallyIn v = TallyAt v.counters.bulk_reclaims v.rows

-- ---- a row that counts as k threads inside
record Ok (k : ℕ) (x : Row) : Type 0 where
  pub in' : inside x ≡ k
  pub done : Done x

ok : {k : ℕ} {x : Row} → inside x ≡ k → Done x → Ok k x
ok a b = record { in' = a; done = b }

ok-passed : (r : Row) → eqb r.done 0 ≡ false → Ok 1 (passed r)
unfolding passed
ok-passed r h = pick_all (Ok 1) (eqb r.rcount 0) _ _ (ok (let z = eqb-false r.done 0 h in omega arith) tt) (ok refl h)

ok-checked : {k : ℕ} (r : Row) → min 1 r.done ≡ k → Ok k (checked r)
unfolding checked
ok-checked r q =
    subst (λ (k : ℕ). Ok k (checked r)) q
    (pick_case (Ok (min 1 r.done)) (eqb r.done 0) _ _
    (λ e. let z = eqb-true r.done 0 e in pick_all (Ok (min 1 r.done)) (eqb r.rcount 0) _ _ (ok (omega arith) z) (ok (omega arith) z))
    (λ e. let z = eqb-false r.done 0 e in pick_all (Ok (min 1 r.done)) (eqb r.rcount 0) _ _ (pick_all (Ok (min 1 r.done)) (eqb r.done 2) _ _ (ok (omega arith) e) (ok (omega arith) tt)) (ok (omega arith) tt)))

ok-emptied : (r : Row) → eqb r.done 0 ≡ false → Ok 1 (emptied r)
unfolding emptied
ok-emptied r h = pick_all (Ok 1) (eqb r.unreclaimed 0) _ _ (ok-passed r h) (ok refl h)

module _ (g : Settings) (v : View) (I : TallyIn v) (hl : length v.rows ≡ threads) (t : ℕ) (ht : t < length v.rows) where
  abbrev r : Row
  r = row_in v t

  abbrev n : ℕ
  n = v.counters.bulk_reclaims

  abbrev K : Pc → Effect → Type 0
  K p e = TallyIn (applies t (named (accesses p r)) e v)

  -- what the row is at its place
  here : (p : Pc) → r.place ≡ code p → Ok (inside_of (bulk p) r.done) r
  here p e = ok (ap (λ (q : Pc). inside_of (bulk q) r.done) (pc_is p e)) (I.dones t ht)

  done-is : (p : Pc) → r.place ≡ code p → DoneOf (bulk p) r.done
  done-is p e = subst (λ (q : Pc). DoneOf (bulk q) r.done) (pc_is p e) (I.dones t ht)

  puts : (m : ℕ) (x : Row) → m + inside r ≡ n + inside x → Done x → TallyAt m (set v.rows t x)
  puts m x e d = record { tally = let a = I.tally in let s = sum-set inside v.rows t x idle ht in omega arith; dones = each_set idle (λ u y. Done y) (λ u y. Done y) v.rows t x ht (λ u hu ne q. q) d I.dones }

  -- the row counts as it did
  goes : {k : ℕ} (x : Row) → Ok k r → Ok k x → TallyAt n (set v.rows t x)
  goes x a b = puts n x (let c = a.in' in let d = b.in' in omega arith) b.done

  leaf : {p : Pc} {e : Effect} → TallyAt n (set v.rows t e.row) ≡ K p e → Ok (inside_of (bulk p) r.done) r → Ok (inside_of (bulk p) r.done) e.row → At K p e
  leaf {p} {e} q h k = thence q (goes e.row h k)

  stays : {k : ℕ} {x : Row} → x.place ≡ r.place → x.done ≡ r.done → Ok k r → Ok k x
  stays {k} {x} a b h = ok (ap (λ (m : ℕ). inside_of (bulk (pc_of m)) x.done) a ∙ ap (inside_of (bulk (pc_of r.place))) b ∙ h.in') (rw (a, b) h.done)

  -- at most every thread is inside
  most : (l : List Row) → sum inside l ≤ length l
  most [] = omega arith
  most (x ∷ l) = let a = most l in let b = one (bulk (pc_of x.place)) x.done in omega arith
    where
      one : (b : Bulk) (d : ℕ) → inside_of b d ≤ 1
      one outside d = omega arith
      one before d = omega arith
      one check d = omega arith
      one within d = omega arith
      one ending d = omega arith

  pub few : n ≤ threads
  few = let a = I.tally in let b = most v.rows in omega arith

  -- ---- the places that change the class by what is known of `done`, and those that count
  kT3 : r.done ≡ 0 → Ok 0 (go_to Pc.K1 r)
  kT3 h = ok (omega arith) tt

  kC1 : eqb r.done 0 ≡ false → Ok 1 (go_to Pc.K1 (taking 0 r))
  kC1 h = ok (let z = eqb-false r.done 0 h in omega arith) tt

  kB1 : (i : Seen) → Look g v t Pc.B1 r i → Ok 0 r → At K Pc.B1 (does g Pc.B1 r i)
  kB1 i l o = thus (subst (λ (y : ℕ). TallyAt (plus y 1) (set v.rows t (go_to Pc.Steal (in_shard 0 r)))) (sym l.x) (puts (plus n 1) (go_to Pc.Steal (in_shard 0 r)) (let a = few in let b = o.in' in omega arith) tt))

  kC3 : (i : Seen) → Look g v t Pc.C3 r i → Ok 1 r → At K Pc.C3 (does g Pc.C3 r i)
  kC3 i l o = either (eqb r.operation 11) _ _ (λ _. thus (gone (go_to Pc.Wait r) refl tt)) (λ _. thus (gone idle refl tt))
    where
      gone : (x : Row) → inside x ≡ 0 → Done x → TallyAt (less i.x 1) (set v.rows t x)
      gone x e d = subst (λ (y : ℕ). TallyAt (less y 1) (set v.rows t x)) (sym l.x) (puts (less n 1) x (let a = few in let b = o.in' in let c = I.tally in let s = sum-at inside v.rows t idle ht in omega arith) d)

  pub tally-place : (p : Pc) (i : Seen) → Look g v t p r i → K p (does g p r i)
  tally-place p i l = (every (λ (p : Pc). Look g v t p r i → DoneOf (bulk p) r.done → Ok (inside_of (bulk p) r.done) r → At K p (does g p r i)) (search (two, kB1, kC3, either, leaf, stays, kT3, kC1, ok, tt, ok-passed, ok-checked, ok-emptied, pick_all (Ok 0), all_from (Ok 1) g, all-examined (Ok 1) g, all-reclaimed (Ok 1) g, all-shut (Ok 0) g) depth 16 fits 8000) p l (done-is p l.place) (here p l.place)).holds

  pub tally-ends : (m : ℕ) → (pc_of r.place ≡ Pc.N1) ⊎ (pc_of r.place ≡ Pc.Swap) → TallyIn (applies t cell.Nothing (ends m) v)
  tally-ends m w = puts n idle (let a = at w in omega arith) tt
    where
      at : (pc_of r.place ≡ Pc.N1) ⊎ (pc_of r.place ≡ Pc.Swap) → inside r ≡ 0
      at (inl e) = ap (λ (q : Pc). inside_of (bulk q) r.done) e
      at (inr e) = ap (λ (q : Pc). inside_of (bulk q) r.done) e

  pub tally_begin : r.place ≡ code Pc.Idle → (o : Operation) → TallyIn (enters t (begins g o) v)
  unfolding begins
  tally_begin e = every-start (λ (o : Operation). TallyIn (enters t (begins g o) v)) (search (two, starts, tt))
    where
      starts : (x : Row) → inside x ≡ 0 → Done x → TallyAt n (set v.rows t x)
      starts x a b = goes x (here Pc.Idle e) (ok a b)
