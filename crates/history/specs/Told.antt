-- What each place's step tells a watcher: its event makes the claims that the layer of claims keeps, and the ledger of waiting nodes adds up.
use Rattle.std.specs.Prelude.{◌≡◌, refl, ◌≢◌, true, false, List, ◌∷◌, ℕ, ◌+◌, ◌<◌, eqb, length, get_or, set}
use Rattle.std.proofs.Common.{sym, ap, arith, get_or-set_same, get_or-set_other, eqb-true}
use Rattle.std.proofs.Math.Decide.{ℕ_discrete}
use Rattle.std.proofs.lemmas.Bool.{eqb-false}
use Rattle.rules.specs.Sizes.{nodes, Settings}
use Rattle.rules.specs.Pc.{code}
use Rattle.rules.specs.declared.pc.Pc.{Pc}
use Rattle.rules.specs.declared.pc.Pc.TheVariants as Pc
use Rattle.rules.specs.Places
use Rattle.rules.specs.Places.{accesses, does, stores, also_stores, finishes}
use Rattle.rules.specs.declared.Row.{Row}
use Rattle.rules.specs.declared.Seen.{Seen}
use Rattle.rules.specs.declared.Effect.{Effect}
use Rattle.rules.specs.declared.Named.TheVariants as cell
use Rattle.lists.specs.Occ.{eq01, eq01-same, eq01-other}
use Rattle.lists.specs.Heap.{waits}
use Rattle.view.specs.Field.{IsId}
use Rattle.view.specs.View.{View, InTable, named, applies}
use Rattle.view.specs.Every.{every, two, At, either}
use Rattle.view.specs.Long.{Long}
use Rattle.view.specs.Turn.{row_in, Look, swap_free}
use Rattle.claims.specs.ClaimStep.{marks}
use Rattle.history.specs.Demand3.{Event, claims, retirements, reclamations}
use Rattle.history.specs.Heard.{tells, Aims}

pub record Told (v : View) (t : ℕ) (h : List Event) (p : Pc) (e : Effect) : Type 0 where
  pub claim : claims (tells v t p e ∷ h) ≡ marks p (row_in v t) e (claims h)
  pub waiting : (n : ℕ) → waits v.nodes.state n ≡ waits (applies t (named (accesses p (row_in v t))) e v).nodes.state n + reclamations n (tells v t p e)
  pub retire : (n : ℕ) → retirements n (tells v t p e) ≡ 0
  pub frees : e.number ≡ 4 → (e.value ≡ (row_in v t).reclaimable) × ((row_in v t).reclaimable ≢ 0)

-- a: at V2 the thread has stored to its record's hazard last
module _ (g : Settings) (v : View) (lv : Long v) (t : ℕ) (h : List Event) (a : Aims h t (row_in v t)) where
  abbrev r : Row
  r = row_in v t

  abbrev st : List ℕ
  st = v.nodes.state

  abbrev K : Pc → Effect → Type 0
  K p e = Told v t h p e

  -- a node of the reclaim list, which waits, is free
  freeing : (n : ℕ) → n < length st → get_or st n 0 ≡ 2 → (m : ℕ) → Dec (m ≡ n) → waits st m ≡ waits (set st n 0) m + eq01 m n
  freeing n h w m (yes e) = rw (e, get_or-set_same st n 0 0 h, w) (let a = eq01-same n in let b = eq01-same 2 in let c = eq01-other 0 2 (omega arith) in omega arith)
  freeing n h w m (no e) = rw (get_or-set_other st n m 0 0 e) (let a = eq01-other m n e in omega arith)

  enlive : (n : ℕ) → n < length st → get_or st n 0 ≡ 0 → (m : ℕ) → Dec (m ≡ n) → waits st m ≡ waits (set st n 1) m + 0
  enlive n h w m (yes e) = rw (e, get_or-set_same st n 1 0 h, w) (let b = eq01-other 1 2 (omega arith) in let c = eq01-other 0 2 (omega arith) in omega arith)
  enlive n h w m (no e) = rw (get_or-set_other st n m 1 0 e) (omega arith)

  -- no node changes its state
  leaf : {p : Pc} {e : Effect} → claims (tells v t p e ∷ h) ≡ marks p r e (claims h) → (applies t (named (accesses p r)) e v).nodes.state ≡ st → ((n : ℕ) → reclamations n (tells v t p e) ≡ 0) → ((n : ℕ) → retirements n (tells v t p e) ≡ 0) → eqb e.number 4 ≡ false → At K p e
  leaf {p} {e} c s k q f = record { holds = record { claim = c; waiting = λ n. rw s (let a = k n in omega arith); retire = q; frees = λ h. absurd (eqb-false e.number 4 f h) } }

  -- V2 validates for the record whose hazard V1 stored to
  kV2 : (i : Seen) → r.place ≡ code Pc.V2 → At K Pc.V2 (finishes i.v)
  kV2 i e = leaf (ap (λ (c : ℕ). set (claims h) c i.v) (a e)) refl (λ n. refl) (λ n. refl) refl

  -- a swap puts a free node, which is live then
  k_swap : (i : Seen) → Look g v t Pc.Swap r i → eqb r.node 0 ≡ false → eqb i.w 0 ≡ true → At K Pc.Swap (stores r.node (also_stores (cell.NodeState r.node) 1 (finishes i.v)))
  k_swap i l e q = record { holds = record { claim = refl; waiting = λ m. enlive r.node (let a = lv.state in let b = l.small.node in omega arith) (swap_free l e (eqb-true i.w 0 q)) m (ℕ_discrete m r.node); retire = λ n. refl; frees = λ h. absurd (omega arith) } }

  -- Reclaim and S2 free the head of the reclaim list, which waits
  k_free : {p : Pc} (x : Row) → IsId nodes r.reclaimable → (r.reclaimable ≢ 0 → get_or st r.reclaimable 0 ≡ 2) → marks p r (Places.reclaims r.reclaimable x) (claims h) ≡ claims h → (applies t (named (accesses p r)) (Places.reclaims r.reclaimable x) v).nodes.state ≡ set st r.reclaimable 0 → At K p (Places.reclaims r.reclaimable x)
  k_free {p} x id w c s = let nz : r.reclaimable ≢ 0 = omega arith in record { holds = record { claim = sym c; waiting = λ n. rw s (freeing r.reclaimable (let a = lv.state in omega arith) (w nz) n (ℕ_discrete n r.reclaimable)); retire = λ n. refl; frees = λ _. (refl, nz) } }

  -- w: the head of the reclaim list waits
  pub told : (p : Pc) (i : Seen) → Look g v t p r i → (r.reclaimable ≢ 0 → get_or st r.reclaimable 0 ≡ 2) → K p (does g p r i)
  told p i l w = (every (λ (p : Pc). Look g v t p r i → InTable (named (accesses p r)) → r.place ≡ code p → At K p (does g p r i)) (search (two, kV2, either, leaf, k_swap, k_free) depth 16 fits 8000) p l l.reach l.place).holds
