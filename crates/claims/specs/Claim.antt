-- The layer of claims: what a validated protection of a node says, what a scan has seen, and that no claimed node is on a reclaim list.
use Rattle.std.specs.Prelude.{◌≡◌, ◌≢◌, ◌⊎◌, true, List, [], ◌∷◌, ℕ, ◌≤◌, ◌<◌, length, get_or, set}
use Rattle.std.proofs.Common.{subst, inl, inr, arith, length-set, get_or-set_other}
use Rattle.std.proofs.Math.Decide.{ℕ_discrete}
use Rattle.rules.specs.Words.{is_guarded}
use Rattle.rules.specs.Pc.{pc_of}
use Rattle.rules.specs.declared.pc.Pc.{Pc}
use Rattle.rules.specs.declared.pc.Pc.TheVariants as Pc
use Rattle.rules.specs.Rows.{idle}
use Rattle.rules.specs.declared.Row.{Row}
use Rattle.lists.specs.Occ.{occ}
use Rattle.lists.specs.Chain.{Seg}
use Rattle.lists.specs.Each.{each_set}
use Rattle.view.specs.Every.{classed}
use Rattle.view.specs.View.{View}
use Rattle.heap.specs.Hooks.{slot, to_reclaim}
use Rattle.heap.specs.Stage.{Others}

-- record c has validated node n, and its hazard has not been stored to since
pub record Claim (cl : List ℕ) (c n : ℕ) : Type 0 where
  pub is : get_or cl c 0 ≡ n
  pub some : n ≢ 0

-- n stands in a stolen list of thread u
pub record Stolen (ls : List (List ℕ)) (u n : ℕ) : Type 0 where
  pub k : ℕ
  pub k8 : k < 8
  pub mem : 1 ≤ occ n (get_or ls (slot u k) [])

abbrev pub Guarded : List (List ℕ) → ℕ → ℕ → Type 0
Guarded g u n = is_guarded (get_or g u []) n ≡ true

-- ---- where a thread stands to the hazards: it checks that what it stored still holds, or it scans them
pub data Scan : Type 0 where
  before checks during after : Scan

abbrev pub scan : Pc → Scan
scan = classed before ((Pc.V2, checks) ∷ (Pc.H2, during) ∷ (Pc.Examine, after) ∷ (Pc.Reclaim, after) ∷ [])

-- l is a part of the list of records
abbrev pub Part : List ℕ → ℕ → List ℕ → Type 0
Part next head l = (R : List ℕ) → Seg next head R 0 → (n : ℕ) → occ n l ≤ occ n R

-- during it, a claimed stolen node is guarded or its record is still ahead; after it, guarded
abbrev pub SafeOf : Scan → List ℕ → ℕ → List (List ℕ) → List ℕ → List (List ℕ) → ℕ → ℕ → Type 0
SafeOf before next head g cl ls u rec = Unit {0}
SafeOf checks next head g cl ls u rec = Unit {0}
SafeOf during next head g cl ls u rec = (rest : List ℕ) × Seg next rec rest 0 × (rec ≢ 0) × Part next head rest × ((c n : ℕ) → Claim cl c n → Stolen ls u n → (1 ≤ occ c rest) ⊎ Guarded g u n)
SafeOf after next head g cl ls u rec = (c n : ℕ) → Claim cl c n → Stolen ls u n → Guarded g u n

abbrev pub Safe : List ℕ → ℕ → List (List ℕ) → List ℕ → List (List ℕ) → ℕ → Row → Type 0
Safe next head g cl ls u r = SafeOf (scan (pc_of r.place)) next head g cl ls u r.rec

-- ---- at V2 the thread's hazard is the node that it protects
abbrev pub ValOf : Scan → List ℕ → ℕ → ℕ → Type 0
ValOf before hz rec node = Unit {0}
ValOf checks hz rec node = get_or hz rec 0 ≡ node
ValOf during hz rec node = Unit {0}
ValOf after hz rec node = Unit {0}

abbrev pub Val : List ℕ → Row → Type 0
Val hz r = ValOf (scan (pc_of r.place)) hz r.rec r.node

-- ---- who holds the record of a claim: its owner, or the thread that is about to give it up
abbrev pub Keeper : List ℕ → List Row → ℕ → Type 0
Keeper ho rows c = (2 ≤ get_or ho c 0) ⊎ ((u : ℕ) × (u < length rows) × (pc_of (get_or rows u idle).place ≡ Pc.D1) × ((get_or rows u idle).rec ≡ c))

pub record Held (st hz next : List ℕ) (head : ℕ) (ho : List ℕ) (rows : List Row) (ls : List (List ℕ)) (c n : ℕ) : Type 0 where
  pub hazard : get_or hz c 0 ≡ n
  pub listed : (R : List ℕ) → Seg next head R 0 → 1 ≤ occ c R
  pub alive : get_or st n 0 ≢ 0
  pub spared : (u : ℕ) → u < length rows → occ n (get_or ls (slot u to_reclaim) []) ≡ 0
  pub keeper : Keeper ho rows c

pub record ClaimsAt (mark : ℕ) (st src hz next : List ℕ) (head : ℕ) (ho : List ℕ) (g : List (List ℕ)) (rows : List Row) (cl : List ℕ) (ls : List (List ℕ)) : Type 0 where
  pub sources : (b n : ℕ) → get_or src b 0 ≡ n → n ≢ 0 → get_or st n 0 ≡ 1
  pub states : (n : ℕ) → get_or st n 0 ≤ 2
  pub claims : (c n : ℕ) → Claim cl c n → Held st hz next head ho rows ls c n
  pub vals : (u : ℕ) → u < length rows → Val hz (get_or rows u idle)
  pub safe : (u : ℕ) → u < length rows → Safe next head g cl ls u (get_or rows u idle)
  pub over : mark ≢ 0 → (c n : ℕ) → Claim cl c n → ⊥
  pub long : length cl ≡ length hz

abbrev pub ClaimsIn : View → List ℕ → List (List ℕ) → Type 0
ClaimsIn v cl ls = ClaimsAt v.heads.mark v.nodes.state v.sources v.records.hazard v.records.next v.heads.record_head v.records.holder v.guards v.rows cl ls

-- ---- frames
-- fewer claims and stolen nodes, more guarded ones: still safe
pub safe-less : (p : Scan) (next : List ℕ) (head : ℕ) (g g' : List (List ℕ)) (cl cl' : List ℕ) (ls ls' : List (List ℕ)) (u rec : ℕ)
    → ((c n : ℕ) → Claim cl' c n → Stolen ls' u n → Claim cl c n) → ((n : ℕ) → Stolen ls' u n → Stolen ls u n) → ((n : ℕ) → Guarded g u n → Guarded g' u n)
    → SafeOf p next head g cl ls u rec → SafeOf p next head g' cl' ls' u rec
safe-less before next head g g' cl cl' ls ls' u rec a b d s = tt
safe-less checks next head g g' cl cl' ls ls' u rec a b d s = tt
safe-less during next head g g' cl cl' ls ls' u rec a b d s = (s.0, s.1, s.2, s.3, λ c n h m. go n (s.4 c n (a c n h m) (b n m)))
  where
    go : {A : Type 0} (n : ℕ) → A ⊎ Guarded g u n → A ⊎ Guarded g' u n
    go n (inl x) = inl x
    go n (inr x) = inr (d n x)
safe-less after next head g g' cl cl' ls ls' u rec a b d s = λ c n h m. d n (s c n (a c n h m) (b n m))

pub stolen-other : (T t : ℕ) (ls ls' : List (List ℕ)) → Others T t ls ls' → (u n : ℕ) → u < T → u ≢ t → Stolen ls' u n → Stolen ls u n
stolen-other T t ls ls' o u n hu ne s = record { k = s.k; k8 = s.k8; mem = rw (o u hu ne s.k (omega (arith, s.k8))) at s.mem }

-- a thread that is not at D1 leaves; or the claim is not of its record
pub keeper-set : (ho ho' : List ℕ) (rows : List Row) (t : ℕ) (x : Row) (c : ℕ) → t < length rows → (2 ≤ get_or ho c 0 → Keeper ho' (set rows t x) c) → ((pc_of (get_or rows t idle).place ≡ Pc.D1) → (get_or rows t idle).rec ≡ c → ⊥) → Keeper ho rows c → Keeper ho' (set rows t x) c
keeper-set ho ho' rows t x c ht f z (inl h) = f h
keeper-set ho ho' rows t x c ht f z (inr w) = go (ℕ_discrete w.0 t)
  where
    go : Dec (w.0 ≡ t) → Keeper ho' (set rows t x) c
    go (yes e) = absurd (z (subst (λ (u : ℕ). pc_of (get_or rows u idle).place ≡ Pc.D1) e w.2) (subst (λ (u : ℕ). (get_or rows u idle).rec ≡ c) e w.3))
    go (no e) = inr (w.0, rw length-set w.1, rw (get_or-set_other rows t w.0 x idle e) w.2, rw (get_or-set_other rows t w.0 x idle e) w.3)

-- ---- the general step: thread t puts the row x
module _ (mark : ℕ) (st src hz next : List ℕ) (head : ℕ) (ho : List ℕ) (g : List (List ℕ)) (rows : List Row) (cl : List ℕ) (ls : List (List ℕ)) (I : ClaimsAt mark st src hz next head ho g rows cl ls) (t : ℕ) (ht : t < length rows) where
  pub puts : (mark' : ℕ) (st' src' hz' next' : List ℕ) (head' : ℕ) (ho' : List ℕ) (g' : List (List ℕ)) (x : Row) (cl' : List ℕ) (ls' : List (List ℕ))
      → ((b n : ℕ) → get_or src' b 0 ≡ n → n ≢ 0 → get_or st' n 0 ≡ 1) → ((n : ℕ) → get_or st' n 0 ≤ 2)
      → ((c n : ℕ) → Claim cl' c n → Held st' hz' next' head' ho' (set rows t x) ls' c n)
      → ((u : ℕ) → u < length rows → u ≢ t → Val hz (get_or rows u idle) → Val hz' (get_or rows u idle))
      → ((u : ℕ) → u < length rows → u ≢ t → Safe next head g cl ls u (get_or rows u idle) → Safe next' head' g' cl' ls' u (get_or rows u idle))
      → Val hz' x → Safe next' head' g' cl' ls' t x → (mark' ≢ 0 → (c n : ℕ) → Claim cl' c n → ⊥) → length cl' ≡ length hz'
      → ClaimsAt mark' st' src' hz' next' head' ho' g' (set rows t x) cl' ls'
  puts mark' st' src' hz' next' head' ho' g' x cl' ls' hs hst hc hv hsf v s o l = record {
    sources = hs;
    states = hst;
    claims = hc;
    vals = each_set idle (λ u y. Val hz y) (λ u y. Val hz' y) rows t x ht hv v I.vals;
    safe = each_set idle (Safe next head g cl ls) (Safe next' head' g' cl' ls') rows t x ht hsf s I.safe;
    over = o;
    long = l;
  }

  -- only the row and the thread's own lists change
  pub relist : (x : Row) (ls' : List (List ℕ)) → Others (length rows) t ls ls' → (pc_of (get_or rows t idle).place ≢ Pc.D1) → ((c n : ℕ) → Claim cl c n → occ n (get_or ls' (slot t to_reclaim) []) ≡ 0)
      → Val hz x → Safe next head g cl ls' t x → ClaimsAt mark st src hz next head ho g (set rows t x) cl ls'
  relist x ls' o nd sp v s =
      puts mark st src hz next head ho g x cl ls' I.sources I.states
      (λ c n k. let h = I.claims c n k in record { hazard = h.hazard; listed = h.listed; alive = h.alive; spared = λ u hu. spare c n k h.spared u (rw length-set at hu) (ℕ_discrete u t); keeper = keeper-set ho ho rows t x c ht (λ q. inl q) (λ q _. nd q) h.keeper })
      (λ u hu ne q. q) (λ u hu ne q. safe-less (scan (pc_of (get_or rows u idle).place)) next head g g cl cl ls ls' u (get_or rows u idle).rec (λ c n k m. k) (λ n m. stolen-other (length rows) t ls ls' o u n hu ne m) (λ n m. m) q)
      v s I.over I.long
    where
      spare : (c n : ℕ) → Claim cl c n → ((u : ℕ) → u < length rows → occ n (get_or ls (slot u to_reclaim) []) ≡ 0) → (u : ℕ) → u < length rows → Dec (u ≡ t) → occ n (get_or ls' (slot u to_reclaim) []) ≡ 0
      spare c n k old u hu (yes e) = rw e (sp c n k)
      spare c n k old u hu (no e) = rw (o u hu e to_reclaim (omega arith)) (old u hu)
