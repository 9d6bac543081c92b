-- What a thread's row holds at each place, as far as its lists go, and the layer of the invariant that says where each waiting node stands.
use Rattle.std.specs.Prelude.{◌≡◌, refl, ◌≢◌, ◌⊎◌, List, [], ◌∷◌, map, ℕ, ◌+◌, ◌≤◌, ◌<◌, length, get_or, set}
use Rattle.std.proofs.Common.{ap, ◌∙◌, inl, inr, length-append, get_or-set_other}
use Rattle.rules.specs.Sizes.{Settings}
use Rattle.rules.specs.declared.pc.Pc.TheVariants as Pc
use Rattle.rules.specs.Pc.{pc_of}
use Rattle.rules.specs.declared.pc.Pc.{Pc}
use Rattle.rules.specs.Rows.{idle}
use Rattle.rules.specs.declared.Row.{Row}
use Rattle.lists.specs.Chain.{last}
use Rattle.lists.specs.Flat.{Rows}
use Rattle.lists.specs.Heap.{Heap}
use Rattle.view.specs.View.{View}
use Rattle.view.specs.Every.{classed}
use Rattle.heap.specs.Hooks.{hooks, slot, loose, hv, to_keep, alone, slot-shard, slot-thread}

-- settings that document 02 may choose
pub record Allowed (g : Settings) : Type 0 where
  pub some : 0 < g.shards
  pub most : g.shards ≤ 8

-- ---- classes of places
pub data Stage : Type 0 where
  clean lone steals scans examines reclaims empties pushes shuts frees : Stage

abbrev pub stage : Pc → Stage
stage =
    classed clean
    ((Pc.T1, lone) ∷ (Pc.T2, lone) ∷ (Pc.Steal, steals) ∷ (Pc.H1, scans) ∷ (Pc.H2, scans) ∷ (Pc.Examine, examines) ∷ (Pc.Reclaim, reclaims) ∷ (Pc.Empty, empties) ∷ (Pc.Push1, pushes)
    ∷ (Pc.Push2, pushes) ∷ (Pc.S1, shuts) ∷ (Pc.S2, frees) ∷ [])

-- ---- what the row holds: no list, some list, or any
pub data Want : Type 0 where
  null some any : Want

abbrev pub Holds : Want → ℕ → Type 0
Holds null n = n ≡ 0
Holds some n = n ≢ 0
Holds any n = Unit {0}

-- over the fields and not over the row: where a step leaves these fields, the fact is the same type
pub record ShapeAt (gone : ℕ → Type 0) (a b c : Want) (X : Type 0) (stolen : List ℕ) (reclaimable unreclaimed lone' : ℕ) : Type 0 where
  pub eight : length stolen ≡ 8
  pub none : (j : ℕ) → gone j → get_or stolen j 0 ≡ 0
  pub reclaim : Holds a reclaimable
  pub keep : Holds b unreclaimed
  pub lone : Holds c lone'
  pub here : X

abbrev pub Is : (ℕ → Type 0) → Want → Want → Want → Type 0 → Row → Type 0
Is gone a b c X r = ShapeAt gone a b c X r.stolen r.reclaimable r.unreclaimed r.lone

module _ (g : Settings) where
  abbrev pub ShapeOf : Stage → Row → Type 0
  ShapeOf clean r = Is (λ j. Unit {0}) null null null (Unit {0}) r
  ShapeOf lone r = Is (λ j. Unit {0}) null null some (r.shard < g.shards) r
  ShapeOf steals r = Is (λ j. r.shard ≤ j) null null null (r.shard < g.shards) r
  ShapeOf scans r = Is (λ j. g.shards ≤ j) null null null (Unit {0}) r
  ShapeOf examines r = Is (λ j. (j < r.shard) ⊎ (g.shards ≤ j)) any any null ((r.shard < g.shards) × (get_or r.stolen r.shard 0 ≢ 0)) r
  ShapeOf reclaims r = Is (λ j. (j ≤ r.shard) ⊎ (g.shards ≤ j)) some any null (r.shard < g.shards) r
  ShapeOf empties r = Is (λ j. Unit {0}) null any null (r.shard < g.shards) r
  ShapeOf pushes r = Is (λ j. Unit {0}) null some null (Unit {0}) r
  ShapeOf shuts r = Is (λ j. Unit {0}) null null null (r.shard < g.shards) r
  ShapeOf frees r = Is (λ j. Unit {0}) some null null (r.shard < g.shards) r

  abbrev pub Shape : Row → Type 0
  Shape r = ShapeOf (stage (pc_of r.place)) r

  pub shape-eight : (p : Stage) (r : Row) → ShapeOf p r → length r.stolen ≡ 8
  shape-eight clean r h = h.eight
  shape-eight lone r h = h.eight
  shape-eight steals r h = h.eight
  shape-eight scans r h = h.eight
  shape-eight examines r h = h.eight
  shape-eight reclaims r h = h.eight
  shape-eight empties r h = h.eight
  shape-eight pushes r h = h.eight
  shape-eight shuts r h = h.eight
  shape-eight frees r h = h.eight

-- the row's tail is the kept list's last node, and the lone node is alone
pub record EndsAt (ls : List (List ℕ)) (u unreclaimed tail' lone' : ℕ) : Type 0 where
  pub tail : unreclaimed ≢ 0 → last (get_or ls (slot u to_keep) []) ≡ tail'
  pub lone : lone' ≢ 0 → get_or ls (slot u alone) [] ≡ lone' ∷ []

abbrev pub Ends : List (List ℕ) → ℕ → Row → Type 0
Ends ls u r = EndsAt ls u r.unreclaimed r.tail r.lone

-- ---- the layer: ls are the lists, a ghost that the heads and `next` determine
pub record HeapAt (g : Settings) (next state shards : List ℕ) (rows : List Row) (ls : List (List ℕ)) : Type 0 where
  pub h8 : length shards ≡ 8
  pub h11 : Rows 11 (map hooks rows)
  pub heap : Heap loose next state (hv shards rows) ls
  pub shape : (u : ℕ) → u < length rows → Shape g (get_or rows u idle)
  pub ends : (u : ℕ) → u < length rows → Ends ls u (get_or rows u idle)

abbrev pub HeapIn : Settings → View → List (List ℕ) → Type 0
HeapIn g v ls = HeapAt g v.nodes.next v.nodes.state v.heads.shards v.rows ls

-- ---- the lists of the other threads are as they were
abbrev pub Others : ℕ → ℕ → List (List ℕ) → List (List ℕ) → Type 0
Others n t ls ls' = (u : ℕ) → u < n → u ≢ t → (j : ℕ) → j < 11 → get_or ls' (slot u j) [] ≡ get_or ls (slot u j) []

pub others-none : (n t : ℕ) (ls : List (List ℕ)) → Others n t ls ls
others-none n t ls u hu ne j hj = refl

-- a place that is a shard, or a slot of t
abbrev pub Mine : ℕ → ℕ → Type 0
Mine t p = (p < 8) ⊎ ((i : ℕ) × (i < 11) × (p ≡ slot t i))

mine-not : (t p u j : ℕ) → Mine t p → u ≢ t → j < 11 → slot u j ≢ p
mine-not t p u j (inl a) ne hj e = slot-shard u j p a e
mine-not t p u j (inr m) ne hj e = slot-thread u t j m.0 hj m.1 ne (e ∙ m.2)

pub others-one : (n t p : ℕ) (ls : List (List ℕ)) (la : List ℕ) → Mine t p → Others n t ls (set ls p la)
others-one n t p ls la m u hu ne j hj = get_or-set_other ls p (slot u j) la [] (mine-not t p u j m ne hj)

pub others-two : (n t p q : ℕ) (ls : List (List ℕ)) (la lb : List ℕ) → Mine t p → Mine t q → Others n t ls (set (set ls p la) q lb)
others-two n t p q ls la lb m k u hu ne j hj =
    get_or-set_other (set ls p la) q (slot u j) lb [] (mine-not t q u j k ne hj) ∙ get_or-set_other ls p (slot u j) la [] (mine-not t p u j m ne hj)

pub hooks-eight : (r : Row) → length r.stolen ≡ 8 → length (hooks r) ≡ 11
hooks-eight r e = length-append r.stolen (r.reclaimable ∷ r.unreclaimed ∷ r.lone ∷ []) ∙ ap (λ (x : ℕ). x + 3) e
