-- The places in which a waiting node may stand: the shards' lists, then for each thread the lists that its row's hooks begin.
use Rattle.std.specs.Prelude.{◌≡◌, refl, ◌≢◌, Bool, true, false, ◌&&◌, ℕ, ◌+◌, ◌*◌, ◌-◌, ◌%◌, ◌≤◌, ◌<◌, T, leb, length}
use Rattle.std.proofs.Math.Path.{sym, ap}
use Rattle.std.proofs.Common.{ap₂, ◌∙◌, le→leb, leb→le, length-append}
use mathlib.Core.List.{List, [], ◌∷◌, ◌++◌, map}
use native.Mathlib.Omega.{arith}
use Rattle.std.proofs.Math.ListN.{get_or, set, length-map, get_or-append}
use Rattle.std.proofs.lemmas.List.{set-append_left, set-get_or}
use Rattle.std.proofs.Math.Seq.{get_or-append-add}
use Rattle.rules.specs.Rows.{idle}
use Rattle.rules.specs.declared.Row.{Row}
use Rattle.lists.specs.Flat.{cat, Rows, rows-set, rows_get, cat-length, cat-get, cat-set, cat_set2, set_append_add, map-set, map_get}

-- the heads of the lists that a row holds: what is left of the stolen ones, the reclaim list, the kept list and the lone node
abbrev pub hooks : Row → List ℕ
hooks r = r.stolen ++ (r.reclaimable ∷ r.unreclaimed ∷ r.lone ∷ [])

true_of : (b : Bool) → T b → b ≡ true
true_of true t = refl
true_of false t = elim t [ ]

false_of : (b : Bool) → (T b → ⊥) → b ≡ false
false_of true f = absurd (f tt)
false_of false f = refl

-- ---- places: 8 shards, then 11 for each thread
-- a thread's reclaim list, its kept list and its lone node
abbrev pub to_reclaim : ℕ
to_reclaim = 8

abbrev pub to_keep : ℕ
to_keep = 9

abbrev pub alone : ℕ
alone = 10

unfoldable pub slot : ℕ → ℕ → ℕ
slot t j = 8 + (t * 11 + j)

-- a lost exchange writes behind the last node of the kept list and behind the lone node: what is there doesn't count
unfoldable pub loose : ℕ → Bool
loose p = leb 8 p && leb 9 ((p - 8) % 11)

pub loose-shard : (k : ℕ) → k < 8 → loose k ≡ false
unfolding loose
loose-shard k h = rw (false_of (leb 8 k) (λ t. let q = leb→le 8 k t in omega arith))

pub loose-tight : (t j : ℕ) → j < 9 → loose (slot t j) ≡ false
unfolding loose slot
loose-tight t j h = go (leb 8 (8 + (t * 11 + j)))
  where
    e : leb 9 ((8 + (t * 11 + j) - 8) % 11) ≡ false
    e = false_of _ (λ q. let z = leb→le 9 ((8 + (t * 11 + j) - 8) % 11) q in omega arith)

    go : (b : Bool) → (b && leb 9 ((8 + (t * 11 + j) - 8) % 11)) ≡ false
    go true = e
    go false = refl

pub loose-loose : (t j : ℕ) → 9 ≤ j → j < 11 → loose (slot t j) ≡ true
unfolding loose slot
loose-loose t j h k =
    ap₂ ◌&&◌ (true_of (leb 8 (8 + (t * 11 + j))) (le→leb 8 (8 + (t * 11 + j)) (omega arith)))
    (true_of (leb 9 ((8 + (t * 11 + j) - 8) % 11)) (le→leb 9 ((8 + (t * 11 + j) - 8) % 11) (omega arith)))

-- every place behind the shards is a slot
pub slot_is : (t j p : ℕ) → p ≡ 8 + (t * 11 + j) → p ≡ slot t j
unfolding slot
slot_is t j p e = e

-- two slots of different threads, or different slots of one, are different places; a shard is no slot
pub slot-thread : (t u i j : ℕ) → i < 11 → j < 11 → t ≢ u → slot t i ≢ slot u j
unfolding slot
slot-thread t u i j a b ne e = ne (omega arith)

pub slot-slot : (t i j : ℕ) → i ≢ j → slot t i ≢ slot t j
unfolding slot
slot-slot t i j ne e = ne (omega arith)

pub slot-shard : (t j k : ℕ) → k < 8 → slot t j ≢ k
unfolding slot
slot-shard t j k h e = omega arith

-- ---- the view
abbrev pub hv : List ℕ → List Row → List ℕ
hv sh rows = sh ++ cat (map hooks rows)

module _ (sh : List ℕ) (rows : List Row) (h8 : length sh ≡ 8) (h11 : Rows 11 (map hooks rows)) where
  pub hv-length : length (hv sh rows) ≡ 8 + length rows * 11
  hv-length = length-append sh (cat (map hooks rows)) ∙ ap₂ ◌+◌ h8 (cat-length 11 (map hooks rows) h11 ∙ ap (λ (x : ℕ). x * 11) (length-map rows hooks))

  pub slot_in : (t j : ℕ) → t < length rows → j < 11 → slot t j < length (hv sh rows)
  unfolding slot
  slot_in t j a b = let e = hv-length in omega arith

  pub shard_inside : (k : ℕ) → k < 8 → k < length (hv sh rows)
  shard_inside k a = let e = hv-length in omega arith

  pub get-shard : (k : ℕ) → k < 8 → get_or (hv sh rows) k 0 ≡ get_or sh k 0
  get-shard k a = get_or-append sh (cat (map hooks rows)) 0 k (omega arith)

  pub get-slot : (t j : ℕ) → t < length rows → j < 11 → get_or (hv sh rows) (slot t j) 0 ≡ get_or (hooks (get_or rows t idle)) j 0
  unfolding slot
  get-slot t j a b =
      ap (λ (x : ℕ). get_or (hv sh rows) (x + (t * 11 + j)) 0) (sym h8) ∙ get_or-append-add sh (cat (map hooks rows)) (t * 11 + j) 0
      ∙ cat-get 11 (map hooks rows) t j 0 h11 (rw length-map a) b
      ∙ ap (λ (x : List ℕ). get_or x j 0) (map_get hooks rows t idle [] a)

  pub set-shard : (k v : ℕ) → k < 8 → hv (set sh k v) rows ≡ set (hv sh rows) k v
  set-shard k v a = sym (set-append_left sh (cat (map hooks rows)) k v (omega arith))

  pub set-slot : (t j v : ℕ) (r : Row) → t < length rows → j < 11 → hooks r ≡ set (hooks (get_or rows t idle)) j v → hv sh (set rows t r) ≡ set (hv sh rows) (slot t j) v
  unfolding slot
  set-slot t j v r a b e =
      ap (λ (x : List (List ℕ)). sh ++ cat x) (map-set hooks rows t r ∙ ap (set (map hooks rows) t) (e ∙ ap (λ (x : List ℕ). set x j v) (sym (map_get hooks rows t idle [] a))))
      ∙ ap (λ (x : List ℕ). sh ++ x) (cat-set 11 (map hooks rows) t j v h11 (rw length-map a) b)
      ∙ sym (set_append_add sh (cat (map hooks rows)) (t * 11 + j) v)
      ∙ ap (λ (x : ℕ). set (hv sh rows) (x + (t * 11 + j)) v) h8

  pub set-none : (t : ℕ) (r : Row) → t < length rows → hooks r ≡ hooks (get_or rows t idle) → hv sh (set rows t r) ≡ hv sh rows
  set-none t r a e =
      ap (λ (x : List (List ℕ)). sh ++ cat x)
      (map-set hooks rows t r ∙ ap (set (map hooks rows) t) (e ∙ sym (map_get hooks rows t idle [] a)) ∙ set-get_or (map hooks rows) t [])

  pub rows-put : (t : ℕ) (r : Row) → length (hooks r) ≡ 11 → Rows 11 (map hooks (set rows t r))
  rows-put t r e = rw (map-set hooks rows t r) (rows-set 11 (map hooks rows) t (hooks r) e h11)

  pub hooks-length : (t : ℕ) → t < length rows → length (hooks (get_or rows t idle)) ≡ 11
  hooks-length t a = ap length (sym (map_get hooks rows t idle [] a)) ∙ rows_get 11 (map hooks rows) t [] (rw length-map a) h11

  pub set_slot2 : (t i a j b : ℕ) (r : Row) → t < length rows → i < 11 → j < 11 → hooks r ≡ set (set (hooks (get_or rows t idle)) i a) j b → hv sh (set rows t r) ≡ set (set (hv sh rows) (slot t i) a) (slot t j) b
  unfolding slot
  set_slot2 t i a j b r ht hi hj e =
      ap (λ (x : List (List ℕ)). sh ++ cat x) (map-set hooks rows t r ∙ ap (set (map hooks rows) t) (e ∙ ap (λ (x : List ℕ). set (set x i a) j b) (sym (map_get hooks rows t idle [] ht))))
      ∙ ap (λ (x : List ℕ). sh ++ x) (cat_set2 11 (map hooks rows) t i j a b h11 (rw length-map ht) hi hj)
      ∙ sym (set_append_add sh (set (cat (map hooks rows)) (t * 11 + i) a) (t * 11 + j) b)
      ∙ ap (λ (x : List ℕ). set x (length sh + (t * 11 + j)) b) (sym (set_append_add sh (cat (map hooks rows)) (t * 11 + i) a))
      ∙ ap (λ (x : ℕ). set (set (hv sh rows) (x + (t * 11 + i)) a) (x + (t * 11 + j)) b) h8

-- ---- the hooks of a row of which one is set
module _ (l : List ℕ) (a b c : ℕ) (e : length l ≡ 8) where
  pub hook_stolen : (k v : ℕ) → k < 8 → set l k v ++ (a ∷ b ∷ c ∷ []) ≡ set (l ++ (a ∷ b ∷ c ∷ [])) k v
  hook_stolen k v h = sym (set-append_left l (a ∷ b ∷ c ∷ []) k v (omega arith))

  pub get-stolen : (k : ℕ) → k < 8 → get_or (l ++ (a ∷ b ∷ c ∷ [])) k 0 ≡ get_or l k 0
  get-stolen k h = get_or-append l (a ∷ b ∷ c ∷ []) 0 k (omega arith)

  past : (k v : ℕ) → set (l ++ (a ∷ b ∷ c ∷ [])) (8 + k) v ≡ l ++ set (a ∷ b ∷ c ∷ []) k v
  past k v = ap (λ (x : ℕ). set (l ++ (a ∷ b ∷ c ∷ [])) (x + k) v) (sym e) ∙ set_append_add l (a ∷ b ∷ c ∷ []) k v

  beyond : (k : ℕ) → get_or (l ++ (a ∷ b ∷ c ∷ [])) (8 + k) 0 ≡ get_or (a ∷ b ∷ c ∷ []) k 0
  beyond k = ap (λ (x : ℕ). get_or (l ++ (a ∷ b ∷ c ∷ [])) (x + k) 0) (sym e) ∙ get_or-append-add l (a ∷ b ∷ c ∷ []) k 0

  pub hook_reclaim : (v : ℕ) → l ++ (v ∷ b ∷ c ∷ []) ≡ set (l ++ (a ∷ b ∷ c ∷ [])) to_reclaim v
  hook_reclaim v = sym (past 0 v)

  pub hook_keep : (v : ℕ) → l ++ (a ∷ v ∷ c ∷ []) ≡ set (l ++ (a ∷ b ∷ c ∷ [])) to_keep v
  hook_keep v = sym (past 1 v)

  pub hook_alone : (v : ℕ) → l ++ (a ∷ b ∷ v ∷ []) ≡ set (l ++ (a ∷ b ∷ c ∷ [])) alone v
  hook_alone v = sym (past 2 v)

  pub get-reclaim : get_or (l ++ (a ∷ b ∷ c ∷ [])) to_reclaim 0 ≡ a
  get-reclaim = beyond 0

  pub get-keep : get_or (l ++ (a ∷ b ∷ c ∷ [])) to_keep 0 ≡ b
  get-keep = beyond 1

  pub get-alone : get_or (l ++ (a ∷ b ∷ c ∷ [])) alone 0 ≡ c
  get-alone = beyond 2
