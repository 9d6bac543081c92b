-- What the test for 29 gives: the names that a step uses are cells', what it reads is in its range, and its row's words are in theirs.
use Rattle.std.specs.Prelude.{ℕ, zero, suc, ◌+◌, ◌*◌, ◌-◌, ◌^◌, ◌≤◌, ◌<◌, ◌≡◌, refl, ◌≢◌, Bool, true, false, List, [], ◌∷◌, map, length, get_or, eqb, ltb}
use Rattle.std.proofs.Common.{sym, ◌∙◌, eqb-true, ltb-true, ltb-false, leb-true, not-suc-le-zero, le_of_suc-le-suc, arith}
use Rattle.std.proofs.lemmas.Bool.{false≢true, eqb-false}
use Rattle.std.proofs.Math.ListN.{get_or-map}
use Rattle.std.proofs.Math.Decide.{dec_lt}
use Rattle.base.specs.Pick.{pick, both, is-both}
use Rattle.rules.specs.Sizes.{records, sources, nodes, threads, row32, Settings}
use Rattle.rules.specs.Pc.{order, pc_of, code}
use Rattle.rules.specs.declared.pc.Pc.{Pc}
use Rattle.rules.specs.Cells.{address, accessed, unread, cell_at, nowhere, in_range}
use Rattle.rules.specs.declared.Class.{Class}
use Rattle.rules.specs.declared.Class.TheVariants.{Anything, NoCell}
use Rattle.rules.specs.Rows.{row_at, row_fits, row_most, within}
use Rattle.rules.specs.declared.Cell.{Cell}
use Rattle.rules.specs.declared.Row.{Row}
use Rattle.rules.specs.declared.Named.{Named}
use Rattle.rules.specs.declared.Named.TheVariants as cell
use Rattle.rules.specs.declared.Access.{Access}
use Rattle.rules.specs.declared.Access.TheVariants as by
use Rattle.view.specs.Field.{IsId}
use Rattle.view.specs.View.{shard_heads, InTable, named}
use Rattle.view.specs.Written.{narrow, plain, address_in}

-- ---- a test that passed
pub not_first : (b : Bool) (x : Bool) → pick b false x ≡ true → (b ≡ false) × (x ≡ true)
not_first true x e = absurd (false≢true e)
not_first false x e = (refl, e)

-- ---- names of cells
-- the class of no cell holds nothing
pub is-cell : (class : Class) (x : ℕ) → in_range class x ≡ true → class ≢ NoCell
unfolding in_range
is-cell class x h e = false≢true (rw e at h)

-- a cell that is taken if two tests fail
in_word : (n id : ℕ) (c : Cell) → (pick (eqb id 0) nowhere (pick (ltb n id) nowhere c)).class ≢ NoCell → IsId n id
in_word n id c = go (eqb id 0) (ltb n id) refl refl
  where
    go : (a b : Bool) → eqb id 0 ≡ a → ltb n id ≡ b → (pick a nowhere (pick b nowhere c)).class ≢ NoCell → IsId n id
    go true b ea eb h = absurd (h refl)
    go false true ea eb h = absurd (h refl)
    go false false ea eb h = let z = eqb-false id 0 ea in (omega arith, ltb-false n id eb)

shard_is_in : (k : ℕ) (c : Cell) → (pick (ltb k 8) c nowhere).class ≢ NoCell → k < shard_heads
shard_is_in k c = go (ltb k 8) refl
  where
    go : (a : Bool) → ltb k 8 ≡ a → (pick a c nowhere).class ≢ NoCell → k < shard_heads
    go true e h = ltb-true k 8 e
    go false e h = absurd (h refl)

pub reached : (c : Named) → (address c).class ≢ NoCell → InTable c
unfolding address
reached cell.Nothing h = tt
reached cell.RecordHead h = tt
reached cell.HeadAvailable h = tt
reached cell.Shutdown h = tt
reached (cell.ShardHead k) h = shard_is_in k _ h
reached cell.RecordCount h = tt
reached cell.Count h = tt
reached cell.DueTime h = tt
reached cell.BulkReclaims h = tt
reached (cell.Hazard r) h = in_word records r _ h
reached (cell.AvailableNext r) h = in_word records r _ h
reached (cell.RecordNext r) h = in_word records r _ h
reached (cell.Holder r) h = in_word records r _ h
reached (cell.Source b) h = in_word sources b _ h
reached (cell.NodeNext n) h = in_word nodes n _ h
reached (cell.NodeState n) h = in_word nodes n _ h

unread-cell : (c : Cell) (x : ℕ) → in_range (unread c).class x ≡ true → c.class ≢ NoCell
unread-cell c x h e = go (in_range c.class 0) refl h
  where
    go : (b : Bool) → in_range c.class 0 ≡ b → in_range (pick b (cell_at c.table c.at Anything) c).class x ≡ true → ⊥
    go true q k = is-cell c.class 0 q e
    go false q k = is-cell c.class x k e

pub access-reached : (a : Access) (x : ℕ) → in_range (accessed a).class x ≡ true → InTable (named a)
access-reached (by.Load c) x h = reached c (is-cell _ x h)
access-reached (by.Store c) x h = reached c (unread-cell (address c) x h)
access-reached (by.HazardStore c) x h = reached c (unread-cell (address c) x h)
access-reached (by.Update c) x h = reached c (is-cell _ x h)
access-reached (by.Private c) x h = reached c (is-cell _ x h)

-- ---- contents
-- the largest content of a cell
abbrev pub limit : Named → ℕ
limit cell.Nothing = 18446744073709551615
limit cell.RecordHead = records
limit cell.HeadAvailable = 2 * records + 1
limit cell.Shutdown = 2
limit (cell.ShardHead k) = nodes
limit cell.RecordCount = 18446744073709551615
limit cell.Count = 18446744073709551615
limit cell.DueTime = 18446744073709551615
limit cell.BulkReclaims = 18446744073709551615
limit (cell.Hazard r) = nodes
limit (cell.AvailableNext r) = records
limit (cell.RecordNext r) = records
limit (cell.Holder r) = threads + 1
limit (cell.Source b) = nodes
limit (cell.NodeNext n) = nodes
limit (cell.NodeState n) = 2

-- a step that reads its cell finds in it what fits
abbrev pub Reads : Access → Type 0
Reads (by.Load c) = Unit {0}
Reads (by.Store c) = ⊥
Reads (by.HazardStore c) = ⊥
Reads (by.Update c) = Unit {0}
Reads (by.Private c) = Unit {0}

in_plain : (c : Named) (x : ℕ) → in_range (plain c).class x ≡ true → x ≤ limit c
unfolding in_range
in_plain cell.Nothing x h = leb-true x _ h
in_plain cell.RecordHead x h = leb-true x _ h
in_plain cell.HeadAvailable x h = leb-true x _ (not_first (eqb x 1) _ h).1
in_plain cell.Shutdown x h = leb-true x _ h
in_plain (cell.ShardHead k) x h = leb-true x _ h
in_plain cell.RecordCount x h = leb-true x _ h
in_plain cell.Count x h = leb-true x _ h
in_plain cell.DueTime x h = leb-true x _ h
in_plain cell.BulkReclaims x h = leb-true x _ h
in_plain (cell.Hazard r) x h = leb-true x _ h
in_plain (cell.AvailableNext r) x h = leb-true x _ h
in_plain (cell.RecordNext r) x h = leb-true x _ h
in_plain (cell.Holder r) x h = leb-true x _ h
in_plain (cell.Source b) x h = leb-true x _ h
in_plain (cell.NodeNext n) x h = leb-true x _ h
in_plain (cell.NodeState n) x h = leb-true x _ h

pub in_limit : (c : Named) (x : ℕ) → in_range (address c).class x ≡ true → x ≤ limit c
in_limit c x h = in_plain c x (rw (address_in c (reached c (is-cell _ x h))) at h)

pub read_limit : (a : Access) (x : ℕ) → Reads a → in_range (accessed a).class x ≡ true → x ≤ limit (named a)
read_limit (by.Load c) x q h = in_limit c x h
read_limit (by.Store c) x q h = absurd q
read_limit (by.HazardStore c) x q h = absurd q
read_limit (by.Update c) x q h = in_limit c x h
read_limit (by.Private c) x q h = in_limit c x h

-- a content of a narrow cell is not cut
pub limit-narrow : (c : Named) → narrow c ≡ true → limit c < 2 ^ 32
limit-narrow cell.Nothing e = absurd (false≢true e)
limit-narrow cell.RecordHead e = omega arith
limit-narrow cell.HeadAvailable e = omega arith
limit-narrow cell.Shutdown e = omega arith
limit-narrow (cell.ShardHead k) e = omega arith
limit-narrow cell.RecordCount e = absurd (false≢true e)
limit-narrow cell.Count e = absurd (false≢true e)
limit-narrow cell.DueTime e = absurd (false≢true e)
limit-narrow cell.BulkReclaims e = absurd (false≢true e)
limit-narrow (cell.Hazard r) e = omega arith
limit-narrow (cell.AvailableNext r) e = omega arith
limit-narrow (cell.RecordNext r) e = omega arith
limit-narrow (cell.Holder r) e = omega arith
limit-narrow (cell.Source b) e = omega arith
limit-narrow (cell.NodeNext n) e = omega arith
limit-narrow (cell.NodeState n) e = omega arith

-- ---- rows
pub record Small (g : Settings) (r : Row) : Type 0 where
  pub place : r.place ≤ code Pc.S3
  pub rec : r.rec ≤ records
  pub next : r.next ≤ records
  pub source : r.source ≤ sources
  pub node : r.node ≤ nodes
  pub seen : r.seen ≤ nodes
  pub shard : r.shard ≤ g.shards - 1
  pub lone : r.lone ≤ nodes
  pub reclaimable : r.reclaimable ≤ nodes
  pub unreclaimed : r.unreclaimed ≤ nodes
  pub tail : r.tail ≤ nodes
  pub done : r.done ≤ 2
  pub stolen : (k : ℕ) → get_or r.stolen k 0 ≤ nodes

all-within : (m l : List ℕ) (b i n : ℕ) → within m l b i n ≡ true → (k : ℕ) → i ≤ k → k < i + n → get_or l (b + k) 0 ≤ get_or m k 0
unfolding within
all-within m l b i zero h k p q = absurd (omega arith)
all-within m l b i (suc n) h k p q = go (dec_lt i k) (λ lt. all-within m l b (i + 1) n f.1 k (omega arith) (omega arith))
  where
    f : (ltb (get_or m i 0) (get_or l (b + i) 0) ≡ false) × (within m l b (i + 1) n ≡ true)
    f = not_first _ _ h

    go : Dec (i < k) → (i < k → get_or l (b + k) 0 ≤ get_or m k 0) → get_or l (b + k) 0 ≤ get_or m k 0
    go (yes lt) rest = rest lt
    go (no ge) rest = let e : i ≡ k = omega arith in rw e at (ltb-false (get_or m i 0) (get_or l (b + i) 0) f.0)

pub small_of : (g : Settings) (l m : List ℕ) (t : ℕ) → row_fits g l t ≡ true → Small g (row_at l m t)
unfolding row_at
small_of g l m t h = record {
  place = at 0 (omega arith);
  rec = at 2 (omega arith);
  next = at 3 (omega arith);
  source = at 4 (omega arith);
  node = at 5 (omega arith);
  seen = at 6 (omega arith);
  shard = at 7 (omega arith);
  lone = at 8 (omega arith);
  reclaimable = at 9 (omega arith);
  unreclaimed = at 10 (omega arith);
  tail = at 11 (omega arith);
  done = at 12 (omega arith);
  stolen = eight (at 13 (omega arith)) (at 14 (omega arith)) (at 15 (omega arith)) (at 16 (omega arith)) (at 17 (omega arith)) (at 18 (omega arith)) (at 19 (omega arith)) (at 20 (omega arith));
}
  where
    at : (k : ℕ) → k < row32 → get_or l (t * row32 + k) 0 ≤ get_or (row_most g) k 0
    at k q = all-within (row_most g) l (t * row32) 0 row32 h k (omega arith) (omega arith)

    eight : {a b c d e f x y : ℕ} → a ≤ nodes → b ≤ nodes → c ≤ nodes → d ≤ nodes → e ≤ nodes → f ≤ nodes → x ≤ nodes → y ≤ nodes → (k : ℕ) → get_or (a ∷ b ∷ c ∷ d ∷ e ∷ f ∷ x ∷ y ∷ []) k 0 ≤ nodes
    eight a b c d e f x y zero = a
    eight a b c d e f x y (suc zero) = b
    eight a b c d e f x y (suc (suc zero)) = c
    eight a b c d e f x y (suc (suc (suc zero))) = d
    eight a b c d e f x y (suc (suc (suc (suc zero)))) = e
    eight a b c d e f x y (suc (suc (suc (suc (suc zero))))) = f
    eight a b c d e f x y (suc (suc (suc (suc (suc (suc zero)))))) = x
    eight a b c d e f x y (suc (suc (suc (suc (suc (suc (suc zero))))))) = y
    eight a b c d e f x y (suc (suc (suc (suc (suc (suc (suc (suc k)))))))) = omega arith

-- ---- places
-- the numbers from k on
abbrev counted : List ℕ → ℕ → Bool
counted [] k = true
counted (x ∷ l) k = both (eqb x k) (counted l (suc k))

counted-at : (l : List ℕ) (k n d : ℕ) → counted l k ≡ true → n < length l → get_or l n d ≡ k + n
counted-at [] k n d h q = absurd (not-suc-le-zero q)
counted-at (x ∷ l) k zero d h q = let e = eqb-true x k (is-both (eqb x k) (counted l (suc k)) h).0 in omega arith
counted-at (x ∷ l) k (suc n) d h q = let e = counted-at l (suc k) n d (is-both (eqb x k) (counted l (suc k)) h).1 (le_of_suc-le-suc q) in omega arith

pub code_of : (n : ℕ) → n ≤ code Pc.S3 → code (pc_of n) ≡ n
code_of n h = sym (get_or-map code order n Pc.Unknown) ∙ counted-at (map code order) 0 n (code Pc.Unknown) refl (omega arith) ∙ omega arith
