-- What is in range passes the tests for 29: the test of a cell's content, and that of a row's words.
use Rattle.std.specs.Prelude.{ℕ, suc, ◌+◌, ◌*◌, ◌≤◌, ◌≡◌, refl, true, List, get_or}
use Rattle.std.proofs.Common.{ne_eqb, le-ltb, le-leb}
use Rattle.rules.specs.Sizes.{row32, Settings}
use Rattle.rules.specs.Cells.{address, accessed, unread, in_range}
use Rattle.rules.specs.declared.Class.{Class}
use Rattle.rules.specs.declared.Class.TheVariants.{Anything, ARecord, ANode, AnAvailable, AState, AHolder, NoCell}
use Rattle.rules.specs.Rows.{row_at, row_fits, row_most, within}
use Rattle.rules.specs.declared.Named.{Named}
use Rattle.rules.specs.declared.Access.{Access}
use Rattle.rules.specs.declared.Access.TheVariants as by
use Rattle.view.specs.View.{View, InTable, get, named}
use Rattle.view.specs.Written.{plain, address_in}
use Rattle.view.specs.Turn.{InRange}
use Rattle.ranges.specs.Range.{Fit}
use Rattle.ranges.specs.Names.{InClass, Held}

-- ---- cells
in_class : (k : Class) (x : ℕ) → InClass k x → in_range k x ≡ true
unfolding in_range
in_class Anything x h = le-leb x _ h
in_class ARecord x h = le-leb x _ h
in_class ANode x h = le-leb x _ h
in_class AnAvailable x h = rw (ne_eqb x 1 h.0) (le-leb x _ h.1)
in_class AState x h = le-leb x _ h
in_class AHolder x h = le-leb x _ h
in_class NoCell x h = absurd h

-- 0 is in the range of a class that holds something
null_in : (k : Class) (x : ℕ) → InClass k x → in_range k 0 ≡ true
unfolding in_range
null_in Anything x h = refl
null_in ARecord x h = refl
null_in ANode x h = refl
null_in AnAvailable x h = refl
null_in AState x h = refl
null_in AHolder x h = refl
null_in NoCell x h = absurd h

module _ (v : View) (h : (c : Named) → Held c (get c v)) where
  loaded : (c : Named) → InTable c → in_range (address c).class (get c v) ≡ true
  loaded c k = rw (address_in c k) (in_class (plain c).class (get c v) (h c).range)

  -- a store takes any word
  stored : (c : Named) → InTable c → in_range (unread (address c)).class (get c v) ≡ true
  stored c k = rw (address_in c k, null_in (plain c).class (get c v) (h c).range) (in_class Anything (get c v) (h c).word)

  pub is_in_range : InRange v
  is_in_range = record { held = of; null = λ c k. rw (address_in c k) (null_in (plain c).class (get c v) (h c).range) }
    where
      of : (a : Access) → InTable (named a) → in_range (accessed a).class (get (named a) v) ≡ true
      of (by.Load c) k = loaded c k
      of (by.Store c) k = stored c k
      of (by.HazardStore c) k = stored c k
      of (by.Update c) k = loaded c k
      of (by.Private c) k = loaded c k

-- ---- rows
-- one word more
word : (m l : List ℕ) (b i n : ℕ) → get_or l (b + i) 0 ≤ get_or m i 0 → within m l b (i + 1) n ≡ true → within m l b i (suc n) ≡ true
unfolding within
word m l b i n h k = rw (le-ltb (get_or m i 0) (get_or l (b + i) 0) h) k

pub fits-row : (g : Settings) (l m : List ℕ) (t : ℕ) → Fit g (row_at l m t) → row_fits g l t ≡ true
unfolding row_at within
fits-row g l m t z =
    w 0 20 z.words.place (w 1 19 z.words.operation (w 2 18 z.words.rec (w 3 17 z.words.next (w 4 16 z.words.source (w 5 15 z.words.node (w 6 14 z.words.seen
    (w 7 13 z.words.shard (w 8 12 z.words.lone (w 9 11 z.words.reclaimable (w 10 10 z.words.unreclaimed (w 11 9 z.words.tail (w 12 8 z.words.done
    (w 13 7 (z.stolen 0) (w 14 6 (z.stolen 1) (w 15 5 (z.stolen 2) (w 16 4 (z.stolen 3) (w 17 3 (z.stolen 4) (w 18 2 (z.stolen 5) (w 19 1 (z.stolen 6) (w 20 0 (z.stolen 7) refl))))))))))))))))))))
  where
    w : (i n : ℕ) → get_or l (t * row32 + i) 0 ≤ get_or (row_most g) i 0 → within (row_most g) l (t * row32) (i + 1) n ≡ true → within (row_most g) l (t * row32) i (suc n) ≡ true
    w i n = word (row_most g) l (t * row32) i n
