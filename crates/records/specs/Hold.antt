-- Who holds each record: the available list behind its lock bit, the threads, and the owners; and the list of all records.
use Rattle.std.specs.Prelude.{◌≡◌, ◌≢◌, List, [], ◌∷◌, ℕ, suc, ◌+◌, ◌*◌, ◌-◌, ◌≤◌, ◌<◌, min, length, get_or}
use Rattle.rules.specs.Sizes.{records}
use Rattle.rules.specs.Pc.{pc_of}
use Rattle.rules.specs.declared.pc.Pc.{Pc}
use Rattle.rules.specs.declared.pc.Pc.TheVariants as Pc
use Rattle.rules.specs.Rows.{idle}
use Rattle.rules.specs.declared.Row.{Row}
use Rattle.lists.specs.Occ.{occ, eq01, sum}
use Rattle.lists.specs.Chain.{Seg}
use Rattle.view.specs.Field.{IsId}
use Rattle.view.specs.View.{View}
use Rattle.view.specs.Every.{classed}

-- ---- classes of places: holds nothing; saw a record at the head; has the lock, and has read behind the head; holds a record
-- whose `available_next` is anything, is 0, is what was seen at the head; holds a record that is not on the list yet; owns one
pub data Hold : Type 0 where
  free looks locks popped dirty clear aims pends owns : Hold

abbrev pub hold : Pc → Hold
hold =
    classed free
    ((Pc.A2, looks) ∷ (Pc.A3, locks) ∷ (Pc.A4, popped) ∷ (Pc.A5, dirty) ∷ (Pc.A6, clear) ∷ (Pc.N2, pends) ∷ (Pc.N3, clear) ∷ (Pc.D1, clear) ∷ (Pc.D2, clear) ∷ (Pc.P1, dirty) ∷ (Pc.P2, dirty) ∷ (Pc.P3, aims)
    ∷ (Pc.V0, owns) ∷ (Pc.V1, owns) ∷ (Pc.V2, owns) ∷ (Pc.V3, owns) ∷ (Pc.Reset, owns) ∷ (Pc.Raw, owns) ∷ [])

-- 1 where the thread holds record n
abbrev pub has_of : Hold → ℕ → ℕ → ℕ
has_of free n rec = 0
has_of looks n rec = 0
has_of locks n rec = 0
has_of popped n rec = 0
has_of dirty n rec = eq01 n rec
has_of clear n rec = eq01 n rec
has_of aims n rec = eq01 n rec
has_of pends n rec = eq01 n rec
has_of owns n rec = 0

abbrev pub has : ℕ → Row → ℕ
has n r = has_of (hold (pc_of r.place)) n r.rec

-- 1 where the thread has the lock
abbrev pub lock_of : Hold → ℕ
lock_of free = 0
lock_of looks = 0
lock_of locks = 1
lock_of popped = 1
lock_of dirty = 0
lock_of clear = 0
lock_of aims = 0
lock_of pends = 0
lock_of owns = 0

abbrev pub lock : Row → ℕ
lock r = lock_of (hold (pc_of r.place))

-- 1 where record n is the thread's and not on the list of records yet
abbrev pub off_of : Hold → ℕ → ℕ → ℕ
off_of free n rec = 0
off_of looks n rec = 0
off_of locks n rec = 0
off_of popped n rec = 0
off_of dirty n rec = 0
off_of clear n rec = 0
off_of aims n rec = 0
off_of pends n rec = eq01 n rec
off_of owns n rec = 0

abbrev pub off : ℕ → Row → ℕ
off n r = off_of (hold (pc_of r.place)) n r.rec

-- a holder is 0 where the row is unused, 1 where no thread owns it, t + 2 where t does
abbrev pub used : ℕ → ℕ
used h = min 1 h

abbrev pub own : ℕ → ℕ
own h = min 1 (h - 1)

-- what a thread knows of `head_available`, of its record's `available_next` and of its holder
abbrev pub KnowOf : Hold → ℕ → List ℕ → List ℕ → ℕ → ℕ → ℕ → Type 0
KnowOf free ha avn ho t rec nx = Unit {0}
KnowOf looks ha avn ho t rec nx = 0 < rec
KnowOf locks ha avn ho t rec nx = (ha ≡ 2 * rec + 1) × (0 < rec)
KnowOf popped ha avn ho t rec nx = (ha ≡ 2 * rec + 1) × (0 < rec) × (get_or avn rec 0 ≡ nx)
KnowOf dirty ha avn ho t rec nx = IsId records rec
KnowOf clear ha avn ho t rec nx = (get_or avn rec 0 ≡ 0) × IsId records rec
KnowOf aims ha avn ho t rec nx = (get_or avn rec 0 ≡ nx) × IsId records rec
KnowOf pends ha avn ho t rec nx = (get_or avn rec 0 ≡ 0) × IsId records rec
KnowOf owns ha avn ho t rec nx = (get_or ho rec 0 ≡ t + 2) × IsId records rec

abbrev pub Know : ℕ → List ℕ → List ℕ → ℕ → Row → Type 0
Know ha avn ho t r = KnowOf (hold (pc_of r.place)) ha avn ho t r.rec r.next

-- ---- the layer
pub record RecordsAt (ha head : ℕ) (avn next ho : List ℕ) (rows : List Row) : Type 0 where
  -- the available list, and the lock in the low bit
  pub available : List ℕ
  pub first : ℕ
  pub bit : ℕ
  pub cell : ha ≡ 2 * first + bit
  pub linked : Seg avn first available 0
  -- available + held + owned = used
  pub part : (n : ℕ) → occ n available + sum (has n) rows + own (get_or ho n 0) ≡ used (get_or ho n 0)
  pub locked : sum lock rows ≡ bit
  pub lockle : bit ≤ 1
  pub know : (u : ℕ) → u < length rows → Know ha avn ho u (get_or rows u idle)
  -- an owned record and an unused one have no `available_next`
  pub apart : (n : ℕ) → get_or ho n 0 ≢ 1 → get_or avn n 0 ≡ 0
  -- every used record is on the list, or its thread is about to put it there
  pub all : List ℕ
  pub chain : Seg next head all 0
  pub listed : (n : ℕ) → occ n all + sum (off n) rows ≡ used (get_or ho n 0)
  pub avn_long : length avn ≡ suc records
  pub next_long : length next ≡ suc records
  pub ho_long : length ho ≡ suc records

abbrev pub RecordsIn : View → Type 0
RecordsIn v = RecordsAt v.heads.head_available v.heads.record_head v.records.available_next v.records.next v.records.holder v.rows
