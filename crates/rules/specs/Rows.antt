-- A thread's row in its two tables, and the words that the rules have for a row that changes.
use Rattle.std.specs.Prelude.{ℕ, zero, suc, ◌+◌, ◌*◌, ◌-◌, ◌%◌, Bool, true, false, List, [], ◌∷◌, get_or, set, eqb, ltb}
use Rattle.base.specs.Pick.{pick}
use Rattle.rules.specs.Sizes.{records, sources, nodes, row32, row64, Settings}
use Rattle.rules.specs.Words.{plus, less}
use Rattle.rules.specs.Field.{Field, Field-discrete}
use Rattle.rules.specs.Pc.{code}
use Rattle.rules.specs.declared.pc.Pc.{Pc}
use Rattle.rules.specs.declared.Row.{Row}

-- ---- the row in the tables: 21 words from l's b on, 5 from m's d on
abbrev pub row_from : List ℕ → ℕ → List ℕ → ℕ → Row
row_from l b m d =
    record {
      place = get_or l (b + 0) 0;
      operation = get_or l (b + 1) 0;
      rec = get_or l (b + 2) 0;
      next = get_or l (b + 3) 0;
      source = get_or l (b + 4) 0;
      node = get_or l (b + 5) 0;
      seen = get_or l (b + 6) 0;
      shard = get_or l (b + 7) 0;
      lone = get_or l (b + 8) 0;
      reclaimable = get_or l (b + 9) 0;
      unreclaimed = get_or l (b + 10) 0;
      tail = get_or l (b + 11) 0;
      done = get_or l (b + 12) 0;
      stolen =
          get_or l (b + 13) 0 ∷ get_or l (b + 14) 0 ∷ get_or l (b + 15) 0 ∷ get_or l (b + 16) 0
          ∷ get_or l (b + 17) 0 ∷ get_or l (b + 18) 0 ∷ get_or l (b + 19) 0 ∷ get_or l (b + 20) 0 ∷ [];
      count = get_or m (d + 0) 0;
      rcount = get_or m (d + 1) 0;
      total = get_or m (d + 2) 0;
      due = get_or m (d + 3) 0;
      clock = get_or m (d + 4) 0;
    }

unfoldable pub row_at : List ℕ → List ℕ → ℕ → Row
row_at l m t = row_from l (t * row32) m (t * row64)

abbrev pub words32 : Row → List ℕ
words32 r =
    r.place ∷ r.operation ∷ r.rec ∷ r.next ∷ r.source ∷ r.node ∷ r.seen ∷ r.shard ∷ r.lone ∷ r.reclaimable
    ∷ r.unreclaimed ∷ r.tail ∷ r.done ∷ get_or r.stolen 0 0 ∷ get_or r.stolen 1 0 ∷ get_or r.stolen 2 0
    ∷ get_or r.stolen 3 0 ∷ get_or r.stolen 4 0 ∷ get_or r.stolen 5 0 ∷ get_or r.stolen 6 0
    ∷ get_or r.stolen 7 0 ∷ []

abbrev pub words64 : Row → List ℕ
words64 r = r.count ∷ r.rcount ∷ r.total ∷ r.due ∷ r.clock ∷ []

-- ws stored from b on
unfoldable pub stored_from : List ℕ → ℕ → List ℕ → List ℕ
stored_from l b [] = l
stored_from l b (w ∷ ws) = stored_from (set l b w) (b + 1) ws

abbrev pub stored32 : List ℕ → ℕ → Row → List ℕ
stored32 l t r = stored_from l (t * row32) (words32 r)

abbrev pub stored64 : List ℕ → ℕ → Row → List ℕ
stored64 m t r = stored_from m (t * row64) (words64 r)

-- the largest content of each of the 21 words
abbrev pub row_most : Settings → List ℕ
row_most g =
    code Pc.S3 ∷ 12 ∷ records ∷ records ∷ sources ∷ nodes ∷ nodes ∷ (g.shards - 1) ∷ nodes ∷ nodes ∷ nodes ∷ nodes ∷ 2
    ∷ nodes ∷ nodes ∷ nodes ∷ nodes ∷ nodes ∷ nodes ∷ nodes ∷ nodes ∷ []

-- whether each of n words, from b + i on, is at most what `most` has from i on
unfoldable pub within : List ℕ → List ℕ → ℕ → ℕ → ℕ → Bool
within most l b i zero = true
within most l b i (suc n) = pick (ltb (get_or most i 0) (get_or l (b + i) 0)) false (within most l b (i + 1) n)

abbrev pub row_fits : Settings → List ℕ → ℕ → Bool
row_fits g l t = within (row_most g) l (t * row32) 0 row32

-- ---- a row that changes
abbrev pub idle : Row
idle = row_from [] 0 [] 0

-- the row's shard; a row whose shard is out of range answers 29 in any case
abbrev pub shard_in : Row → ℕ
shard_in r = r.shard % 8

-- field f becomes v, the stolen heads become l, and every other field g stays as it was
abbrev kept : Field → ℕ → Field → ℕ → ℕ
kept f v g old = elim (Field-discrete f g) [ yes e ↦ v | no ne ↦ old ]

abbrev changed : Field → ℕ → List ℕ → Row → Row
changed f v l r =
    record {
      place = kept f v Field.Place r.place;
      operation = kept f v Field.Operation r.operation;
      rec = kept f v Field.Rec r.rec;
      next = kept f v Field.Next r.next;
      source = kept f v Field.Source r.source;
      node = kept f v Field.Node r.node;
      seen = kept f v Field.Seen r.seen;
      shard = kept f v Field.Shard r.shard;
      lone = kept f v Field.Lone r.lone;
      reclaimable = kept f v Field.Reclaimable r.reclaimable;
      unreclaimed = kept f v Field.Unreclaimed r.unreclaimed;
      tail = kept f v Field.Tail r.tail;
      done = kept f v Field.Done r.done;
      stolen = l;
      count = kept f v Field.Count r.count;
      rcount = kept f v Field.Rcount r.rcount;
      total = kept f v Field.Total r.total;
      due = kept f v Field.Due r.due;
      clock = kept f v Field.Clock r.clock;
    }

abbrev pub with : Field → ℕ → Row → Row
with f v r = changed f v r.stolen r

abbrev pub go_to : Pc → Row → Row
go_to p r = with Field.Place (code p) r

abbrev pub with_rec : ℕ → Row → Row
with_rec v r = with Field.Rec v r

abbrev pub with_next : ℕ → Row → Row
with_next v r = with Field.Next v r

abbrev pub with_node : ℕ → Row → Row
with_node v r = with Field.Node v r

abbrev pub seeing : ℕ → Row → Row
seeing v r = with Field.Seen v r

abbrev pub in_shard : ℕ → Row → Row
in_shard v r = with Field.Shard v r

abbrev pub with_lone : ℕ → Row → Row
with_lone v r = with Field.Lone v r

abbrev pub reclaiming : ℕ → Row → Row
reclaiming v r = with Field.Reclaimable v r

-- the kept list from v to its last node z
abbrev pub keeping : ℕ → ℕ → Row → Row
keeping v z r = with Field.Unreclaimed v (with Field.Tail z r)

abbrev pub with_done : ℕ → Row → Row
with_done v r = with Field.Done v r

-- the list stolen from the row's shard is that from v on
abbrev pub stealing : ℕ → Row → Row
stealing v r = changed Field.Shard r.shard (set r.stolen (shard_in r) v) r

abbrev pub counting : ℕ → Row → Row
counting v r = with Field.Count v r

abbrev pub taking : ℕ → Row → Row
taking v r = with Field.Rcount v r

abbrev pub dated : ℕ → ℕ → Row → Row
dated d c r = with Field.Due d (with Field.Clock c r)

-- one node more was reclaimed
abbrev pub freed : Row → Row
freed r = with Field.Total (plus r.total 1) r

-- by a pass, which has one less of its rcount to give back
abbrev pub freeing : Row → Row
freeing r = freed (taking (less r.rcount 1) r)

-- the first stolen node of the row's shard
abbrev pub first : Row → ℕ
first r = get_or r.stolen (shard_in r) 0

-- the first of n shards from k on whose stolen list is not empty; k + n if there is none
unfoldable pub stolen_from : List ℕ → ℕ → ℕ → ℕ
stolen_from stolen k zero = k
stolen_from stolen k (suc n) = pick (eqb (get_or stolen k 0) 0) (stolen_from stolen (k + 1) n) k
