-- A fresh domain meets every layer of the invariant.
use Rattle.std.specs.Prelude.{ℕ, zero, suc, ◌+◌, ◌*◌, ◌-◌, ◌≤◌, ◌≡◌, refl, List, [], ◌∷◌, map, get_or, take, drop, replicate}
use Rattle.std.proofs.Common.{sym, ap, ◌∙◌, subst, subst₂, inl, arith}
use Rattle.std.proofs.lemmas.List.{length-replicate}
use Rattle.rules.specs.Sizes.{records, sources, nodes, threads, words, row32, row64, head_cells, counter_cells, from_sources, from_records, from_rows, Settings}
use Rattle.rules.specs.Rows.{idle, row_at}
use Rattle.rules.specs.Step.{State, shared, state, part, lent, guards_of}
use Rattle.rules.specs.declared.Row.{Row}
use Rattle.lists.specs.Occ.{occ, eq01, eq01-other, sum}
use Rattle.lists.specs.Flat.{Rows}
use Rattle.lists.specs.Heap.{Heap, At, at_nil, waits}
use Rattle.lists.specs.Each.{Each}
use Rattle.lists.specs.Tab.{tab, tab_ext, tab-same, zeros}
use Rattle.view.specs.Field.{field}
use Rattle.view.specs.View.{View, view_of, shard_heads}
use Rattle.view.specs.Given.{Sized}
use Rattle.heap.specs.Hooks.{hooks, hv, loose}
use Rattle.heap.specs.Stage.{HeapIn, Shape, Ends}
use Rattle.records.specs.Hold.{RecordsIn, Know, has, lock, off, used}
use Rattle.shutdown.specs.Zone.{ZoneIn, OpenRow}
use Rattle.balance.specs.Balance.{CountIn, M, waiting, owes, over_none}
use Rattle.balance.specs.Used.{UsedIn, links}
use Rattle.balance.specs.Tally.{TallyIn, Done, inside}
use Rattle.balance.specs.Total.{TotalIn}
use Rattle.balance.specs.Swing.{SwingIn, swing, size_0}
use Rattle.claims.specs.Claim.{ClaimsIn, Val, Safe}
use Rattle.ranges.specs.Range.{Below, Fit, Ranges}
use Rattle.history.specs.Demand3.{fresh}
use Rattle.history.specs.Heard.{Aims}

abbrev none : ℕ → List ℕ
none n = replicate n 0

-- the view of a fresh domain
abbrev pub nothing : View
nothing = record {
  heads = record { record_head = 0; head_available = 0; mark = 0; shards = replicate shard_heads 0 };
  counters = record { record_count = 0; count = 0; due_time = 0; bulk_reclaims = 0; ticks = 0 };
  records = record { hazard = replicate (suc records) 0; available_next = replicate (suc records) 0; next = replicate (suc records) 0; holder = replicate (suc records) 0 };
  sources = replicate (suc sources) 0;
  nodes = record { next = replicate (suc nodes) 0; state = replicate (suc nodes) 0 };
  rows = replicate threads idle;
  guards = tab threads (λ t. guards_of (replicate (words * threads) 0) t);
}

field-none : (w j n m : ℕ) → field w j n (replicate m 0) ≡ replicate (suc n) 0
field-none w j n m = ap (λ (x : List ℕ). 0 ∷ x) (tab_ext n (λ i. get_or (replicate m 0) (i * w + j) 0) (λ i. 0) (λ i _. zeros m (i * w + j)) ∙ tab-same n 0)

shards-none : (n m : ℕ) → tab n (λ k. get_or (none m) (k + 3) 0) ≡ none n
shards-none n m = tab_ext n (λ k. get_or (none m) (k + 3) 0) (λ k. 0) (λ k _. zeros m (k + 3)) ∙ tab-same n 0

row-none : (a b t : ℕ) → row_at (replicate a 0) (replicate b 0) t ≡ idle
unfolding row_at
row-none a b t = simp zeros

rows_none : (n a b : ℕ) → tab n (λ t. row_at (replicate a 0) (replicate b 0) t) ≡ replicate n idle
rows_none n a b = tab_ext n (λ t. row_at (replicate a 0) (replicate b 0) t) (λ t. idle) (λ t _. row-none a b t) ∙ tab-same n idle

-- its parts
unfoldable bare : State
bare =
    state (shared (none head_cells) (none counter_cells) (none (4 * records)) (none sources) (none nodes) (none nodes)) (none (row32 * threads)) (none (row64 * threads)) (none (words * threads))

drop-none : (b m : ℕ) → drop b (none m) ≡ none (m - b)
drop-none zero m = ap none (let q : m ≡ m - 0 = omega arith in q)
drop-none (suc b) zero = ap none (let q : 0 ≡ 0 - suc b = omega arith in q)
drop-none (suc b) (suc m) = drop-none b m ∙ ap none (let q : m - b ≡ suc m - suc b = omega arith in q)

take_none : (n m : ℕ) → n ≤ m → take n (none m) ≡ none n
take_none zero m h = refl
take_none (suc n) zero h = absurd (omega arith)
take_none (suc n) (suc m) h = ap (λ (l : List ℕ). 0 ∷ l) (take_none n m (omega arith))

part_none : (b n m : ℕ) → b + n ≤ m → part b n (none m) ≡ none n
unfolding part
part_none b n m h = ap (take n) (drop-none b m) ∙ take_none n (m - b) (omega arith)

fresh-bare : fresh ≡ bare
unfolding fresh bare lent
fresh-bare = λ i. state (shared (part_none 0 head_cells ids (omega arith) i) (part_none 0 counter_cells sums (omega arith) i) (part_none from_records (4 * records) ids (omega arith) i) (part_none from_sources sources ids (omega arith) i) (none nodes) (none nodes)) (drop-none from_rows ids i) (drop-none counter_cells sums i) (none (words * threads))
  where
    ids : ℕ
    ids = from_rows + row32 * threads

    sums : ℕ
    sums = counter_cells + row64 * threads

bare-view : view_of bare ≡ nothing
unfolding view_of bare
bare-view = λ i. record {
  heads = record { record_head = 0; head_available = 0; mark = 0; shards = shards-none shard_heads 11 i };
  counters = record { record_count = 0; count = 0; due_time = 0; bulk_reclaims = 0; ticks = 0 };
  records = record { hazard = field-none 4 0 records (4 * records) i; available_next = field-none 4 1 records (4 * records) i; next = field-none 4 2 records (4 * records) i; holder = field-none 4 3 records (4 * records) i };
  sources = field-none 1 0 sources sources i;
  nodes = record { next = field-none 1 0 nodes nodes i; state = field-none 1 0 nodes nodes i };
  rows = rows_none threads (row32 * threads) (row64 * threads) i;
  guards = tab threads (λ t. guards_of (replicate (words * threads) 0) t);
}

pub fresh-view : view_of fresh ≡ nothing
fresh-view = ap view_of fresh-bare ∙ bare-view

-- ---- the layers
bare-sized : Sized bare
unfolding bare
bare-sized = record {
  cells = record { heads = length-replicate {A = ℕ} 11 0; counters = length-replicate {A = ℕ} 5 0; records = length-replicate {A = ℕ} (4 * records) 0; sources = length-replicate {A = ℕ} sources 0; next = length-replicate {A = ℕ} nodes 0; state = length-replicate {A = ℕ} nodes 0 };
  rows32 = length-replicate {A = ℕ} (row32 * threads) 0;
  rows64 = length-replicate {A = ℕ} (row64 * threads) 0;
  guards = length-replicate {A = ℕ} (words * threads) 0;
}

pub fresh-sized : Sized fresh
fresh-sized = subst Sized (sym fresh-bare) bare-sized

abbrev pub places : ℕ
places = 184

hv-none : hv (none shard_heads) (replicate threads idle) ≡ none places
hv-none = refl

lists-none : (k : ℕ) (p : ℕ) → ◌≡◌ {A = List ℕ} (get_or (replicate k []) p []) []
lists-none zero p = refl
lists-none (suc k) zero = refl
lists-none (suc k) (suc p) = lists-none k p

sum-none : (k n : ℕ) → sum (occ n) (replicate k []) ≡ 0
sum-none zero n = refl
sum-none (suc k) n = let a = sum-none k n in omega arith

idles : (k u : ℕ) → get_or (replicate k idle) u idle ≡ idle
idles zero u = refl
idles (suc k) zero = refl
idles (suc k) (suc u) = idles k u

-- what holds of an idle row holds of each
each : (P : ℕ → Row → Type 0) → ((u : ℕ) → P u idle) → (k u : ℕ) → P u (get_or (replicate k idle) u idle)
each P h k u = subst (P u) (sym (idles k u)) (h u)

wide : (k : ℕ) → Rows 11 (map hooks (replicate k idle))
wide zero = tt
wide (suc k) = (refl, wide k)

pub fresh-heap : (g : Settings) → HeapIn g nothing (replicate places [])
fresh-heap g = record {
  h8 = refl;
  h11 = wide threads;
  heap = subst (λ (x : List ℕ). Heap loose (none (suc nodes)) (none (suc nodes)) x (replicate places [])) (sym hv-none) (record {
    places = length-replicate {A = List ℕ} places [] ∙ sym (length-replicate {A = ℕ} places 0);
    nodes = refl;
    at = λ p _. subst₂ (λ (x : ℕ) (y : List ℕ). At (loose p) (none (suc nodes)) x y) (sym (zeros places p)) (sym (lists-none places p)) (at_nil (loose p) (none (suc nodes)));
    part = λ n. sum-none places n ∙ sym (ap (λ (x : ℕ). eq01 x 2) (zeros (suc nodes) n) ∙ eq01-other 0 2 (omega arith));
  });
  shape = λ u _. each (λ u x. Shape g x) (λ u. record { eight = refl; none = λ j _. zeros 8 j; reclaim = refl; keep = refl; lone = refl; here = tt }) threads u;
  ends = λ u _. each (Ends (replicate places [])) (λ u. record { tail = λ z. absurd (z refl); lone = λ z. absurd (z refl) }) threads u;
}

sums : (f : Row → ℕ) → f idle ≡ 0 → (k : ℕ) → sum f (replicate k idle) ≡ 0
sums f e zero = refl
sums f e (suc k) = let a = sums f e k in omega arith

pub fresh-records : RecordsIn nothing
fresh-records = record {
  available = [];
  first = 0;
  bit = 0;
  cell = refl;
  linked = refl;
  part = λ n. rw zeros (let a = sums (has n) refl threads in omega arith);
  locked = sums lock refl threads;
  lockle = omega arith;
  know = λ u _. each (Know 0 (none (suc records)) (none (suc records))) (λ u. tt) threads u;
  apart = λ n _. zeros (suc records) n;
  all = [];
  chain = refl;
  listed = λ n. rw zeros (let a = sums (off n) refl threads in omega arith);
  avn_long = length-replicate {A = ℕ} (suc records) 0;
  next_long = length-replicate {A = ℕ} (suc records) 0;
  ho_long = length-replicate {A = ℕ} (suc records) 0;
}

pub fresh-waits : (n : ℕ) → waits (none (suc nodes)) n ≡ 0
fresh-waits n = ap (λ (x : ℕ). eq01 x 2) (zeros (suc nodes) n) ∙ eq01-other 0 2 (omega arith)

none-waiting : (k : ℕ) → waiting (none k) ≡ 0
none-waiting zero = refl
none-waiting (suc k) = let a = none-waiting k in let b = eq01-other 0 2 (omega arith) in omega arith

level : (a b : ℕ) → a ≡ 0 → b ≡ 0 → 0 + a + 0 * M ≡ b + 0 * M
level a b p q = omega arith

pub fresh-count : (g : Settings) → CountIn g nothing
fresh-count g = record {
  balance = λ _. record { a = 0; b = 0; bal = level (sum owes (replicate threads idle)) (waiting (none (suc nodes))) (sums owes refl threads) (none-waiting (suc nodes)) };
  low = inl (over_none g 0);
  few = λ z. absurd (z refl);
  fits = omega arith;
  early = omega arith;
}

none-used : (k : ℕ) → sum used (none k) ≡ 0
none-used zero = refl
none-used (suc k) = let a = none-used k in omega arith

pub fresh-used : UsedIn nothing
fresh-used = record { counted = λ _. let a = sums links refl threads in let b = none-used (suc records) in omega arith; most = omega arith; null = refl }

pub fresh-tally : TallyIn nothing
fresh-tally = record { tally = sym (sums inside refl threads); dones = λ u _. each (λ u x. Done x) (λ u. tt) threads u }

pub fresh-total : TotalIn nothing
fresh-total = λ u _. each (λ u x. x.total ≤ 0) (λ u. omega arith) threads u

pub fresh-swing : SwingIn nothing
fresh-swing = let a = sums swing refl threads in let b = size_0 in omega arith

pub fresh-zone : ZoneIn nothing
fresh-zone = inl (refl, λ u _. each (λ u x. OpenRow x) (λ u. tt) threads u)

pub fresh-claims : ClaimsIn nothing (none (suc records)) (replicate places [])
fresh-claims = record {
  sources = λ b n e z. absurd (z (sym e ∙ zeros (suc sources) b));
  states = λ n. rw zeros (omega arith);
  claims = λ c n k. absurd (k.some (sym k.is ∙ zeros (suc records) c));
  vals = λ u _. each (λ u x. Val (none (suc records)) x) (λ u. tt) threads u;
  safe = λ u _. each (Safe (none (suc records)) 0 nothing.guards (none (suc records)) (replicate places [])) (λ u. tt) threads u;
  over = λ m c n k. k.some (sym k.is ∙ zeros (suc records) c);
  long = refl;
}

low : (m n : ℕ) → Below m (none n)
low m n k = rw (zeros n k) (omega arith)

pub fresh-ranges : (g : Settings) → Ranges g nothing
fresh-ranges g = record {
  rows = λ u _. each (λ u x. Fit g x) (λ u. record { words = omega arith; stolen = low nodes 8 }) threads u;
  record_head = omega arith;
  head_available = omega arith;
  mark = omega arith;
  shards = low nodes shard_heads;
  record_count = omega arith;
  count = omega arith;
  due_time = omega arith;
  bulk_reclaims = omega arith;
  hazard = low nodes (suc records);
  available_next = low records (suc records);
  record_next = low records (suc records);
  holder = low (threads + 1) (suc records);
  sources = low nodes (suc sources);
  next = low nodes (suc nodes);
  state = low 2 (suc nodes);
}

pub fresh-aims : Each idle (Aims []) (replicate threads idle)
fresh-aims u _ = each (Aims []) (λ u q. absurd (omega arith)) threads u
