-- How long each list of a view is.
use Rattle.std.specs.Prelude.{suc, ◌+◌, ◌≡◌, length, get_or}
use Rattle.rules.specs.Sizes.{records, sources, nodes, threads}
use Rattle.rules.specs.Rows.{row_at}
use Rattle.rules.specs.Step.{State, guards_of}
use Rattle.lists.specs.Tab.{tab-length}
use Rattle.view.specs.Field.{field-length}
use Rattle.view.specs.View.{View, view_of, shard_heads}

pub record Long (v : View) : Type 0 where
  pub shards : length v.heads.shards ≡ shard_heads
  pub hazard : length v.records.hazard ≡ suc records
  pub available_next : length v.records.available_next ≡ suc records
  pub record_next : length v.records.next ≡ suc records
  pub holder : length v.records.holder ≡ suc records
  pub sources : length v.sources ≡ suc sources
  pub next : length v.nodes.next ≡ suc nodes
  pub state : length v.nodes.state ≡ suc nodes
  pub rows : length v.rows ≡ threads
  pub guards : length v.guards ≡ threads

pub long : (s : State) → Long (view_of s)
unfolding view_of
long s = record {
  shards = tab-length shard_heads (λ k. get_or s.cells.heads (k + 3) 0);
  hazard = field-length 4 records s.cells.records 0;
  available_next = field-length 4 records s.cells.records 1;
  record_next = field-length 4 records s.cells.records 2;
  holder = field-length 4 records s.cells.records 3;
  sources = field-length 1 sources s.cells.sources 0;
  next = field-length 1 nodes s.cells.next 0;
  state = field-length 1 nodes s.cells.state 0;
  rows = tab-length threads (λ t. row_at s.rows32 s.rows64 t);
  guards = tab-length threads (λ t. guards_of s.guards t);
}
