-- What holds of every row that the rules' words for a pass can make holds of what they make.
use Rattle.std.specs.Prelude.{ℕ, ◌+◌, ◌-◌, eqb}
use Rattle.rules.specs.Sizes.{Settings}
use Rattle.rules.specs.declared.pc.Pc.TheVariants as Pc
use Rattle.rules.specs.Rows.{go_to, in_shard, shard_in, stolen_from}
use Rattle.rules.specs.Places.{new_pass, checked, passed, emptied, examine_from, examined, after_free, shut_next}
use Rattle.rules.specs.declared.Row.{Row}
use Rattle.view.specs.Every.{pick_all}

module _ (P : Row → Type 0) (g : Settings) where
  pub all-passed : (r : Row) → P (go_to Pc.K1 r) → P (go_to Pc.C1 r) → P (passed r)
  unfolding passed
  all-passed r k c = pick_all P (eqb r.rcount 0) _ _ k c

  pub all-checked : (r : Row) → P (go_to Pc.E1 r) → P (go_to Pc.B1 r) → P (go_to Pc.C3 r) → P (new_pass r) → P (checked r)
  unfolding checked
  all-checked r e b c n = pick_all P (eqb r.done 0) _ _ (pick_all P (eqb r.rcount 0) _ _ e b) (pick_all P (eqb r.rcount 0) _ _ (pick_all P (eqb r.done 2) _ _ c n) n)

  pub all-emptied : (r : Row) → P (go_to Pc.K1 r) → P (go_to Pc.C1 r) → P (go_to Pc.Push1 r) → P (emptied r)
  unfolding emptied
  all-emptied r k c p = pick_all P (eqb r.unreclaimed 0) _ _ (all-passed r k c) p

  pub all_from : (k : ℕ) (r : Row) → P (go_to Pc.Empty (in_shard 0 r)) → ((j : ℕ) → P (go_to Pc.Examine (in_shard j r))) → P (examine_from g k r)
  unfolding examine_from
  all_from k r e x = pick_all P (eqb (stolen_from r.stolen k (g.shards - k)) g.shards) _ _ e (x _)

  pub all-examined : (n : ℕ) (r : Row) → P (go_to Pc.Empty (in_shard 0 r)) → ((j : ℕ) → P (go_to Pc.Examine (in_shard j r))) → P (go_to Pc.Reclaim r) → P r → P (examined g n r)
  unfolding examined
  all-examined n r e x c s = pick_all P (eqb n 0) _ _ (pick_all P (eqb r.reclaimable 0) _ _ (all_from (shard_in r + 1) r e x) c) s

  pub all-reclaimed : (n : ℕ) (r : Row) → P (go_to Pc.Empty (in_shard 0 r)) → ((j : ℕ) → P (go_to Pc.Examine (in_shard j r))) → P r → P (after_free g n r)
  unfolding after_free
  all-reclaimed n r e x s = pick_all P (eqb n 0) _ _ (all_from (shard_in r + 1) r e x) s

  pub all-shut : (r : Row) → P (go_to Pc.S3 r) → ((j : ℕ) → P (go_to Pc.S1 (in_shard j r))) → P (shut_next g r)
  unfolding shut_next
  all-shut r s x = pick_all P (eqb (shard_in r + 1) g.shards) _ _ s (x _)
