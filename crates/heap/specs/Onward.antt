-- Where a pass goes on: what the words of the rules for it make of a row that holds its lists as it should.
use Rattle.std.specs.Prelude.{◌≡◌, ◌≢◌, ◌⊎◌, Bool, false, List, [], ◌∷◌, ◌++◌, ℕ, zero, suc, ◌+◌, ◌-◌, ◌≤◌, ◌<◌}
use Rattle.std.proofs.Math.Path.{refl, subst}
use Rattle.std.proofs.Common.{sym, ◌∙◌, ext_get_or}
use Rattle.std.proofs.Math.Logic.{inl, inr}
use Rattle.std.proofs.Math.Bool.{true}
use Rattle.std.proofs.Math.Decide.{ℕ_discrete, dec_lt, dec_le}
use native.Mathlib.Omega.{arith}
use Rattle.std.proofs.Math.Dec.{eqb}
use Rattle.std.proofs.Math.ListN.{get_or}
use borrow.Author.Tests.{eqb-true, eqb-false}
use Rattle.base.specs.Pick.{pick}
use Rattle.rules.specs.Sizes.{Settings}
use Rattle.rules.specs.declared.pc.Pc.TheVariants as Pc
use Rattle.rules.specs.Pc.{code}
use Rattle.rules.specs.declared.pc.Pc.{Pc}
use Rattle.rules.specs.Rows.{idle, go_to, in_shard, shard_in, stolen_from}
use Rattle.rules.specs.Places.{new_pass, checked, passed, emptied, examine_at, examine_from, examined, after_free, shut_next}
use Rattle.rules.specs.declared.Row.{Row}
use Rattle.lists.specs.Tab.{zeros}
use Rattle.view.specs.Every.{pc_is, pick_all, pick_case}
use Rattle.heap.specs.Hooks.{hooks}
use Rattle.heap.specs.Stage
use Rattle.heap.specs.Stage.{Stage, stage, Allowed, null, some, any, Is, ShapeOf, Shape}

-- the row x holds r's lists, and is as its place asks
pub record Seated (g : Settings) (r x : Row) : Type 0 where
  pub shape : Shape g x
  pub hooks : hooks x ≡ hooks r
  pub unreclaimed : x.unreclaimed ≡ r.unreclaimed
  pub tail : x.tail ≡ r.tail
  pub lone : x.lone ≡ r.lone

-- ---- the first stolen list that is not empty
pub record Found (l : List ℕ) (k n m : ℕ) : Type 0 where
  pub low : k ≤ m
  pub high : m ≤ k + n
  pub none : (j : ℕ) → k ≤ j → j < m → get_or l j 0 ≡ 0
  pub some : m ≢ k + n → get_or l m 0 ≢ 0

pub found : (l : List ℕ) (k n : ℕ) → Found l k n (stolen_from l k n)
unfolding stolen_from
found l k zero = record { low = omega arith; high = omega arith; none = λ j a b. absurd (omega arith); some = λ ne. absurd (ne (omega arith)) }
found l k (suc n) = go (eqb (get_or l k 0) 0) refl (found l (k + 1) n)
  where
    go : (b : Bool) → eqb (get_or l k 0) 0 ≡ b → Found l (k + 1) n (stolen_from l (k + 1) n) → Found l k (suc n) (pick b (stolen_from l (k + 1) n) k)
    go true e f = record {
      low = let a = f.low in omega arith;
      high = let a = f.high in omega arith;
      none = λ j a b. at j a b (ℕ_discrete j k);
      some = λ ne. f.some (λ q. ne (omega arith));
    }
      where
        at : (j : ℕ) → k ≤ j → j < stolen_from l (k + 1) n → Dec (j ≡ k) → get_or l j 0 ≡ 0
        at j a b (yes q) = rw q (eqb-true (get_or l k 0) 0 e)
        at j a b (no q) = f.none j (omega arith) b
    go false e f = record { low = omega arith; high = omega arith; none = λ j a b. absurd (omega arith); some = λ ne. eqb-false (get_or l k 0) 0 e }

module _ (g : Settings) (A : Allowed g) where
  shard_inside : (r : Row) → r.shard < g.shards → shard_in r ≡ r.shard
  shard_inside r h = let a = A.most in omega arith

  -- a row's shape by its place
  pub shaped : (p : Pc) (x : Row) → x.place ≡ code p → ShapeOf g (stage p) x → Shape g x
  shaped p x e s = subst (λ (q : Pc). ShapeOf g (stage q) x) (sym (pc_is p e)) s

  abbrev Clean : Row → Type 0
  Clean r = ShapeOf g Stage.clean r

  module _ (r : Row) (c : Clean r) where
    seat-new : Seated g r (new_pass r)
    seat-new = record { shape = record { eight = c.eight; none = λ j _. c.none j tt; reclaim = c.reclaim; keep = c.keep; lone = c.lone; here = A.some }; hooks = refl; unreclaimed = refl; tail = refl; lone = refl }

    pub seat-passed : Seated g r (passed r)
    unfolding passed
    seat-passed = pick_all (Seated g r) (eqb r.rcount 0) _ _ (record { shape = c; hooks = refl; unreclaimed = refl; tail = refl; lone = refl }) (record { shape = c; hooks = refl; unreclaimed = refl; tail = refl; lone = refl })

    pub seat-checked : Seated g r (checked r)
    unfolding checked
    seat-checked =
        pick_all (Seated g r) (eqb r.done 0) _ _
        (pick_all (Seated g r) (eqb r.rcount 0) _ _ (record { shape = c; hooks = refl; unreclaimed = refl; tail = refl; lone = refl }) (record { shape = c; hooks = refl; unreclaimed = refl; tail = refl; lone = refl }))
        (pick_all (Seated g r) (eqb r.rcount 0) _ _ (pick_all (Seated g r) (eqb r.done 2) _ _ (record { shape = c; hooks = refl; unreclaimed = refl; tail = refl; lone = refl }) seat-new) seat-new)

    -- shutdown's next shard, or its last step
    pub seat-shut : r.shard < g.shards → Seated g r (shut_next g r)
    unfolding shut_next
    seat-shut h =
        pick_case (Seated g r) (eqb (shard_in r + 1) g.shards) (go_to Pc.S3 r) (go_to Pc.S1 (in_shard (shard_in r + 1) r)) (λ _. record { shape = c; hooks = refl; unreclaimed = refl; tail = refl; lone = refl })
        (λ e. record { shape = record { eight = c.eight; none = c.none; reclaim = c.reclaim; keep = c.keep; lone = c.lone; here = let a = eqb-false (shard_in r + 1) g.shards e in let b = shard_inside r h in omega arith }; hooks = refl; unreclaimed = refl; tail = refl; lone = refl })

    -- an idle row holds the same: nothing
    pub idle-hooks : hooks idle ≡ hooks r
    idle-hooks = λ i. ext_get_or 0 idle.stolen r.stolen (sym c.eight) (λ j _. zeros 8 j ∙ sym (c.none j tt)) i ++ (sym c.reclaim i ∷ sym c.keep i ∷ sym c.lone i ∷ [])

  pub idle-clean : Clean idle
  idle-clean = record { eight = refl; none = λ j _. zeros 8 j; reclaim = refl; keep = refl; lone = refl; here = tt }

  -- after the test for done
  pub seat-emptied : (r : Row) → Is (λ j. Unit {0}) null any null (Unit {0}) r → Seated g r (emptied r)
  unfolding emptied
  seat-emptied r c =
      pick_case (Seated g r) (eqb r.unreclaimed 0) (passed r) (go_to Pc.Push1 r)
      (λ e. seat-passed r (record { eight = c.eight; none = c.none; reclaim = c.reclaim; keep = eqb-true r.unreclaimed 0 e; lone = c.lone; here = tt }))
      (λ e. record { shape = record { eight = c.eight; none = c.none; reclaim = c.reclaim; keep = eqb-false r.unreclaimed 0 e; lone = c.lone; here = tt }; hooks = refl; unreclaimed = refl; tail = refl; lone = refl })

  -- the next shard with a stolen list, from k on, where those below k have none
  pub seat_from : (k : ℕ) (r : Row) → k ≤ g.shards → Is (λ j. (j < k) ⊎ (g.shards ≤ j)) null any null (Unit {0}) r → Seated g r (examine_from g k r)
  unfolding examine_from
  seat_from k r hk c = go (stolen_from r.stolen k (g.shards - k)) (found r.stolen k (g.shards - k))
    where
      go : (m : ℕ) → Found r.stolen k (g.shards - k) m → Seated g r (examine_at g m r)
      go m f =
          pick_case (Seated g r) (eqb m g.shards) (go_to Pc.Empty (in_shard 0 r)) (go_to Pc.Examine (in_shard m r))
          (λ e. record {
            shape = record { eight = c.eight; none = λ j _. all j (eqb-true m g.shards e) (dec_lt j k) (dec_le g.shards j); reclaim = c.reclaim; keep = tt; lone = c.lone; here = A.some };
            hooks = refl;
            unreclaimed = refl;
            tail = refl;
            lone = refl;
          })
          (λ e. record {
            shape = record {
              eight = c.eight;
              none = λ j h. below j h (dec_lt j k);
              reclaim = tt;
              keep = tt;
              lone = c.lone;
              here = (let a = f.high in let b = eqb-false m g.shards e in omega arith, f.some (λ q. eqb-false m g.shards e (omega arith)));
            };
            hooks = refl;
            unreclaimed = refl;
            tail = refl;
            lone = refl;
          })
        where
          all : (j : ℕ) → m ≡ g.shards → Dec (j < k) → Dec (g.shards ≤ j) → get_or r.stolen j 0 ≡ 0
          all j e (yes q) d = c.none j (inl q)
          all j e (no q) (yes w) = c.none j (inr w)
          all j e (no q) (no w) = f.none j (omega arith) (omega arith)

          below : (j : ℕ) → (j < m) ⊎ (g.shards ≤ j) → Dec (j < k) → get_or r.stolen j 0 ≡ 0
          below j (inr w) d = c.none j (inr w)
          below j (inl w) (yes q) = c.none j (inl q)
          below j (inl w) (no q) = f.none j (omega arith) w

  -- a node was examined: n is what is left of the row's shard
  pub seat-examined : (n : ℕ) (x : Row) → x.place ≡ code Pc.Examine → x.shard < g.shards → get_or x.stolen x.shard 0 ≡ n → Is (λ j. (j < x.shard) ⊎ (g.shards ≤ j)) any any null (Unit {0}) x → Seated g x (examined g n x)
  unfolding examined
  seat-examined n x ep hs en c =
      pick_case (Seated g x) (eqb n 0) _ _
      (λ e. pick_case (Seated g x) (eqb x.reclaimable 0) (examine_from g (shard_in x + 1) x) (go_to Pc.Reclaim x)
      (λ q. subst (λ (k : ℕ). Seated g x (examine_from g (k + 1) x)) (sym (shard_inside x hs))
      (seat_from (x.shard + 1) x (omega arith) (record { eight = c.eight; none = λ j h. upto j e h (ℕ_discrete j x.shard); reclaim = eqb-true x.reclaimable 0 q; keep = tt; lone = c.lone; here = tt })))
      (λ q. record { shape = record { eight = c.eight; none = λ j h. through j e h (ℕ_discrete j x.shard); reclaim = eqb-false x.reclaimable 0 q; keep = tt; lone = c.lone; here = hs }; hooks = refl; unreclaimed = refl; tail = refl; lone = refl }))
      (λ e. record { shape = shaped Pc.Examine x ep (record { eight = c.eight; none = c.none; reclaim = tt; keep = tt; lone = c.lone; here = (hs, λ z. eqb-false n 0 e (sym en ∙ z)) }); hooks = refl; unreclaimed = refl; tail = refl; lone = refl })
    where
      upto : (j : ℕ) → eqb n 0 ≡ true → (j < x.shard + 1) ⊎ (g.shards ≤ j) → Dec (j ≡ x.shard) → get_or x.stolen j 0 ≡ 0
      upto j e h (yes q) = rw q (en ∙ eqb-true n 0 e)
      upto j e (inl h) (no q) = c.none j (inl (omega arith))
      upto j e (inr h) (no q) = c.none j (inr h)

      through : (j : ℕ) → eqb n 0 ≡ true → (j ≤ x.shard) ⊎ (g.shards ≤ j) → Dec (j ≡ x.shard) → get_or x.stolen j 0 ≡ 0
      through j e h (yes q) = rw q (en ∙ eqb-true n 0 e)
      through j e (inl h) (no q) = c.none j (inl (omega arith))
      through j e (inr h) (no q) = c.none j (inr h)

  -- a node was reclaimed: n is what is left of the reclaim list
  pub seat-reclaimed : (n : ℕ) (x : Row) → x.place ≡ code Pc.Reclaim → x.shard < g.shards → x.reclaimable ≡ n → Is (λ j. (j ≤ x.shard) ⊎ (g.shards ≤ j)) any any null (Unit {0}) x → Seated g x (after_free g n x)
  unfolding after_free
  seat-reclaimed n x ep hs en c =
      pick_case (Seated g x) (eqb n 0) _ _
      (λ e. subst (λ (k : ℕ). Seated g x (examine_from g (k + 1) x)) (sym (shard_inside x hs))
      (seat_from (x.shard + 1) x (omega arith) (record { eight = c.eight; none = λ j h. c.none j (lower j h); reclaim = en ∙ eqb-true n 0 e; keep = tt; lone = c.lone; here = tt })))
      (λ e. record { shape = shaped Pc.Reclaim x ep (record { eight = c.eight; none = c.none; reclaim = λ z. eqb-false n 0 e (sym en ∙ z); keep = tt; lone = c.lone; here = hs }); hooks = refl; unreclaimed = refl; tail = refl; lone = refl })
    where
      lower : (j : ℕ) → (j < x.shard + 1) ⊎ (g.shards ≤ j) → (j ≤ x.shard) ⊎ (g.shards ≤ j)
      lower j (inl h) = inl (omega arith)
      lower j (inr h) = inr h
