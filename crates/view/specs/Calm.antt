-- What the effect of every place is: its row keeps eight stolen heads, what it writes fits the cell, and it ends with 25 or 26 at a swap or N1 only.
use Rattle.std.specs.Prelude.{ℕ, ◌+◌, ◌*◌, ◌^◌, ◌<◌, ◌≡◌, ◌≢◌, ◌⊎◌, Bool, true, length, ltb}
use Rattle.std.proofs.Math.Path.{refl}
use Rattle.std.proofs.Common.{◌∙◌, length-set, arith, ltb-true}
use Rattle.std.proofs.Math.Logic.{inl, inr}
use Rattle.base.specs.Pick.{pick}
use Rattle.rules.specs.Sizes.{threads, Settings}
use Rattle.rules.specs.Words.{with_lock}
use Rattle.rules.specs.declared.pc.Pc.{Pc}
use Rattle.rules.specs.Rows.{shard_in, stealing}
use Rattle.rules.specs.Places.{accesses, does, ends, damaged}
use Rattle.rules.specs.declared.Row.{Row}
use Rattle.rules.specs.declared.Seen.{Seen}
use Rattle.rules.specs.declared.Effect.{Effect}
use Rattle.bits.specs.BitLaws.{with-lock}
use Rattle.view.specs.View.{named}
use Rattle.view.specs.Written.{Fits}
use Rattle.view.specs.Ranges.{Small}
use Rattle.view.specs.Every.{every, two, pick_all}
use Rattle.view.specs.Rest.{all-passed, all-checked, all-emptied, all_from, all-examined, all-reclaimed, all-shut}

abbrev pub Eight : Row → Type 0
Eight r = length r.stolen ≡ 8

-- ---- every place
unfoldable pub Ended : Pc → Effect → Type 0
Ended p e = (n : ℕ) × (e ≡ ends n) × ((n ≡ 25) ⊎ (n ≡ 26)) × ((p ≡ Pc.N1) ⊎ (p ≡ Pc.Swap))

-- no refusal, or 29
abbrev pub Plain : Effect → Type 0
Plain e = (e.number < 16) ⊎ (e.number ≡ 29)

pub not-ended : (e : Effect) → Plain e → (e.number ≢ 25) × (e.number ≢ 26)
not-ended e (inl h) = (λ q. omega arith, λ q. omega arith)
not-ended e (inr h) = (λ q. omega arith, λ q. omega arith)

module _ (g : Settings) (r : Row) (i : Seen) where
  pub record Numbered (p : Pc) (e : Effect) : Type 0 where
    pub number : Ended p e ⊎ Plain e

  either_number : {p : Pc} (b : Bool) (x y : Effect) → Numbered p x → Numbered p y → Numbered p (pick b x y)
  either_number {p} b x y h k = pick_all (Numbered p) b x y h k

  plain : {p : Pc} {e : Effect} → ltb e.number 16 ≡ true → Numbered p e
  plain {p} {e} h = record { number = inr (inl (ltb-true e.number 16 h)) }

  damage : {p : Pc} {x : Row} → Numbered p (damaged x)
  damage = record { number = inr (inr refl) }

  -- N1 and a swap end where there is no row to take, or a waiting node to put: nothing else is done then
  no_row : Numbered Pc.N1 (ends 26)
  unfolding Ended
  no_row = record { number = inl (26, refl, inr refl, inl refl) }

  waits : Numbered Pc.Swap (ends 25)
  unfolding Ended
  waits = record { number = inl (25, refl, inl refl, inr refl) }

  pub numbered : (p : Pc) → Numbered p (does g p r i)
  numbered = every (λ (p : Pc). Numbered p (does g p r i)) (search (two, either_number, no_row, waits, plain, damage) depth 12 fits 4000)

  pub record Calm (p : Pc) (e : Effect) : Type 0 where
    pub put : Fits (named (accesses p r)) e.put
    pub to : Fits e.also e.to
    pub stolen : Eight e.row

  either : {p : Pc} (b : Bool) (x y : Effect) → Calm p x → Calm p y → Calm p (pick b x y)
  either {p} b x y h k = pick_all (Calm p) b x y h k

  leaf : {p : Pc} {e : Effect} → Fits (named (accesses p r)) e.put → Fits e.also e.to → Eight e.row → Calm p e
  leaf a b h = record { put = a; to = b; stolen = h }

  module _ (z : Small g r) (h8 : Eight r) (iv : i.v < 2 ^ 32) (it : i.thread < threads) where
    stolen8 : (n : ℕ) → Eight (stealing n r)
    stolen8 n = length-set r.stolen (shard_in r) n ∙ h8

    -- all that a step stores in a cell of 32 bits
    small : (0 < 2 ^ 32) × (1 < 2 ^ 32) × (2 < 2 ^ 32) × (i.thread + 2 < 2 ^ 32) × (r.rec < 2 ^ 32) × (r.rec * 2 < 2 ^ 32) × (with_lock (r.rec * 2) < 2 ^ 32) × (r.next < 2 ^ 32) × (r.next * 2 < 2 ^ 32) × (r.node < 2 ^ 32) × (r.seen < 2 ^ 32) × (r.lone < 2 ^ 32) × (r.reclaimable < 2 ^ 32) × (r.unreclaimed < 2 ^ 32)
    small = let w = with-lock r.rec in omega arith

    pub calm : (p : Pc) → Calm p (does g p r i)
    calm = let w = small in every (λ (p : Pc). Calm p (does g p r i)) (search (two, either, leaf, tt, stolen8, pick_all Eight, all-passed Eight g, all-checked Eight g, all-emptied Eight g, all_from Eight g, all-examined Eight g, all-reclaimed Eight g, all-shut Eight g) depth 16 fits 8000)
