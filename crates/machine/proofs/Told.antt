-- Every effect of the rules is told by a Result.
use Rattle.std.proofs.Common.{◌≡◌, Bool, inl, inr}
use Rattle.base.specs.Pick.{pick}
use Rattle.rules.specs.Sizes.{Settings}
use Rattle.rules.specs.Pc.{pc_of}
use Rattle.rules.specs.declared.pc.Pc.{Pc}
use Rattle.rules.specs.declared.Row.{Row}
use Rattle.rules.specs.declared.Cell.{Cell}
use Rattle.rules.specs.declared.Seen.{Seen}
use Rattle.rules.specs.declared.Effect.{Effect}
use Rattle.rules.specs.Places.{does, effect_of}
use Rattle.rules.specs.Step.{judged}
use Rattle.rules.specs.Every.{every, two, pick_all}
use Rattle.machine.specs.Told.{Told}

goes_on : {e : Effect} → e.number ≡ 0 → e.value ≡ 0 → Told e
goes_on p q = record { by = inl (p, q) }

done : {e : Effect} → e.number ≡ 2 → Told e
done p = record { by = inr (inl p) }

again : {e : Effect} → e.number ≡ 3 → Told e
again p = record { by = inr (inr (inl p)) }

reclaimed : {e : Effect} → e.number ≡ 4 → Told e
reclaimed p = record { by = inr (inr (inr (inl p))) }

waits : {e : Effect} → e.number ≡ 25 → e.value ≡ 0 → Told e
waits p q = record { by = inr (inr (inr (inr (inl (p, q))))) }

no_row : {e : Effect} → e.number ≡ 26 → e.value ≡ 0 → Told e
no_row p q = record { by = inr (inr (inr (inr (inr (inl (p, q)))))) }

unsound : {e : Effect} → e.number ≡ 29 → e.value ≡ 0 → Told e
unsound p q = record { by = inr (inr (inr (inr (inr (inr (p, q)))))) }

either : (b : Bool) (x y : Effect) → Told x → Told y → Told (pick b x y)
either b x y h k = pick_all Told b x y h k

module _ (g : Settings) (r : Row) (i : Seen) where
  pub all-told : (p : Pc) → Told (does g p r i)
  all-told = every (λ (p : Pc). Told (does g p r i)) (search (two, either, goes_on, done, again, reclaimed, waits, no_row, unsound) depth 12 fits 8000)

  pub effect-told : Told (effect_of g r i)
  unfolding effect_of
  effect-told = all-told (pc_of r.place)

  pub judged-told : (fits : Bool) (c l : Cell) (e : Effect) → Told e → Told (judged r fits c l i e)
  unfolding judged
  judged-told fits c l e h = search (either, unsound)
