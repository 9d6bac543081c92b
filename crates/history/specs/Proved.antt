-- Demand 3 is proved: the statements of Demand3.antt for every choice of settings, and for the base.
use Rattle.std.specs.Prelude.{refl}
use Rattle.std.proofs.Common.{arith}
use Rattle.rules.specs.Sizes.{Settings, base}
use Rattle.history.specs.Demand3.{Choice, Safe, Hazards, OnePlace, Once, Bound, Counted, Unbroken}
use Rattle.history.specs.Invariant.{chosen}
use Rattle.history.specs.Safety.{safe}
use Rattle.history.specs.Hazards.{hazards}
use Rattle.history.specs.OnePlace.{one_place}
use Rattle.history.specs.Once.{once}
use Rattle.history.specs.Bound.{bound}
use Rattle.history.specs.Counted.{counted}
use Rattle.history.specs.Undamaged.{undamaged}

pub demand_3 : (g : Settings) → Choice g → Safe g × Hazards g × OnePlace g × Once g × Bound g × Counted g × Unbroken g
demand_3 g c = let C = chosen g c.0 c.1 c.2 in (safe g C, hazards g C, one_place g C, once g C, bound g C, counted g C, λ s h run. undamaged g C run)

pub demand_3_base : Safe base × Hazards base × OnePlace base × Once base × Bound base × Counted base × Unbroken base
demand_3_base = demand_3 base (3, omega arith, refl)
