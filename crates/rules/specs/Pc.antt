-- The program places, by document 01's names. In the tables a place is its number, which is where it stands in `order`.
use Rattle.std.specs.Prelude.{ℕ, List, [], ◌∷◌, get_or}
use denote.Enum.Declared.{tag_of}
use Rattle.rules.specs.contracts.pc.Pc.{the_type}
use Rattle.rules.specs.declared.pc.Pc.{Pc}
use Rattle.rules.specs.declared.pc.Pc.TheVariants.{Idle, A1, A2, A3, A4, A5, A6, N1, N2, N3, D1, D2, P1, P2, P3}
use Rattle.rules.specs.declared.pc.Pc.TheVariants.{V0, V1, V2, V3, Reset, Raw, Swap, T1, T2, T3, K1, K2, K3, K4}
use Rattle.rules.specs.declared.pc.Pc.TheVariants.{E1, E2, E3, B1, Steal, H1, H2, Examine, Reclaim, Empty, Push1, Push2}
use Rattle.rules.specs.declared.pc.Pc.TheVariants.{C1, C3, Wait, S1, S2, S3, Unknown}

-- Written out here and not taken from the code's list, so that an edit of the enum and of that list alike is refused.
abbrev pub order : List Pc
order =
    Idle ∷ A1 ∷ A2 ∷ A3 ∷ A4 ∷ A5 ∷ A6 ∷ N1 ∷ N2 ∷ N3 ∷ D1 ∷ D2 ∷ P1 ∷ P2 ∷ P3 ∷ V0 ∷ V1 ∷ V2 ∷ V3 ∷ Reset ∷ Raw ∷ Swap
    ∷ T1 ∷ T2 ∷ T3 ∷ K1 ∷ K2 ∷ K3 ∷ K4 ∷ E1 ∷ E2 ∷ E3 ∷ B1 ∷ Steal ∷ H1 ∷ H2 ∷ Examine ∷ Reclaim ∷ Empty ∷ Push1 ∷ Push2
    ∷ C1 ∷ C3 ∷ Wait ∷ S1 ∷ S2 ∷ S3 ∷ []

abbrev pub pc_of : ℕ → Pc
pc_of p = get_or order p Unknown

-- its inverse: the number of the enum's variant
abbrev pub code : Pc → ℕ
code p = tag_of the_type p
