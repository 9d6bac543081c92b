-- The tables by their numbers.
use Rattle.std.specs.Prelude.{ℕ, ◌<◌, ◌≡◌, ◌⊎◌}
use denote.Enum.Declared.{tag_of}
use Rattle.tables.specs.contracts.cells.Table.{the_type}
use Rattle.tables.specs.declared.cells.Table.{Table}
use Rattle.tables.specs.declared.cells.Table.TheVariants.{Nowhere}

-- the number of the enum's variant
abbrev pub number_of : Table → ℕ
number_of t = tag_of the_type t

-- the table of a number, or none past the last
abbrev pub Decodes : ℕ → Table → Type 0
Decodes n t = (n ≡ number_of t) ⊎ ((t ≡ Nowhere) × (6 < n))
