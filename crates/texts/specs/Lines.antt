-- Where a line of an input ends.
use Rattle.std.specs.Prelude.{ℕ, List, [], ◌∷◌, eqb}
use Rattle.base.specs.Pick.{pick}

-- the bytes before the first newline
unfoldable pub up_to : List ℕ → List ℕ
up_to [] = []
up_to (b ∷ l) = pick (eqb b 10) [] (b ∷ up_to l)
