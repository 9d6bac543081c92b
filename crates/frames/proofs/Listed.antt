-- That every byte is a digit, said as a test of each.
use Rattle.std.proofs.Common.{◌≡◌, ℕ, refl, Bool, true, false, ◌&&◌, List, [], ◌∷◌, ltb}
use Rattle.std.specs.List.{list_all}
use Rattle.base.specs.Pick.{pick}
use Rattle.frames.specs.Hex.{digit_of, all_digits}

and_pick : (a b c : Bool) → b ≡ c → a && b ≡ pick a c false
and_pick true b c p = p
and_pick false b c p = refl

pub all_listed : (l : List ℕ) → list_all (λ b. ltb (digit_of b) 16) l ≡ all_digits l
unfolding all_digits
all_listed [] = refl
all_listed (b ∷ l) = and_pick (ltb (digit_of b) 16) _ _ (all_listed l)
