-- A place that was read from a number has that number.
use Rattle.std.specs.Prelude.{ℕ, ◌<◌, ◌≡◌}
use Rattle.std.proofs.Common.{ap, arith}
use Rattle.std.proofs.Math.Decide.{dec_lt}
use Rattle.std.proofs.Math.ListN.{get_or-map, get_or-eq_default}
use Rattle.std.proofs.lemmas.List.FromFn.{get_or-range_with_len}
use Rattle.rules.specs.declared.pc.Pc.{Pc}
use Rattle.rules.specs.Pc.{order, pc_of, code}

pub code_of : (n : ℕ) → code (pc_of n) < code Pc.Unknown → code (pc_of n) ≡ n
code_of n h = go (dec_lt n 47)
  where
    go : Dec (n < 47) → code (pc_of n) ≡ n
    go (yes p) = omega (arith, get_or-map code order n Pc.Unknown, get_or-range_with_len 0 47 n 47 p)
    go (no q) = omega (arith, ap code (get_or-eq_default order Pc.Unknown {n = n} (omega arith)))
