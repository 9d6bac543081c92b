-- Laws of the counters: nothing wraps where the result is in range, and the trigger compares signed numbers.
use Rattle.std.specs.Prelude.{◌≡◌, ℕ, suc, ◌+◌, ◌-◌, ◌*◌, ◌^◌, ◌<◌, ◌≤◌, max, Bool, true, false, ℤ, pos, negsuc, int_lt, nat_lt, refl}
use Rattle.std.specs.Int.{w64}
use Rattle.std.proofs.Common.{to_z, lt-ltb, le-ltb, arith}
use Rattle.std.proofs.Math.Decide.{dec_lt}
use Rattle.base.specs.Pick.{pick}
use Rattle.rules.specs.Sizes.{Settings}
use Rattle.rules.specs.Words.{plus, less, negative, threshold, over}

-- ---- sums and differences
pub plus_exact : (a b : ℕ) → a + b < 2 ^ 64 → plus a b ≡ a + b
plus_exact a b h = omega arith

pub less_exact : (a b : ℕ) → b ≤ a → a < 2 ^ 64 → less a b ≡ a - b
less_exact a b h fits = omega arith

-- the one word that b brings to a: as std states its wrapping difference
pub less-of-plus : (a b r : ℕ) → a < 2 ^ 64 → b < 2 ^ 64 → r < 2 ^ 64 → plus r b ≡ a → r ≡ less a b
less-of-plus a b r ha hb hr e = omega arith

-- ---- words read as signed numbers
to_signed : (n : ℕ) → to_z w64 n ≡ pick (negative n) (negsuc (2 ^ 64 - suc n)) (pos n)
to_signed n = go (dec_lt n (2 ^ 63))
  where
    go : Dec (n < 2 ^ 63) → to_z w64 n ≡ pick (negative n) (negsuc (2 ^ 64 - suc n)) (pos n)
    go (yes p) = rw (lt-ltb n (2 ^ 63) p, le-ltb (2 ^ 63 - 1) n (omega arith))
    go (no q) = rw (le-ltb n (2 ^ 63) (omega arith), lt-ltb (2 ^ 63 - 1) n (omega arith))

abbrev pub max_z : ℤ → ℤ → ℤ
max_z a b = pick (int_lt a b) b a

-- `count` is above the larger of the floor and twice the records, every word read as signed
pub over_signed : (g : Settings) (count n : ℕ) → g.floor < 2 ^ 63 → over g count n ≡ int_lt (max_z (to_z w64 g.floor) (to_z w64 (plus n n))) (to_z w64 count)
unfolding over threshold
over_signed g count n h =
    rw (to_signed g.floor, le-ltb (2 ^ 63 - 1) g.floor (omega arith), to_signed (plus n n), to_signed count)
    (go (plus n n) (negative (plus n n)) (negative count) (nat_lt g.floor (plus n n)) refl)
  where
    go : (d : ℕ) (b b' b'' : Bool) → nat_lt g.floor d ≡ b'' → pick b' false (nat_lt (pick b g.floor (pick (nat_lt g.floor d) d g.floor)) count) ≡ int_lt (max_z (pos g.floor) (pick b (negsuc (2 ^ 64 - suc d)) (pos d))) (pick b' (negsuc (2 ^ 64 - suc count)) (pos count))
    go d false false true e = rw e
    go d false false false e = rw e
    go d false true true e = rw e
    go d false true false e = rw e
    go d true false b'' e = refl
    go d true true b'' e = refl

-- ---- the trigger as plain numbers
larger : (a b : ℕ) → pick (nat_lt a b) b a ≡ max a b
larger a b = go (dec_lt a b)
  where
    go : Dec (a < b) → pick (nat_lt a b) b a ≡ max a b
    go (yes p) = rw (lt-ltb a b p) (omega arith)
    go (no q) = rw (le-ltb a b (omega arith)) (omega arith)

pub threshold-plain : (g : Settings) (n : ℕ) → n < 2 ^ 62 → threshold g n ≡ max g.floor (2 * n)
unfolding threshold
threshold-plain g n h =
    let twice : plus n n ≡ 2 * n = omega arith in
    rw (twice, le-ltb (2 ^ 63 - 1) (2 * n) (omega arith)) (larger g.floor (2 * n))

pub over_plain : (g : Settings) (count n : ℕ) → n < 2 ^ 62 → count < 2 ^ 63 → over g count n ≡ nat_lt (max g.floor (2 * n)) count
unfolding over
over_plain g count n h fits = rw (le-ltb (2 ^ 63 - 1) count (omega arith), threshold-plain g n h)

pub negative-not-over : (g : Settings) (count n : ℕ) → 2 ^ 63 ≤ count → over g count n ≡ false
unfolding over
negative-not-over g count n h = rw (lt-ltb (2 ^ 63 - 1) count (omega arith))
