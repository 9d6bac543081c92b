-- Laws of the guarded set over any number of words, of the lock bit and of the shard rule.
use Rattle.std.specs.Prelude.{ℕ, zero, suc, ◌+◌, ◌*◌, ◌-◌, ◌/◌, ◌%◌, ◌^◌, ◌≤◌, ◌<◌, max, ◌≡◌, refl, ◌≢◌, Bool, true, false, List, length, get_or, set, replicate, eqb}
use Rattle.std.proofs.Common.{sym, ◌∙◌, length-set, get_or-set_same, get_or-set_other, lit<, shl_exact, pow_pos, pow-add, ne_eqb, eqb-true, one-mul, arith}
use Rattle.std.proofs.lemmas.List.{length-replicate}
use Rattle.std.proofs.Math.ListN.{get_or-eq_default}
use Rattle.std.proofs.Math.Seq.{set_out}
use Rattle.std.proofs.lemmas.Nat.{shl-shr, and_mask, or_shr, or_shifted}
use Rattle.std.proofs.Math.Pow.{pow-lt}
use Rattle.std.specs.Int.Bits.{bit_and, bit_or, mask_lt, or_step}
use Rattle.std.proofs.lemmas.Bool.{eqb-false}
use Rattle.std.proofs.Math.Nat.{mul-mod_left, div_self, div-eq_of_lt}
use Rattle.std.proofs.Math.Decide.{dec_lt, ℕ_discrete}
use Rattle.rules.specs.Sizes.{Settings, base}
use Rattle.rules.specs.Words.{locked, with_lock, shard_of, is_guarded, guarded_also, none_guarded}

-- ---- masks and shifts
pub low6 : (n : ℕ) → bit_and n 63 ≡ n % 64
low6 n = and_mask n 6

pub low1 : (n : ℕ) → bit_and n 1 ≡ n % 2
low1 n = and_mask n 1

pub shl_one : (b : ℕ) → b < 64 → 1 * 2 ^ b % 18446744073709551616 ≡ 2 ^ b
shl_one b h = shl_exact 1 b 64 (lit< tt) (omega arith) ∙ one-mul (2 ^ b)

-- ---- the bits of a word
abbrev bit : ℕ → ℕ → ℕ
bit x b = x / 2 ^ b % 2

pow_bit : (b : ℕ) → bit (2 ^ b) b ≡ 1
pow_bit b = rw (div_self (pow_pos b))

pow_bit_other : (b i : ℕ) → i ≢ b → bit (2 ^ b) i ≡ 0
pow_bit_other b i ne = go (dec_lt i b)
  where
    go : Dec (i < b) → bit (2 ^ b) i ≡ 0
    go (yes p) =
        let e : b ≡ (b - suc i + 1) + i = omega arith in
        rw (e, pow-add 2 (b - suc i + 1) i, shl-shr, pow-add 2 (b - suc i) 1) (mul-mod_left (2 ^ (b - suc i)) 2)
    go (no q) = let h : b < i = omega arith in rw (div-eq_of_lt (pow-lt h))

bit-bit_or : (x y i : ℕ) → bit (bit_or x y) i ≡ max (bit x i) (bit y i)
bit-bit_or x y i = rw or_shr (omega (arith, or_step (x / 2 ^ i) (y / 2 ^ i)))

bit-set : (x b : ℕ) → bit (bit_or x (2 ^ b)) b ≡ 1
bit-set x b = omega (arith, bit-bit_or x (2 ^ b) b, pow_bit b)

bit_kept : (x b i : ℕ) → i ≢ b → bit (bit_or x (2 ^ b)) i ≡ bit x i
bit_kept x b i ne = omega (arith, bit-bit_or x (2 ^ b) i, pow_bit_other b i ne)

bit-zero : (i : ℕ) → bit 0 i ≡ 0
bit-zero i = rw (div-eq_of_lt (pow_pos i))

-- ---- 0 and what lies past the last word
pub null-unguarded : (g : List ℕ) → is_guarded g 0 ≡ false
unfolding is_guarded
null-unguarded g = refl

pub past-unguarded : (g : List ℕ) (n : ℕ) → 64 * length g < n → is_guarded g n ≡ false
unfolding is_guarded
past-unguarded g n h =
    rw (ne_eqb n 0 (λ e. omega arith), get_or-eq_default g 0 {n = (n - 1) / 64} (omega arith), bit-zero)

pub null-guarded : (g : List ℕ) → guarded_also g 0 ≡ g
unfolding guarded_also
null-guarded g = refl

pub past-guarded : (g : List ℕ) (n : ℕ) → 64 * length g < n → guarded_also g n ≡ g
unfolding guarded_also
past-guarded g n h = rw (ne_eqb n 0 (λ e. omega arith)) (set_out g ((n - 1) / 64) _ (omega arith))

-- ---- a node is put in
abbrev member : List ℕ → ℕ → Bool
member g n = eqb (bit (get_or g ((n - 1) / 64) 0) ((n - 1) % 64)) 1

abbrev marked : List ℕ → ℕ → List ℕ
marked g n = set g ((n - 1) / 64) (bit_or (get_or g ((n - 1) / 64) 0) (2 ^ ((n - 1) % 64)))

is_member : (g : List ℕ) (n : ℕ) → n ≢ 0 → is_guarded g n ≡ member g n
unfolding is_guarded
is_member g n ne = rw (ne_eqb n 0 ne)

is-marked : (g : List ℕ) (n : ℕ) → n ≢ 0 → guarded_also g n ≡ marked g n
unfolding guarded_also
is-marked g n ne = rw (ne_eqb n 0 ne)

pub guarded-also : (g : List ℕ) (n : ℕ) → 0 < n → n ≤ 64 * length g → is_guarded (guarded_also g n) n ≡ true
guarded-also g n pos h =
    let fits : (n - 1) / 64 < length g = omega arith in
    let ne : n ≢ 0 = λ e. omega arith in
    rw (is_member, is-marked, get_or-set_same g ((n - 1) / 64), bit-set)

-- bit i of word v is as it was where it is not bit b of word w
other-bit : (g : List ℕ) (w b v i : ℕ) → w < length g → (v ≡ w → i ≢ b) → Dec (v ≡ w) → bit (get_or (set g w (bit_or (get_or g w 0) (2 ^ b))) v 0) i ≡ bit (get_or g v 0) i
other-bit g w b v i fits ne (yes e) = rw (e, get_or-set_same) (bit_kept (get_or g w 0) b i (ne e))
other-bit g w b v i fits ne (no far) = rw get_or-set_other

pub guarded-other : (g : List ℕ) (n m : ℕ) → m ≢ n → is_guarded (guarded_also g n) m ≡ is_guarded g m
guarded-other g n m ne = go (ℕ_discrete n 0) (ℕ_discrete m 0) (dec_lt (64 * length g) n)
  where
    go : Dec (n ≡ 0) → Dec (m ≡ 0) → Dec (64 * length g < n) → is_guarded (guarded_also g n) m ≡ is_guarded g m
    go (yes e) b d = rw (e, null-guarded)
    go (no a) (yes e) d = rw (e, null-unguarded (guarded_also g n), null-unguarded)
    go (no a) (no b) (yes past) = rw past-guarded
    go (no a) (no b) (no q) =
        rw (
          is_member (guarded_also g n),
          is-marked,
          is_member,
          other-bit g ((n - 1) / 64) ((n - 1) % 64) ((m - 1) / 64) ((m - 1) % 64) (omega arith) (λ e d. omega arith) (ℕ_discrete ((m - 1) / 64) ((n - 1) / 64)),
        )

-- what is in stays in, whatever is put in
pub guarded-kept : (g : List ℕ) (n m : ℕ) → is_guarded g m ≡ true → is_guarded (guarded_also g n) m ≡ true
guarded-kept g n m i = go (ℕ_discrete m n) (ℕ_discrete n 0) (dec_lt (64 * length g) n)
  where
    go : Dec (m ≡ n) → Dec (n ≡ 0) → Dec (64 * length g < n) → is_guarded (guarded_also g n) m ≡ true
    go (no ne) b d = guarded-other g n m ne ∙ i
    go (yes e) (yes z) d = rw (z, null-guarded) i
    go (yes e) (no a) (yes past) = rw past-guarded i
    go (yes e) (no a) (no q) = rw e (guarded-also g n (omega arith) (omega arith))

-- ---- the set is cleared
zeros : (k i : ℕ) → ◌≡◌ {A = ℕ} (get_or (replicate k 0) i 0) 0
zeros zero i = refl
zeros (suc k) zero = refl
zeros (suc k) (suc i) = zeros k i

pub none-guarded : (g : List ℕ) (n : ℕ) → is_guarded (none_guarded g) n ≡ false
unfolding none_guarded
none-guarded g n = go (ℕ_discrete n 0)
  where
    go : Dec (n ≡ 0) → is_guarded (replicate (length g) 0) n ≡ false
    go (yes e) = rw (e, null-unguarded)
    go (no a) = rw (is_member, zeros, bit-zero)

-- ---- neither changes the number of words
pub guarded-length : (g : List ℕ) (n : ℕ) → length (guarded_also g n) ≡ length g
guarded-length g n = go (ℕ_discrete n 0)
  where
    go : Dec (n ≡ 0) → length (guarded_also g n) ≡ length g
    go (yes e) = rw (e, null-guarded)
    go (no a) = rw (is-marked, length-set)

pub none-length : (g : List ℕ) → length (none_guarded g) ≡ length g
unfolding none_guarded
none-length g = length-replicate (length g) 0

-- ---- the lock bit
pub locked_odd : (v : ℕ) → locked v ≡ eqb (v % 2) 1
locked_odd v = rw low1

pub locked_yes : (v : ℕ) → v % 2 ≡ 1 → locked v ≡ true
locked_yes v e = rw (low1, e)

pub locked_no : (v : ℕ) → v % 2 ≡ 0 → locked v ≡ false
locked_no v e = rw (low1, e)

pub is-locked : (v : ℕ) → locked v ≡ true → v % 2 ≡ 1
is-locked v h = sym (low1 v) ∙ eqb-true _ _ h

pub is-unlocked : (v : ℕ) → locked v ≡ false → v % 2 ≡ 0
is-unlocked v h = omega (arith, low1 v, eqb-false (bit_and v 1) 1 h)

pub with-lock : (r : ℕ) → with_lock (r * 2) ≡ r * 2 + 1
with-lock r = or_shifted r 1 1 (lit< tt)

pub unlocked : (r : ℕ) → locked (r * 2) ≡ false
unlocked r = locked_no (r * 2) (omega arith)

pub locked-with-lock : (r : ℕ) → locked (with_lock (r * 2)) ≡ true
locked-with-lock r = locked_yes (with_lock (r * 2)) (omega (arith, with-lock r))

pub record_of : (r : ℕ) → r * 2 / 2 ≡ r
record_of r = omega arith

pub record_of_locked : (r : ℕ) → with_lock (r * 2) / 2 ≡ r
record_of_locked r = omega (arith, with-lock r)

-- an unlocked word is that of its record
pub of_record : (v : ℕ) → locked v ≡ false → v / 2 * 2 ≡ v
of_record v h = omega (arith, is-unlocked v h)

-- ---- the shard rule, for a number of shards that is a power of 2
pub shard_mod : (g : Settings) (k a : ℕ) → g.shards ≡ 2 ^ k → shard_of g a ≡ a / 2 ^ 8 % 2 ^ k
shard_mod g k a e = rw e (and_mask (a / 2 ^ 8) k)

pub shard-below : (g : Settings) (k a : ℕ) → g.shards ≡ 2 ^ k → shard_of g a < g.shards
shard-below g k a e = rw e (mask_lt (a / 2 ^ 8) k)

pub shard-base : (a : ℕ) → shard_of base a ≡ a / 256 % 8
shard-base a = shard_mod base 3 a refl
