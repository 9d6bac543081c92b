-- The starred bench cases of document 01, proved together.
use Rattle.std.specs.Prelude.{◌≡◌, ℕ, ◌+◌, ◌-◌, ◌^◌, true, false, refl}
use Rattle.std.proofs.Common.{le-leb, le_refl, arith}
use Rattle.std.proofs.lemmas.Bool.{lt-leb}
use Rattle.rules.specs.Sizes.{base}
use Rattle.rules.specs.Words.{shard_of, over, threshold, due_time}

pub shards : (shard_of base 0xff ≡ 0) × (shard_of base 0x100 ≡ 1) × (shard_of base 0x7ff ≡ 7) × (shard_of base 0x800 ≡ 0) × (shard_of base (2 ^ 64 - 1) ≡ 7)
shards = (refl, refl, refl, refl, refl)

pub trigger : (over base 1000 500 ≡ false) × (over base 1001 500 ≡ true) × (over base 1002 501 ≡ false) × (over base 1003 501 ≡ true)
unfolding over threshold
trigger = (refl, refl, refl, refl)

pub due : due_time (2 ^ 64 - 1) ≡ 1999999999
due = refl

pub due_when_equal : (clock : ℕ) → base.due clock clock ≡ true
due_when_equal clock = le-leb clock clock (le_refl clock)

pub not-due-before : (clock : ℕ) → base.due clock (clock + 1) ≡ false
not-due-before clock = lt-leb (clock + 1) clock (omega arith)
