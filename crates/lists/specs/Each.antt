-- What holds for every element of a list of which one is set.
use Rattle.std.specs.Prelude.{◌≡◌, ◌≢◌, List, ℕ, ◌<◌, length, get_or, set}
use Rattle.std.proofs.Math.Decide.{ℕ_discrete}
use Rattle.std.proofs.Common.{length-set, get_or-set_same, get_or-set_other}

module _ {A : Type 0} (d : A) where
  abbrev pub Each : (ℕ → A → Type 0) → List A → Type 0
  Each P l = (u : ℕ) → u < length l → P u (get_or l u d)

  -- element t becomes a; the others, of which P held, have Q
  pub each_set : (P Q : ℕ → A → Type 0) (l : List A) (t : ℕ) (a : A) → t < length l → ((u : ℕ) → u < length l → u ≢ t → P u (get_or l u d) → Q u (get_or l u d)) → Q t a → Each P l → Each Q (set l t a)
  each_set P Q l t a ht keep new old u hu = go (ℕ_discrete u t)
    where
      go : Dec (u ≡ t) → Q u (get_or (set l t a) u d)
      go (yes e) = rw (e, get_or-set_same l t a d ht) new
      go (no e) = rw (get_or-set_other l t u a d e) (keep u (rw length-set at hu) e (old u (rw length-set at hu)))

  -- the same where nothing else moves
  pub each-put : (P : ℕ → A → Type 0) (l : List A) (t : ℕ) (a : A) → t < length l → P t a → Each P l → Each P (set l t a)
  each-put P l t a ht new old = each_set P P l t a ht (λ u hu ne p. p) new old
