-- A thread's part of the guard words, as far as these go.
use Rattle.std.proofs.Common.{ℕ, ◌≡◌, ◌∙◌, ◌+◌, ◌-◌, min, List, ◌++◌, length, take, drop, ap, length-drop, arith}
use Rattle.std.proofs.lemmas.Grind.{common_steps}

cut_take : (g : List ℕ) (k n : ℕ) → k ≡ min n (length g) → take k g ≡ take n g
cut_take g k n p = grind (arith, common_steps)

cut_drop : (g : List ℕ) (k n : ℕ) → k ≡ min n (length g) → drop k g ≡ drop n g
cut_drop g k n p = grind (arith, common_steps)

module _ (g : List ℕ) (t a z : ℕ) (p : a ≡ min t (length g)) (q : z ≡ min (a + 64) (length g)) where
  long : z - a ≡ min 64 (length (drop a g))
  long = omega (arith, length-drop a g)

  pub set-taken : take (z - a) (drop a g) ≡ take 64 (drop t g)
  set-taken = cut_take (drop a g) (z - a) 64 long ∙ ap (take 64) (cut_drop g a t p)

  pub set_put : (w : List ℕ) → take a g ++ (w ++ drop (z - a) (drop a g)) ≡ take t g ++ (w ++ drop 64 (drop t g))
  set_put w = λ j. cut_take g a t p j ++ (w ++ ((cut_drop (drop a g) (z - a) 64 long ∙ ap (drop 64) (cut_drop g a t p)) j))
