-- How a loop that goes up and clears a table leaves nothing in it.
use Rattle.std.specs.Prelude.{ℕ, ◌+◌, ◌≤◌, ◌<◌, ◌≡◌, List, ◌++◌, length, set, drop, replicate}
use Rattle.std.proofs.Common.{ap, ◌∙◌, append-nil, arith}
use Rattle.std.proofs.Math.Seq.{drop-length}
use Rattle.std.proofs.lemmas.List.Edits.{fill_more}

-- i of the words of t₀ are cleared, and t is the table then
module _ (t₀ t : List ℕ) (i : ℕ) (v : t ≡ replicate i 0 ++ drop i t₀) where
  pub clears-more : i < length t₀ → set t i 0 ≡ replicate (i + 1) 0 ++ drop (i + 1) t₀
  clears-more h = ap (λ (l : List ℕ). set l i 0) v ∙ fill_more i 0 t₀ h

  pub clears-all : length t₀ ≤ i → i ≤ length t₀ → t ≡ replicate (length t₀) 0
  clears-all h q =
      let e : i ≡ length t₀ = omega arith in
      v ∙ ap (λ (k : ℕ). replicate k 0 ++ drop k t₀) e ∙ ap (λ (l : List ℕ). replicate (length t₀) 0 ++ l) (drop-length t₀) ∙ append-nil _
