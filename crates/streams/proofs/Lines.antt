-- A line that is gathered from several blocks begins with what was left of the first.
use Rattle.std.specs.Prelude.{ℕ, zero, suc, ◌≤◌, ◌≡◌, ◌≢◌, refl, List, [], ◌∷◌, ◌++◌, length, take, drop}
use Rattle.std.proofs.Common.{arith, ap, sym, ◌∙◌, take_all, append-nil}
use Rattle.std.proofs.lemmas.List.{length-take}
use Rattle.texts.specs.Lines.{up_to}

pub front_first : (room : ℕ) (u : List ℕ) → take (length u) (take room u) ≡ take room u
front_first room u = let t = length-take room u in take_all (length u) (take room u) (omega (arith, t))

front_more : (room : ℕ) (u l more : List ℕ) → take (length u) l ≡ take room u → length l ≤ room → take (length u) (take room (l ++ more)) ≡ take room u
front_more zero u l more e h = take_all (length u) [] (omega arith)
front_more (suc room) [] l more e h = refl
front_more (suc room) (x ∷ u) [] more e h = absurd (let z : 0 ≡ suc (length (take room u)) = ap length e in omega arith)
front_more (suc room) (x ∷ u) (y ∷ l) more e h =
    ap (λ (b : List ℕ). take 1 b ++ take (length u) (take room (l ++ more))) e
    ∙ ap (λ (b : List ℕ). x ∷ b) (front_more room u l more (ap (drop 1) e) (omega arith))

-- where nothing is left
whole : (room : ℕ) (l : List ℕ) → length l ≤ room → take room (l ++ up_to []) ≡ l
unfolding up_to
whole room l h = ap (take room) (append-nil l) ∙ take_all room l h

pub front_end : (room : ℕ) (u l s : List ℕ) → take (length u) (take room (l ++ up_to s)) ≡ take room u → s ≡ [] → length l ≤ room → take (length u) l ≡ take room u
front_end room u l s e z h = ap (take (length u)) (sym (ap (λ (b : List ℕ). take room (l ++ up_to b)) z ∙ whole room l h)) ∙ e

pub front_none : (room : ℕ) (u l s : List ℕ) → take (length u) l ≡ take room u → s ≡ [] → length l ≤ room → take (length u) (take room (l ++ up_to s)) ≡ take room u
front_none room u l s e z h = ap (take (length u)) (ap (λ (b : List ℕ). take room (l ++ up_to b)) z ∙ whole room l h) ∙ e

-- a round gathers the block, which is what was left, or more where nothing was
pub front_on : (room : ℕ) (u l s block : List ℕ) → take (length u) (take room (l ++ up_to s)) ≡ take room u → (s ≢ [] → block ≡ s) → length l ≤ room → take (length u) (take room (l ++ up_to block)) ≡ take room u
front_on room u l [] block e f h = front_more room u l (up_to block) (front_end room u l [] e refl h) h
front_on room u l (x ∷ s) block e f h =
    let n : (x ∷ s) ≢ [] = λ z. absurd (let q : suc (length s) ≡ 0 = ap length z in omega arith) in
    ap (λ (b : List ℕ). take (length u) (take room (l ++ up_to b))) (f n) ∙ e

-- the last round has an empty block
pub front_stop : (room : ℕ) (u l s block : List ℕ) → take (length u) (take room (l ++ up_to s)) ≡ take room u → (s ≢ [] → block ≡ s) → length block ≡ 0 → length l ≤ room → take (length u) l ≡ take room u
front_stop room u l s [] e f z h = front_end room u l [] (front_on room u l s [] e f h) refl h
front_stop room u l s (x ∷ block) e f z h = absurd (let q : suc (length block) ≡ 0 = z in omega arith)
