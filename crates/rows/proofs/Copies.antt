-- The loop that stores words of any size: those up to i are stored in t, and the others are to be.
use Rattle.std.proofs.Common.{◌≡◌, ◌∙◌, sym, ap, ℕ, ◌+◌, ◌<◌, ◌≤◌, List, [], ◌∷◌, length, drop, set, get_or, drop_of_length-le, drop-cons, add-one, refl, arith}
use Rattle.rules.specs.Rows.{stored_from}
use Rattle.rows.specs.CopyLaws.{stores}

abbrev pub Storing : {X : Type 0} → List X → ℕ → List X → List X → ℕ → Type 0
Storing l b ws t i = stores l b ws ≡ stores t (b + i) (drop i ws)

pub storing_none : {X : Type 0} (l : List X) (b : ℕ) (ws : List X) → Storing l b ws l 0
storing_none l b ws = ap (λ (k : ℕ). stores l k ws) (let q : b ≡ b + 0 = omega arith in q)

pub storing_more : {X : Type 0} (l : List X) (b : ℕ) (ws t t' : List X) (i : ℕ) (d : X) → Storing l b ws t i → i < length ws → t' ≡ set t (b + i) (get_or ws i d) → Storing l b ws t' (i + 1)
unfolding stores
storing_more l b ws t t' i d v h e =
    v
    ∙ ap (stores t (b + i)) (drop-cons ws i d h)
    ∙ λ j. stores (sym e j) ((let q : b + i + 1 ≡ b + (i + 1) = omega arith in q) j) (drop (sym (add-one i) j) ws)

pub storing_all : {X : Type 0} (l : List X) (b : ℕ) (ws t : List X) (i : ℕ) → Storing l b ws t i → length ws ≤ i → t ≡ stores l b ws
unfolding stores
storing_all l b ws t i v h = sym (v ∙ ap (stores t (b + i)) (drop_of_length-le ws h))

pub stores-numbers : (ws l : List ℕ) (b : ℕ) → stores l b ws ≡ stored_from l b ws
unfolding stores stored_from
stores-numbers [] l b = refl
stores-numbers (w ∷ ws) l b = stores-numbers ws (set l b w) (b + 1)
