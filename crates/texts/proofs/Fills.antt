-- What a buffer holds after bytes that are cut to its room.
use Rattle.std.specs.Prelude.{ℕ, ◌+◌, ◌-◌, ◌≤◌, ◌≡◌, List, ◌++◌, length, take, drop, min}
use Rattle.std.proofs.Common.{arith, ◌∙◌, sym, ap, append_assoc, length-append}
use Rattle.std.proofs.lemmas.List.{length-take-le, length-take, take_min, drop-drop}
use Rattle.std.proofs.lemmas.List.Edits.{sets, sets-eq}
use Rattle.std.proofs.Math.Seq.{take-append-add, take-append_seam}
use borrow.Rule.Slice.PartMut.{put_mid}

-- a part that is put in place of as many bytes
pub put_in_place : (l bytes part : List ℕ) (at room k : ℕ) → part ≡ take (min (length bytes) room) bytes → k ≡ length part → at + room ≤ length l → put_mid at k l part ≡ sets l at (take room bytes)
put_in_place l bytes part at room k p e h =
    let c : min (length bytes) room ≡ min room (length bytes) = omega arith in
    let q : part ≡ take room bytes = p ∙ ap (λ (m : ℕ). take m bytes) c ∙ take_min room bytes in
    let n : length part ≤ room = rw p (let t = length-take-le (min (length bytes) room) bytes (omega arith) in omega (arith, t)) in
    ap (λ (m : List ℕ). take at l ++ (part ++ m)) (drop-drop k at l ∙ ap (λ (m : ℕ). drop (at + m) l) e)
    ∙ sym (append_assoc (take at l) part (drop (at + length part) l))
    ∙ sym (sets-eq part l at (omega arith))
    ∙ ap (sets l at) q

-- what is held of a buffer then
pub filled : (l bytes m : List ℕ) (at n : ℕ) → m ≡ sets l at (take (length l - at) bytes) → n ≡ at + length (take (length l - at) bytes) → at ≤ length l → take n m ≡ take (length l) (take at l ++ bytes)
filled l bytes m at n e q h =
    let room = length l - at in
    let p = take room bytes in
    let b : length (take at l) ≡ at = length-take-le at l h in
    let c : length (take at l) + room ≡ length l = omega arith in
    let f : at + length p ≤ length l = let t = length-take room bytes in omega (arith, t) in
    let g : n ≡ length (take at l ++ p) = q ∙ sym (length-append (take at l) p ∙ ap (λ (k : ℕ). k + length p) b) in
    ap (take n) (e ∙ sets-eq p l at f)
    ∙ ap (λ (k : ℕ). take k ((take at l ++ p) ++ drop (at + length p) l)) g
    ∙ take-append_seam (take at l ++ p) (drop (at + length p) l)
    ∙ sym (ap (λ (k : ℕ). take k (take at l ++ bytes)) (sym c) ∙ take-append-add (take at l) bytes room)
